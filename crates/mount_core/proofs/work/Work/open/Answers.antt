use Rattle.std.proofs.Common.{inl}
use Rattle.mp_types.specs.declared.errno.Errno.TheVariants.{Enomem}
use Rattle.mount_model.specs.declared.request.Reply.TheVariants.{Open, Failed}
use Rattle.mount_model.specs.Conversation.{Opens}
use Rattle.mount_core.proofs.Turns.{ends_as, says_turn, lacks_turn}
use Rattle.mount_core.proofs.work.Work.open.Goals as goal

pub returns-in-Ok : goal.returns-in-Ok
returns-in-Ok c =
    ends_as c.args.line (Opens c.args.version) (Open c.args.version.size) c.args.self.now c.keep_handle.new.self c.reply_line.new.self c.in-Ok.ensures.alone c.reply_line.ensures.answers c.reply_line.ensures.shared (λ state step line who number asks drops. inl (says_turn c.args.line (Open c.args.version.size) step line number asks drops)) (λ bytes. tt) (λ s step stands. c.in-Ok.ensures.ok s stands)

pub returns-in-Err : goal.returns-in-Err
returns-in-Err c =
    ends_as c.args.line (Opens c.args.version) (Failed Enomem) c.args.self.now c.keep_handle.new.self c.reply_line-in-Err.new.self c.in-Err.ensures.alone c.reply_line-in-Err.ensures.answers c.reply_line-in-Err.ensures.shared (lacks_turn c.args.line (Opens c.args.version) tt) (λ bytes. tt) (λ s step stands. c.in-Err.ensures.err)
