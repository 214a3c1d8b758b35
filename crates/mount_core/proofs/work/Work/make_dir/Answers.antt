use Rattle.std.proofs.Common.{ap, refl, inl}
use Rattle.mp_types.specs.declared.errno.Errno.TheVariants.{Enomem}
use Rattle.mp_rules.specs.Local.{LocalNames}
use Rattle.mount_model.specs.declared.request.Reply.TheVariants.{Success, Failed}
use Rattle.mount_model.specs.Conversation.{Makes}
use Rattle.mount_model.specs.State.{Shared}
use Rattle.mount_core.proofs.Turns.{ends_as, says_turn, lacks_turn}
use Rattle.mount_core.proofs.work.Work.make_dir.Goals as goal

pub returns-in-Ok : goal.returns-in-Ok
returns-in-Ok c =
    let w = c.args.self.now in
    ends_as c.args.line (Makes c.args.key) Success w _ c.reply_line.new.self record { steps = refl; lines = refl; jobs = refl; time = refl; options = refl } c.reply_line.ensures.answers c.reply_line.ensures.shared (λ state step line who number asks drops. inl (says_turn c.args.line Success step line number asks drops)) (λ bytes. tt)
    (λ s step stands. ap (λ (names : LocalNames). let seen : Shared = record { options = w.options; handles = w.handles; names = names } in seen) c.in-Ok.ensures.ok)

pub returns : goal.returns
returns c =
    let w = c.args.self.now in
    ends_as c.args.line (Makes c.args.key) (Failed Enomem) w _ c.reply_line-in-Err.new.self record { steps = refl; lines = refl; jobs = refl; time = refl; options = refl } c.reply_line-in-Err.ensures.answers c.reply_line-in-Err.ensures.shared (lacks_turn c.args.line (Makes c.args.key) tt) (λ bytes. tt)
    (λ s step stands. ap (λ (names : LocalNames). let seen : Shared = record { options = w.options; handles = w.handles; names = names } in seen) c.in-Err.ensures.err)
