use Rattle.mount_model.specs.declared.request.Reply.TheVariants.{Success}
use Rattle.mount_model.specs.Conversation.{Removes}
use Rattle.mount_core.proofs.Turns.{ends_as, says_turn}
use Rattle.mount_core.proofs.work.Work.remove_dir.Goals as goal

pub returns : goal.returns
returns c = λ key dir.
    ends_as c.args.line (Removes key) Success c.args.self.now c.remove_name.new.self c.reply_line.new.self c.remove_name.ensures.alone c.reply_line.ensures.answers c.reply_line.ensures.shared (λ state step line who number asks drops. says_turn c.args.line Success step line number asks drops) (λ bytes. tt) (λ s step stands. c.remove_name.ensures.shared key s dir)
