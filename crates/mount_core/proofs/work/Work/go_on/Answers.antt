use Rattle.std.proofs.Common.{refl, subst, ap, ◌∙◌, inl}
use Rattle.mount_model.specs.declared.request.Reply.TheVariants as reply
use Rattle.mp_types.specs.declared.errno.Errno.TheVariants.{Enomem}
use Rattle.mount_model.specs.State.{Shared, change_line}
use Rattle.mount_model.specs.Conversation.{Replies, Makes, Removes, Opens, Creates, Lists, Gives}
use Rattle.mount_core.specs.Turn.{MayGoOn, next_behind}
use Rattle.mount_core.proofs.Turns.{takes_asking, takes_replying, takes_ending, takes_waiting, lacks_turn, lacks_does, asks_lack, says_turn, reply_gives, may_open, may_create, makes_new, creates_new, removes_dir, waits_unheard, waits_idle}
use Rattle.mount_core.proofs.work.Work.go_on.Goals as goal

pub returns-in-Ok : goal.returns-in-Ok
returns-in-Ok c =
    let due = subst (λ d. MayGoOn c.args.line d c.args.last c.args.bytes c.args.self.now) c.in-Call.is c.requires.turn in
    takes_asking c.args.line c.in-Call.asking.owner c.args.last c.in-Call.asking.call c.args.bytes c.args.self.now c.ask_call.new.self c.requires.begun due.means.0 due.means.1 c.in-Ok.ensures.ok c.ask_call.ensures.shared

pub returns-in-Err : goal.returns-in-Err
returns-in-Err c =
    let w = c.args.self.now in
    let due = subst (λ d. MayGoOn c.args.line d c.args.last c.args.bytes w) c.in-Call.is c.requires.turn in
    let next = next_behind c.args.line c.args.last w in
    let may = asks_lack next c.in-Call.asking.call due.means.0 in
    let kept = c.in-Err.ensures.err in
    let same = c.reply_line.ensures.shared ∙ c.ask_call.ensures.shared in
    takes_replying c.args.line c.args.last c.args.bytes (reply.Failed Enomem) next w c.ask_call.new.self c.reply_line.new.self c.requires.begun refl kept.steps kept.lines kept.jobs kept.time
    c.reply_line.ensures.answers
    (lacks_turn c.args.line next may)
    (ap (λ (t : Shared). t.options) same) (λ step. same ∙ lacks_does next may _ step _) tt

pub returns-in-NoMemory : goal.returns-in-NoMemory
returns-in-NoMemory c =
    let w = c.args.self.now in
    let due = subst (λ d. MayGoOn c.args.line d c.args.last c.args.bytes w) c.in-NoMemory.is c.requires.turn in
    let next = next_behind c.args.line c.args.last w in
    let same = c.reply_line-in-NoMemory.ensures.shared in
    takes_replying c.args.line c.args.last c.args.bytes (reply.Failed Enomem) next w w c.reply_line-in-NoMemory.new.self c.requires.begun refl refl refl refl refl
    c.reply_line-in-NoMemory.ensures.answers
    (lacks_turn c.args.line next due.means)
    (ap (λ (t : Shared). t.options) same) (λ step. same ∙ lacks_does next due.means _ step _) tt

pub returns-in-Reply : goal.returns-in-Reply
returns-in-Reply c =
    let w = c.args.self.now in
    let told = c.in-Reply.reply in
    let due = subst (λ d. MayGoOn c.args.line d c.args.last c.args.bytes w) c.in-Reply.is c.requires.turn in
    let alone = c.give_up.ensures.alone in
    let begun = c.requires.begun in
    let same = c.reply_line-in-Reply.ensures.shared in
    takes_replying c.args.line c.args.last c.args.bytes told (Replies told) w c.give_up.new.self c.reply_line-in-Reply.new.self begun due.means alone.steps (ap (change_line c.args.line _) alone.lines) alone.jobs alone.time
    c.reply_line-in-Reply.ensures.answers
    (λ state step line who number asks drops. says_turn c.args.line told step line number asks drops)
    (ap (λ (t : Shared). t.options) same ∙ alone.options)
    (λ step. same ∙ c.give_up.ensures.shared begun.standing step begun.stands)
    (reply_gives c.args.bytes c.args.line c.args.last w told begun due.means)

pub make_dir-requires-clause-new : goal.make_dir-requires-clause-new
make_dir-requires-clause-new c =
    let due = subst (λ d. MayGoOn c.args.line d c.args.last c.args.bytes c.args.self.now) c.in-MakeDir.is c.requires.turn in
    makes_new c.args.line c.args.last c.args.self.now c.in-MakeDir.key c.requires.begun due.means

pub returns-in-MakeDir : goal.returns-in-MakeDir
returns-in-MakeDir c =
    let due = subst (λ d. MayGoOn c.args.line d c.args.last c.args.bytes c.args.self.now) c.in-MakeDir.is c.requires.turn in
    takes_ending c.args.line c.args.last c.args.bytes (Makes c.in-MakeDir.key) c.args.self.now c.make_dir.new.self c.requires.begun due.means c.make_dir.ensures

pub remove_dir-requires-clause-removes : goal.remove_dir-requires-clause-removes
remove_dir-requires-clause-removes c =
    let due = subst (λ d. MayGoOn c.args.line d c.args.last c.args.bytes c.args.self.now) c.in-RemoveDir.is c.requires.turn in
    (due.means.0, removes_dir c.args.line c.args.last c.args.self.now due.means.0 c.requires.begun due.means.1)

pub returns-in-RemoveDir : goal.returns-in-RemoveDir
returns-in-RemoveDir c =
    let due = subst (λ d. MayGoOn c.args.line d c.args.last c.args.bytes c.args.self.now) c.in-RemoveDir.is c.requires.turn in
    takes_ending c.args.line c.args.last c.args.bytes (Removes due.means.0) c.args.self.now c.remove_dir.new.self c.requires.begun due.means.1 (c.remove_dir.ensures due.means.0 (removes_dir c.args.line c.args.last c.args.self.now due.means.0 c.requires.begun due.means.1))

pub open-requires-clause-may : goal.open-requires-clause-may
open-requires-clause-may c =
    let due = subst (λ d. MayGoOn c.args.line d c.args.last c.args.bytes c.args.self.now) c.in-Open.is c.requires.turn in
    may_open c.args.line c.args.last c.args.self.now c.in-Open.version c.requires.begun due.means

pub returns-in-Open : goal.returns-in-Open
returns-in-Open c =
    let due = subst (λ d. MayGoOn c.args.line d c.args.last c.args.bytes c.args.self.now) c.in-Open.is c.requires.turn in
    takes_ending c.args.line c.args.last c.args.bytes (Opens c.in-Open.version) c.args.self.now c.open.new.self c.requires.begun due.means c.open.ensures

pub create-requires-clause-may : goal.create-requires-clause-may
create-requires-clause-may c =
    let due = subst (λ d. MayGoOn c.args.line d c.args.last c.args.bytes c.args.self.now) c.in-Create.is c.requires.turn in
    may_create c.args.line c.args.last c.args.self.now c.in-Create.key c.requires.begun due.means

pub create-requires-clause-new : goal.create-requires-clause-new
create-requires-clause-new c =
    let due = subst (λ d. MayGoOn c.args.line d c.args.last c.args.bytes c.args.self.now) c.in-Create.is c.requires.turn in
    creates_new c.args.line c.args.last c.args.self.now c.in-Create.key c.requires.begun due.means

pub returns-in-Create : goal.returns-in-Create
returns-in-Create c =
    let due = subst (λ d. MayGoOn c.args.line d c.args.last c.args.bytes c.args.self.now) c.in-Create.is c.requires.turn in
    takes_ending c.args.line c.args.last c.args.bytes (Creates c.in-Create.key) c.args.self.now c.create.new.self c.requires.begun due.means c.create.ensures

pub returns-in-Listed : goal.returns-in-Listed
returns-in-Listed c =
    let w = c.args.self.now in
    let told = reply.Listed c.in-Listed.entries in
    let due = subst (λ d. MayGoOn c.args.line d c.args.last c.args.bytes w) c.in-Listed.is c.requires.turn in
    let same = c.reply_line-in-Listed.ensures.shared in
    takes_replying c.args.line c.args.last c.args.bytes told (Lists c.in-Listed.entries) w w c.reply_line-in-Listed.new.self c.requires.begun due.means refl refl refl refl
    c.reply_line-in-Listed.ensures.answers
    (λ state step line who number asks drops. inl (says_turn c.args.line told step line number asks drops))
    (ap (λ (t : Shared). t.options) same) (λ step. same) tt

pub write-requires-clause-writes : goal.write-requires-clause-writes
write-requires-clause-writes c =
    let due = subst (λ d. MayGoOn c.args.line d c.args.last c.args.bytes c.args.self.now) c.in-Write.is c.requires.turn in
    record { standing = c.requires.begun.standing; stands = c.requires.begun.stands; write = due.whose c.requires.begun.standing c.requires.begun.stands }

pub returns-in-Write : goal.returns-in-Write
returns-in-Write c = c.write.ensures c.args.last c.args.bytes

pub wait-requires-clause-waits : goal.wait-requires-clause-waits
wait-requires-clause-waits c =
    let due = subst (λ d. MayGoOn c.args.line d c.args.last c.args.bytes c.args.self.now) c.in-Wait.is c.requires.turn in
    record { standing = c.requires.begun.standing; stands = c.requires.begun.stands; wait = due.whose c.requires.begun.standing c.requires.begun.stands }

pub returns-in-Wait : goal.returns-in-Wait
returns-in-Wait c =
    let due = subst (λ d. MayGoOn c.args.line d c.args.last c.args.bytes c.args.self.now) c.in-Wait.is c.requires.turn in
    c.wait.ensures c.args.last c.args.bytes (waits_unheard c.args.line c.args.last c.args.self.now c.in-Wait.waiter c.requires.begun (due.whose c.requires.begun.standing c.requires.begun.stands) due.not_idle)

pub returns-in-Data : goal.returns-in-Data
returns-in-Data c =
    let w = c.args.self.now in
    let due = subst (λ d. MayGoOn c.args.line d c.args.last c.args.bytes w) c.in-Data.is c.requires.turn in
    let count = due.means.0 in
    let same = c.reply_line-in-Data.ensures.shared in
    takes_replying c.args.line c.args.last c.args.bytes (reply.Data c.args.bytes) (Gives count) w w c.reply_line-in-Data.new.self c.requires.begun due.means.1 refl refl refl refl
    c.reply_line-in-Data.ensures.answers
    (λ state step line who number asks drops. (c.args.bytes, due.gives count due.means.1, says_turn c.args.line (reply.Data c.args.bytes) step line number asks drops))
    (ap (λ (t : Shared). t.options) same) (λ step. same) refl

pub returns-in-Nothing : goal.returns-in-Nothing
returns-in-Nothing c =
    let w = c.args.self.now in
    let due = subst (λ d. MayGoOn c.args.line d c.args.last c.args.bytes w) c.in-Nothing.is c.requires.turn in
    takes_waiting c.args.line c.args.last c.args.bytes w c.requires.begun c.requires.step (waits_idle c.args.line c.args.last w due.means due.not_idle) due.means
