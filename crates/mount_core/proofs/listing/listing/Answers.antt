use Rattle.std.proofs.Common.{List, fold, option_copied, ap, ◌∙◌}
use Rattle.bucket_model.specs.declared.answer.Brief.{Brief}
use Rattle.mount_model.specs.Conversation.{pages_in}
use Rattle.dir_reader.specs.Gathered.{with_page}
use Rattle.mount_plan.specs.Meant.{with_last}
use Rattle.mount_core.proofs.Reading.{pages-read}
use Rattle.mount_core.proofs.listing.listing.Goals as goal

pub returns : goal.returns
returns c =
    let answers : List Brief = (with_last (option_copied c.args.last) c.args.heard.now).answers in
    let first = c.in_ok-reader.ensures in
    let read = c.in_ok-read_heard.ensures ∙ (pages-read c.in_ok-reader.reader answers ∙ ap (λ gathered. fold with_page gathered (pages_in answers)) first) in
    c.from_vec.ensures ∙ c.in_ok-names.ensures.pages c.args.path.now (pages_in answers) read
