use Rattle.std.proofs.Common.{◌∙◌, sym}
use Rattle.dir_reader.proofs.Pages.{last_item}
use Rattle.dir_reader.proofs.reader.last_text_of.Goals as goal

pub returns-in-Some : goal.returns-in-Some
returns-in-Some c = λ after. last_item c.in-Some.item.now c.args.items.now c.in-Some.ensures.value after ∙ sym c.item_text.ensures
