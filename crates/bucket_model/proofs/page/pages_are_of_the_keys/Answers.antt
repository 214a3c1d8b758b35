use Rattle.std.proofs.Common.{sym, ◌∙◌}
use Rattle.std.specs.FinMap.{get-entries}
use Rattle.bucket_model.proofs.Listing.{all_in_page, among_found, behind_page, entries_of, item_is_of_object, item_stands, objects_rise, page_is_page}
use Rattle.bucket_model.proofs.page.pages_are_of_the_keys.Goals as goal

pub returns-clause-page : goal.returns-clause-page
returns-clause-page c = λ state prefix after max some. page_is_page prefix after max (entries_of state) some (objects_rise state)

pub returns-clause-complete : goal.returns-clause-complete
returns-clause-complete c = λ state prefix key object is has. item_stands prefix key object (entries_of state) (objects_rise state) (sym (get-entries state.objects key) ∙ is) has

pub returns-clause-sound : goal.returns-clause-sound
returns-clause-sound c = λ state prefix x inside.
    let of = item_is_of_object prefix x (entries_of state) inside in
    (of.key, of.object, get-entries state.objects of.key ∙ among_found of.key of.object (entries_of state) (objects_rise state) of.stands, of.has, of.is)

pub returns-clause-next : goal.returns-clause-next
returns-clause-next c = λ state prefix after max front last is. behind_page prefix after max (entries_of state) front last (objects_rise state) is

pub returns-clause-end : goal.returns-clause-end
returns-clause-end c = λ state prefix after max is. all_in_page prefix after max (entries_of state) is
