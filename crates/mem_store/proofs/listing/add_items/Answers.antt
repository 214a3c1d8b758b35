use Rattle.std.proofs.Common.{◌++◌, ◌∷◌, [], refl, sym, ap, ◌∙◌, arith, nat_cmp}
use Rattle.std.specs.BTreeMap.Range.{entries_between}
use Rattle.std.specs.Cmp.Lexicographic.{slice_cmp}
use Rattle.std.specs.declared.ops.Bound.TheVariants.{Included, Unbounded}
use Rattle.bucket_model.specs.Listing.{has_prefix}
use Rattle.mem_store.proofs.Listed.{has_front, key_fits, listing_begins, listing_ends, listing_is_full, listing_stops, object_listed, passes_some, prefix_listed}
use Rattle.mem_store.proofs.listing.add_items.Goals as goal

pub loop-key-init : goal.loop-key-init
loop-key-init c = listing_begins c.args.prefix.now c.args.after.now c.args.max c.args.objects.now c.args.items.now.items c.in_ok-entries.entries c.requires.empty c.in_ok-entries.ensures

pub returns-in_default-behind-clause-page : goal.returns-in_default-behind-clause-page
returns-in_default-behind-clause-page c =
    listing_stops c.in-Some.key.now c.in-Some.object.now c.next.new.self _ c.loop-key.invariant c.in-Some.ensures.steps
    (ap (λ p. has_prefix p c.in-Some.key.now) (sym c.as_str-in-Some.ensures) ∙ ap (λ k. has_prefix c.as_str-in-Some.result.now k) (sym c.as_str.ensures) ∙ c.in_default-behind.ensures) refl

pub returns-in_default-behind-clause-ordered : goal.returns-in_default-behind-clause-ordered
returns-in_default-behind-clause-ordered c = c.loop-key.invariant.stand.ordered

pub returns-then-len-max-clause-page : goal.returns-then-len-max-clause-page
returns-then-len-max-clause-page c =
    listing_is_full c.in-Some.key.now c.in-Some.object.now c.next.new.self _ c.loop-key.invariant c.in-Some.ensures.steps
    (ap (λ p. has_prefix p c.in-Some.key.now) (sym c.as_str-in-Some.ensures) ∙ has_front c.as_str-in-Some.result.now c.in-Some.key.now c.in-Some-behind.rest.now (sym c.as_str.ensures ∙ c.in-Some-behind.ensures))
    (omega (arith, c.len.ensures, c.if-len-max.true, c.loop-key.items.ok.0)) refl

pub returns-then-len-max-clause-ordered : goal.returns-then-len-max-clause-ordered
returns-then-len-max-clause-ordered c = c.loop-key.invariant.stand.ordered

pub object_item-requires : goal.object_item-requires
object_item-requires c = key_fits c.in-Some.key.now c.in-Some.object.now c.next.new.self c.loop-key.invariant c.in-Some.ensures.steps c.requires.keys

pub loop-key-preserved-in_default-before_slash : goal.loop-key-preserved-in_default-before_slash
loop-key-preserved-in_default-before_slash c =
    object_listed c.in-Some.key.now c.in-Some-behind.rest.now c.in-Some.object.now c.next.new.self c.push.new.self.items c.in_ok-object_item.field-0 c.loop-key.invariant c.in-Some.ensures.steps
    (sym c.as_str.ensures ∙ c.in-Some-behind.ensures ∙ ap (λ p. p ++ c.in-Some-behind.rest.now) c.as_str-in-Some.ensures) c.in_default-before_slash.ensures
    (λ full. omega (arith, c.if-len-max.false, c.len.ensures, full, c.loop-key.items.ok.0)) c.in_ok-object_item.ensures c.in_ok-push.ensures.items

pub loop-key-smaller : goal.loop-key-smaller
loop-key-smaller c =
    passes_some c.in-Some.key.now c.in-Some-behind.rest.now c.in-Some-before_slash.name.now c.in-Some.object.now c.next.new.self c.in_ok-entries-2.entries c.loop-key.invariant c.in-Some.ensures.steps
    (sym c.as_str.ensures ∙ c.in-Some-behind.ensures ∙ ap (λ p. p ++ c.in-Some-behind.rest.now) c.as_str-in-Some.ensures) c.in-Some-before_slash.ensures
    (c.in_ok-entries-2.ensures.from ∙ ap (λ p. entries_between (slice_cmp nat_cmp) (Included (p ++ (c.in-Some-before_slash.name.now ++ 48 ∷ []))) Unbounded c.args.objects.now.entries) c.as_str-in-Some-2.ensures)

pub loop-key-preserved : goal.loop-key-preserved
loop-key-preserved c =
    prefix_listed c.in-Some.key.now c.in-Some-behind.rest.now c.in-Some-before_slash.name.now c.in_ok-shared_front.field-0 c.in-Some.object.now c.next.new.self c.in_ok-entries-2.entries c.push-in-Some.new.self.items c.loop-key.invariant
    c.in-Some.ensures.steps (sym c.as_str.ensures ∙ c.in-Some-behind.ensures ∙ ap (λ p. p ++ c.in-Some-behind.rest.now) c.as_str-in-Some.ensures) c.in-Some-before_slash.ensures
    (λ full. omega (arith, c.if-len-max.false, c.len.ensures, full, c.loop-key.items.ok.0)) c.in_ok-shared_front.ensures
    (c.in_ok-entries-2.ensures.from ∙ ap (λ p. entries_between (slice_cmp nat_cmp) (Included (p ++ (c.in-Some-before_slash.name.now ++ 48 ∷ []))) Unbounded c.args.objects.now.entries) c.as_str-in-Some-2.ensures) c.in_ok-push-2.ensures.items

pub returns-clause-page : goal.returns-clause-page
returns-clause-page c = listing_ends _ c.loop-key.invariant c.in_default.ensures.steps.0 refl

pub returns-clause-ordered : goal.returns-clause-ordered
returns-clause-ordered c = c.loop-key.invariant.stand.ordered

pub shared_front-requires : goal.shared_front-requires
shared_front-requires c = (c.in-Some-behind.rest.now, sym c.as_str.ensures ∙ c.in-Some-behind.ensures ∙ ap (λ p. p ++ c.in-Some-behind.rest.now) c.as_str-in-Some.ensures, c.in-Some-before_slash.ensures)
