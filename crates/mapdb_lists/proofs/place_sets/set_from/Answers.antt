use Rattle.std.proofs.Common.{sym, subst, List, ◌∷◌, ◌∙◌}
use Rattle.std.specs.BTreeSet.{IsKeyRangeOf}
use Rattle.std.specs.declared.ops.Bound.TheVariants.{Included, Unbounded}
use Rattle.mapdb_lists.specs.declared.own_place.OwnPlace.{OwnPlace}
use Rattle.mapdb_lists.specs.OwnPlaces.{place_cmp}
use Rattle.mapdb_lists.proofs.PlaceLemmas.LeastPlaces.{first_shown, second_none, second_shown}
use Rattle.mapdb_lists.proofs.place_sets.set_from.Goals as goal

pub returns-in-Some-next-clause-least : goal.returns-in-Some-next-clause-least
returns-in-Some-next-clause-least c =
    first_shown c.args.set.now (Included c.args.from) c.in-Some.place.now c.next.new.self
    (subst (λ (r : List OwnPlace). IsKeyRangeOf place_cmp (Included c.args.from) Unbounded c.args.set.now r) c.in-Some.ensures.steps (c.range-inside.ensures.in_range tt))

pub returns-in-Some-next-clause-behind : goal.returns-in-Some-next-clause-behind
returns-in-Some-next-clause-behind c =
    let range : IsKeyRangeOf place_cmp (Included c.args.from) Unbounded c.args.set.now (c.in-Some.place.now ∷ c.next.new.self) =
    subst (λ (r : List OwnPlace). IsKeyRangeOf place_cmp (Included c.args.from) Unbounded c.args.set.now r) c.in-Some.ensures.steps (c.range-inside.ensures.in_range tt) in
    second_shown c.args.set.now (Included c.args.from) c.in-Some.place.now c.next.new.self (sym c.in-Some.ensures.steps ∙ c.range-inside.ensures.between tt) c.range-inside.ensures.ordered
    range.1.0.0 c.in-Some-next.next.now c.next-2.new.self c.in-Some-next.ensures.steps

pub returns-in-None-clause-least : goal.returns-in-None-clause-least
returns-in-None-clause-least c =
    first_shown c.args.set.now (Included c.args.from) c.in-Some.place.now c.next.new.self
    (subst (λ (r : List OwnPlace). IsKeyRangeOf place_cmp (Included c.args.from) Unbounded c.args.set.now r) c.in-Some.ensures.steps (c.range-inside.ensures.in_range tt))

pub returns-in-None-clause-behind : goal.returns-in-None-clause-behind
returns-in-None-clause-behind c =
    let range : IsKeyRangeOf place_cmp (Included c.args.from) Unbounded c.args.set.now (c.in-Some.place.now ∷ c.next.new.self) =
    subst (λ (r : List OwnPlace). IsKeyRangeOf place_cmp (Included c.args.from) Unbounded c.args.set.now r) c.in-Some.ensures.steps (c.range-inside.ensures.in_range tt) in
    second_none c.args.set.now (Included c.args.from) c.in-Some.place.now c.next.new.self (sym c.in-Some.ensures.steps ∙ c.range-inside.ensures.between tt) c.range-inside.ensures.ordered
    range.1.0.0 c.in-None.ensures.steps.0
