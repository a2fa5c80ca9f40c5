use Rattle.std.proofs.Common.{◌≡◌, [], ◌∷◌, ◌++◌, cond, length, ap, arith, ◌∙◌}
use Rattle.std.specs.Prelude.{Some}
use Rattle.std.specs.Map.{lookup}
use Rattle.std.proofs.lemmas.List.{length_push}
use Rattle.mapdb_facts.specs.Names.{same_space}
use Rattle.mapdb_lists.specs.BySpace.{at_places}
use Rattle.mapdb_lists.proofs.PlaceLemmas.SpacePlaces.{found_more, places_more, unplaced}
use Rattle.mapdb_lists.proofs.by_space.BySpace.insert.Goals as goal

pub put-requires-clause-none : goal.put-requires-clause-none
put-requires-clause-none g c =
    unplaced c.self.inside.places c.self.inside.values.items c.self.invariant c.args.space
    (ap (λ table. lookup (same_space c.args.space) table.entries) c.self.view_is ∙ c.requires)

pub invariant_of-self-2 : goal.invariant_of-self-2
invariant_of-self-2 g c =
    let values = c.self.inside.values.items in
    let more : c.push_reserved.new.self.items ≡ values ++ c.args.value ∷ [] =
    c.push_reserved.ensures.items ∙ ap (λ l. l ++ c.args.value ∷ []) c.in_ok-reserve.ensures.items in
    let all : length c.put.new.self.spaces.items ≡ length (values ++ c.args.value ∷ []) =
    omega (arith, ap (λ l. length l) c.in_ok-put.ensures.more, length_push c.self.inside.places.spaces.items c.args.space, length_push values c.args.value, c.self.invariant.all) in
    rw more (places_more c.self.inside.places values c.self.invariant c.put.new.self c.args.space c.args.value c.in_ok-put.ensures.ok c.in_ok-put.ensures.words all)

pub returns : goal.returns
returns g c = λ q.
    let values = c.self.inside.values.items in
    ap (λ l. lookup (same_space q) (at_places c.put.new.self l).entries) (c.push_reserved.ensures.items ∙ ap (λ l. l ++ c.args.value ∷ []) c.in_ok-reserve.ensures.items)
    ∙ found_more c.self.inside.places values c.self.invariant c.put.new.self c.args.space c.args.value c.in_ok-put.ensures.ok q
    ∙ ap (λ table. cond (same_space c.args.space q) (Some c.args.value) (lookup (same_space q) table.entries)) c.self.view_is
