use Rattle.std.proofs.Common.{rules, sym}
use Rattle.std.specs.BTreeMap.{is_at}
use Rattle.std.proofs.lemmas.List.Sorted.{IsNonDecreasingBy-from_sort_by_key, list_any-IsPermutation}
use Rattle.mapdb_lists.specs.OwnPlaces.{place_cmp}
use Rattle.mapdb_lists.specs.declared.own_place.OwnPlace.{OwnPlace}
use Rattle.mapdb_rights.proofs.index.ordered_places.put_in_order.Goals as goal

pub returns-clause-ordered : goal.returns-clause-ordered
returns-clause-ordered c =
    IsNonDecreasingBy-from_sort_by_key (λ (p : OwnPlace). p.first) c.sort_unstable_by_key.new.self.items c.sort_unstable_by_key.ensures.sorted (λ a r f k. search rules)

pub returns-clause-same : goal.returns-clause-same
returns-clause-same c p = sym (list_any-IsPermutation (is_at (place_cmp p)) c.args.places.now.items c.sort_unstable_by_key.new.self.items c.sort_unstable_by_key.ensures.permutation)
