use Rattle.std.proofs.Common.{◌≡◌, sym, ap, ◌∙◌, List, [], ◌∷◌, arith}
use Rattle.std.specs.Prelude.{◌||◌}
use Rattle.std.specs.BTreeMap.{is_at}
use Rattle.std.specs.Vec.{vec_len}
use Rattle.std.proofs.lemmas.Bool.{eqb-true}
use Rattle.std.proofs.lemmas.List.{nil_from_length}
use Rattle.mapdb_lists.specs.declared.own_place.OwnPlace.{OwnPlace}
use Rattle.mapdb_lists.specs.declared.own_places.OwnPlaces.{OwnPlaces}
use Rattle.mapdb_lists.specs.OwnPlaces.{own_list, place_cmp, stands}
use Rattle.mapdb_lists.proofs.PlaceLemmas.LeastPlaces.{stands_more}
use Rattle.mapdb_lists.proofs.own_places.OwnPlaces.put.Goals as goal

pub returns-in_ok-vec-in-One : goal.returns-in_ok-vec-in-One
returns-in_ok-vec-in-One c k =
    ap (λ (l : List OwnPlace). stands l k) c.in_ok-vec-in-One.ensures.items
    ∙ stands_more (c.in-One.other ∷ []) c.args.place k
    ∙ ap (λ (own : OwnPlaces). is_at (place_cmp c.args.place) k || stands (own_list own) k) (sym c.in-One.is)

pub returns-in-Few : goal.returns-in-Few
returns-in-Few c k =
    let zero = eqb-true (vec_len c.in-Few.list) 0 (sym c.if-is_empty.ensures) in
    let none : c.in-Few.list.items ≡ [] = nil_from_length c.in-Few.list.items (omega (arith, zero, c.in-Few.list.ok.0)) in
    stands_more [] c.args.place k
    ∙ ap (λ (l : List OwnPlace). is_at (place_cmp c.args.place) k || stands l k) (sym none)
    ∙ ap (λ (own : OwnPlaces). is_at (place_cmp c.args.place) k || stands (own_list own) k) (sym c.in-Few.is)

pub returns-in_ok-push-in-Few-2 : goal.returns-in_ok-push-in-Few-2
returns-in_ok-push-in-Few-2 c k =
    ap (λ (l : List OwnPlace). stands l k) c.in_ok-push-in-Few-2.ensures.items
    ∙ stands_more c.in-Few.list.items c.args.place k
    ∙ ap (λ (own : OwnPlaces). is_at (place_cmp c.args.place) k || stands (own_list own) k) (sym c.in-Few.is)
