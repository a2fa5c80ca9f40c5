use Rattle.std.proofs.Common.{◌∙◌, List, ap, rules}
use Rattle.std.proofs.lemmas.Fn.{filter_same}
use Rattle.std.specs.Prelude.{not}
use Rattle.std.specs.BTreeMap.{is_at}
use Rattle.mapdb_lists.specs.declared.own_place.OwnPlace.{OwnPlace}
use Rattle.mapdb_lists.specs.OwnPlaces.{place_cmp, stands}
use Rattle.mapdb_lists.proofs.PlaceLemmas.LessPlaces.{at_ne, few_without}
use Rattle.mapdb_lists.proofs.few_places.few_remove.Goals as goal

pub returns : goal.returns
returns c k =
    ap (λ (l : List OwnPlace). stands l k)
    (filter_same _ (λ (x : OwnPlace). not (is_at (place_cmp c.args.place) x)) _ (λ x b f called. search (rules, at_ne)) _ _ c.retain.ensures.filtered)
    ∙ few_without c.args.places.now.items c.args.place k
