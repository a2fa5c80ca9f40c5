use Rattle.std.proofs.Common.{◌≡◌, ◌+◌, ◌<◌, ◌∙◌, List, [], ◌∷◌, ◌++◌, ap, arith, get_or, length, refl, sym, take, ℕ}
use Rattle.std.specs.Prelude.{Option, slice_get}
use Rattle.std.specs.List.{cons_option}
use Rattle.std.proofs.lemmas.List.{take_more}
use Rattle.std.proofs.lemmas.List.Elements.{All-get_or, filter_map-append}
use Rattle.std.proofs.lemmas.Option.{slice_get_read}
use Rattle.mapdb_facts.specs.declared.operations.Op.{Op}
use Rattle.mapdb_replica.specs.Keeping.{ArePlaces, ops_at}
use Rattle.mapdb_replica.proofs.giving.at_places.Goals as goal

-- with one place more there is one operation more
one_more : (ops : List Op) (ps : List ℕ) (i : ℕ) (op : Op) → ArePlaces ops ps → i < length ps → op ≡ get_or ops (get_or ps i 0) op → ops_at ops (take (i + 1) ps) ≡ ops_at ops (take i ps) ++ op ∷ []
unfolding ops_at
one_more ops ps i op within here is =
    ap (ops_at ops) (take_more ps i 0 here)
    ∙ filter_map-append (slice_get ops) (take i ps) (get_or ps i 0 ∷ [])
    ∙ ap (λ (o : Option Op). ops_at ops (take i ps) ++ cons_option o []) (slice_get_read ops (length ops) (get_or ps i 0) op refl (All-get_or (λ (p : ℕ). p < length ops) ps i 0 here within) is)

pub loop-place-preserved : goal.loop-place-preserved
loop-place-preserved c =
    record {
      found = c.push_reserved.ensures.items ∙ ap (λ (xs : List Op). xs ++ c.index-ops-place.result ∷ []) c.loop-place.invariant.found
          ∙ sym (one_more c.args.ops.now c.args.places.now c.loop-place.place-index c.index-ops-place.result c.requires c.loop-place-test.true c.index-ops-place.is);
      len = omega arith;
      room = omega arith;
    }
