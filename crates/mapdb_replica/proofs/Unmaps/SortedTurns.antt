-- A stable sort by the holders' names puts losses into turns.
use Rattle.std.proofs.Common.{◌≡◌, suc, ◌+◌, Bool, true, false, refl, sym, ap, subst, ◌∙◌, List, [], ◌∷◌, get_or, arith}
use Rattle.std.specs.Prelude.{◌||◌, ◌&&◌, ◌==◌, cond, nat_lt, not}
use Rattle.std.specs.List.Sorted.{IsSortedByKey, IsStableByKey, ties}
use Rattle.std.specs.Ordering.{is_lt, ordering_then}
use Rattle.std.specs.declared.cmp.Ordering.TheVariants.{Equal, Greater, Less}
use Rattle.std.proofs.lemmas.Bool.Decides.{nat_tests}
use Rattle.std.proofs.lemmas.List.Elements.{filter_agree}
use Rattle.mapdb_facts.specs.Kept.{id_cmp}
use Rattle.mapdb_facts.specs.Names.{is_before, same_id}
use Rattle.mapdb_facts.specs.declared.names.RecordId.{RecordId}
use Rattle.mapdb_facts.specs.declared.operations.Op.TheVariants.{Closed}
use Rattle.mapdb_replica.specs.Revoking.{InTurn, IsGrouped, is_in_turn}
use Rattle.mapdb_replica.specs.declared.losses.Loss.{Loss}
use Rattle.mapdb_replica.proofs.Unmaps.Grouping.{none_lower}
use Rattle.mapdb_replica.proofs.Unmaps.HolderTurns.{in_turn}

before_is : (a b : RecordId) → is_lt (id_cmp a b) ≡ is_before a b
before_is a b = step (nat_lt a.number b.number) (a.number == b.number) (nat_lt a.processor b.processor) (a.processor == b.processor)
  where
    step : (p q r s : Bool) → is_lt (ordering_then (cond p Less (cond q Equal Greater)) (cond r Less (cond s Equal Greater))) ≡ (p || (q && r))
    step true q r s = refl
    step false true true s = refl
    step false true false true = refl
    step false true false false = refl
    step false false r s = refl

abbrev pub holder_of_loss : Loss → RecordId
holder_of_loss loss = loss.holder

abbrev less : Loss → Loss → Bool
less a b = is_lt (id_cmp a.holder b.holder)

not_apart : (a b : RecordId) → (not (is_before a b) && not (is_before b a)) ≡ same_id b a
not_apart a b = grind (arith, nat_tests)

ties_are : (id : RecordId) (x loss : Loss) → x.holder ≡ id → ties less x loss ≡ is_in_turn id loss
ties_are id x loss is =
    ap (λ b. not b && not (less loss x)) (before_is x.holder loss.holder)
    ∙ ap (λ b. not (is_before x.holder loss.holder) && not b) (before_is loss.holder x.holder)
    ∙ not_apart x.holder loss.holder
    ∙ ap (λ (turn : RecordId). same_id loss.holder turn) is

-- in the order of the sort no turn comes before an earlier one
up_from : (xs : List Loss) → IsSortedByKey holder_of_loss id_cmp xs → InTurn xs
up_from [] up = tt
up_from (x ∷ []) up = (tt, tt)
up_from (x ∷ y ∷ rest) up =
    let later : InTurn (y ∷ rest) = up_from (y ∷ rest) (λ k d low within.
    let next : suc k + 1 ≡ suc (k + 1) = omega arith in
    subst (λ n. less (get_or (x ∷ y ∷ rest) n d) (get_or (x ∷ y ∷ rest) (suc k) d) ≡ false) next (up (suc k) d (omega arith) (omega arith))) in
    let first : is_before y.holder x.holder ≡ false = sym (before_is y.holder x.holder) ∙ up 0 x (omega arith) (omega arith) in
    ((first, none_lower x.holder y.holder rest first later.0), later)

pub grouped : (old new : List Loss) → IsStableByKey holder_of_loss id_cmp old new → IsSortedByKey holder_of_loss id_cmp new → IsGrouped old new
grouped old new stable up = record {
  in_turn = up_from new up;
  kept = λ id. (let x : Loss = in_turn id (Closed (record { number = 0; version = 0 })) in
      sym (filter_agree (ties less x) (is_in_turn id) (λ loss. ties_are id x loss refl) new)
      ∙ stable x
      ∙ filter_agree (ties less x) (is_in_turn id) (λ loss. ties_are id x loss refl) old);
}
