use Rattle.std.proofs.Common.{◌≡◌, ◌<◌, ◌≤◌, ◌∙◌, ◌-◌, List, Ok, Err, ap, arith, drop, inl, inr, length, refl, subst, sym, take, ℕ}
use Rattle.std.specs.Prelude.{◌&&◌, ◌⊎◌, IsOk, nat_le}
use Rattle.std.proofs.lemmas.Bool.{and_from, and_left, and_right, cond-false, cond-true, le-leb, lt-leb}
use Rattle.std.proofs.lemmas.List.Elements.{All-drop}
use Rattle.mapdb_facts.specs.declared.operations.Op.{Op}
use Rattle.mapdb_replica.specs.Giving.{given}
use Rattle.mapdb_replica.specs.Keeping.{ArePlaces, ops_at}
use Rattle.mapdb_replica.specs.declared.faults.GiveFault.TheVariants.{BadMark}
use Rattle.mapdb_replica.proofs.Copies.PlacedOps.{drop-ops_at, length-ops_at, take-ops_at}
use Rattle.mapdb_replica.proofs.giving.between_places.Goals as goal

-- the operations at the places between good marks are those between the marks
given_placed : (ops : List Op) (ps : List ℕ) (first end : ℕ) → ArePlaces ops ps → first ≤ end → end ≤ length ps
    → given (ops_at ops ps) first end ≡ Ok (ops_at ops (take (end - first) (drop first ps)))
given_placed ops ps first end within rise inside =
    cond-true (nat_le first end && nat_le end (length (ops_at ops ps))) (Ok (take (end - first) (drop first (ops_at ops ps)))) (Err BadMark)
    (and_from (nat_le first end) (nat_le end (length (ops_at ops ps))) (le-leb _ _ rise) (le-leb _ _ (subst (λ (n : ℕ). end ≤ n) (sym (length-ops_at ops ps within)) inside)))
    ∙ ap (λ (xs : List Op). Ok (take (end - first) xs)) (drop-ops_at ops ps first within)
    ∙ ap (λ (xs : List Op). Ok xs) (take-ops_at ops (drop first ps) (end - first) (All-drop (λ (p : ℕ). p < length ops) first ps within))

-- marks that fall, or that lie behind the last place, are bad
bad_marks : (xs : List Op) (n first end : ℕ) → length xs ≡ n → (end < first) ⊎ (first ≤ end × n < end) → given xs first end ≡ Err BadMark
bad_marks xs n first end few (inl falls) = cond-false (nat_le first end && nat_le end (length xs)) (Ok (take (end - first) (drop first xs))) (Err BadMark)
    (and_left (nat_le first end) (nat_le end (length xs)) (lt-leb first end falls))
bad_marks xs n first end few (inr (rise, behind)) = cond-false (nat_le first end && nat_le end (length xs)) (Ok (take (end - first) (drop first xs))) (Err BadMark)
    (and_right (nat_le first end) (nat_le end (length xs)) (lt-leb end (length xs) (omega arith)))

pub returns-then-first-end-clause-err : goal.returns-then-first-end-clause-err
returns-then-first-end-clause-err c =
    inl (bad_marks (ops_at c.args.ops.now c.args.places.now) (length c.args.places.now) c.args.first c.args.end (length-ops_at c.args.ops.now c.args.places.now c.requires) c.then-first-end.either)

pub returns-in-Ok-clause-given : goal.returns-in-Ok-clause-given
returns-in-Ok-clause-given c =
    given_placed c.args.ops.now c.args.places.now c.args.first c.args.end c.requires c.if-first-end.false c.if-end-places.false
    ∙ ap (λ (xs : List Op). Ok xs) (sym c.in-Ok.ensures)

pub returns-in-Err-clause-err : goal.returns-in-Err-clause-err
returns-in-Err-clause-err c =
    inr (refl, subst IsOk (sym (given_placed c.args.ops.now c.args.places.now c.args.first c.args.end c.requires c.if-first-end.false c.if-end-places.false)) refl)
