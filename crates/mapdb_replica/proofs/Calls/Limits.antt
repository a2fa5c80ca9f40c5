-- What the candidates of a Map meet: all are new, and the limits are met by their count.
use Rattle.std.proofs.Common.{◌≡◌, ℕ, zero, suc, ◌+◌, ◌≤◌, Bool, true, false, cond, Some, refl, sym, ap, ◌∙◌, List, [], ◌∷◌, length, inl, inr, arith}
use Rattle.std.specs.Prelude.{◌&&◌, ◌||◌, ◌==◌, Option, None, count_by, nat_le, nat_lt, not, if◌then◌else◌}
use Rattle.std.specs.List.{list_any}
use Rattle.std.proofs.lemmas.Bool.{cases_Bool, cond-true, le-leb, leb-true}
use Rattle.std.proofs.lemmas.List.Sums.{sum_by-cons}
use Rattle.std.proofs.lemmas.Bool.Decides.{nat_tests}
use Rattle.mapdb_fpage.specs.declared.items.Transfer.{Transfer}
use Rattle.mapdb_facts.specs.Adding.{is_held, is_new}
use Rattle.mapdb_facts.specs.Names.{number_limit}
use Rattle.mapdb_facts.specs.State.{State, join, said, state_of}
use Rattle.mapdb_facts.specs.declared.names.RecordId.{RecordId}
use Rattle.mapdb_facts.specs.declared.names.Space.{Space}
use Rattle.mapdb_facts.specs.declared.operations.Op.{Op}
use Rattle.mapdb_facts.specs.declared.operations.Op.TheVariants.{Born}
use Rattle.mapdb_facts.specs.declared.operations.Record.{Record}
use Rattle.mapdb_replica.specs.Fitting.{IsFree, count_refusal}
use Rattle.mapdb_replica.specs.Issue.{numbered_records, mapped_record, rising_names}
use Rattle.mapdb_replica.specs.Replica.{is_spent, issued_unless, limit_refusal, limited, most_operations, record_names, news}
use Rattle.mapdb_replica.specs.declared.faults.IssueFault.{IssueFault}
use Rattle.mapdb_replica.specs.declared.faults.IssueFault.TheVariants.{Full, NumbersSpent}
use Rattle.mapdb_replica.specs.declared.pieces.Piece.{Piece}
use Rattle.mapdb_replica.proofs.Calls.Issuing.{free_next}

new_where : (o : Option Record) (r : Record) → o ≡ None → not (is_held o r) ≡ true
new_where o r h = ap (λ (a : Option Record). not (is_held a r)) h

count_new : (S : State) (op : Op) (ops : List Op) → is_new S op ≡ true → count_by (is_new S) (op ∷ ops) ≡ 1 + count_by (is_new S) ops
count_new S op ops h = sum_by-cons (λ (x : Op). cond (is_new S x) 1 0) op ops ∙ ap (λ (b : Bool). cond b 1 0 + count_by (is_new S) ops) h

module _ (processor : ℕ) (receiver : Space) (transfer : Transfer) where
  new_here : (S : State) (number n : ℕ) (piece : Piece) → IsFree S number → number ≤ n → is_new S (Born (mapped_record (record { number = n; processor = processor }) receiver transfer piece)) ≡ true
  new_here S number n piece free above =
      new_where (S.record_at (record { number = n; processor = processor })) (mapped_record (record { number = n; processor = processor }) receiver transfer piece) (free (record { number = n; processor = processor }) above)

  -- all are new at their turn
  pub news-numbered : (S : State) (number : ℕ) (pieces : List Piece) → IsFree S number → news S (numbered_records number processor receiver transfer pieces) ≡ numbered_records number processor receiver transfer pieces
  news-numbered S number [] free = refl
  news-numbered S number (piece ∷ rest) free =
      let op : Op = Born (mapped_record (record { number = number; processor = processor }) receiver transfer piece) in
      cond-true (is_new S op) (op ∷ news (join S (said op)) (numbered_records (number + 1) processor receiver transfer rest)) (news S (numbered_records (number + 1) processor receiver transfer rest)) (new_here S number number piece free (omega arith))
      ∙ ap (λ (ops : List Op). op ∷ ops) (news-numbered (join S (said op)) (number + 1) rest (free_next S (mapped_record (record { number = number; processor = processor }) receiver transfer piece) number free refl))

  -- and to the copy as it stands
  pub count-numbered : (S : State) (number n : ℕ) (pieces : List Piece) → IsFree S number → number ≤ n → count_by (is_new S) (numbered_records n processor receiver transfer pieces) ≡ length pieces
  count-numbered S number n [] free above = refl
  count-numbered S number n (piece ∷ rest) free above =
      let later : count_by (is_new S) (numbered_records (n + 1) processor receiver transfer rest) ≡ length rest = count-numbered S number (n + 1) rest free (omega arith) in
      let step : count_by (is_new S) (numbered_records n processor receiver transfer (piece ∷ rest)) ≡ 1 + count_by (is_new S) (numbered_records (n + 1) processor receiver transfer rest) =
      count_new S (Born (mapped_record (record { number = n; processor = processor }) receiver transfer piece)) (numbered_records (n + 1) processor receiver transfer rest) (new_here S number n piece free above) in
      omega arith

  not_zero : (n : ℕ) → not (suc n == 0) ≡ true
  not_zero n = grind (arith, nat_tests)

  spent_below : (greatest count : ℕ) → nat_le number_limit (greatest + 1) ≡ false → (not (count == 0) && nat_le number_limit (greatest + 1 + count)) ≡ nat_le number_limit (greatest + suc count)
  spent_below greatest zero below = sym below
  spent_below greatest (suc count) below =
      let same : greatest + 1 + suc count ≡ greatest + suc (suc count) = omega arith in
      ap (λ (b : Bool). b && nat_le number_limit (greatest + 1 + suc count)) (not_zero count) ∙ ap (λ n. nat_le number_limit n) same

  spent_by : (greatest count : ℕ) (b : Bool) → b ≡ (not (count == 0) && nat_le number_limit (greatest + 1 + count)) → (nat_le number_limit (greatest + 1) || b) ≡ nat_le number_limit (greatest + suc count)
  spent_by greatest count b e =
      elim (cases_Bool (nat_le number_limit (greatest + 1))) [
        | inl above ↦
            let low : number_limit ≤ greatest + 1 = leb-true number_limit (greatest + 1) above in
            ap (λ (x : Bool). x || b) above ∙ sym (le-leb number_limit (greatest + suc count) (omega arith))
        | inr below ↦ ap (λ (x : Bool). x || b) below ∙ e ∙ spent_below greatest count below
      ]

  -- some number is too great where the last is
  pub spent-numbered : (greatest : ℕ) (pieces : List Piece) → list_any is_spent (numbered_records (greatest + 1) processor receiver transfer pieces) ≡ (not (length pieces == 0) && nat_le number_limit (greatest + length pieces))
  spent-numbered greatest [] = refl
  spent-numbered greatest (piece ∷ rest) = spent_by greatest (length rest) (list_any is_spent (numbered_records (greatest + 1 + 1) processor receiver transfer rest)) (spent-numbered (greatest + 1) rest)
      ∙ sym (ap (λ (b : Bool). b && nat_le number_limit (greatest + suc (length rest))) (not_zero (length rest)))

  pub names-numbered : (number : ℕ) (pieces : List Piece) → record_names (numbered_records number processor receiver transfer pieces) ≡ rising_names number processor (length pieces)
  names-numbered number [] = refl
  names-numbered number (piece ∷ rest) = ap (λ (ids : List RecordId). record { number = number; processor = processor } ∷ ids) (names-numbered (number + 1) rest)

  -- a Map's outcome, by the count of its pieces
  pub limited-numbered : (ops : List Op) (greatest : ℕ) (pieces : List Piece) → IsFree (state_of ops) (greatest + 1)
      → limited ops (numbered_records (greatest + 1) processor receiver transfer pieces) ≡ issued_unless (count_refusal greatest (length ops) (length pieces)) (numbered_records (greatest + 1) processor receiver transfer pieces)
  limited-numbered ops greatest pieces free =
      ap (λ (news : List Op). issued_unless (limit_refusal ops (numbered_records (greatest + 1) processor receiver transfer pieces)) news) (news-numbered (state_of ops) (greatest + 1) pieces free)
      ∙ ap (λ (o : Option IssueFault). issued_unless o (numbered_records (greatest + 1) processor receiver transfer pieces)) (same_refusal (spent-numbered greatest pieces) (count-numbered (state_of ops) (greatest + 1) (greatest + 1) pieces free (omega arith)))
    where
      same_refusal : list_any is_spent (numbered_records (greatest + 1) processor receiver transfer pieces) ≡ (not (length pieces == 0) && nat_le number_limit (greatest + length pieces))
          → count_by (is_new (state_of ops)) (numbered_records (greatest + 1) processor receiver transfer pieces) ≡ length pieces
          → limit_refusal ops (numbered_records (greatest + 1) processor receiver transfer pieces) ≡ count_refusal greatest (length ops) (length pieces)
      same_refusal spent count =
          ap (λ b. if b then Some NumbersSpent else (if nat_lt most_operations (length ops + count_by (is_new (state_of ops)) (numbered_records (greatest + 1) processor receiver transfer pieces)) then Some Full else None)) spent
          ∙ ap (λ n. if not (length pieces == 0) && nat_le number_limit (greatest + length pieces) then Some NumbersSpent else (if nat_lt most_operations (length ops + n) then Some Full else None)) count
