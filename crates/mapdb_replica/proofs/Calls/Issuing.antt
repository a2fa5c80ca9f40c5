-- Records of pieces may be added, one after the other.
use Rattle.std.proofs.Common.{◌≡◌, ℕ, zero, suc, ◌+◌, ◌-◌, ◌%◌, ◌^◌, ◌<◌, ◌≤◌, Bool, true, false, Ok, Err, Some, Result, refl, sym, ap, subst, ◌∙◌, List, [], ◌∷◌, ◌++◌, append_assoc, append-nil, get_or, length, take, arith}
use Rattle.std.specs.Prelude.{◌||◌, IfOk, Option, None, nat_le, nat_lt, not, if◌then◌else◌}
use Rattle.std.proofs.lemmas.Bool.{and_from, cond-false, eq-eqb, lt-ltb}
use Rattle.std.proofs.lemmas.Bool.Decides.{nat_tests}
use Rattle.std.proofs.Math.Pow.{pow_pos}
use Rattle.mapdb_fpage.specs.Bounds.{least_order, page_limit}
use Rattle.mapdb_fpage.specs.Place.{Place, page_total}
use Rattle.mapdb_fpage.specs.Transfer.{transfer_of}
use Rattle.mapdb_fpage.specs.declared.items.MapItem.{MapItem}
use Rattle.mapdb_fpage.specs.declared.items.Transfer.{Transfer}
use Rattle.mapdb_facts.specs.Adding.{added, added_if, clash_of, is_held, is_new, other_record}
use Rattle.mapdb_facts.specs.Looking.{IsGreatest}
use Rattle.mapdb_facts.specs.Names.{is_root_number, number_limit, processor_limit, same_id}
use Rattle.mapdb_facts.specs.Records.{greatest_number, records_of}
use Rattle.mapdb_facts.specs.State.{State, first_of, join, said, state_of}
use Rattle.mapdb_facts.specs.WellFormed.{checked, has_bad_number, has_bad_processor, has_late_parent, has_unaligned_source, has_wide_source, is_number, is_reference, names_root_number}
use Rattle.mapdb_facts.specs.declared.checking.OpFault.{OpFault}
use Rattle.mapdb_facts.specs.declared.names.RecordId.{RecordId}
use Rattle.mapdb_facts.specs.declared.names.Space.{Space}
use Rattle.mapdb_facts.specs.declared.operations.Op.{Op}
use Rattle.mapdb_facts.specs.declared.operations.Op.TheVariants.{Born}
use Rattle.mapdb_facts.specs.declared.operations.Record.{Record}
use Rattle.mapdb_facts.proofs.RecordLemmas.Ascending.{found_listed, most_of}
use Rattle.mapdb_facts.proofs.Maps.Atoms.{record_held}
use Rattle.mapdb_facts.proofs.States.Joins.{state_of-put}
use Rattle.mapdb_replica.specs.Fitting.{AllFitting, IsFitting, IsFree, piece_ops, piece_refusal}
use Rattle.mapdb_replica.specs.Issue.{map_candidates, numbered_records, mapped_record}
use Rattle.mapdb_replica.specs.Replica.{Issues, Log, Names, issued_unless, limited, map_outcome, record_names, spaces_refusal, unless_spaces, with_issued}
use Rattle.mapdb_replica.specs.declared.faults.IssueFault.{IssueFault}
use Rattle.mapdb_replica.specs.declared.faults.IssueFault.TheVariants.{Memory}
use Rattle.mapdb_replica.specs.declared.pieces.Piece.{Piece}
use Rattle.mapdb_replica.proofs.Calls.CallCases.{issue_cases}

-- numbers behind the greatest are free
free_at : (ops : List Op) (n : ℕ) (id : RecordId) (o : Option Record) → (state_of ops).record_at id ≡ o → IsGreatest (state_of ops) n → n + 1 ≤ id.number → o ≡ None
free_at ops n id None held is above = refl
free_at ops n id (Some r) held is above =
    let found = record_held ops id r held in
    let low : r.id.number ≤ n = is.most r (subst (λ (x : RecordId). (state_of ops).record_at x ≡ Some r) (sym found.1) held) in
    let same : r.id.number ≡ id.number = ap (λ (x : RecordId). x.number) found.1 in
    absurd (omega arith)

pub free_from : (ops : List Op) (n : ℕ) → IsGreatest (state_of ops) n → IsFree (state_of ops) (n + 1)
free_from ops n is id above = free_at ops n id ((state_of ops).record_at id) refl is above

numbers_differ : (a b : RecordId) → a.number < b.number → same_id a b ≡ false
numbers_differ a b h = grind (arith, nat_tests)

pub first_of_none : (o x : Option Record) → o ≡ None → first_of o x ≡ x
first_of_none o x h = ap (λ (a : Option Record). first_of a x) h

-- a record of the first free number leaves the next one free
pub free_next : (S : State) (r : Record) (n : ℕ) → IsFree S n → r.id.number ≡ n → IsFree (join S (said (Born r))) (n + 1)
free_next S r n free is id above =
    first_of_none (S.record_at id) (if same_id r.id id then Some r else None) (free id (omega arith))
    ∙ cond-false (same_id r.id id) (Some r) None (numbers_differ r.id id (omega arith))

-- an operation without faults
checked_from : (op : Op) → has_bad_number op ≡ false → has_bad_processor op ≡ false → has_late_parent op ≡ false → has_unaligned_source op ≡ false → names_root_number op ≡ false → has_wide_source op ≡ false → checked op ≡ Ok tt
checked_from op number processor parent source space wide =
    cond-false (has_bad_number op) _ _ number ∙ cond-false (has_bad_processor op) _ _ processor ∙ cond-false (has_late_parent op) _ _ parent
    ∙ cond-false (has_unaligned_source op) _ _ source ∙ cond-false (names_root_number op) _ _ space ∙ cond-false (has_wide_source op) _ _ wide

module _ (number processor : ℕ) (receiver : Space) (transfer : Transfer) (greatest : ℕ) (piece : Piece) (fits : IsFitting transfer.source greatest piece) (low : greatest < number) (high : number < number_limit) (issuer : processor < processor_limit) (space : is_root_number receiver ≡ false) where
  abbrev id : RecordId
  id = record { number = number; processor = processor }

  abbrev op : Op
  op = Born (mapped_record id receiver transfer piece)

  numbers : is_number number ≡ true
  numbers = and_from (nat_lt 0 number) (nat_lt number number_limit) (lt-ltb 0 number (omega arith)) (lt-ltb number number_limit high)

  processors : (nat_le processor_limit processor || nat_le processor_limit piece.parent.processor) ≡ false
  processors = let parent : piece.parent.processor < processor_limit = fits.issuer in grind (arith, nat_tests)

  parents : nat_le number piece.parent.number ≡ false
  parents = let earlier : piece.parent.number ≤ greatest = fits.earlier in grind (arith, nat_tests)

  sources : nat_le page_limit piece.source.first_page ≡ false
  sources =
      let some : 0 < 2 ^ (piece.source.order - least_order) = pow_pos (piece.source.order - least_order) in
      let end : piece.source.first_page + page_total piece.source ≤ page_limit = fits.place.in_space in
      let below : piece.source.first_page < page_limit = omega arith in
      grind (arith, nat_tests)

  -- a piece's record is well-formed
  pub piece_checked : checked op ≡ Ok tt
  piece_checked =
      checked_from op
      (ap not (and_from (is_number number) (is_reference piece.parent) numbers fits.reference))
      processors parents
      (ap not (eq-eqb (piece.source.first_page % page_total piece.source) 0 fits.place.aligned))
      space sources

  new_where : (o : Option Record) (r : Record) → o ≡ None → not (is_held o r) ≡ true
  new_where o r h = ap (λ (a : Option Record). not (is_held a r)) h

  clash_where : (o : Option Record) (r : Record) → o ≡ None → other_record o r ≡ None
  clash_where o r h = ap (λ (a : Option Record). other_record a r) h

  pub piece_new : (S : State) → IsFree S number → is_new S op ≡ true
  piece_new S free = new_where (S.record_at id) (mapped_record id receiver transfer piece) (free id (omega arith))

  -- and may be added, where its number is free
  pub piece_added : (S : State) → IsFree S number → added S op ≡ Ok true
  piece_added S free =
      ap (λ (o : Result (Unit {0}) OpFault). added_if o (is_new S op) (clash_of S op)) piece_checked
      ∙ ap (λ (b : Bool). added_if (Ok tt) b (clash_of S op)) (piece_new S free)
      ∙ ap (λ (o : Option RecordId). added_if (Ok tt) true o) (clash_where (S.record_at id) (mapped_record id receiver transfer piece) (free id (omega arith)))

-- the pieces of a list fit
pub fitting_at : (source : Place) (greatest : ℕ) (pieces : List Piece) (i : ℕ) (d : Piece) → i < length pieces → AllFitting source greatest pieces → IsFitting source greatest (get_or pieces i d)
fitting_at source greatest [] i d within fits = absurd (omega arith)
fitting_at source greatest (piece ∷ rest) zero d within fits = fits.0
fitting_at source greatest (piece ∷ rest) (suc i) d within fits = fitting_at source greatest rest i d (omega arith) fits.1

pub length-numbered : (number processor : ℕ) (receiver : Space) (transfer : Transfer) (pieces : List Piece) → length (numbered_records number processor receiver transfer pieces) ≡ length pieces
length-numbered number processor receiver transfer [] = refl
length-numbered number processor receiver transfer (piece ∷ rest) = let later = length-numbered (number + 1) processor receiver transfer rest in omega arith

-- one record more
pub take-numbered : (number processor : ℕ) (receiver : Space) (transfer : Transfer) (pieces : List Piece) (i : ℕ) (d : Piece) → i < length pieces
    → take (i + 1) (numbered_records number processor receiver transfer pieces)
    ≡ take i (numbered_records number processor receiver transfer pieces) ++ Born (mapped_record (record { number = number + i; processor = processor }) receiver transfer (get_or pieces i d)) ∷ []
take-numbered number processor receiver transfer [] i d within = absurd (omega arith)
take-numbered number processor receiver transfer (piece ∷ rest) zero d within =
    let same : number ≡ number + 0 = omega arith in
    ap (λ n. Born (mapped_record (record { number = n; processor = processor }) receiver transfer piece) ∷ []) same
take-numbered number processor receiver transfer (piece ∷ rest) (suc i) d within =
    let next : suc i + 1 ≡ suc (i + 1) = omega arith in
    let same : number + 1 + i ≡ number + suc i = omega arith in
    ap (λ n. take n (numbered_records number processor receiver transfer (piece ∷ rest))) next
    ∙ ap (λ (ops : List Op). Born (mapped_record (record { number = number; processor = processor }) receiver transfer piece) ∷ ops)
    (take-numbered (number + 1) processor receiver transfer rest i d (omega arith)
    ∙ ap (λ n. take i (numbered_records (number + 1) processor receiver transfer rest) ++ Born (mapped_record (record { number = n; processor = processor }) receiver transfer (get_or rest i d)) ∷ []) same)

-- what is issued in two parts
pub with_issued-twice : (log : Log) (xs ys : List Op) → with_issued (with_issued log xs) ys ≡ with_issued log (xs ++ ys)
with_issued-twice log xs ys =
    let ops : (log.ops ++ xs) ++ ys ≡ log.ops ++ (xs ++ ys) = append_assoc log.ops xs ys in
    let own : (log.own ++ xs) ++ ys ≡ log.own ++ (xs ++ ys) = append_assoc log.own xs ys in
    λ i. record { processor = log.processor; ops = ops i; own = own i }

pub stands-next : (log now next : Log) (all : List Op) (i : ℕ) (op : Op) → now ≡ with_issued log (take i all) → next ≡ with_issued now (op ∷ []) → take (i + 1) all ≡ take i all ++ op ∷ [] → next ≡ with_issued log (take (i + 1) all)
stands-next log now next all i op so_far step more =
    step ∙ ap (λ (l : Log). with_issued l (op ∷ [])) so_far ∙ with_issued-twice log (take i all) (op ∷ []) ∙ ap (with_issued log) (sym more)

pub free_put : (ops : List Op) (r : Record) (n : ℕ) → IsFree (state_of ops) n → r.id.number ≡ n → IsFree (state_of (ops ++ Born r ∷ [])) (n + 1)
free_put ops r n free same = subst (λ (S : State). IsFree S (n + 1)) (sym (state_of-put ops (Born r))) (free_next (state_of ops) r n free same)

-- nothing is issued before the first piece
pub stands-start : (log : Log) (all : List Op) → log ≡ with_issued log (take 0 all)
stands-start log all =
    let ops : log.ops ≡ log.ops ++ [] = sym (append-nil log.ops) in
    let own : log.own ≡ log.own ++ [] = sym (append-nil log.own) in
    λ i. record { processor = log.processor; ops = ops i; own = own i }

-- where something is to be issued and nothing is, memory ran out
pub wants_memory : (log : Log) (refusal : Option IssueFault) (ops : List Op) → refusal ≡ None → 0 < length ops
    → Issues {A = ℕ} (issued_unless refusal ops) (Err (Memory 0)) log log
wants_memory log refusal ops none some =
    subst (λ (o : Option IssueFault). Issues {A = ℕ} (issued_unless o ops) (Err (Memory 0)) log log) (sym none) (refl, stands-start log ops, some)

-- numbers behind those of the records are free
pub free_greatest : (ops : List Op) → IsFree (state_of ops) (greatest_number (records_of ops) + 1)
free_greatest ops id above = none ((state_of ops).record_at id) refl
  where
    none : (o : Option Record) → (state_of ops).record_at id ≡ o → o ≡ None
    none None held = refl
    none (Some r) held =
        let found = found_listed ops id r held in
        let low : r.id.number ≤ greatest_number (records_of ops) = most_of (records_of ops) r found.0 in
        let same : r.id.number ≡ id.number = ap (λ (x : RecordId). x.number) found.1 in
        absurd (omega arith)

-- what a Map comes to, where the spaces may map and something is carried
pub outcome-carried : (log : Log) (sender receiver : Space) (item : MapItem) (window : Option Place) (carried : Transfer) → spaces_refusal (state_of log.ops) sender receiver ≡ None → transfer_of item window ≡ Some carried
    → limited log.ops (piece_ops log sender carried receiver) ≡ issued_unless (piece_refusal log sender carried) (piece_ops log sender carried receiver)
    → map_outcome log sender item receiver window ≡ issued_unless (piece_refusal log sender carried) (piece_ops log sender carried receiver)
outcome-carried log sender receiver item window carried spaces is by_count =
    ap (λ (o : Option IssueFault). unless_spaces o (limited log.ops (map_candidates log.ops log.processor sender (transfer_of item window) receiver))) spaces
    ∙ ap (λ (t : Option Transfer). limited log.ops (map_candidates log.ops log.processor sender t receiver)) is
    ∙ by_count

pub issued-names : {A : Type 0} → (o : Option IssueFault) (ops : List Op) (items : A → List RecordId) (result : Result A IssueFault) (old new : Log) → Issues (issued_unless o ops) result old new
    → IfOk result (λ names. items names ≡ record_names ops) → IfOk result (λ names. Names (issued_unless o ops) (items names))
issued-names None ops items (Ok names) old new issues is = is
issued-names None ops items (Err fault) old new issues is = tt
issued-names (Some refusal) ops items (Ok names) old new issues is = absurd (issue_cases (Err refusal) (Ok names) old new issues)
issued-names (Some refusal) ops items (Err fault) old new issues is = tt
