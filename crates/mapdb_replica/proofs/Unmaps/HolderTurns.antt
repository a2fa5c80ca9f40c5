-- The candidates of an Unmap, holder by holder, are what each record loses, in turns.
use Rattle.std.proofs.Common.{◌≡◌, ◌+◌, Bool, true, false, Some, refl, sym, ap, subst, ◌∙◌, List, [], ◌∷◌, ◌++◌, append-nil}
use Rattle.std.specs.Prelude.{Option, None, cond, count_by, filter, map, if◌then◌else◌}
use Rattle.std.specs.List.{flat_map}
use Rattle.std.proofs.lemmas.Bool.{cond-false, cond-true}
use Rattle.std.proofs.lemmas.List.Elements.{filter-append}
use Rattle.std.proofs.lemmas.List.Sums.{sum_by-cons}
use Rattle.mapdb_facts.specs.Names.{is_before, same_id}
use Rattle.mapdb_facts.specs.Records.{AllAfter, IsAscending}
use Rattle.mapdb_facts.specs.declared.names.RecordId.{RecordId}
use Rattle.mapdb_facts.specs.declared.operations.Op.{Op}
use Rattle.mapdb_facts.proofs.Lists.SameNames.{same_id_true}
use Rattle.mapdb_replica.specs.Revoking.{InTurn, NoneBefore, find_holder, is_in_turn}
use Rattle.mapdb_replica.specs.declared.losses.Loss.{Loss}
use Rattle.mapdb_replica.specs.declared.pieces.Holder.{Holder}
use Rattle.mapdb_replica.proofs.Maps.HolderNames.{by_name, found-none}
use Rattle.mapdb_facts.proofs.RecordLemmas.Ascending.{before_same, before_back}

-- an operation in the turn of a holder
abbrev pub in_turn : RecordId → Op → Loss
in_turn id op = record { holder = id; op = op }

-- the operations of losses
abbrev pub ops_of : List Loss → List Op
ops_of losses = map (λ (loss : Loss). loss.op) losses

ops_of-append : (xs ys : List Loss) → ops_of (xs ++ ys) ≡ ops_of xs ++ ops_of ys
ops_of-append [] ys = refl
ops_of-append (x ∷ xs) ys = ap (λ (ops : List Op). x.op ∷ ops) (ops_of-append xs ys)

ops_in : (id : RecordId) (ops : List Op) → ops_of (map (in_turn id) ops) ≡ ops
ops_in id [] = refl
ops_in id (op ∷ ops) = ap (λ (xs : List Op). op ∷ xs) (ops_in id ops)

-- as many operations pass as losses with such
pub count_ops : (test : Op → Bool) (losses : List Loss) → count_by (λ (loss : Loss). test loss.op) losses ≡ count_by test (ops_of losses)
count_ops test [] = refl
count_ops test (loss ∷ rest) =
    sum_by-cons (λ (x : Loss). cond (test x.op) 1 0) loss rest ∙ ap (λ n. cond (test loss.op) 1 0 + n) (count_ops test rest)
    ∙ sym (sum_by-cons (λ (op : Op). cond (test op) 1 0) loss.op (ops_of rest))

-- what one turn has of itself
turn_here : (id name : RecordId) (ops : List Op) → same_id name id ≡ true → filter (is_in_turn id) (map (in_turn name) ops) ≡ map (in_turn name) ops
turn_here id name [] same = refl
turn_here id name (op ∷ ops) same =
    cond-true (same_id name id) (in_turn name op ∷ filter (is_in_turn id) (map (in_turn name) ops)) (filter (is_in_turn id) (map (in_turn name) ops)) same
    ∙ ap (λ (xs : List Loss). in_turn name op ∷ xs) (turn_here id name ops same)

turn_other : (id name : RecordId) (ops : List Op) → same_id name id ≡ false → filter (is_in_turn id) (map (in_turn name) ops) ≡ []
turn_other id name [] apart = refl
turn_other id name (op ∷ ops) apart =
    cond-false (same_id name id) (in_turn name op ∷ filter (is_in_turn id) (map (in_turn name) ops)) (filter (is_in_turn id) (map (in_turn name) ops)) apart
    ∙ turn_other id name ops apart

none_append : (id : RecordId) (xs ys : List Loss) → NoneBefore id xs → NoneBefore id ys → NoneBefore id (xs ++ ys)
none_append id [] ys h k = k
none_append id (x ∷ xs) ys h k = (h.0, none_append id xs ys h.1 k)

none_here : (id : RecordId) (ops : List Op) → NoneBefore id (map (in_turn id) ops)
none_here id [] = tt
none_here id (op ∷ ops) = (before_same id, none_here id ops)

none_behind : (id name : RecordId) (ops : List Op) → is_before id name ≡ true → NoneBefore id (map (in_turn name) ops)
none_behind id name [] h = tt
none_behind id name (op ∷ ops) h = (before_back id name h, none_behind id name ops h)

up_front : (id : RecordId) (ops : List Op) (rest : List Loss) → NoneBefore id rest → InTurn rest → InTurn (map (in_turn id) ops ++ rest)
up_front id [] rest none up = up
up_front id (op ∷ ops) rest none up = (none_append id (map (in_turn id) ops) rest (none_here id ops) none, up_front id ops rest none up)

-- Turns of any holders, by what each of them has.
module _ (turn : Holder → List Op) where
  abbrev pub turns : List Holder → List Loss
  turns hs = flat_map (λ (h : Holder). map (in_turn h.id) (turn h)) hs

  pub ops_of-turns : (hs : List Holder) → ops_of (turns hs) ≡ flat_map turn hs
  ops_of-turns [] = refl
  ops_of-turns (h ∷ rest) =
      ops_of-append (map (in_turn h.id) (turn h)) (turns rest)
      ∙ ap (λ (ops : List Op). ops ++ ops_of (turns rest)) (ops_in h.id (turn h))
      ∙ ap (λ (ops : List Op). turn h ++ ops) (ops_of-turns rest)

  none_turns : (id : RecordId) (hs : List Holder) → AllAfter by_name id hs → NoneBefore id (turns hs)
  none_turns id [] after = tt
  none_turns id (h ∷ rest) after = none_append id (map (in_turn h.id) (turn h)) (turns rest) (none_behind id h.id (turn h) after.0) (none_turns id rest after.1)

  pub up_turns : (hs : List Holder) → IsAscending by_name hs → InTurn (turns hs)
  up_turns [] rising = tt
  up_turns (h ∷ rest) rising = up_front h.id (turn h) (turns rest) (none_turns h.id rest rising.0) (up_turns rest rising.1)

  -- what the holder has that was found
  abbrev pub turn_at : Option Holder → List Loss
  turn_at None = []
  turn_at (Some h) = map (in_turn h.id) (turn h)

  turns_step : (id : RecordId) (h : Holder) (rest : List Holder) (b : Bool) → same_id h.id id ≡ b → AllAfter by_name h.id rest → filter (is_in_turn id) (turns rest) ≡ turn_at (find_holder rest id)
      → filter (is_in_turn id) (map (in_turn h.id) (turn h)) ++ filter (is_in_turn id) (turns rest) ≡ turn_at (if b then Some h else find_holder rest id)
  turns_step id h rest true same after later =
      ap (λ (xs : List Loss). xs ++ filter (is_in_turn id) (turns rest)) (turn_here id h.id (turn h) same)
      ∙ ap (λ (xs : List Loss). map (in_turn h.id) (turn h) ++ xs)
      (later ∙ ap turn_at (found-none id rest (subst (λ (x : RecordId). AllAfter by_name x rest) (same_id_true h.id id same) after)))
      ∙ append-nil (map (in_turn h.id) (turn h))
  turns_step id h rest false apart after later =
      ap (λ (xs : List Loss). xs ++ filter (is_in_turn id) (turns rest)) (turn_other id h.id (turn h) apart) ∙ later

  pub turns_found : (id : RecordId) (hs : List Holder) → IsAscending by_name hs → filter (is_in_turn id) (turns hs) ≡ turn_at (find_holder hs id)
  turns_found id [] rising = refl
  turns_found id (h ∷ rest) rising =
      filter-append (is_in_turn id) (map (in_turn h.id) (turn h)) (turns rest)
      ∙ turns_step id h rest (same_id h.id id) refl rising.0 (turns_found id rest rising.1)
