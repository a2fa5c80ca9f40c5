-- What is noted of two copies is so, and stays so.
use Rattle.std.proofs.Common.{◌≡◌, ℕ, ◌++◌, ◌∷◌, ◌<◌, Bool, List, [], ap, append-nil, arith, false, get_or, inl, inr, length, refl, slice_get, subst, sym, take, true, ◌∙◌, zero, suc}
use Rattle.std.specs.Prelude.{Err, Ok, Result, Some, not, slice_set, ◌==◌, ◌&&◌, replicate}
use Rattle.std.proofs.lemmas.Bool.{and_from, and_parts, cases_Bool, eqb-true, false≢true, not-true, eq-eqb, true≢false}
use Rattle.std.proofs.lemmas.List.{length-append, take-append-le, get_or-set_same, get_or-set_other}
use Rattle.mapdb_facts.specs.Adding.{is_new}
use Rattle.mapdb_facts.specs.State.{State, state_of}
use Rattle.mapdb_facts.specs.declared.operations.Op.{Op}
use Rattle.mapdb_facts.proofs.States.Joins.{state_of-append}
use Rattle.mapdb_replica.specs.Agreement.{knows_all}
use Rattle.mapdb_replica.specs.Memory.{Memory, EndsAfter, Enough, issue_memory, lasting, take_memory}
use Rattle.mapdb_replica.specs.Replica.{Issues, Log, issue_left, news}
use Rattle.mapdb_replica.specs.Taking.{Takes, take_left}
use Rattle.mapdb_replica.specs.declared.faults.IssueFault.{IssueFault}
use Rattle.mapdb_replica.specs.declared.faults.TakeFault.{TakeFault}
use Rattle.mapdb_replica.proofs.News.NewsOfBatches.{new_before}
use Rattle.mapdb_cluster.proofs.Steps.Slots.{one_there, set_here, set_other}
use Rattle.mapdb_script.specs.Answering.{Answered, Reply, ScriptCluster, compared, covers_answer, same_answer}
use Rattle.mapdb_script.specs.Marks.{AreMarks, HoldsFirst, IsMark, known_at, known_in, mark_of_two}
use Rattle.std.specs.Global.{Vec}
use Rattle.mapdb_script.specs.Reply.{covers_text, same_text}
use Rattle.mapdb_script.specs.States.{seen_of}
use Rattle.mapdb_script.specs.declared.marks.Mark.{Mark}
use Rattle.mapdb_script.proofs.MessageLemmas.{some_copy}

-- none are held for sure
pub none_noted : (copies : List Log) (at other : ℕ) → IsMark copies (mark_of_two at other 0)
none_noted copies at other = λ one two there beside. record { within = omega arith; known = refl }

-- ---- lists grow

-- a copy holds what it held, and maybe more behind it
pub record Grows (before after : Log) : Type 0 where
  pub more : List Op
  pub is : after.ops ≡ before.ops ++ more

pub stays : (log : Log) → Grows log log
stays log = record { more = []; is = sym (append-nil log.ops) }

-- what a command leaves
issued_grows : (memory : Memory) (outcome : Result (List Op) IssueFault) (old new : Log) → new ≡ issue_left memory outcome old → Grows old new
issued_grows memory (Err refusal) old new e = subst (Grows old) (sym e) (stays old)
issued_grows memory (Ok ops) old new e = record { more = lasting memory ops; is = ap (λ (log : Log). log.ops) e }

-- what a batch leaves
taken_grows : (memory : Memory) (batch : List Op) (outcome : Result (List Op) TakeFault) (old new : Log) → new ≡ take_left memory batch outcome old → Grows old new
taken_grows memory batch (Err refusal) old new e = subst (Grows old) (sym e) (stays old)
taken_grows Enough batch (Ok ops) old new e = record { more = ops; is = ap (λ (log : Log). log.ops) e }
taken_grows (EndsAfter count) batch (Ok ops) old new e = record { more = news (state_of old.ops) (take count batch); is = ap (λ (log : Log). log.ops) e }

-- what a call leaves that issues, or that takes a batch
pub issues_grow : {A : Type 0} (outcome : Result (List Op) IssueFault) (result : Result A IssueFault) (old new : Log) → Issues outcome result old new → Grows old new
issues_grow outcome result old new issues = issued_grows (issue_memory result) outcome old new issues.1

pub takes_grow : (batch : List Op) (outcome : Result (List Op) TakeFault) (result : Result ℕ TakeFault) (old new : Log) → Takes batch outcome result old new → Grows old new
takes_grow batch outcome result old new takes = taken_grows (take_memory result) batch outcome old new takes.1

-- ---- what is held stays held

old_later : (held more : List Op) (op : Op) → not (is_new (state_of held) op) ≡ true → not (is_new (state_of (held ++ more)) op) ≡ true
old_later held more op old = by_new (is_new (state_of (held ++ more)) op) refl
  where
    by_new : (b : Bool) → is_new (state_of (held ++ more)) op ≡ b → not b ≡ true
    by_new false e = refl
    by_new true e =
        let was_new : is_new (state_of held) op ≡ true = new_before (state_of held) (state_of more) op (ap (λ (S : State). is_new S op) (sym (state_of-append held more)) ∙ e) in
        absurd (false≢true (sym (not-true (is_new (state_of held) op) old) ∙ was_new))

known_later : (held more ops : List Op) → knows_all held ops ≡ true → knows_all (held ++ more) ops ≡ true
known_later held more [] known = refl
known_later held more (op ∷ ops) known =
    let parts = and_parts (not (is_new (state_of held) op)) (knows_all held ops) known in
    and_from (not (is_new (state_of (held ++ more)) op)) (knows_all (held ++ more) ops) (old_later held more op parts.0) (known_later held more ops parts.1)

-- so many first operations of a list stay held, whatever comes to both
pub first_later : (held more ops rest : List Op) (count : ℕ) → HoldsFirst held count ops → HoldsFirst (held ++ more) count (ops ++ rest)
first_later held more ops rest count first = record {
  within = omega (arith, first.within, length-append ops rest);
  known = ap (knows_all (held ++ more)) (take-append-le count ops rest first.within) ∙ known_later held more (take count ops) first.known;
}

-- ---- what is noted stays so

-- a copy that is there once one of them grew was there
pub record WasThere (copies : List Log) (i : ℕ) (now : Log) : Type 0 where
  pub before : Log
  pub there : slice_get copies i ≡ Some before
  pub grows : Grows before now

pub was_there : (copies : List Log) (at : ℕ) (old new : Log) → slice_get copies at ≡ Some old → Grows old new → (i : ℕ) (now : Log) → slice_get (slice_set copies at new) i ≡ Some now → WasThere copies i now
was_there copies at old new there grows i now found = elim (cases_Bool (at == i)) [
  | inl same ↦
      let is : at ≡ i = eqb-true at i same in
      let one : Some new ≡ Some now = sym (set_here copies at old new there) ∙ ap (slice_get (slice_set copies at new)) is ∙ found in
      record { before = old; there = ap (slice_get copies) (sym is) ∙ there; grows = subst (Grows old) (cc) grows }
  | inr apart ↦ record { before = now; there = sym (set_other copies at i new apart) ∙ found; grows = stays now }
]

mark_stays : (copies : List Log) (at : ℕ) (old new : Log) → slice_get copies at ≡ Some old → Grows old new → (mark : Mark) → IsMark copies mark → IsMark (slice_set copies at new) mark
mark_stays copies at old new there grows mark so = λ one two one_there two_there.
    let first = was_there copies at old new there grows mark.at one one_there in
    let second = was_there copies at old new there grows mark.other two two_there in
    rw (first.grows.is, second.grows.is)
    (first_later first.before.ops first.grows.more second.before.ops second.grows.more mark.known (so first.before second.before first.there second.there))

-- what is noted stays so, whichever copy grows
pub marks_stay : (copies : List Log) (rows : List (Vec ℕ)) (at : ℕ) (old new : Log) → slice_get copies at ≡ Some old → Grows old new → AreMarks copies rows → AreMarks (slice_set copies at new) rows
marks_stay copies rows at old new there grows all = λ one other. mark_stays copies at old new there grows (mark_of_two one other (known_at rows one other)) (all one other)

-- ---- rows of numbers

-- nothing is noted
abbrev pub NoneNoted : List (Vec ℕ) → Type 0
NoneNoted rows = (at other : ℕ) → known_at rows at other ≡ 0

pub none_are_marks : (copies : List Log) (rows : List (Vec ℕ)) → NoneNoted rows → AreMarks copies rows
none_are_marks copies rows none = λ at other. rw (none at other) (none_noted copies at other)

all_alike : (n i d : ℕ) → get_or (replicate n d) i d ≡ d
all_alike zero i d = refl
all_alike (suc n) zero d = refl
all_alike (suc n) (suc i) d = all_alike n i d

-- one row more of which nothing is noted
pub row_more : (rows : List (Vec ℕ)) (row : Vec ℕ) (n : ℕ) → NoneNoted rows → row.items ≡ replicate n 0 → NoneNoted (rows ++ row ∷ [])
row_more [] row n none is zero other = ap (λ (ns : List ℕ). get_or ns other 0) is ∙ all_alike n other 0
row_more [] row n none is (suc at) other = refl
row_more (first ∷ rows) row n none is zero other = none 0 other
row_more (first ∷ rows) row n none is (suc at) other = row_more rows row n (λ i o. none (suc i) o) is at other

-- a number of a row is set
pub row_set : (copies : List Log) (rows : List (Vec ℕ)) (mark : Mark) (row new : Vec ℕ) → AreMarks copies rows → IsMark copies mark → slice_get rows mark.at ≡ Some row → mark.other < length row.items
    → new.items ≡ slice_set row.items mark.other mark.known → AreMarks copies (slice_set rows mark.at new)
row_set copies rows mark row new all so there within is = λ a o. elim (cases_Bool (mark.at == a)) [
  | inl same ↦
      let here : mark.at ≡ a = eqb-true mark.at a same in
      let was : slice_get rows a ≡ Some row = ap (slice_get rows) (sym here) ∙ there in
      let now : slice_get (slice_set rows mark.at new) a ≡ Some new = ap (slice_get (slice_set rows mark.at new)) (sym here) ∙ set_here rows mark.at row new there in
      let reads : known_at (slice_set rows mark.at new) a o ≡ get_or (slice_set row.items mark.other mark.known) o 0 = ap (λ r. known_in r o) now ∙ ap (λ (ns : List ℕ). get_or ns o 0) is in
      elim (cases_Bool (mark.other == o)) [
        | inl other ↦
            let beside : mark.other ≡ o = eqb-true mark.other o other in
            let value : get_or (slice_set row.items mark.other mark.known) o 0 ≡ mark.known = ap (λ (i : ℕ). get_or (slice_set row.items mark.other mark.known) i 0) (sym beside) ∙ get_or-set_same row.items mark.other mark.known 0 within in
            subst (λ (n : ℕ). IsMark copies (mark_of_two a o n)) (sym (reads ∙ value)) (subst (λ (x : ℕ). IsMark copies (mark_of_two x o mark.known)) here (subst (λ (y : ℕ). IsMark copies (mark_of_two mark.at y mark.known)) beside so))
        | inr another ↦
            let value : get_or (slice_set row.items mark.other mark.known) o 0 ≡ known_at rows a o =
            get_or-set_other row.items mark.other o mark.known 0 (λ e. true≢false (sym (eq-eqb mark.other o (sym e)) ∙ another)) ∙ sym (ap (λ r. known_in r o) was) in
            subst (λ (n : ℕ). IsMark copies (mark_of_two a o n)) (sym (reads ∙ value)) (all a o)
      ]
  | inr apart ↦
      let same : known_at (slice_set rows mark.at new) a o ≡ known_at rows a o = ap (λ r. known_in r o) (set_other rows mark.at a new apart) in
      subst (λ (n : ℕ). IsMark copies (mark_of_two a o n)) (sym same) (all a o)
]

-- ---- what was found out

-- so many were found held of the two copies that are there
pub mark_found : (copies : List Log) (at other known : ℕ) (one two : Log) → slice_get copies at ≡ Some one → slice_get copies other ≡ Some two → HoldsFirst one.ops known two.ops → IsMark copies (mark_of_two at other known)
mark_found copies at other known one two there beside first = λ a b a_there b_there.
    let is_one : one ≡ a = one_there copies at one a there a_there in
    let is_two : two ≡ b = one_there copies other two b beside b_there in
    subst (λ (x : Log). HoldsFirst x.ops known b.ops) is_one (subst (λ (y : Log). HoldsFirst one.ops known y.ops) is_two first)

-- two copies that are there, and whether the first one holds all that the second one holds
abbrev pub Found : List Log → ℕ → ℕ → Bool → Type 0
Found copies at other covers = (one : Log) × (two : Log) × (slice_get copies at ≡ Some one) × (slice_get copies other ≡ Some two) × (covers ≡ knows_all one.ops two.ops)

compared_found : (c : ScriptCluster) (at other : ℕ) (one two : Log) (ask : Log → Log → Reply) → slice_get c.net.copies at ≡ Some one → slice_get c.net.copies other ≡ Some two
    → compared c at other ask ≡ Ok (record { reply = ask one two; cluster = c })
compared_found c at other one two ask there beside = rw (some_copy c.net.copies at one there, there, beside) refl

pub covers_told : (c : ScriptCluster) (at other : ℕ) (covers : Bool) → Found c.net.copies at other covers → seen_of (compared c at other covers_answer) ≡ Ok (Answered (covers_text covers), c.net)
covers_told c at other covers found =
    ap seen_of (compared_found c at other found.0 found.1 covers_answer found.2 found.3)
    ∙ ap (λ (b : Bool). seen_of (Ok (record { reply = Answered (covers_text b); cluster = c }))) (sym found.4)

pub same_told : (c : ScriptCluster) (at other : ℕ) (covered : Bool) → Found c.net.copies at other true → Found c.net.copies other at covered → seen_of (compared c at other same_answer) ≡ Ok (Answered (same_text covered), c.net)
same_told c at other covered first second =
    let two_is : second.0 ≡ first.1 = one_there c.net.copies other second.0 first.1 second.2 first.3 in
    let one_is : second.1 ≡ first.0 = one_there c.net.copies at second.1 first.0 second.3 first.2 in
    let back : covered ≡ knows_all first.1.ops first.0.ops = subst (λ (x : Log). covered ≡ knows_all x.ops first.0.ops) two_is (subst (λ (y : Log). covered ≡ knows_all second.0.ops y.ops) one_is second.4) in
    ap seen_of (compared_found c at other first.0 first.1 same_answer first.2 first.3)
    ∙ ap (λ (b : Bool). seen_of (Ok (record { reply = Answered (same_text (b && knows_all first.1.ops first.0.ops)); cluster = c }))) (sym first.4)
    ∙ ap (λ (b : Bool). seen_of (Ok (record { reply = Answered (same_text b); cluster = c }))) (sym back)
