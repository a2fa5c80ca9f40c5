-- The recursion is a relation that says which frame is reached, and every other one is the same.
use Rattle.std.proofs.Common.{◌≡◌, ℕ, zero, suc, ◌<◌, ◌≤◌, Bool, true, false, Some, refl, sym, ap, ◌∙◌, arith, inl, inr}
use Rattle.std.specs.Prelude.{nat_lt, Option, None, if◌then◌else◌}
use Rattle.std.proofs.lemmas.Bool.{and_from, and_parts, cases_Bool, cond-true, lt-ltb, ltb-true}
use Rattle.mapdb_fpage.specs.Bounds.{page_limit}
use Rattle.mapdb_fpage.specs.Place.{holds, is_page}
use Rattle.mapdb_facts.specs.Names.{is_root}
use Rattle.mapdb_facts.specs.State.{State}
use Rattle.mapdb_facts.specs.declared.names.RecordId.{RecordId}
use Rattle.mapdb_facts.specs.declared.operations.Record.{Record}
use Rattle.mapdb_rights.specs.Frame.{frame_at}
use Rattle.mapdb_rights.specs.Relation.{LeadsOn, OneRelationSaysFrames, SaysFrames}
use Rattle.mapdb_rights.specs.Right.{reaches, source_page}
use Rattle.mapdb_rights.proofs.Rights.Steps.{frame_at-none, frame_at-record, frame_at-root}

abbrev Reached : Type 0
Reached = RecordId → ℕ → Option ℕ

-- what a relation says of the root, and of another record
abbrev RootReaches : ℕ → ℕ → Type 0
RootReaches page frame = (page < page_limit) × (frame ≡ page)

abbrev ChildReaches : State → Reached → RecordId → ℕ → ℕ → Type 0
ChildReaches S reached id page frame =
    (r : Record) × LeadsOn S id r page × (reached r.parent (source_page r page) ≡ Some frame)

pub none_some : (frame : ℕ) → None ≡ Some frame → ⊥
none_some frame e = cc

pub some_number : (x y : ℕ) → Some x ≡ Some y → x ≡ y
some_number x y e = cc

-- a frame behind a test
behind_test : (test : Bool) (inner : Option ℕ) (frame : ℕ) → (if test then inner else None) ≡ Some frame → (test ≡ true) × (inner ≡ Some frame)
behind_test true inner frame e = (refl, e)
behind_test false inner frame e = absurd (none_some frame e)

root_from : (S : State) (id : RecordId) (page frame : ℕ) → is_root id ≡ true → frame_at S id page ≡ Some frame → RootReaches page frame
root_from S id page frame top is =
    let both = behind_test (is_page page) (Some page) frame (sym (frame_at-root S id page top) ∙ is) in
    (ltb-true page page_limit both.0, sym (some_number page frame both.1))

root_to : (S : State) (id : RecordId) (page frame : ℕ) → is_root id ≡ true → RootReaches page frame → frame_at S id page ≡ Some frame
root_to S id page frame top is =
    frame_at-root S id page top ∙ cond-true (is_page page) (Some page) None (lt-ltb page page_limit is.0) ∙ ap (λ (p : ℕ). Some p) (sym is.1)

child_held : (S : State) (id : RecordId) (page frame : ℕ) (o : Option Record) → S.record_at id ≡ o → is_root id ≡ false → frame_at S id page ≡ Some frame → ChildReaches S (frame_at S) id page frame
child_held S id page frame None held other is = absurd (none_some frame (sym (frame_at-none S id page other held) ∙ is))
child_held S id page frame (Some r) held other is =
    let up = behind_test (reaches id r page) (frame_at S r.parent (source_page r page)) frame (sym (frame_at-record S id r page other held) ∙ is) in
    let place = and_parts (holds r.place page) (nat_lt r.parent.number id.number) up.0 in
    (r, record { held = held; in_place = place.0; parent_is_before = ltb-true r.parent.number id.number place.1 }, up.1)

child_from : (S : State) (id : RecordId) (page frame : ℕ) → is_root id ≡ false → frame_at S id page ≡ Some frame → ChildReaches S (frame_at S) id page frame
child_from S id page frame other is = child_held S id page frame (S.record_at id) refl other is

reaches_by : (S : State) (id : RecordId) (r : Record) (page : ℕ) → LeadsOn S id r page → reaches id r page ≡ true
reaches_by S id r page on =
    and_from (holds r.place page) (nat_lt r.parent.number id.number) on.in_place (lt-ltb r.parent.number id.number on.parent_is_before)

child_to : (S : State) (id : RecordId) (page frame : ℕ) → is_root id ≡ false → ChildReaches S (frame_at S) id page frame → frame_at S id page ≡ Some frame
child_to S id page frame other (r, on, parent_reaches) =
    frame_at-record S id r page other on.held
    ∙ cond-true (reaches id r page) (frame_at S r.parent (source_page r page)) None (reaches_by S id r page on)
    ∙ parent_reaches

recursion_says : (S : State) → SaysFrames S (frame_at S)
recursion_says S =
    record {
      root = λ id page frame top. (root_from S id page frame top, root_to S id page frame top);
      child = λ id page frame other. (child_from S id page frame other, child_to S id page frame other);
    }

-- Relations that say it are one: a parent has a smaller number.
module _ (S : State) (reached other : Reached) (says : SaysFrames S reached) (other_says : SaysFrames S other) where
  also_root : (id : RecordId) (page frame : ℕ) → is_root id ≡ true → reached id page ≡ Some frame → other id page ≡ Some frame
  also_root id page frame top is = (other_says.root id page frame top).1 ((says.root id page frame top).0 is)

  also_child : (n : ℕ) (id : RecordId) (page frame : ℕ) → id.number ≤ suc n → is_root id ≡ false
      → ((parent : RecordId) (source : ℕ) → parent.number ≤ n → reached parent source ≡ Some frame → other parent source ≡ Some frame)
      → ChildReaches S reached id page frame → other id page ≡ Some frame
  also_child n id page frame below is_child up (r, on, parent_reaches) =
      let before = on.parent_is_before in
      (other_says.child id page frame is_child).1 (r, on, up r.parent (source_page r page) (omega arith) parent_reaches)

  none_below_zero : (id : RecordId) (page frame : ℕ) → id.number ≤ 0 → ChildReaches S reached id page frame → ⊥
  none_below_zero id page frame below (r, on, parent_reaches) = let before = on.parent_is_before in omega arith

  also_within : (n : ℕ) (id : RecordId) (page frame : ℕ) → id.number ≤ n → reached id page ≡ Some frame → other id page ≡ Some frame
  also_within zero id page frame below is =
      elim (cases_Bool (is_root id)) [
        | inl top ↦ also_root id page frame top is
        | inr is_child ↦ absurd (none_below_zero id page frame below ((says.child id page frame is_child).0 is))
      ]
  also_within (suc n) id page frame below is =
      elim (cases_Bool (is_root id)) [
        | inl top ↦ also_root id page frame top is
        | inr is_child ↦
            also_child n id page frame below is_child (λ parent source low. also_within n parent source frame low)
            ((says.child id page frame is_child).0 is)
      ]

also : (S : State) (reached other : Reached) → SaysFrames S reached → SaysFrames S other → (id : RecordId) (page frame : ℕ) → reached id page ≡ Some frame → other id page ≡ Some frame
also S reached other says other_says id page frame is = also_within S reached other says other_says id.number id page frame (omega arith) is

-- what has the same values, each way, is the same
same_value : (x y : Option ℕ) → ((v : ℕ) → x ≡ Some v → y ≡ Some v) → ((v : ℕ) → y ≡ Some v → x ≡ Some v) → x ≡ y
same_value (Some v) y to from = sym (to v refl)
same_value None (Some v) to from = from v refl
same_value None None to from = refl

pub one_relation_says_frames : OneRelationSaysFrames
one_relation_says_frames S = (
  recursion_says S,
  λ reached says id page.
      same_value (reached id page) (frame_at S id page) (also S reached (frame_at S) says (recursion_says S) id page)
      (also S (frame_at S) reached (recursion_says S) says id page),
)
