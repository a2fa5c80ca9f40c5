-- The recursion is a relation that says who has which right, and every other one is the same.
use Rattle.std.proofs.Common.{◌≡◌, ℕ, zero, suc, ◌<◌, ◌≤◌, Bool, true, false, Some, sym, ◌∙◌, arith, inl, inr}
use Rattle.std.specs.Prelude.{◌&&◌, nat_lt, not}
use Rattle.std.proofs.lemmas.Bool.{and_from, and_parts, cases_Bool, lt-ltb, ltb-true, not-true, not_from_false}
use Rattle.mapdb_fpage.proofs.Booleans.{same_test}
use Rattle.mapdb_fpage.specs.Bounds.{page_limit}
use Rattle.mapdb_fpage.specs.Place.{holds, is_page}
use Rattle.mapdb_fpage.specs.RightSets.{includes}
use Rattle.mapdb_fpage.specs.declared.right_sets.Right.{Right}
use Rattle.mapdb_facts.specs.Names.{is_root}
use Rattle.mapdb_facts.specs.State.{State}
use Rattle.mapdb_facts.specs.declared.names.RecordId.{RecordId}
use Rattle.mapdb_facts.specs.declared.operations.Record.{Record}
use Rattle.mapdb_rights.specs.Relation.{HandsOn, OneRelationSaysWhoHas, SaysWhoHas}
use Rattle.mapdb_rights.specs.Right.{allows, has_right, reaches, source_page}
use Rattle.mapdb_rights.proofs.Rights.Backed.{backing}
use Rattle.mapdb_rights.proofs.Rights.Steps.{has_right-record, has_right-root}

abbrev Has : Type 0
Has = RecordId → ℕ → Right → Bool

-- what a relation says of the root, and of another record
abbrev RootHas : State → RecordId → ℕ → Right → Type 0
RootHas S id page right = (page < page_limit) × (S.is_cut id page right ≡ false)

abbrev ChildHas : State → Has → RecordId → ℕ → Right → Type 0
ChildHas S has id page right =
    (r : Record) × HandsOn S id r page right × (has r.parent (source_page r page) right ≡ true)

root_from : (S : State) (id : RecordId) (page : ℕ) (right : Right) → is_root id ≡ true → has_right S id page right ≡ true → RootHas S id page right
root_from S id page right top has =
    let both = and_parts (is_page page) (not (S.is_cut id page right)) (sym (has_right-root S id page right top) ∙ has) in
    (ltb-true page page_limit both.0, not-true (S.is_cut id page right) both.1)

root_to : (S : State) (id : RecordId) (page : ℕ) (right : Right) → is_root id ≡ true → RootHas S id page right → has_right S id page right ≡ true
root_to S id page right top has =
    has_right-root S id page right top
    ∙ and_from (is_page page) (not (S.is_cut id page right)) (lt-ltb page page_limit has.0) (not_from_false (S.is_cut id page right) has.1)

-- what a record hands on, by the tests of the recursion
handed_from : (S : State) (id : RecordId) (r : Record) (page : ℕ) (right : Right) → S.record_at id ≡ Some r → reaches id r page ≡ true → allows S id r page right ≡ true → HandsOn S id r page right
handed_from S id r page right held reach allowed =
    let place = and_parts (holds r.place page) (nat_lt r.parent.number id.number) reach in
    let all = and_parts (includes r.rights right && not (S.is_cut id page right)) (not (S.is_ended r.space)) allowed in
    let front = and_parts (includes r.rights right) (not (S.is_cut id page right)) all.0 in
    record {
      held = held;
      in_place = place.0;
      named = front.0;
      not_revoked = not-true (S.is_cut id page right) front.1;
      space_lives = not-true (S.is_ended r.space) all.1;
      parent_is_before = ltb-true r.parent.number id.number place.1;
    }

reaches_by : (S : State) (id : RecordId) (r : Record) (page : ℕ) (right : Right) → HandsOn S id r page right → reaches id r page ≡ true
reaches_by S id r page right on =
    and_from (holds r.place page) (nat_lt r.parent.number id.number) on.in_place (lt-ltb r.parent.number id.number on.parent_is_before)

allows_by : (S : State) (id : RecordId) (r : Record) (page : ℕ) (right : Right) → HandsOn S id r page right → allows S id r page right ≡ true
allows_by S id r page right on =
    and_from (includes r.rights right && not (S.is_cut id page right)) (not (S.is_ended r.space))
    (and_from (includes r.rights right) (not (S.is_cut id page right)) on.named (not_from_false (S.is_cut id page right) on.not_revoked))
    (not_from_false (S.is_ended r.space) on.space_lives)

child_from : (S : State) (id : RecordId) (page : ℕ) (right : Right) → is_root id ≡ false → has_right S id page right ≡ true → ChildHas S (has_right S) id page right
child_from S id page right other has =
    let b = backing S id page right other has in
    (b.r, handed_from S id b.r page right b.held b.reach b.allowed, b.parent_has)

child_to : (S : State) (id : RecordId) (page : ℕ) (right : Right) → is_root id ≡ false → ChildHas S (has_right S) id page right → has_right S id page right ≡ true
child_to S id page right other (r, on, parent_has) =
    has_right-record S id r page right other on.held
    ∙ and_from (reaches id r page && allows S id r page right) (has_right S r.parent (source_page r page) right)
    (and_from (reaches id r page) (allows S id r page right) (reaches_by S id r page right on) (allows_by S id r page right on))
    parent_has

recursion_says : (S : State) → SaysWhoHas S (has_right S)
recursion_says S =
    record {
      root = λ id page right top. (root_from S id page right top, root_to S id page right top);
      child = λ id page right other. (child_from S id page right other, child_to S id page right other);
    }

-- Relations that say it are one: a parent has a smaller number.
module _ (S : State) (has other : Has) (says : SaysWhoHas S has) (other_says : SaysWhoHas S other) where
  also_root : (id : RecordId) (page : ℕ) (right : Right) → is_root id ≡ true → has id page right ≡ true → other id page right ≡ true
  also_root id page right top is = (other_says.root id page right top).1 ((says.root id page right top).0 is)

  also_child : (n : ℕ) (id : RecordId) (page : ℕ) (right : Right) → id.number ≤ suc n → is_root id ≡ false
      → ((parent : RecordId) (source : ℕ) → parent.number ≤ n → has parent source right ≡ true → other parent source right ≡ true)
      → ChildHas S has id page right → other id page right ≡ true
  also_child n id page right below is_child up (r, on, parent_has) =
      let before = on.parent_is_before in
      (other_says.child id page right is_child).1 (r, on, up r.parent (source_page r page) (omega arith) parent_has)

  none_below_zero : (id : RecordId) (page : ℕ) (right : Right) → id.number ≤ 0 → ChildHas S has id page right → ⊥
  none_below_zero id page right below (r, on, parent_has) = let before = on.parent_is_before in omega arith

  also_within : (n : ℕ) (id : RecordId) (page : ℕ) (right : Right) → id.number ≤ n → has id page right ≡ true → other id page right ≡ true
  also_within zero id page right below is =
      elim (cases_Bool (is_root id)) [
        | inl top ↦ also_root id page right top is
        | inr is_child ↦ absurd (none_below_zero id page right below ((says.child id page right is_child).0 is))
      ]
  also_within (suc n) id page right below is =
      elim (cases_Bool (is_root id)) [
        | inl top ↦ also_root id page right top is
        | inr is_child ↦
            also_child n id page right below is_child (λ parent source low. also_within n parent source right low)
            ((says.child id page right is_child).0 is)
      ]

also : (S : State) (has other : Has) → SaysWhoHas S has → SaysWhoHas S other → (id : RecordId) (page : ℕ) (right : Right) → has id page right ≡ true → other id page right ≡ true
also S has other says other_says id page right is = also_within S has other says other_says id.number id page right (omega arith) is

pub one_relation_says_who_has : OneRelationSaysWhoHas
one_relation_says_who_has S = (
  recursion_says S,
  λ has says id page right.
      same_test (has id page right) (has_right S id page right) (also S has (has_right S) says (recursion_says S) id page right)
      (also S (has_right S) has (recursion_says S) says id page right),
)
