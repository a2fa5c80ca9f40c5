-- What is new has an atom that the state lacks; what is not new adds nothing.
use Rattle.std.proofs.Common.{◌≡◌, ℕ, Bool, true, false, Some, refl, sym, ap, subst, ◌∙◌, inl, inr}
use Rattle.std.specs.Prelude.{◌&&◌, ◌↔◌, not, Option, None, if◌then◌else◌}
use Rattle.std.proofs.lemmas.Bool.{and_parts, and_from, cases_Bool, cond-false, false≢true}
use mathlib.Core.Bool.{or-false}
use Rattle.mapdb_fpage.specs.declared.right_sets.Right.{Right}
use Rattle.mapdb_fpage.specs.declared.right_sets.Right.TheVariants.{Execute, Read, Write}
use Rattle.mapdb_fpage.specs.declared.right_sets.Rights.{Rights}
use Rattle.mapdb_fpage.specs.Place.{holds}
use Rattle.mapdb_fpage.specs.RightSets.{includes, without}
use Rattle.mapdb_fpage.proofs.Parts.{some_page_is_exact}
use Rattle.mapdb_fpage.proofs.RightLemmas.{some_here, some_of}
use Rattle.mapdb_facts.specs.declared.names.RecordId.{RecordId}
use Rattle.mapdb_facts.specs.declared.names.Space.{Space}
use Rattle.mapdb_facts.specs.declared.operations.Op.{Op}
use Rattle.mapdb_facts.specs.declared.operations.Op.TheVariants.{Born, Closed, Cut}
use Rattle.mapdb_facts.specs.declared.operations.Record.{Record}
use Rattle.mapdb_facts.specs.declared.operations.Revocation.{Revocation}
use Rattle.mapdb_facts.specs.Adding.{cut_at, is_held, is_new, takes_more}
use Rattle.mapdb_facts.specs.Names.{same_id, same_space}
use Rattle.mapdb_facts.specs.State.{Atom, End, Gives, Has, Rec, Rev, State, cuts, first_of, join, said}
use Rattle.mapdb_facts.proofs.Maps.Atoms.{same_state}
use Rattle.mapdb_facts.specs.Exact.{exact_record}
use Rattle.mapdb_facts.proofs.RecordLemmas.SameRecords.{same_record_itself}
use Rattle.mapdb_facts.proofs.Lists.SameNames.{same_id_itself, same_id_true, same_space_true}
use Rattle.mapdb_join.proofs.Keyed.{absorbs}

pub first_of_none : (o : Option Record) → first_of o None ≡ o
first_of_none (Some r) = refl
first_of_none None = refl

first_of_held : (o x : Option Record) (r : Record) → is_held o r ≡ true → first_of o x ≡ o
first_of_held (Some s) x r h = refl
first_of_held None x r h = absurd (false≢true h)

pub not_not : (b : Bool) → not b ≡ false → b ≡ true
not_not true h = refl
not_not false h = sym h

pub without_is : (a b : Rights) (right : Right) → includes (without a b) right ≡ (includes a right && not (includes b right))
without_is a b Read = refl
without_is a b Write = refl
without_is a b Execute = refl

cut_is : (S : State) (id : RecordId) (page : ℕ) (right : Right) → includes (cut_at S id page) right ≡ S.is_cut id page right
cut_is S id page Read = refl
cut_is S id page Write = refl
cut_is S id page Execute = refl

left_is : (S : State) (cut : Revocation) (page : ℕ) (right : Right) → includes (without cut.rights (cut_at S cut.target page)) right ≡ (includes cut.rights right && not (S.is_cut cut.target page right))
left_is S cut page right = without_is cut.rights (cut_at S cut.target page) right ∙ ap (λ b. includes cut.rights right && not b) (cut_is S cut.target page right)

pub cut_old : (S : State) (cut : Revocation) → is_new S (Cut cut) ≡ false → (page : ℕ) (right : Right) → holds cut.part page ≡ true → includes cut.rights right ≡ true → S.is_cut cut.target page right ≡ true
cut_old S cut old page right there named =
    elim (cases_Bool (S.is_cut cut.target page right)) [
      | inl yet ↦ yet
      | inr uncut ↦
          let has : includes (without cut.rights (cut_at S cut.target page)) right ≡ true = left_is S cut page right ∙ and_from (includes cut.rights right) (not (S.is_cut cut.target page right)) named (ap not uncut) in
          absurd (false≢true (sym old ∙ (some_page_is_exact cut.part (takes_more S cut)).1 (page, there, ap not (some_here (without cut.rights (cut_at S cut.target page)) right has))))
    ]

-- an operation that is not new adds nothing
pub said_old : (S : State) (op : Op) → is_new S op ≡ false → join S (said op) ≡ S
said_old S (Born r) old =
    same_state (join S (said (Born r))) S
    (λ id. elim (cases_Bool (same_id r.id id)) [
      | inl hit ↦ first_of_held (S.record_at id) (if same_id r.id id then Some r else None) r (subst (λ (x : RecordId). is_held (S.record_at x) r ≡ true) (same_id_true r.id id hit) (not_not _ old))
      | inr miss ↦ ap (first_of (S.record_at id)) (cond-false (same_id r.id id) (Some r) None miss) ∙ first_of_none (S.record_at id)
    ])
    (λ id page right. or-false (S.is_cut id page right))
    (λ space. or-false (S.is_ended space))
said_old S (Cut cut) old =
    same_state (join S (said (Cut cut))) S
    (λ id. first_of_none (S.record_at id))
    (λ id page right. absorbs (S.is_cut id page right) (cuts cut id page right)
    (λ h. let parts = and_parts (same_id cut.target id && holds cut.part page) (includes cut.rights right) h in
    let where_is = and_parts (same_id cut.target id) (holds cut.part page) parts.0 in
    subst (λ (x : RecordId). S.is_cut x page right ≡ true) (same_id_true cut.target id where_is.0) (cut_old S cut old page right where_is.1 parts.1)))
    (λ space. or-false (S.is_ended space))
said_old S (Closed space) old =
    same_state (join S (said (Closed space))) S
    (λ id. first_of_none (S.record_at id))
    (λ id page right. or-false (S.is_cut id page right))
    (λ other. absorbs (S.is_ended other) (same_space space other)
    (λ h. subst (λ (x : Space). S.is_ended x ≡ true) (same_space_true space other h) (not_not (S.is_ended space) old)))

-- what is said of the same record is the same
held_by : (o : Option Record) (r : Record) → is_held o r ≡ true → o ≡ Some r
held_by None r h = absurd (false≢true h)
held_by (Some s) r h = ap Some (exact_record s r h)

held_from : (o : Option Record) (r : Record) → o ≡ Some r → is_held o r ≡ true
held_from o r e = ap (λ (x : Option Record). is_held x r) e ∙ same_record_itself r

pub not_true : (b : Bool) → not b ≡ true → b ≡ false
not_true true h = absurd (false≢true h)
not_true false h = refl

not_where : (b : Bool) → (b ≡ true → ⊥) → not b ≡ true
not_where true h = absurd (h refl)
not_where false h = refl

new_atom : (S : State) (op : Op) → is_new S op ≡ true → (atom : Atom) × Gives op atom × (Has S atom → ⊥)
new_atom S (Born r) new = (Rec r, refl, λ held. false≢true (sym (not_true _ new) ∙ held_from (S.record_at r.id) r held))
new_atom S (Cut cut) new =
    let found = (some_page_is_exact cut.part (takes_more S cut)).0 new in
    let left = some_of (without cut.rights (cut_at S cut.target found.0)) (not_true _ found.2) in
    let parts = and_parts (includes cut.rights left.0) (not (S.is_cut cut.target found.0 left.0)) (sym (left_is S cut found.0 left.0) ∙ left.1) in (
      Rev cut.target found.0 left.0,
      and_from (same_id cut.target cut.target && holds cut.part found.0) (includes cut.rights left.0) (and_from (same_id cut.target cut.target) (holds cut.part found.0) (same_id_itself cut.target) found.1) parts.0,
      λ held. false≢true (sym (not_true _ parts.1) ∙ held),
    )
new_atom S (Closed space) new = (End space, refl, λ held. false≢true (sym (not_true _ new) ∙ held))

atom_new : (S : State) (op : Op) (atom : Atom) → Gives op atom → (Has S atom → ⊥) → is_new S op ≡ true
atom_new S (Born r) (Rec s) gives lacks =
    not_where (is_held (S.record_at r.id) r) (λ held. lacks (subst (λ (x : Record). S.record_at x.id ≡ Some x) gives (held_by (S.record_at r.id) r held)))
atom_new S (Born r) (Rev id page right) gives lacks = absurd gives
atom_new S (Born r) (End space) gives lacks = absurd gives
atom_new S (Cut cut) (Rec s) gives lacks = absurd gives
atom_new S (Cut cut) (Rev id page right) gives lacks =
    elim (cases_Bool (is_new S (Cut cut))) [
      | inl new ↦ new
      | inr old ↦
          let parts = and_parts (same_id cut.target id && holds cut.part page) (includes cut.rights right) gives in
          let where_is = and_parts (same_id cut.target id) (holds cut.part page) parts.0 in
          absurd (lacks (subst (λ (x : RecordId). S.is_cut x page right ≡ true) (same_id_true cut.target id where_is.0) (cut_old S cut old page right where_is.1 parts.1)))
    ]
atom_new S (Cut cut) (End space) gives lacks = absurd gives
atom_new S (Closed space) (Rec s) gives lacks = absurd gives
atom_new S (Closed space) (Rev id page right) gives lacks = absurd gives
atom_new S (Closed space) (End other) gives lacks =
    not_where (S.is_ended space) (λ held. lacks (subst (λ (x : Space). S.is_ended x ≡ true) gives held))

pub new_is_exact : (S : State) (op : Op) → (is_new S op ≡ true) ↔ ((atom : Atom) × Gives op atom × (Has S atom → ⊥))
new_is_exact S op = (new_atom S op, λ h. atom_new S op h.0 h.1 h.2)
