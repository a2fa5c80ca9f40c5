-- Where a record has rights at two pages, its frames there lie as far apart.
use Rattle.std.proofs.Common.{◌≡◌, ℕ, zero, suc, ◌+◌, ◌-◌, ◌≤◌, true, false, Some, sym, ap, subst, ◌∙◌, arith, inl, inr}
use Rattle.std.specs.Prelude.{None, nat_lt, not}
use Rattle.std.proofs.lemmas.Bool.{and_parts, cases_Bool, cond-true}
use Rattle.mapdb_fpage.proofs.Meets.{holds_range}
use Rattle.mapdb_fpage.specs.Place.{holds, is_page}
use Rattle.mapdb_fpage.specs.RightSets.{is_empty}
use Rattle.mapdb_fpage.specs.declared.right_sets.Right.{Right}
use Rattle.mapdb_fpage.specs.declared.right_sets.Rights.{Rights}
use Rattle.mapdb_facts.proofs.Lists.SameNames.{some_same}
use Rattle.mapdb_facts.specs.Names.{is_root}
use Rattle.mapdb_facts.specs.State.{State}
use Rattle.mapdb_facts.specs.declared.names.RecordId.{RecordId}
use Rattle.mapdb_facts.specs.declared.operations.Record.{Record}
use Rattle.mapdb_rights.specs.Frame.{frame_at}
use Rattle.mapdb_rights.specs.Live.{ShowsOn}
use Rattle.mapdb_rights.specs.Right.{has_right, rights_at, source_page}
use Rattle.mapdb_rights.specs.Steady.{frame_on}
use Rattle.mapdb_rights.proofs.Rights.Backed.{Backing, backing}
use Rattle.mapdb_rights.proofs.Settling.Ended.{some_right}
use Rattle.mapdb_rights.proofs.Rights.Steps.{earlier, frame_at-root, has_right-root}
use Rattle.mapdb_rights.proofs.Rights.Walk.{frame_at-up}

abbrev Lies : State → RecordId → ℕ → ℕ → Type 0
Lies S id page count = frame_at S id (page + count) ≡ frame_on count (frame_at S id page)

root_frame : (S : State) (id : RecordId) (page : ℕ) (right : Right) → is_root id ≡ true → has_right S id page right ≡ true → frame_at S id page ≡ Some page
root_frame S id page right top h =
    frame_at-root S id page top ∙ cond-true (is_page page) (Some page) None (and_parts (is_page page) (not (S.is_cut id page right)) (sym (has_right-root S id page right top) ∙ h)).0

lies_root : (S : State) (id : RecordId) (page count : ℕ) (right other : Right) → is_root id ≡ true → has_right S id page right ≡ true → has_right S id (page + count) other ≡ true → Lies S id page count
lies_root S id page count right other top h k = root_frame S id (page + count) other top k ∙ sym (ap (frame_on count) (root_frame S id page right top h))

source_on : (source first page count : ℕ) → first ≤ page → source + (page + count - first) ≡ source + (page - first) + count
source_on source first page count low = omega arith

source_shift : (r : Record) (page count : ℕ) → holds r.place page ≡ true → source_page r (page + count) ≡ source_page r page + count
source_shift r page count inside = source_on r.source r.place.first_page page count (holds_range r.place page inside).0

lies_record : (S : State) (id : RecordId) (page count : ℕ) (right other : Right) → is_root id ≡ false → (b : Backing S id page right) (c : Backing S id (page + count) other)
    → Lies S b.r.parent (source_page b.r page) count → Lies S id page count
lies_record S id page count right other apart b c up =
    let inside = (and_parts (holds b.r.place page) (nat_lt b.r.parent.number id.number) b.reach).0 in
    let same : c.r ≡ b.r = some_same c.r b.r (sym c.held ∙ b.held) in
    let far : frame_at S id (page + count) ≡ frame_at S b.r.parent (source_page b.r (page + count)) =
    frame_at-up S id c.r (page + count) apart c.held c.reach ∙ ap (λ (r : Record). frame_at S r.parent (source_page r (page + count))) same in
    far ∙ ap (frame_at S b.r.parent) (source_shift b.r page count inside) ∙ up ∙ sym (ap (frame_on count) (frame_at-up S id b.r page apart b.held b.reach))

parent_on : (S : State) (id : RecordId) (page count : ℕ) (right other : Right) (b : Backing S id page right) (c : Backing S id (page + count) other)
    → has_right S b.r.parent (source_page b.r page + count) other ≡ true
parent_on S id page count right other b c =
    let inside = (and_parts (holds b.r.place page) (nat_lt b.r.parent.number id.number) b.reach).0 in
    let same : c.r ≡ b.r = some_same c.r b.r (sym c.held ∙ b.held) in
    sym (ap (λ q. has_right S b.r.parent q other) (source_shift b.r page count inside))
    ∙ sym (ap (λ (r : Record). has_right S r.parent (source_page r (page + count)) other) same)
    ∙ c.parent_has

lies_within : (n : ℕ) (S : State) (id : RecordId) (page count : ℕ) (right other : Right) → id.number ≤ n → has_right S id page right ≡ true → has_right S id (page + count) other ≡ true → Lies S id page count
lies_within zero S id page count right other below h k =
    elim (cases_Bool (is_root id)) [
      | inl top ↦ lies_root S id page count right other top h k
      | inr apart ↦ let b = backing S id page right apart h in let lt = earlier id b.r page b.reach in absurd (omega arith)
    ]
lies_within (suc n) S id page count right other below h k =
    elim (cases_Bool (is_root id)) [
      | inl top ↦ lies_root S id page count right other top h k
      | inr apart ↦
          let b = backing S id page right apart h in
          let c = backing S id (page + count) other apart k in
          let lt = earlier id b.r page b.reach in
          lies_record S id page count right other apart b c
          (lies_within n S b.r.parent (source_page b.r page) count right other (omega arith) b.parent_has (parent_on S id page count right other b c))
    ]

-- equal rights go on with frames that rise
pub shows_on : (S : State) (id : RecordId) (page count : ℕ) → rights_at S id (page + count) ≡ rights_at S id page → ShowsOn S id page count
shows_on S id page count same = record {
  rights = same;
  frame = λ some.
      let here = some_right (has_right S id page) some in
      let there = some_right (has_right S id (page + count)) (subst (λ (r : Rights). is_empty r ≡ false) (sym same) some) in
      lies_within id.number S id page count here.0 there.0 (omega arith) here.1 there.1;
}
