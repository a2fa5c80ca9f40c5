-- Rights that follow from the parents' everywhere are the rights: a parent has a smaller number.
use Rattle.std.proofs.Common.{◌≡◌, ℕ, zero, suc, ◌≤◌, Bool, true, refl, sym, ap, ◌∙◌, arith, inl, inr}
use Rattle.std.specs.Prelude.{◌⊎◌, ◌&&◌, not, Option, Some, None, if◌then◌else◌}
use Rattle.std.proofs.lemmas.Bool.{cond-true, cond-false, cases_Bool, false≢true}
use Rattle.mapdb_fpage.proofs.Booleans.{and_same}
use Rattle.mapdb_fpage.specs.Bounds.{page_limit}
use Rattle.mapdb_fpage.specs.Place.{is_page}
use Rattle.mapdb_fpage.specs.RightSets.{includes, rights_where}
use Rattle.mapdb_fpage.specs.declared.right_sets.Right.{Right}
use Rattle.mapdb_fpage.specs.declared.right_sets.Right.TheVariants.{Read, Write, Execute}
use Rattle.mapdb_fpage.specs.RightSets.{same_rights}
use Rattle.mapdb_fpage.specs.RightBits.{exact_rights}
use Rattle.mapdb_facts.specs.Names.{is_root}
use Rattle.mapdb_facts.specs.State.{State}
use Rattle.mapdb_facts.specs.declared.names.RecordId.{RecordId}
use Rattle.mapdb_facts.specs.declared.operations.Record.{Record}
use Rattle.mapdb_lists.specs.Changes.{Cached, covers}
use Rattle.mapdb_rights.specs.Right.{allows, has_right, reaches, record_right, right_by, rights_at, source_page}
use Rattle.mapdb_rights.proofs.Rights.Steps.{earlier, has_right-step}
use Rattle.mapdb_rights.specs.Caching.{AreRights, HasOtherSource, IsSettled, SettledIsExact, SettlingUnsettlesChildren, rights_from}
use Rattle.mapdb_facts.proofs.Maps.CutRuns.{same_where}

pub includes_where : (f : Right → Bool) (right : Right) → includes (rights_where f) right ≡ f right
includes_where f Read = refl
includes_where f Write = refl
includes_where f Execute = refl

-- Only what is asked of the parent at the source page matters.
module _ (f g : RecordId → ℕ → Right → Bool) (S : State) (id : RecordId) (page : ℕ) (right : Right) where
  record_alike : (o : Option Record) → ((r : Record) → o ≡ Some r → reaches id r page ≡ true → f r.parent (source_page r page) right ≡ g r.parent (source_page r page) right)
      → record_right f S id o page right ≡ record_right g S id o page right
  record_alike None same = refl
  record_alike (Some r) same =
      and_same (reaches id r page) (allows S id r page right) (f r.parent (source_page r page) right) (g r.parent (source_page r page) right) (λ h. same r refl h)

  pub by_parent : ((r : Record) → S.record_at id ≡ Some r → reaches id r page ≡ true → f r.parent (source_page r page) right ≡ g r.parent (source_page r page) right)
      → right_by page_limit f S id page right ≡ right_by page_limit g S id page right
  by_parent same = ap (λ v. if is_root id then is_page page && not (S.is_cut id page right) else v) (record_alike (S.record_at id) same)

-- the tests of what is cached
abbrev pub tests : Cached → RecordId → ℕ → Right → Bool
tests cached q s right = includes (cached q s) right

exact_within : (n : ℕ) (S : State) (cached : Cached) → ((id : RecordId) (page : ℕ) → IsSettled S cached id page) → (id : RecordId) (page : ℕ) → id.number ≤ n → cached id page ≡ rights_at S id page
exact_within zero S cached settled id page below =
    settled id page
    ∙ same_where (right_by page_limit (tests cached) S id page) (has_right S id page) (λ right.
    by_parent (tests cached) (has_right S) S id page right (λ r held reach. let lt = earlier id r page reach in absurd (omega arith))
    ∙ sym (has_right-step S id page right))
exact_within (suc n) S cached settled id page below =
    settled id page
    ∙ same_where (right_by page_limit (tests cached) S id page) (has_right S id page) (λ right.
    by_parent (tests cached) (has_right S) S id page right (λ r held reach.
    let lt = earlier id r page reach in
    ap (λ v. includes v right) (exact_within n S cached settled r.parent (source_page r page) (omega arith))
    ∙ includes_where (has_right S r.parent (source_page r page)) right)
    ∙ sym (has_right-step S id page right))

pub settled_is_exact : SettledIsExact
settled_is_exact S cached settled id page = exact_within id.number S cached settled id page (omega arith)

-- rights that stand for a state follow from the parents'
pub exact_is_settled : (S : State) (cached : Cached) → AreRights S cached → (id : RecordId) (page : ℕ) → IsSettled S cached id page
exact_is_settled S cached are id page =
    are id page
    ∙ same_where (has_right S id page) (right_by page_limit (tests cached) S id page) (λ right.
    has_right-step S id page right
    ∙ by_parent (has_right S) (tests cached) S id page right (λ r held reach.
    sym (ap (λ v. includes v right) (are r.parent (source_page r page)) ∙ includes_where (has_right S r.parent (source_page r page)) right)))

-- What is taken anew over some pages.
module _ (S : State) (cached new : Cached) (id : RecordId) (page : ℕ) where
  same_source : ((r : Record) → S.record_at id ≡ Some r → reaches id r page ≡ true → new r.parent (source_page r page) ≡ cached r.parent (source_page r page))
      → rights_from new S id page ≡ rights_from cached S id page
  same_source same =
      same_where (right_by page_limit (tests new) S id page) (right_by page_limit (tests cached) S id page) (λ right.
      by_parent (tests new) (tests cached) S id page right (λ r held reach. ap (λ v. includes v right) (same r held reach)))

  abbrev Follows : Type 0
  Follows = (rights_from new S id page ≡ rights_from cached S id page) ⊎ HasOtherSource S cached new id page

  follows_at : (r : Record) → S.record_at id ≡ Some r → Follows
  follows_at r held =
      elim (cases_Bool (reaches id r page)) [
        | inr out ↦ inl (same_source (λ s other reach. absurd (false≢true (sym out ∙ ap (λ (o : Record). reaches id o page) (some_same r s (sym held ∙ other)) ∙ reach))))
        | inl reach ↦ elim (cases_Bool (same_rights (new r.parent (source_page r page)) (cached r.parent (source_page r page)))) [
          | inr other ↦ inr (r, held, reach, other)
          | inl same ↦ inl (same_source (λ s other _.
              let e = some_same r s (sym held ∙ other) in
              sym (ap (λ (o : Record). new o.parent (source_page o page)) e)
              ∙ exact_rights (new r.parent (source_page r page)) (cached r.parent (source_page r page)) same
              ∙ ap (λ (o : Record). cached o.parent (source_page o page)) e))
        ]
      ]
    where
      some_same : (r s : Record) → Some r ≡ Some s → r ≡ s
      some_same r s e = cc

  follows_of : (o : Option Record) → S.record_at id ≡ o → Follows
  follows_of None none = inl (same_source (λ r held _. absurd (none_some r (sym none ∙ held))))
    where
      none_some : (r : Record) → None ≡ Some r → ⊥
      none_some r e = cc
  follows_of (Some r) held = follows_at r held

  pub follows : Follows
  follows = follows_of (S.record_at id) refl

pub settling_unsettles_children : SettlingUnsettlesChildren
settling_unsettles_children S cached new id first end taken other page before =
    elim (follows S cached new other page) [
      | inr unsettled ↦ inr unsettled
      | inl same ↦ elim (cases_Bool (covers id first end other page)) [
        | inl inside ↦ inl (taken other page ∙ cond-true (covers id first end other page) (rights_from cached S other page) (cached other page) inside ∙ sym same)
        | inr outside ↦ elim before [
          | inl settled ↦ inl (taken other page ∙ cond-false (covers id first end other page) (rights_from cached S other page) (cached other page) outside ∙ settled ∙ sym same)
          | inr inside ↦ absurd (false≢true (sym outside ∙ inside))
        ]
      ]
    ]
