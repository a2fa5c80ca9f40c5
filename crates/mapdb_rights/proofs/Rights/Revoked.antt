-- What is left of a record that is revoked, or of one and its children: nothing.
use Rattle.std.proofs.Common.{◌≡◌, ℕ, Bool, true, false, Some, refl, sym, ap, ◌∙◌, inl, inr}
use Rattle.std.specs.Prelude.{◌||◌, ◌&&◌, not}
use Rattle.std.proofs.lemmas.Bool.{and_left, and_right, cases_Bool, cond-false, false≢true}
use Rattle.mapdb_fpage.specs.Bounds.{page_limit}
use Rattle.mapdb_fpage.specs.Place.{holds, is_page}
use Rattle.mapdb_fpage.proofs.Parts.{some_page_is_exact}
use Rattle.mapdb_fpage.specs.RightSets.{all_rights, includes, no_rights}
use Rattle.mapdb_fpage.specs.declared.right_sets.Right.{Right}
use Rattle.mapdb_fpage.specs.declared.right_sets.Right.TheVariants.{Execute, Read, Write}
use Rattle.mapdb_facts.proofs.States.Newness.{cut_old}
use Rattle.mapdb_facts.specs.Adding.{is_new, takes_more}
use Rattle.mapdb_facts.specs.Names.{is_root}
use Rattle.mapdb_facts.specs.State.{State, join}
use Rattle.mapdb_facts.specs.declared.operations.Op.TheVariants.{Cut}
use Rattle.mapdb_facts.specs.declared.operations.Record.{Record}
use Rattle.mapdb_facts.specs.declared.operations.Revocation.{Revocation}
use Rattle.mapdb_lists.specs.Changes.{Cached}
use Rattle.mapdb_rights.specs.Right.{allows, reaches, record_right, right_by, source_page}
use Rattle.mapdb_rights.specs.Caching.{IsSettled, rights_from}
use Rattle.mapdb_rights.specs.Revoked.{IsRevoked}
use Rattle.mapdb_rights.proofs.Rights.Settled.{tests}
use Rattle.mapdb_facts.proofs.Maps.CutRuns.{same_where}

module _ (S : State) (r : Record) (revoked : IsRevoked S r) (other : is_root r.id ≡ false) (held : S.record_at r.id ≡ Some r) where
  -- nothing comes from the parent to a page of it
  pub revoked_from : (cached : Cached) (page : ℕ) → holds r.place page ≡ true → rights_from cached S r.id page ≡ no_rights
  revoked_from cached page inside =
      same_where (right_by page_limit (tests cached) S r.id page) (λ _. false) (λ right.
      cond-false (is_root r.id) (is_page page && not (S.is_cut r.id page right)) (record_right (tests cached) S r.id (S.record_at r.id) page right) other
      ∙ ap (λ o. record_right (tests cached) S r.id o page right) held
      ∙ and_left (reaches r.id r page && allows S r.id r page right) (tests cached r.parent (source_page r page) right)
      (and_right (reaches r.id r page) (allows S r.id r page right)
      (and_left (includes r.rights right && not (S.is_cut r.id page right)) (not (S.is_ended r.space))
      (and_right (includes r.rights right) (not (S.is_cut r.id page right)) (ap not (revoked page inside right))))))

  -- what settled stays so, whatever its parent has
  pub revoked_settled : (cached new : Cached) (page : ℕ) → holds r.place page ≡ true → new r.id page ≡ no_rights → IsSettled S new r.id page
  revoked_settled cached new page inside is = is ∙ sym (revoked_from new page inside)

-- what is taken stays taken
pub revoked_later : (S T : State) (r : Record) → IsRevoked S r → IsRevoked (join S T) r
revoked_later S T r revoked page inside right = ap (λ (b : Bool). b || T.is_cut r.id page right) (revoked page inside right)

-- the revocation of all rights from all of a record
abbrev whole_cut : Record → Revocation
whole_cut r = record { target = r.id; part = r.place; rights = all_rights }

includes_all : (right : Right) → includes all_rights right ≡ true
includes_all Read = refl
includes_all Write = refl
includes_all Execute = refl

-- where that is known the record is revoked
pub known_revoked : (S : State) (r : Record) → is_new S (Cut (whole_cut r)) ≡ false → IsRevoked S r
known_revoked S r known page inside right = cut_old S (whole_cut r) known page right inside (includes_all right)

-- and it is known where the record is
pub revoked_known : (S : State) (r : Record) → IsRevoked S r → is_new S (Cut (whole_cut r)) ≡ false
revoked_known S r revoked = elim (cases_Bool (is_new S (Cut (whole_cut r)))) [
  | inr old ↦ old
  | inl new ↦
      let found = (some_page_is_exact r.place (takes_more S (whole_cut r))).0 new in
      absurd (false≢true (sym (λ i. not (not (not (revoked found.0 found.1 Read i) || not (revoked found.0 found.1 Write i) || not (revoked found.0 found.1 Execute i)))) ∙ found.2))
]
