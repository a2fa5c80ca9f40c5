-- The first record of those that were found to have a right at a page, with one more.
use Rattle.std.proofs.Common.{◌≡◌, ℕ, Bool, true, false, refl, sym, ◌∙◌, inl, inr}
use Rattle.std.specs.Prelude.{◌⊎◌, ◌==◌, ◌||◌, if◌then◌else◌}
use Rattle.std.proofs.lemmas.Bool.{cases_Bool, eqb-true, false≢true, or_left, or_right, true≢false}
use Rattle.mapdb_fpage.specs.RightSets.{includes, union}
use Rattle.mapdb_fpage.specs.declared.right_sets.Right.{Right}
use Rattle.mapdb_fpage.specs.declared.right_sets.Right.TheVariants.{Execute, Read, Write}
use Rattle.mapdb_fpage.specs.declared.right_sets.Rights.{Rights}
use Rattle.mapdb_facts.proofs.RecordLemmas.Ascending.{before_same, before_trans}
use Rattle.mapdb_facts.specs.Names.{is_before}
use Rattle.mapdb_facts.specs.State.{State}
use Rattle.mapdb_facts.specs.declared.names.RecordId.{RecordId}
use Rattle.mapdb_facts.specs.declared.names.Space.{Space}
use Rattle.mapdb_lists.specs.Changes.{PageChanges, seen_in}
use Rattle.mapdb_lists.specs.declared.changes.Change.{Change}
use Rattle.mapdb_rights.specs.Among.{is_shown}
use Rattle.mapdb_rights.specs.First.{AreAsFar, IsBehindFirst, IsFirstFound, both_of, earlier_of, first_where, first_with, rights_joined}
use Rattle.mapdb_rights.specs.Live.{IsLive}
use Rattle.mapdb_rights.specs.declared.index.first_records.First.{First}
use Rattle.mapdb_rights.specs.declared.index.first_records.First.TheVariants.{Alike, Mixed, Nothing}

-- ---- rights of either set

pub union_at : (a b : Rights) (right : Right) → includes (union a b) right ≡ (includes a right || includes b right)
union_at a b Read = refl
union_at a b Write = refl
union_at a b Execute = refl

pub either : (x y : Bool) → (x || y) ≡ true → (x ≡ true) ⊎ (y ≡ true)
either true y h = inl refl
either false y h = inr h

pub of_either : (a b : Rights) (right : Right) → includes (union a b) right ≡ true → (includes a right ≡ true) ⊎ (includes b right ≡ true)
of_either a b right h = either (includes a right) (includes b right) (sym (union_at a b right) ∙ h)

pub in_left : (a b : Rights) (right : Right) → includes a right ≡ true → includes (union a b) right ≡ true
in_left a b right h = union_at a b right ∙ or_left (includes a right) (includes b right) h

pub in_right : (a b : Rights) (right : Right) → includes b right ≡ true → includes (union a b) right ≡ true
in_right a b right h = union_at a b right ∙ or_right (includes a right) (includes b right) h

-- ---- names

-- what does not come before one name does not come before one that comes before it
still_behind : (id first name : RecordId) → is_before name first ≡ false → is_before id first ≡ true → is_before name id ≡ false
still_behind id first name behind before = elim (cases_Bool (is_before name id)) [
  | inl less ↦ absurd (true≢false (sym (before_trans name id first less before) ∙ behind))
  | inr other ↦ other
]

-- ---- one record more

module _ (S : State) (changes : PageChanges) (space : Space) (page : ℕ) where
  abbrev seen : RecordId → Change
  seen id = seen_in changes id page

  found_of : (id : RecordId) (other : RecordId) (change : Change) → IsLive S space page id → IsLive S space page other → (seen other).shift ≡ change.shift
      → IsFirstFound S changes space page (earlier_of other change id (seen id))
  found_of id other change live other_live far = by (is_before id other)
    where
      by : (b : Bool) → IsFirstFound S changes space page (if b then Mixed id (seen id) else Mixed other change)
      by true = (live, refl)
      by false = (other_live, far)

  found_both : (id : RecordId) (other : RecordId) (change : Change) → IsLive S space page id → change.shift ≡ (seen id).shift → IsFirstFound S changes space page (Alike other change)
      → IsFirstFound S changes space page (both_of other change id (seen id))
  found_both id other change live same h = by (is_before id other)
    where
      rights : AreAsFar S changes space page change.shift (union change.rights (seen id).rights)
      rights right has = elim (of_either change.rights (seen id).rights right has) [
        | inl before ↦ h.rights right before
        | inr here ↦ record { id = id; live = live; far = sym same; has = here }
      ]

      by : (b : Bool) → IsFirstFound S changes space page (Alike (if b then id else other) (rights_joined change (seen id)))
      by true = record { live = live; far = sym same; rights = rights }
      by false = record { live = h.live; far = h.far; rights = rights }

  -- what is found stays sound
  found_with : (id : RecordId) (found : First) → IsLive S space page id → IsFirstFound S changes space page found → IsFirstFound S changes space page (first_with id (seen id) found)
  found_with id Nothing live h = record { live = live; far = refl; rights = λ right has. record { id = id; live = live; far = refl; has = has } }
  found_with id (Alike other change) live h = by (change.shift == (seen id).shift) refl
    where
      by : (b : Bool) → (change.shift == (seen id).shift) ≡ b → IsFirstFound S changes space page (if b then both_of other change id (seen id) else earlier_of other change id (seen id))
      by true same = found_both id other change live (eqb-true change.shift (seen id).shift same) h
      by false apart = found_of id other change live h.live h.far
  found_with id (Mixed other change) live h = found_of id other change live h.0 h.1

  pub found_where : (id : RecordId) (found : First) → (is_shown S space page id ≡ true → IsLive S space page id) → IsFirstFound S changes space page found
      → IsFirstFound S changes space page (first_where (is_shown S space page id) id (seen id) found)
  found_where id found live h = by (is_shown S space page id) live
    where
      by : (b : Bool) → (b ≡ true → IsLive S space page id) → IsFirstFound S changes space page (first_where b id (seen id) found)
      by false is = h
      by true is = found_with id found (is refl) h

  -- what did not come before it still does not
  kept_of : (id other name : RecordId) (mine change : Change) → is_before name other ≡ false → IsBehindFirst changes page (earlier_of other change id mine) name
  kept_of id other name mine change behind = by (is_before id other) refl
    where
      by : (b : Bool) → is_before id other ≡ b → IsBehindFirst changes page (if b then Mixed id mine else Mixed other change) name
      by true before = still_behind id other name behind before
      by false before = behind

  kept_both : (id other name : RecordId) (mine change : Change) → IsBehindFirst changes page (Alike other change) name → IsBehindFirst changes page (both_of other change id mine) name
  kept_both id other name mine change h = by (is_before id other) refl
    where
      by : (b : Bool) → is_before id other ≡ b → IsBehindFirst changes page (Alike (if b then id else other) (rights_joined change mine)) name
      by true before = (still_behind id other name h.0 before, h.1, λ right has. in_left change.rights mine.rights right (h.2 right has))
      by false before = (h.0, h.1, λ right has. in_left change.rights mine.rights right (h.2 right has))

  kept_with : (id name : RecordId) (mine : Change) (found : First) → IsBehindFirst changes page found name → IsBehindFirst changes page (first_with id mine found) name
  kept_with id name mine Nothing h = absurd h
  kept_with id name mine (Alike other change) h = by (change.shift == mine.shift)
    where
      by : (b : Bool) → IsBehindFirst changes page (if b then both_of other change id mine else earlier_of other change id mine) name
      by true = kept_both id other name mine change h
      by false = kept_of id other name mine change h.0
  kept_with id name mine (Mixed other change) h = kept_of id other name mine change h

  pub kept_where : (has : Bool) (id name : RecordId) (mine : Change) (found : First) → IsBehindFirst changes page found name → IsBehindFirst changes page (first_where has id mine found) name
  kept_where false id name mine found h = h
  kept_where true id name mine found h = kept_with id name mine found h

  -- nor does the record that comes
  here_of : (id other : RecordId) (change : Change) → IsBehindFirst changes page (earlier_of other change id (seen id)) id
  here_of id other change = by (is_before id other) refl
    where
      by : (b : Bool) → is_before id other ≡ b → IsBehindFirst changes page (if b then Mixed id (seen id) else Mixed other change) id
      by true before = before_same id
      by false before = before

  here_both : (id other : RecordId) (change : Change) → change.shift ≡ (seen id).shift → IsBehindFirst changes page (both_of other change id (seen id)) id
  here_both id other change same = by (is_before id other) refl
    where
      by : (b : Bool) → is_before id other ≡ b → IsBehindFirst changes page (Alike (if b then id else other) (rights_joined change (seen id))) id
      by true before = (before_same id, sym same, λ right has. in_right change.rights (seen id).rights right has)
      by false before = (before, sym same, λ right has. in_right change.rights (seen id).rights right has)

  here_with : (id : RecordId) (found : First) → IsBehindFirst changes page (first_with id (seen id) found) id
  here_with id Nothing = (before_same id, refl, λ right has. has)
  here_with id (Alike other change) = by (change.shift == (seen id).shift) refl
    where
      by : (b : Bool) → (change.shift == (seen id).shift) ≡ b → IsBehindFirst changes page (if b then both_of other change id (seen id) else earlier_of other change id (seen id)) id
      by true same = here_both id other change (eqb-true change.shift (seen id).shift same)
      by false apart = here_of id other change
  here_with id (Mixed other change) = here_of id other change

  pub here_where : (has : Bool) (id : RecordId) (found : First) → has ≡ true → IsBehindFirst changes page (first_where has id (seen id) found) id
  here_where false id found h = absurd (false≢true h)
  here_where true id found h = here_with id found
