-- The first changes of a record.
use Rattle.std.proofs.Common.{◌≡◌, ℕ, ◌<◌, ◌≤◌, arith, refl, sym, ap, subst, ◌∙◌}
use Rattle.std.specs.Prelude.{Option, None, Some, Bool, true, false, not}
use Rattle.mapdb_fpage.specs.Bounds.{page_limit}
use Rattle.mapdb_fpage.specs.RightSets.{is_empty}
use Rattle.mapdb_lists.specs.declared.changes.Change.{Change}
use Rattle.mapdb_lists.specs.Changes.{IsRewritten, changed, no_change}
use Rattle.mapdb_lists.specs.Replacing.{IsReplaced}
use Rattle.mapdb_lists.proofs.ChangeLemmas.LastChanges.{changed-none}

-- pages of a record without changes got one, which has other rights than what stood before any
pub first_given : (before : Change) (first limit : ℕ) (change : Change) (new : ℕ → Option Change) → first < limit → limit ≤ page_limit
    → (before.rights ≡ change.rights → ⊥) → IsRewritten no_change before first limit before change new
    → IsReplaced no_change before first limit change new (record { end = limit; had_some = Some (not (is_empty before.rights)) })
first_given before first limit change new some inside other given =
    let stands : (page : ℕ) → changed no_change before page ≡ before = λ page. changed-none no_change before page (λ q _. refl) in
    record {
      above = some;
      within = omega arith;
      one = λ q _ _. refl;
      how = record {
        other = λ same. other (sym (ap (λ (c : Change). c.rights) (stands first)) ∙ same);
        given = subst (λ (was : Change). IsRewritten no_change before first limit was change new) (sym (stands first)) given;
        some = λ has. (first, omega (arith, some, inside), ap (λ (c : Change). is_empty c.rights) (stands first) ∙ not_true (is_empty before.rights) has);
        none = λ has page _. ap (λ (c : Change). is_empty c.rights) (stands page) ∙ not_false (is_empty before.rights) has;
      };
    }
  where
    not_true : (b : Bool) → not b ≡ true → b ≡ false
    not_true true is = sym is
    not_true false is = refl

    not_false : (b : Bool) → not b ≡ false → b ≡ true
    not_false true is = refl
    not_false false is = sym is

-- one that has the same rights was not given
pub first_kept : (before : Change) (first limit : ℕ) (change : Change) → first < limit → before.rights ≡ change.rights
    → IsReplaced no_change before first limit change no_change (record { end = limit; had_some = None })
first_kept before first limit change some same = record {
  above = some;
  within = omega arith;
  one = λ q _ _. refl;
  how = record {
    rights = ap (λ (c : Change). c.rights) (changed-none no_change before first (λ q _. refl)) ∙ same;
    same = λ page. refl;
  };
}
