-- Two values side by side, part by part.
use Rattle.std.specs.Prelude.{◌≡◌, ◌↔◌, Bool, true, false}
use Rattle.mapdb_join.specs.Atoms.{Includes, HasNone, Clashes}
use Rattle.mapdb_join.specs.Both.{has_either, excludes_either}
use Rattle.mapdb_join.specs.declared.both.Both.{Both}
use Rattle.mapdb_join.specs.declared.both.OneOf.{OneOf}
use Rattle.mapdb_join.specs.declared.both.OneOf.TheVariants.{First, Second}

module _ {S T A B : Type 0} (one : S → A → Bool) (two : T → B → Bool) where
  pub includes_both : (a b : Both S T) →
      (Includes one a.first b.first × Includes two a.second b.second) ↔ Includes (has_either one two) a b
  includes_both a b = (λ h x. by_part h x, λ h. (λ x. h (First x), λ y. h (Second y)))
    where
      by_part : Includes one a.first b.first × Includes two a.second b.second → (x : OneOf A B) →
          has_either one two b x ≡ true → has_either one two a x ≡ true
      by_part h (First x) = h.0 x
      by_part h (Second y) = h.1 y

  pub none_both : (a : Both S T) →
      (HasNone one a.first × HasNone two a.second) ↔ HasNone (has_either one two) a
  none_both a = (λ h x. by_part h x, λ h. (λ x. h (First x), λ y. h (Second y)))
    where
      by_part : HasNone one a.first × HasNone two a.second → (x : OneOf A B) →
          has_either one two a x ≡ false
      by_part h (First x) = h.0 x
      by_part h (Second y) = h.1 y

  module _ (exclude : A → A → Type 0) (exclude_too : B → B → Type 0) where
    pub clash_first : (a b : Both S T) → Clashes one exclude a.first b.first →
        Clashes (has_either one two) (excludes_either exclude exclude_too) a b
    clash_first a b c =
        record { one = First c.one; other = First c.other; has_one = c.has_one; has_other = c.has_other; apart = c.apart }

    pub clash_second : (a b : Both S T) → Clashes two exclude_too a.second b.second →
        Clashes (has_either one two) (excludes_either exclude exclude_too) a b
    clash_second a b c =
        record { one = Second c.one; other = Second c.other; has_one = c.has_one; has_other = c.has_other; apart = c.apart }
