-- Two lawful values side by side are lawful.
use Rattle.std.specs.Prelude.{◌≡◌, Bool, true, ◌||◌, List}
use Rattle.std.proofs.Common.{ap}
use Rattle.std.specs.List.{Contains}
use Rattle.std.proofs.lemmas.List.Elements.{Contains-append_left, Contains-append_right}
use Rattle.mapdb_join.specs.Atoms.{IsExclusion, IsUnion, Clashes}
use Rattle.mapdb_join.specs.Both.{has_either, excludes_either, atoms_either, IsPair, IsEitherSpot}
use Rattle.mapdb_join.specs.Lawful.Entries.{contains_mapped}
use Rattle.mapdb_join.specs.declared.both.Both.{Both}
use Rattle.mapdb_join.specs.declared.both.OneOf.{OneOf}
use Rattle.mapdb_join.specs.declared.both.OneOf.TheVariants.{First, Second}

module _ {S T A B : Type 0} {has_first : S → A → Bool} {one : A → A → Type 0}
    {has_second : T → B → Bool} {two : B → B → Type 0} where
  -- the exclusion of both parts is lawful
  pub exclusion_either : IsExclusion has_first one → IsExclusion has_second two →
      IsExclusion (has_either has_first has_second) (excludes_either one two)
  exclusion_either f s = record { symmetric = back; different = other; sound = apart }
    where
      back : (x y : OneOf A B) → excludes_either one two x y → excludes_either one two y x
      back (First x) (First y) h = f.symmetric x y h
      back (Second x) (Second y) h = s.symmetric x y h
      back (First x) (Second y) h = h
      back (Second x) (First y) h = h

      other : (x : OneOf A B) → excludes_either one two x x → ⊥
      other (First x) h = f.different x h
      other (Second x) h = s.different x h

      apart : (a : Both S T) (x y : OneOf A B) → has_either has_first has_second a x ≡ true →
          has_either has_first has_second a y ≡ true → excludes_either one two x y → ⊥
      apart a (First x) (First y) p q h = f.sound a.first x y p q h
      apart a (Second x) (Second y) p q h = s.sound a.second x y p q h
      apart a (First x) (Second y) p q h = h
      apart a (Second x) (First y) p q h = h

module _ {S T A B : Type 0} (has_first : S → A → Bool) (has_second : T → B → Bool) where
  -- each atom of a part stands in the list
  pub finite_either : (one : S → List A) (two : T → List B) →
      ((a : S) (x : A) → has_first a x ≡ true → Contains (one a) x) →
      ((a : T) (x : B) → has_second a x ≡ true → Contains (two a) x) →
      (p : Both S T) (x : OneOf A B) → has_either has_first has_second p x ≡ true →
      Contains (atoms_either one two p) x
  finite_either one two f s p (First x) h =
      Contains-append_left _ _ _ (contains_mapped First (one p.first) x (f p.first x h))
  finite_either one two f s p (Second y) h =
      Contains-append_right _ _ _ (contains_mapped Second (two p.second) y (s p.second y h))

  module _ (one : A → A → Type 0) (two : B → B → Type 0) (is_first : S → Type 0)
      (is_second : T → Type 0) where
    -- two pairs that do not clash have a union
    pub joined_either :
        ((a b : S) → is_first a → is_first b → (Clashes has_first one a b → ⊥) → (c : S) × is_first c × IsUnion has_first a b c) →
        ((a b : T) → is_second a → is_second b → (Clashes has_second two a b → ⊥) → (c : T) × is_second c × IsUnion has_second a b c) →
        (a b : Both S T) → IsPair is_first is_second a → IsPair is_first is_second b →
        (Clashes (has_either has_first has_second) (excludes_either one two) a b → ⊥) →
        (c : Both S T) × IsPair is_first is_second c × IsUnion (has_either has_first has_second) a b c
    joined_either f s a b p q h =
        let c = f a.first b.first p.0 q.0 (λ c. h (record { one = First c.one; other = First c.other; has_one = c.has_one; has_other = c.has_other; apart = c.apart })) in
        let d = s a.second b.second p.1 q.1 (λ c. h (record { one = Second c.one; other = Second c.other; has_one = c.has_one; has_other = c.has_other; apart = c.apart })) in
        (record { first = c.0; second = d.0 }, (c.1, d.1), by_part c.0 d.0 c.2 d.2)
      where
        by_part : (c : S) (d : T) → IsUnion has_first a.first b.first c →
            IsUnion has_second a.second b.second d → (x : OneOf A B) →
            has_either has_first has_second (record { first = c; second = d }) x
            ≡ (has_either has_first has_second a x || has_either has_first has_second b x)
        by_part c d u w (First x) = u x
        by_part c d u w (Second y) = w y

    -- two pairs clash first at one spot
    pub one_either_spot : {P Q : Type 0} (spot : S → S → P → Type 0) (place : T → T → Q → Type 0) →
        ((a b : S) (s t : P) → spot a b s → spot a b t → s ≡ t) →
        ((a b : T) (s t : Q) → place a b s → place a b t → s ≡ t) →
        (a b : Both S T) (s t : OneOf P Q) →
        IsEitherSpot has_first one has_second two spot place a b s →
        IsEitherSpot has_first one has_second two spot place a b t → s ≡ t
    one_either_spot spot place f g a b (First s) (First t) p q =
        ap First (f a.first b.first s t p.1 q.1)
    one_either_spot spot place f g a b (Second s) (Second t) p q =
        ap Second (g a.second b.second s t p.2 q.2)
    one_either_spot spot place f g a b (First s) (Second t) p q = absurd (q.0 p.0)
    one_either_spot spot place f g a b (Second s) (First t) p q = absurd (p.0 q.0)
