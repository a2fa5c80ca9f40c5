-- One value is lawful.
use Rattle.std.specs.Prelude.{◌≡◌, ◌≢◌, Bool, true, false, ◌||◌, [], ◌∷◌, refl}
use Rattle.std.proofs.Common.{sym, ◌∙◌, ap}
use Rattle.std.specs.Cmp.{IsEquivalence}
use Rattle.std.specs.List.{Contains}
use Rattle.std.proofs.lemmas.Map.Views.{Contains-from_any}
use Rattle.std.proofs.lemmas.Bool.{or_left, true≢false}
use Rattle.mapdb_join.specs.Atoms.{IsExclusion, IsUnion, Clashes}

module _ {T : Type 0} {eq : T → T → Bool} (laws : IsEquivalence eq)
    (exact : (a b : T) → eq a b ≡ true → a ≡ b) where
  -- the exclusion of values is lawful
  pub flat_exclusion : IsExclusion eq (λ x y. x ≢ y)
  flat_exclusion = record {
    symmetric = λ x y apart e. apart (sym e);
    different = λ x apart. apart refl;
    sound = λ a x y p q apart. apart (sym (exact a x p) ∙ exact a y q);
  }

  -- the one atom stands in the list
  pub flat_finite : (a x : T) → eq a x ≡ true → Contains (a ∷ []) x
  flat_finite a x h =
      Contains-from_any exact x (a ∷ []) (or_left (eq x a) false (laws.symm x a ∙ h))

  -- the union of equal values is the value
  flat_union : (a b : T) → (Clashes eq (λ x y. x ≢ y) a b → ⊥) → IsUnion eq a b a
  flat_union a b h x = by_test (eq a b) refl
    where
      twice : (t : Bool) → t ≡ (t || t)
      twice true = refl
      twice false = refl

      by_test : (t : Bool) → eq a b ≡ t → eq a x ≡ (eq a x || eq b x)
      by_test true e = twice (eq a x) ∙ ap (λ y. eq a x || eq y x) (exact a b e)
      by_test false e =
          absurd (h (record { one = a; other = b; has_one = laws.refl a; has_other = laws.refl b; apart = λ p. true≢false (sym (laws.refl a) ∙ ap (eq a) p ∙ e) }))

  -- two values that do not clash have a union
  pub flat_joined : (is_value : T → Type 0) (a b : T) → is_value a → is_value b →
      (Clashes eq (λ x y. x ≢ y) a b → ⊥) → (c : T) × is_value c × IsUnion eq a b c
  flat_joined is_value a b p q h = (a, p, flat_union a b h)
