-- Types whose equality is exact.
use Rattle.std.specs.Prelude.{◌≡◌, Bool, true, ◌&&◌}
use Rattle.std.proofs.Common.{◌∙◌}
use Rattle.std.proofs.lemmas.Bool.{and_parts}
use Rattle.std.specs.Ordering.{is_eq}
use Rattle.std.specs.declared.cmp.Ordering.{Ordering}

-- keys that compare alike are one
pub exact_cmp : {K : Type 0} {eq : K → K → Bool} (cmp : K → K → Ordering) →
    ((x y : K) → eq x y ≡ is_eq (cmp x y)) → ((x y : K) → eq x y ≡ true → x ≡ y) →
    (x y : K) → is_eq (cmp x y) ≡ true → x ≡ y
exact_cmp cmp matches exact x y h = exact x y (matches x y ∙ h)

-- pairs of exact parts are exact
pub exact_pair : {A B : Type 0} {one : A → A → Bool} {two : B → B → Bool} →
    ((a b : A) → one a b ≡ true → a ≡ b) → ((a b : B) → two a b ≡ true → a ≡ b) →
    (p q : A × B) → (one p.0 q.0 && two p.1 q.1) ≡ true → p ≡ q
exact_pair {A} {B} {one} {two} first second p q h =
    let r = and_parts (one p.0 q.0) (two p.1 q.1) h in
    let e = first p.0 q.0 r.0 in
    let f = second p.1 q.1 r.1 in
    λ i. (e i, f i)
