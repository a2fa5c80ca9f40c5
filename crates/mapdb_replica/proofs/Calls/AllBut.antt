-- Lists from which some members were left out.
use Rattle.std.proofs.Common.{◌≡◌, ℕ, zero, suc, ◌+◌, ◌<◌, Bool, true, false, cond, Some, refl, sym, ap, subst, ◌∙◌, List, [], ◌∷◌, ◌++◌, inl, inr, get_or, length, arith}
use Rattle.std.specs.Prelude.{IfSome, Option, None, count_by, filter, if◌then◌else◌}
use Rattle.std.specs.List.{cons_option, filter_map, flat_map}
use Rattle.std.proofs.lemmas.List.Sums.{sum_by-cons}
use Rattle.mapdb_facts.specs.Records.{IsAmong}
use Rattle.mapdb_rights.specs.AllBut.{IsAllBut}
use Rattle.mapdb_replica.proofs.Copies.AtomLists.{among_filter_map}

-- what stands at a place of a list is one of it
pub among_at : {A : Type 0} → (xs : List A) (i : ℕ) (x : A) → i < length xs → x ≡ get_or xs i x → IsAmong x xs
among_at [] i x within is = absurd (omega arith)
among_at (y ∷ xs) zero x within is = inl (sym is)
among_at (y ∷ xs) (suc i) x within is = inr (among_at xs i x (omega arith) is)

among_step : {A : Type 0} → (test : A → Bool) (y : A) (xs : List A) (x : A) (b : Bool) → (IsAmong x (filter test xs) → IsAmong x xs)
    → IsAmong x (if b then y ∷ filter test xs else filter test xs) → IsAmong x (y ∷ xs)
among_step test y xs x true later (inl e) = inl e
among_step test y xs x true later (inr k) = inr (later k)
among_step test y xs x false later k = inr (later k)

-- what passes is one of all
pub among_filter : {A : Type 0} → (test : A → Bool) (xs : List A) (x : A) → IsAmong x (filter test xs) → IsAmong x xs
among_filter test [] x k = absurd k
among_filter test (y ∷ xs) x k = among_step test y xs x (test y) (among_filter test xs x) k

module _ {A : Type 0} (may_go : A → Type 0) where
  -- none need be left out
  pub all_stay : (xs : List A) → IsAllBut may_go xs xs
  all_stay [] = refl
  all_stay (x ∷ xs) = inr (xs, refl, all_stay xs)

  -- where each may go, all may
  pub all_go : (xs : List A) → ((x : A) → IsAmong x xs → may_go x) → IsAllBut may_go xs []
  all_go [] each = refl
  all_go (x ∷ xs) each = inl (each x (inl refl), all_go xs (λ y k. each y (inr k)))

  -- one list behind the other
  pub all_but-append : (xs ys left more : List A) → IsAllBut may_go xs left → IsAllBut may_go ys more → IsAllBut may_go (xs ++ ys) (left ++ more)
  all_but-append [] ys left more is later = subst (λ (zs : List A). IsAllBut may_go ys (zs ++ more)) (sym is) later
  all_but-append (x ∷ xs) ys left more (inl h) later = inl (h.0, all_but-append xs ys left more h.1 later)
  all_but-append (x ∷ xs) ys left more (inr h) later =
      inr (h.0 ++ more, ap (λ (zs : List A). zs ++ more) h.1, all_but-append xs ys h.0 more h.2 later)

  twice_step : (x : A) (xs rest zs : List A) → ((us : List A) → IsAllBut may_go rest us → IsAllBut may_go xs us) → IsAllBut may_go (x ∷ rest) zs → IsAllBut may_go (x ∷ xs) zs
  twice_step x xs rest zs before (inl h) = inl (h.0, before zs h.1)
  twice_step x xs rest zs before (inr h) = inr (h.0, h.1, before h.0 h.2)

  -- more may be left out later
  pub all_but-twice : (xs ys zs : List A) → IsAllBut may_go xs ys → IsAllBut may_go ys zs → IsAllBut may_go xs zs
  all_but-twice [] ys zs is later = subst (λ (us : List A). IsAllBut may_go us zs) is later
  all_but-twice (x ∷ xs) ys zs (inl h) later = inl (h.0, all_but-twice xs ys zs h.1 later)
  all_but-twice (x ∷ xs) ys zs (inr h) later =
      twice_step x xs h.0 zs (λ us k. all_but-twice xs h.0 us h.2 k) (subst (λ (us : List A). IsAllBut may_go us zs) h.1 later)

  left_step : (x : A) (xs rest : List A) (y : A) → (IsAmong y rest → IsAmong y xs) → IsAmong y (x ∷ rest) → IsAmong y (x ∷ xs)
  left_step x xs rest y before (inl e) = inl e
  left_step x xs rest y before (inr k) = inr (before k)

  -- what is left is one of all
  pub left_among : (xs ys : List A) (y : A) → IsAllBut may_go xs ys → IsAmong y ys → IsAmong y xs
  left_among [] ys y is k = subst (λ (zs : List A). IsAmong y zs) is k
  left_among (x ∷ xs) ys y (inl h) k = inr (left_among xs ys y h.1 k)
  left_among (x ∷ xs) ys y (inr h) k = left_step x xs h.0 y (left_among xs h.0 y h.2) (subst (λ (zs : List A). IsAmong y zs) h.1 k)

module _ {A B : Type 0} (may_go : A → Type 0) (f : A → Option B) where
  -- what is left gives what all give, where what may go gives nothing
  pub all_given : (xs ys : List A) → ((x : A) → IsAmong x xs → may_go x → f x ≡ None) → IsAllBut may_go xs ys → filter_map f ys ≡ filter_map f xs
  all_given [] ys none is = ap (filter_map f) is
  all_given (x ∷ xs) ys none (inl h) =
      all_given xs ys (λ y k. none y (inr k)) h.1 ∙ sym (ap (λ (o : Option B). cons_option o (filter_map f xs)) (none x (inl refl) h.0))
  all_given (x ∷ xs) ys none (inr h) = ap (filter_map f) h.1 ∙ ap (cons_option (f x)) (all_given xs h.0 (λ y k. none y (inr k)) h.2)

module _ {A B : Type 0} (may_go : A → Type 0) (is_old : B → Type 0) where
  option_goes : (o : Option B) (all left : List B) → IfSome o is_old → IsAllBut is_old all left → IsAllBut is_old (cons_option o all) left
  option_goes None all left old later = later
  option_goes (Some b) all left old later = inl (old, later)

  option_stays : (o : Option B) (all left : List B) → IsAllBut is_old all left → IsAllBut is_old (cons_option o all) (cons_option o left)
  option_stays None all left later = later
  option_stays (Some b) all left later = inr (left, refl, later)

  -- what is left gives what all give, but for what is old, where what may go gives only that
  pub all_but-filter_map : (f : A → Option B) (xs ys : List A) → ((x : A) → IsAmong x xs → may_go x → IfSome (f x) is_old) → IsAllBut may_go xs ys
      → IsAllBut is_old (filter_map f xs) (filter_map f ys)
  all_but-filter_map f [] ys old is = ap (filter_map f) is
  all_but-filter_map f (x ∷ xs) ys old (inl h) =
      option_goes (f x) (filter_map f xs) (filter_map f ys) (old x (inl refl) h.0) (all_but-filter_map f xs ys (λ y k. old y (inr k)) h.1)
  all_but-filter_map f (x ∷ xs) ys old (inr h) =
      subst (λ (zs : List A). IsAllBut is_old (cons_option (f x) (filter_map f xs)) (filter_map f zs)) (sym h.1)
      (option_stays (f x) (filter_map f xs) (filter_map f h.0) (all_but-filter_map f xs h.0 (λ y k. old y (inr k)) h.2))

  -- and likewise where each gives a list
  pub all_but-flat_map : (f : A → List B) (xs ys : List A) → ((x : A) → IsAmong x xs → may_go x → IsAllBut is_old (f x) []) → IsAllBut may_go xs ys
      → IsAllBut is_old (flat_map f xs) (flat_map f ys)
  all_but-flat_map f [] ys old is = ap (flat_map f) is
  all_but-flat_map f (x ∷ xs) ys old (inl h) =
      all_but-append is_old (f x) (flat_map f xs) [] (flat_map f ys) (old x (inl refl) h.0) (all_but-flat_map f xs ys (λ y k. old y (inr k)) h.1)
  all_but-flat_map f (x ∷ xs) ys old (inr h) =
      subst (λ (zs : List A). IsAllBut is_old (f x ++ flat_map f xs) (flat_map f zs)) (sym h.1)
      (all_but-append is_old (f x) (flat_map f xs) (f x) (flat_map f h.0) (all_stay is_old (f x)) (all_but-flat_map f xs h.0 (λ y k. old y (inr k)) h.2))

-- where each gives at most what may go, all that is given may
pub given_go : {A B : Type 0} → (is_old : B → Type 0) (f : A → Option B) (xs : List A) → ((x : A) → IsAmong x xs → IfSome (f x) is_old) → IsAllBut is_old (filter_map f xs) []
given_go {A} {B} is_old f xs each =
    all_go is_old (filter_map f xs)
    (λ y k. let from = among_filter_map f xs y k in subst (λ (o : Option B). IfSome o is_old) from.2 (each from.0 from.1))

-- where what is left out fails a test, as many pass
pub count_left : {A : Type 0} → (test : A → Bool) (xs ys : List A) → IsAllBut (λ x. test x ≡ false) xs ys → count_by test xs ≡ count_by test ys
count_left test [] ys is = ap (count_by test) (sym is)
count_left test (x ∷ xs) ys (inl h) =
    let first = sum_by-cons (λ y. cond (test y) 1 0) x xs in
    let fails : cond (test x) 1 0 + count_by test xs ≡ 0 + count_by test xs = ap (λ (b : Bool). cond b 1 0 + count_by test xs) h.0 in
    let later = count_left test xs ys h.1 in
    omega (arith, first, fails, later)
count_left test (x ∷ xs) ys (inr h) =
    let first = sum_by-cons (λ y. cond (test y) 1 0) x xs in
    let again = sum_by-cons (λ y. cond (test y) 1 0) x h.0 in
    let later = count_left test xs h.0 h.2 in
    let same : count_by test ys ≡ count_by test (x ∷ h.0) = ap (count_by test) h.1 in
    omega (arith, first, again, later, same)
