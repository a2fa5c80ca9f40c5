-- What passes a test, of the members of a list.
use Rattle.std.proofs.Common.{◌≡◌, Bool, true, false, refl, sym, ap, subst, ◌∙◌, List, [], ◌∷◌, inl, inr}
use Rattle.std.specs.Prelude.{filter, if◌then◌else◌}
use Rattle.std.proofs.lemmas.Bool.{false≢true}
use Rattle.mapdb_facts.proofs.RecordLemmas.Ascending.{after_at, after_from}
use Rattle.mapdb_facts.specs.Records.{IsAmong, IsAscending}
use Rattle.mapdb_facts.specs.declared.names.RecordId.{RecordId}

module _ {X : Type 0} (test : X → Bool) where
  first_among : (y x : X) (xs : List X) (b : Bool) → test y ≡ b → (IsAmong x (filter test xs) → IsAmong x xs × (test x ≡ true))
      → IsAmong x (if b then y ∷ filter test xs else filter test xs) → IsAmong x (y ∷ xs) × (test x ≡ true)
  first_among y x xs true passes later (inl e) = (inl e, subst (λ (z : X). test z ≡ true) e passes)
  first_among y x xs true passes later (inr k) = let found = later k in (inr found.0, found.1)
  first_among y x xs false fails later k = let found = later k in (inr found.0, found.1)

  -- what is left passes, and was there
  pub filter_among : (xs : List X) (x : X) → IsAmong x (filter test xs) → IsAmong x xs × (test x ≡ true)
  filter_among [] x k = absurd k
  filter_among (y ∷ xs) x k = first_among y x xs (test y) refl (filter_among xs x) k

  among_first : (y x : X) (xs : List X) (b : Bool) → test y ≡ b → test x ≡ true → (IsAmong x xs → IsAmong x (filter test xs))
      → IsAmong x (y ∷ xs) → IsAmong x (if b then y ∷ filter test xs else filter test xs)
  among_first y x xs true is passes later (inl e) = inl e
  among_first y x xs true is passes later (inr k) = inr (later k)
  among_first y x xs false is passes later (inl e) = absurd (false≢true (sym is ∙ ap test e ∙ passes))
  among_first y x xs false is passes later (inr k) = later k

  -- what passes is left
  pub among_filter : (xs : List X) (x : X) → IsAmong x xs → test x ≡ true → IsAmong x (filter test xs)
  among_filter [] x k passes = absurd k
  among_filter (y ∷ xs) x k passes = among_first y x xs (test y) refl passes (λ m. among_filter xs x m passes) k

  -- in the order that it had
  pub ascending_filter : (name : X → RecordId) (xs : List X) → IsAscending name xs → IsAscending name (filter test xs)
  ascending_filter name [] rising = tt
  ascending_filter name (y ∷ xs) rising = by (test y) (ascending_filter name xs rising.1)
    where
      by : (b : Bool) → IsAscending name (filter test xs) → IsAscending name (if b then y ∷ filter test xs else filter test xs)
      by true later = (after_from name (name y) (filter test xs) (λ x k. after_at name (name y) xs x rising.0 (filter_among xs x k).0), later)
      by false later = later
