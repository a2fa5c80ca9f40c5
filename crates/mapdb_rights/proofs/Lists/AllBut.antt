-- Lists from which some members were left out.
use Rattle.std.proofs.Common.{◌≡◌, Bool, true, false, refl, sym, ◌∙◌, List, [], ◌∷◌, inl, inr}
use Rattle.std.specs.Prelude.{◌⊎◌, ◌&&◌, filter, if◌then◌else◌}
use Rattle.std.proofs.lemmas.Bool.{true≢false}
use Rattle.mapdb_facts.specs.Records.{IsAmong}
use Rattle.mapdb_rights.specs.AllBut.{IsAllBut}

-- what passes a second test too is what passes the first, without those that fail the second
module _ {A : Type 0} (may_go : A → Type 0) (test keep : A → Bool) where
  pub all_but_failing : (all : List A) → ((x : A) → IsAmong x all → test x ≡ true → may_go x ⊎ (keep x ≡ true))
      → IsAllBut may_go (filter test all) (filter (λ x. test x && keep x) all)
  all_but_failing [] each = refl
  all_but_failing (x ∷ all) each = by (test x) refl (keep x) refl (all_but_failing all (λ y k. each y (inr k)))
    where
      by : (t : Bool) → test x ≡ t → (k : Bool) → keep x ≡ k → IsAllBut may_go (filter test all) (filter (λ y. test y && keep y) all)
          → IsAllBut may_go (if t then x ∷ filter test all else filter test all) (if t && k then x ∷ filter (λ y. test y && keep y) all else filter (λ y. test y && keep y) all)
      by false fails k kept rest = rest
      by true passes true kept rest = inr (filter (λ y. test y && keep y) all, refl, rest)
      by true passes false gone rest = elim (each x (inl refl) passes) [
        | inl may ↦ inl (may, rest)
        | inr kept ↦ absurd (true≢false (sym kept ∙ gone))
      ]

-- what may go for one reason may go for another
pub all_but_weaker : {A : Type 0} (may_go may : A → Type 0) → ((x : A) → may_go x → may x) → (all left : List A) → IsAllBut may_go all left → IsAllBut may all left
all_but_weaker may_go may weaker [] left is = is
all_but_weaker may_go may weaker (x ∷ all) left (inl gone) = inl (weaker x gone.0, all_but_weaker may_go may weaker all left gone.1)
all_but_weaker may_go may weaker (x ∷ all) left (inr kept) = inr (kept.0, kept.1, all_but_weaker may_go may weaker all kept.0 kept.2)
