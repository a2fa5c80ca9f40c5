-- Lists in ascending order with the same members are one list.
use Rattle.std.proofs.Common.{◌≡◌, true, refl, sym, subst, ◌∙◌, List, [], ◌∷◌, inl, inr}
use Rattle.std.proofs.lemmas.Bool.{false≢true}
use Rattle.mapdb_facts.specs.declared.names.RecordId.{RecordId}
use Rattle.mapdb_facts.specs.Names.{is_before}
use Rattle.mapdb_facts.specs.Records.{IsAmong, IsAscending}
use Rattle.mapdb_facts.proofs.RecordLemmas.Ascending.{after_at, before_back, before_same}

-- both lists have the same members
pub record SameMembers {X : Type 0} (xs ys : List X) : Type 0 where
  pub to : (x : X) → IsAmong x xs → IsAmong x ys
  pub from : (x : X) → IsAmong x ys → IsAmong x xs

module _ {X : Type 0} (name : X → RecordId) where
  same_head : (x y : X) (xs ys : List X) → IsAscending name (x ∷ xs) → IsAscending name (y ∷ ys) → IsAmong x (y ∷ ys) → IsAmong y (x ∷ xs)
      → x ≡ y
  same_head x y xs ys rising rising' (inl e) k = sym e
  same_head x y xs ys rising rising' (inr h) (inl e) = e
  same_head x y xs ys rising rising' (inr h) (inr k) =
      absurd (false≢true (sym (before_back (name x) (name y) (after_at name (name x) xs y rising.0 k))
      ∙ after_at name (name y) ys x rising'.0 h))

  -- a later member is not the first
  later_among : (x y z : X) (xs ys : List X) → x ≡ y → IsAscending name (x ∷ xs) → IsAmong z xs → IsAmong z (y ∷ ys) → IsAmong z ys
  later_among x y z xs ys head rising k (inr h) = h
  later_among x y z xs ys head rising k (inl e) =
      absurd (false≢true (sym (before_same (name z))
      ∙ subst (λ w. is_before (name w) (name z) ≡ true) (head ∙ e) (after_at name (name x) xs z rising.0 k)))

  pub same_lists : (xs ys : List X) → IsAscending name xs → IsAscending name ys → SameMembers xs ys → xs ≡ ys
  same_lists [] [] rising rising' same = refl
  same_lists [] (y ∷ ys) rising rising' same = absurd (same.from y (inl refl))
  same_lists (x ∷ xs) [] rising rising' same = absurd (same.to x (inl refl))
  same_lists (x ∷ xs) (y ∷ ys) rising rising' same =
      let head : x ≡ y = same_head x y xs ys rising rising' (same.to x (inl refl)) (same.from y (inl refl)) in
      let tail : xs ≡ ys = same_lists xs ys rising.1 rising'.1 (record {
        to = λ z k. later_among x y z xs ys head rising k (same.to z (inr k));
        from = λ z k. later_among y x z ys xs (sym head) rising' k (same.from z (inr k));
      }) in
      λ i. head i ∷ tail i
