-- The keys of a map while entries are merged into it.
use Rattle.std.specs.Prelude.{◌≡◌, ◌⊎◌, Bool, true, false, cond, ◌||◌, List, [], ◌∷◌, Option, Some, None, is_some, refl}
use Rattle.std.proofs.Common.{sym, ◌∙◌, ap, inl, inr}
use Rattle.std.specs.Map.{lookup, keys_of}
use Rattle.std.specs.List.{list_any}
use Rattle.std.specs.declared.cmp.Ordering.{Ordering}
use Rattle.std.specs.Cmp.{both_ways}
use Rattle.std.specs.BTreeMap.{is_at}
use Rattle.std.proofs.lemmas.Bool.{or_cases, or_left, or_right, cases_Bool, true≢false}
use Rattle.mapdb_join.specs.Atoms.{IsSame, IsUnion, IsBetween}
use Rattle.mapdb_join.specs.Entries.{some_has, has_under, holds_key, IsPartMerged}
use Rattle.mapdb_join.proofs.Walking.{Merged, entry_in}

-- the keys of others were merged into those of old, but for those of rest
pub record Keyed {K V A : Type 0} (cmp : K → K → Ordering) (has : V → A → Bool)
    (old others now rest : List (K × V)) : Type 0 where
  pub left : (q : K) → holds_key cmp others q ≡ true →
      (holds_key cmp now q ≡ true) ⊎ (list_any (is_at (cmp q)) (keys_of rest) ≡ true)
  pub part : IsPartMerged cmp has old others now

-- entries of others were merged into old, but for those of rest
pub record Walked {K V A : Type 0} (cmp : K → K → Ordering) (has : V → A → Bool)
    (old others now rest : List (K × V)) : Type 0 where
  pub merged : Merged cmp has old others now rest
  pub keyed : Keyed cmp has old others now rest

pub absorbs : (a b : Bool) → (b ≡ true → a ≡ true) → (a || b) ≡ a
absorbs true b h = refl
absorbs false true h = sym (h refl)
absorbs false false h = refl

-- a test is not both false and true
clashing : (t : Bool) → t ≡ false → t ≡ true → ⊥
clashing t f h = true≢false (sym h ∙ f)

-- where there is no value, it has no atom
nothing_at : {V A : Type 0} (has : V → A → Bool) (o : Option V) (x : A) → is_some o ≡ false →
    some_has has o x ≡ false
nothing_at has None x h = refl
nothing_at has (Some v) x h = absurd (true≢false h)

module _ {K V : Type 0} (cmp : K → K → Ordering) where
  among_at : (b : Bool) (v : V) (o : Option V) (r : Bool) → (is_some o ≡ true → r ≡ true) →
      is_some (cond b (Some v) o) ≡ true → (b || r) ≡ true
  among_at true v o r f h = refl
  among_at false v o r f h = f h

  -- a key of the map is among its keys
  among : (es : List (K × V)) (q : K) → holds_key cmp es q ≡ true →
      list_any (is_at (cmp q)) (keys_of es) ≡ true
  among [] q h = h
  among (e ∷ es) q h =
      among_at (is_at (cmp q) e.0) e.1 (lookup (is_at (cmp q)) es) (list_any (is_at (cmp q)) (keys_of es)) (among es q) h

  at_one : (b : Bool) (v : V) → is_some (cond b (Some v) None) ≡ true → b ≡ true
  at_one true v h = refl
  at_one false v h = h

  -- an entry that was found stands under its key alone
  held_there : ((a b : K) → is_at (cmp a) b ≡ true → a ≡ b) →
      (others : List (K × V)) (e : K × V) (q : K) → lookup (is_at (cmp e.0)) others ≡ Some e.1 →
      is_at (cmp q) e.0 ≡ true → lookup (is_at (cmp q)) others ≡ Some e.1
  held_there exact others e q found h =
      ap (λ k. lookup (is_at (cmp k)) others) (exact q e.0 h) ∙ found

module _ {K V A : Type 0} {cmp : K → K → Ordering} {has : V → A → Bool} where
  pub keyed_first : (old others : List (K × V)) → Keyed cmp has old others old others
  keyed_first old others = record {
    left = λ q h. inr (among cmp others q h);
    part = record {
      keys = record { kept = λ q h. h; within = λ q h. or_left _ _ h };
      whole = λ q x new_key held. absurd (clashing (holds_key cmp old q) new_key held);
    };
  }

  module _ (exact : (a b : K) → is_at (cmp a) b ≡ true → a ≡ b) where
    pub keyed_next : {old others now new : List (K × V)} (e : K × V) (rest : List (K × V)) →
        IsUnion (has_under cmp has) now (e ∷ []) new → IsUnion (holds_key cmp) now (e ∷ []) new →
        lookup (is_at (cmp e.0)) others ≡ Some e.1 → Keyed cmp has old others now (e ∷ rest) →
        Keyed cmp has old others new rest
    keyed_next {old} {others} {now} {new} e rest u k found a = record {
      left = λ q h. elim (a.left q h) [
        | inl p ↦ inl (k q ∙ or_left _ _ p)
        | inr p ↦ elim (or_cases (is_at (cmp q) e.0) (list_any (is_at (cmp q)) (keys_of rest)) p) [
          | inl r ↦ inl (k q ∙ or_right _ _ (ap (λ b. is_some (cond b (Some e.1) None)) r))
          | inr r ↦ inr r
        ]
      ];
      part = record {
        keys = record {
          kept = λ q h. k q ∙ or_left _ _ (a.part.keys.kept q h);
          within = λ q h. elim (or_cases _ _ (sym (k q) ∙ h)) [
            | inl p ↦ a.part.keys.within q p
            | inr p ↦ or_right _ _ (ap is_some (held_there cmp exact others e q found (at_one cmp (is_at (cmp q) e.0) e.1 p)))
          ];
        };
        whole = whole;
      };
    }
      where
        whole : (q : K) (x : A) → holds_key cmp old q ≡ false → holds_key cmp new q ≡ true →
            has_under cmp has new (q, x) ≡ has_under cmp has others (q, x)
        whole q x new_key held = u (q, x) ∙ elim (cases_Bool (holds_key cmp now q)) [
          | inl h ↦ ap (λ t. t || has_under cmp has (e ∷ []) (q, x)) (a.part.whole q x new_key h) ∙ absorbs _ _ (entry_in cmp has exact others e found (q, x))
          | inr h ↦ added h
        ]
          where
            added : holds_key cmp now q ≡ false →
                (has_under cmp has now (q, x) || has_under cmp has (e ∷ []) (q, x))
                ≡ has_under cmp has others (q, x)
            added h = elim (or_cases _ _ (sym (k q) ∙ held)) [
              | inl p ↦ absurd (clashing (holds_key cmp now q) h p)
              | inr p ↦
                  let here = at_one cmp (is_at (cmp q) e.0) e.1 p in
                  ap (λ t. t || has_under cmp has (e ∷ []) (q, x)) (nothing_at has (lookup (is_at (cmp q)) now) x h)
                  ∙ ap (λ b. some_has has (cond b (Some e.1) None) x) here
                  ∙ ap (λ w. some_has has w x) (sym (held_there cmp exact others e q found here))
            ]

    -- an entry that was not merged whole, under a key that the map had, or not at all
    pub part_next : {old others now new : List (K × V)} (e : K × V) (rest : List (K × V)) →
        IsBetween (has_under cmp has) now (e ∷ []) new → IsSame (holds_key cmp) now new →
        lookup (is_at (cmp e.0)) others ≡ Some e.1 → Keyed cmp has old others now (e ∷ rest) →
        IsPartMerged cmp has old others new
    part_next {old} {others} {now} {new} e rest b same found a = record {
      keys = record {
        kept = λ q h. sym (same q) ∙ a.part.keys.kept q h;
        within = λ q h. a.part.keys.within q (same q ∙ h);
      };
      whole = λ q x new_key held.
          let w = a.part.whole q x new_key (same q ∙ held) in
          both_ways _ _
          (λ h. elim (or_cases _ _ (b.within (q, x) h)) [ inl p ↦ sym w ∙ p | inr p ↦ entry_in cmp has exact others e found (q, x) p ])
          (λ h. b.kept (q, x) (w ∙ h));
    }
