-- The words of near names, where a list is added or a word is written.
use Rattle.std.proofs.Common.{◌≡◌, ℕ, zero, suc, ◌<◌, List, [], ◌∷◌, length, set, get_or, refl, ap, sym, subst, ◌∙◌, Bool, true, false, cond, inl, inr, arith}
use Rattle.std.specs.Prelude.{◌==◌, ◌&&◌, ◌++◌, ◌≤◌, slice_get, slice_index}
use Rattle.std.specs.Global.{Vec}
use Rattle.std.proofs.lemmas.Bool.{and_right, cases_Bool, cond-false, eqb-false, eqb-true}
use Rattle.mapdb_facts.specs.Names.{number_limit, same_id}
use Rattle.mapdb_facts.specs.declared.names.RecordId.{RecordId}
use Rattle.mapdb_facts.specs.NamePlaces.{AreShort, near_word, words_in}

-- ---- an empty list more

-- ---- a list is written

words_here : (near : List (Vec ℕ)) (new : Vec ℕ) (p : ℕ) → p < length near → words_in (slice_get (set near p new) p) ≡ new.items
words_here [] new p within = absurd (omega (arith, within))
words_here (words ∷ near) new zero within = refl
words_here (words ∷ near) new (suc p) within = words_here near new p (omega (arith, within))

words_there : (near : List (Vec ℕ)) (new : Vec ℕ) (p q : ℕ) → (p ≡ q → ⊥) → words_in (slice_get (set near p new) q) ≡ words_in (slice_get near q)
words_there [] new p q apart = refl
words_there (words ∷ near) new zero zero apart = absurd (apart refl)
words_there (words ∷ near) new zero (suc q) apart = refl
words_there (words ∷ near) new (suc p) zero apart = refl
words_there (words ∷ near) new (suc p) (suc q) apart = words_there near new p q (λ e. apart (ap suc e))

words_was : (near : List (Vec ℕ)) (p : ℕ) (was : Vec ℕ) → p < length near → was ≡ get_or near p was → words_in (slice_get near p) ≡ was.items
words_was [] p was within is = absurd (omega (arith, within))
words_was (words ∷ near) zero was within is = ap (λ (w : Vec ℕ). w.items) (sym is)
words_was (words ∷ near) (suc p) was within is = words_was near p was (omega (arith, within)) is

and_true : (a b : Bool) → b ≡ true → a ≡ (a && b)
and_true true b e = sym e
and_true false b e = refl

-- the list of a processor is written, and each other stays
module _ (near : List (Vec ℕ)) (was new : Vec ℕ) (id : RecordId)
    (within : id.processor < length near) (is : was ≡ get_or near id.processor was) where
  written_here : (q : RecordId) → id.processor ≡ q.processor → near_word (set near id.processor new) q ≡ slice_index new.items q.number
  written_here q same = ap (λ p. slice_index (words_in (slice_get (set near id.processor new) p)) q.number) (sym same)
      ∙ ap (λ words. slice_index words q.number) (words_here near new id.processor within)

  was_here : (q : RecordId) → id.processor ≡ q.processor → near_word near q ≡ slice_index was.items q.number
  was_here q same = ap (λ p. slice_index (words_in (slice_get near p)) q.number) (sym same)
      ∙ ap (λ words. slice_index words q.number) (words_was near id.processor was within is)

  written_there : (q : RecordId) → (id.processor ≡ q.processor → ⊥) → near_word (set near id.processor new) q ≡ near_word near q
  written_there q apart = ap (λ words. slice_index words q.number) (words_there near new id.processor q.processor apart)

  -- a word is written in that list
  pub near_written : (word : ℕ) → ((n : ℕ) → slice_index new.items n ≡ cond (id.number == n) word (slice_index was.items n))
      → (q : RecordId) → near_word (set near id.processor new) q ≡ cond (same_id id q) word (near_word near q)
  near_written word written q = elim (cases_Bool (id.processor == q.processor)) [
    | inl e ↦ written_here q (eqb-true _ _ e) ∙ written q.number ∙ same_list e
    | inr e ↦ written_there q (eqb-false _ _ e) ∙ sym (cond-false (same_id id q) word (near_word near q) (and_right (id.number == q.number) (id.processor == q.processor) e))
  ]
    where
      same_list : (id.processor == q.processor) ≡ true → cond (id.number == q.number) word (slice_index was.items q.number) ≡ cond (same_id id q) word (near_word near q)
      same_list e = ap (λ w. cond (id.number == q.number) word w) (sym (was_here q (eqb-true _ _ e))) ∙ ap (λ b. cond b word (near_word near q)) (and_true (id.number == q.number) (id.processor == q.processor) e)

  -- what is written reads as what was there
  pub near_kept : ((n : ℕ) → slice_index new.items n ≡ slice_index was.items n) → (q : RecordId) → near_word (set near id.processor new) q ≡ near_word near q
  near_kept kept q = elim (cases_Bool (id.processor == q.processor)) [
    | inl e ↦ written_here q (eqb-true _ _ e) ∙ kept q.number ∙ sym (was_here q (eqb-true _ _ e))
    | inr e ↦ written_there q (eqb-false _ _ e)
  ]

  -- no list is longer than the limit where none was
  pub short_written : AreShort near → (length was.items ≤ number_limit → length new.items ≤ number_limit) → AreShort (set near id.processor new)
  short_written short kept q = elim (cases_Bool (id.processor == q)) [
    | inl e ↦
        let was_short = subst (λ (n : List ℕ). length n ≤ number_limit) (words_was near id.processor was within is) (short id.processor) in
        subst (λ (n : List ℕ). length n ≤ number_limit) (sym (words_here near new id.processor within) ∙ ap (λ p. words_in (slice_get (set near id.processor new) p)) (eqb-true _ _ e)) (kept was_short)
    | inr e ↦ subst (λ (n : List ℕ). length n ≤ number_limit) (sym (words_there near new id.processor q (eqb-false _ _ e))) (short q)
  ]

-- an empty list more
pub short_more : (near : List (Vec ℕ)) (empty : Vec ℕ) → empty.items ≡ [] → AreShort near → AreShort (near ++ empty ∷ [])
short_more [] empty none short zero = subst (λ (n : List ℕ). length n ≤ number_limit) (sym none) (omega arith)
short_more [] empty none short (suc p) = omega arith
short_more (words ∷ near) empty none short zero = short zero
short_more (words ∷ near) empty none short (suc p) = short_more near empty none (λ q. short (suc q)) p
