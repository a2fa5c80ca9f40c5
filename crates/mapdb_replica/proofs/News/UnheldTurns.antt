-- To hold what a batch says that is not held is to hold what is new of the batch.
use Rattle.std.proofs.Common.{◌≡◌, Bool, true, false, refl, sym, ap, subst, ◌∙◌, List, [], ◌∷◌, ℕ, suc, length, arith}
use Rattle.std.specs.Prelude.{count_by, if◌then◌else◌}
use Rattle.std.specs.List.{filter}
use Rattle.std.proofs.lemmas.Bool.{cond-false, false≢true}
use Rattle.std.proofs.lemmas.List.Sums.{length-filter}
use Rattle.mapdb_facts.specs.Adding.{is_new}
use Rattle.mapdb_facts.specs.State.{State, join, nothing, said}
use Rattle.mapdb_facts.specs.declared.operations.Op.{Op}
use Rattle.mapdb_facts.proofs.States.Joins.{join_assoc, join_nothing}
use Rattle.mapdb_replica.specs.Replica.{news}
use Rattle.mapdb_replica.proofs.News.NewsOfBatches.{new_before}

-- what is known stays known
old_later : (S T : State) (op : Op) → is_new S op ≡ false → is_new (join S T) op ≡ false
old_later S T op old = by_new (is_new (join S T) op) refl
  where
    by_new : (b : Bool) → is_new (join S T) op ≡ b → is_new (join S T) op ≡ false
    by_new false e = e
    by_new true e = absurd (false≢true (sym old ∙ new_before S T op e))

news_later : (S T : State) (ops : List Op) → news (join S T) (filter (is_new S) ops) ≡ news (join S T) ops
news_later S T [] = refl
news_later S T (op ∷ ops) =
    step (is_new S op) refl
    (subst (λ (U : State). news U (filter (is_new S) ops) ≡ news U ops) (sym (join_assoc S T (said op))) (news_later S (join T (said op)) ops))
    (news_later S T ops)
  where
    both : (b : Bool) → news (join (join S T) (said op)) (filter (is_new S) ops) ≡ news (join (join S T) (said op)) ops → news (join S T) (filter (is_new S) ops) ≡ news (join S T) ops
        → (if b then op ∷ news (join (join S T) (said op)) (filter (is_new S) ops) else news (join S T) (filter (is_new S) ops)) ≡ (if b then op ∷ news (join (join S T) (said op)) ops else news (join S T) ops)
    both true new old = ap (λ (xs : List Op). op ∷ xs) new
    both false new old = old

    step : (b : Bool) → is_new S op ≡ b → news (join (join S T) (said op)) (filter (is_new S) ops) ≡ news (join (join S T) (said op)) ops → news (join S T) (filter (is_new S) ops) ≡ news (join S T) ops
        → news (join S T) (if b then op ∷ filter (is_new S) ops else filter (is_new S) ops) ≡ news (join S T) (op ∷ ops)
    step true e new old = both (is_new (join S T) op) new old
    step false e new old = old ∙ sym (cond-false (is_new (join S T) op) (op ∷ news (join (join S T) (said op)) ops) (news (join S T) ops) (old_later S T op e))

-- what is new at its turn of those that are not held, is what is new at its turn of all
pub news-unheld : (S : State) (ops : List Op) → news S (filter (is_new S) ops) ≡ news S ops
news-unheld S ops = subst (λ (U : State). news U (filter (is_new S) ops) ≡ news U ops) (join_nothing S) (news_later S nothing ops)

-- nothing of a batch is new at its turn of which nothing is not held
pub news_none : (S : State) (ops : List Op) → 0 ≡ count_by (is_new S) ops → news S ops ≡ []
news_none S ops none = sym (news-unheld S ops) ∙ ap (news S) (no_items (filter (is_new S) ops) (length-filter (is_new S) ops ∙ sym none))
  where
    0≢suc : (n : ℕ) → 0 ≡ suc n → ⊥
    0≢suc n h = omega (arith, h)

    no_items : (xs : List Op) → length xs ≡ 0 → xs ≡ []
    no_items [] h = refl
    no_items (x ∷ xs) h = absurd (0≢suc (length xs) (sym h))
