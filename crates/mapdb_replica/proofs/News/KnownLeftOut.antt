-- Operations that are known already may be left out of a list: what is new stays the same.
use Rattle.std.proofs.Common.{◌≡◌, sym, ap, ◌∙◌, List, [], ◌∷◌, ◌++◌, append_assoc, append-nil, inl, inr, subst}
use Rattle.std.specs.Prelude.{count_by, if◌then◌else◌}
use Rattle.std.proofs.lemmas.Bool.{cases_Bool, cond-false, false≢true}
use Rattle.mapdb_facts.specs.Adding.{is_new}
use Rattle.mapdb_facts.specs.State.{State, join, said}
use Rattle.mapdb_facts.specs.declared.operations.Op.{Op}
use Rattle.mapdb_rights.specs.AllBut.{IsAllBut}
use Rattle.mapdb_replica.specs.LeftOut.{Adds, IsOld}
use Rattle.mapdb_replica.specs.Replica.{news}
use Rattle.mapdb_replica.specs.Revoking.{AllCuts}
use Rattle.mapdb_replica.proofs.Calls.AllBut.{all_but-append, all_stay, count_left}
use Rattle.mapdb_replica.proofs.News.NewsOfBatches.{new_before}

-- what is known stays known
pub old_later : (S T : State) (op : Op) → IsOld S op → IsOld (join S T) op
old_later S T op old = elim (cases_Bool (is_new (join S T) op)) [
  | inl new ↦ absurd (false≢true (sym old ∙ new_before S T op new))
  | inr still ↦ still
]

known_turns : (S T : State) → ((op : Op) → IsOld S op → IsOld T op) → (ops left : List Op) → IsAllBut (IsOld S) ops left → news T ops ≡ news T left
known_turns S T known [] left is = ap (news T) (sym is)
known_turns S T known (op ∷ ops) left (inl h) =
    cond-false (is_new T op) (op ∷ news (join T (said op)) ops) (news T ops) (known op h.0) ∙ known_turns S T known ops left h.1
known_turns S T known (op ∷ ops) left (inr h) =
    ap (λ (xs : List Op). if is_new T op then op ∷ xs else news T ops)
    (known_turns S (join T (said op)) (λ x old. old_later T (said op) x (known x old)) ops h.0 h.2)
    ∙ ap (λ (xs : List Op). if is_new T op then op ∷ news (join T (said op)) h.0 else xs) (known_turns S T known ops h.0 h.2)
    ∙ ap (news T) (sym h.1)

module _ (S : State) (ops left : List Op) (all_but : IsAllBut (IsOld S) ops left) where
  -- the same operations are new at their turn
  pub news_left : news S ops ≡ news S left
  news_left = known_turns S S (λ op old. old) ops left all_but

  -- and as many are new to begin with
  pub new_left : count_by (is_new S) ops ≡ count_by (is_new S) left
  new_left = count_left (is_new S) ops left all_but

-- what is left of well-formed revocations is well-formed
pub cuts_left : (S : State) (ops left : List Op) → IsAllBut (IsOld S) ops left → AllCuts ops → AllCuts left
cuts_left S [] left is all = subst AllCuts (sym is) tt
cuts_left S (op ∷ ops) left (inl h) all = cuts_left S ops left h.1 all.1
cuts_left S (op ∷ ops) left (inr h) all = subst AllCuts (sym h.1) (all.0, cuts_left S ops h.0 h.2 all.1)

-- nothing is added
pub adds_none : (S : State) (found : List Op) → Adds S [] found found
adds_none S found = record { more = []; is = sym (append-nil found); all_but = all_stay (IsOld S) [] }

-- some are added, and then more
pub adds_twice : (S : State) (ops later old between new : List Op) → Adds S ops old between → Adds S later between new → Adds S (ops ++ later) old new
adds_twice S ops later old between new first second = record {
  more = first.more ++ second.more;
  is = second.is ∙ ap (λ (xs : List Op). xs ++ second.more) first.is ∙ append_assoc old first.more second.more;
  all_but = all_but-append (IsOld S) ops later first.more second.more first.all_but second.all_but;
}
