-- After a replay a copy holds the atoms of what it issued and of what it took.
use Rattle.std.proofs.Common.{◌≡◌, ℕ, true, true≢false, List, [], ◌∷◌, ◌++◌, ◌⊎◌, ⊎_elim, inl, inr, refl, sym, ap, ◌∙◌, subst}
use Rattle.std.specs.Prelude.{◌↔◌, Option, Some, None, Result, Ok, Err}
use Rattle.std.specs.List.{list_all}
use Rattle.std.proofs.lemmas.Bool.{and_parts}
use Rattle.mapdb_facts.specs.State.{Atom, HasAtom, state_of}
use Rattle.mapdb_facts.specs.declared.operations.Op.{Op}
use Rattle.mapdb_facts.proofs.States.Joins.{atom_append, atom_left, atom_right}
use Rattle.mapdb_replica.specs.Commands.{command_outcome}
use Rattle.mapdb_replica.specs.Memory.{Memory, issue_memory, lasting}
use Rattle.mapdb_replica.specs.Replica.{Log, issue_left, news, with_issued}
use Rattle.mapdb_replica.specs.Taking.{Takes, take_outcome, take_refusal, taken_unless, with_taken}
use Rattle.mapdb_replica.specs.declared.faults.IssueFault.{IssueFault}
use Rattle.mapdb_replica.specs.declared.faults.TakeFault.{TakeFault}
use Rattle.mapdb_replica.proofs.Calls.CallCases.{take_cases}
use Rattle.mapdb_replica.proofs.News.NewsAtoms.{news_give}
use Rattle.mapdb_node.specs.Journals.{Replays}
use Rattle.mapdb_node.specs.Steps.{NodeSteps, taken_reply}
use Rattle.mapdb_node.specs.declared.events.Entry.{Entry}
use Rattle.mapdb_node.specs.declared.events.NodeEvent.{NodeEvent}
use Rattle.mapdb_node.specs.declared.events.NodeEvent.TheVariants.{Issue, OwnAt, Served, Take}
use Rattle.mapdb_node.specs.declared.events.NodeReply.{NodeReply}
use Rattle.mapdb_exchange.specs.Reports.{with_take, was_taken, is_heard}

-- the operations of all Takes, the last one first, and then those given
abbrev pub taken_of : List Entry → List Op → List Op
taken_of [] xs = xs
taken_of (e ∷ es) xs = taken_of es (with_take true e.event xs)

-- the copy holds the atoms of what it issued and of these
abbrev pub Gathers : Log → List Op → Type 0
Gathers log taken = (atom : Atom) → HasAtom log.ops atom ↔ (HasAtom log.own atom ⊎ HasAtom taken atom)

issue_gathers : (log : Log) (xs taken : List Op) → Gathers log taken → Gathers (with_issued log xs) taken
issue_gathers log xs taken has atom = (λ h. forth (atom_append log.ops xs atom h), back)
  where
    forth : HasAtom log.ops atom ⊎ HasAtom xs atom → HasAtom (log.own ++ xs) atom ⊎ HasAtom taken atom
    forth (inl h) = ⊎_elim (λ own. inl (atom_left log.own xs atom own)) (λ theirs. inr theirs) ((has atom).0 h)
    forth (inr h) = inl (atom_right log.own xs atom h)

    by_own : HasAtom log.own atom ⊎ HasAtom xs atom → HasAtom (log.ops ++ xs) atom
    by_own (inl own) = atom_left log.ops xs atom ((has atom).1 (inl own))
    by_own (inr h) = atom_right log.ops xs atom h

    back : HasAtom (log.own ++ xs) atom ⊎ HasAtom taken atom → HasAtom (log.ops ++ xs) atom
    back (inl h) = by_own (atom_append log.own xs atom h)
    back (inr theirs) = atom_left log.ops xs atom ((has atom).1 (inr theirs))

take_gathers : (log : Log) (op : Op) (taken : List Op) → Gathers log taken → Gathers (with_taken log (news (state_of log.ops) (op ∷ []))) (op ∷ taken)
take_gathers log op taken has atom = (λ h. forth (atom_append log.ops (op ∷ []) atom (same.0 h)), λ h. same.1 (back h))
  where
    same : HasAtom (log.ops ++ news (state_of log.ops) (op ∷ [])) atom ↔ HasAtom (log.ops ++ op ∷ []) atom
    same = news_give log.ops (op ∷ []) atom

    forth : HasAtom log.ops atom ⊎ HasAtom (op ∷ []) atom → HasAtom log.own atom ⊎ HasAtom (op ∷ taken) atom
    forth (inl h) = ⊎_elim (λ own. inl own) (λ theirs. inr (inr theirs)) ((has atom).0 h)
    forth (inr (inl gives)) = inr (inl gives)
    forth (inr (inr none)) = absurd none

    back : HasAtom log.own atom ⊎ HasAtom (op ∷ taken) atom → HasAtom (log.ops ++ op ∷ []) atom
    back (inl own) = atom_left log.ops (op ∷ []) atom ((has atom).1 (inl own))
    back (inr (inl gives)) = atom_right log.ops (op ∷ []) atom (inl gives)
    back (inr (inr theirs)) = atom_left log.ops (op ∷ []) atom ((has atom).1 (inr theirs))

taken_news : (refusal : Option TakeFault) (xs ops : List Op) → taken_unless refusal xs ≡ Ok ops → ops ≡ xs
taken_news None xs ops e = cc
taken_news (Some fault) xs ops e = cc

issue_step : (memory : Memory) (outcome : Result (List Op) IssueFault) (old : Log) (taken : List Op) → Gathers old taken → Gathers (issue_left memory outcome old) taken
issue_step memory (Err refusal) old taken has = has
issue_step memory (Ok ops) old taken has = issue_gathers old (lasting memory ops) taken has

take_step : (op : Op) (outcome : Result (List Op) TakeFault) (result : Result ℕ TakeFault) (old new : Log) (taken : List Op)
    → take_outcome old.ops (op ∷ []) ≡ outcome → was_taken (taken_reply result) ≡ true → Takes (op ∷ []) outcome result old new → Gathers old taken → Gathers new (op ∷ taken)
take_step op outcome (Err fault) old new taken is held h has = absurd (true≢false (sym held))
take_step op (Err refusal) (Ok count) old new taken is held h has = absurd (take_cases (op ∷ []) (Err refusal) (Ok count) old new h)
take_step op (Ok ops) (Ok count) old new taken is held h has =
    let Held : Log → Type 0 = λ x. Gathers x (op ∷ taken) in
    let all : ops ≡ news (state_of old.ops) (op ∷ []) = taken_news (take_refusal old.ops (op ∷ [])) (news (state_of old.ops) (op ∷ [])) ops is in
    subst Held (sym (h.1 ∙ ap (with_taken old) all)) (take_gathers old op taken has)

step_gathers : (old : Log) (e : NodeEvent) (r : NodeReply) (new : Log) (taken : List Op) (seats : List ℕ) (seat : ℕ) → NodeSteps old e r new → is_heard seats seat e r ≡ true → Gathers old taken → Gathers new (with_take true e taken)
unfolding NodeSteps
step_gathers old (Issue command) r new taken seats seat h heard has = subst (λ (x : Log). Gathers x taken) (sym h.1.1.1) (issue_step (issue_memory h.0) (command_outcome old command) old taken has)
step_gathers old (Take op) r new taken seats seat h heard has =
    take_step op (take_outcome old.ops (op ∷ [])) h.0 old new taken refl (sym (ap was_taken h.2) ∙ (and_parts (was_taken r) _ heard).0) h.1 has
step_gathers old (Served space page) r new taken seats seat h heard has = subst (λ (x : Log). Gathers x taken) (sym h.1) has
step_gathers old (OwnAt place) r new taken seats seat h heard has = subst (λ (x : Log). Gathers x taken) (sym h.1) has

-- from a copy that holds what it issued and took, entries of which each Take was held lead to one
pub replay_gathers : (seats : List ℕ) (old : Log) (es : List Entry) (new : Log) (taken : List Op) → Replays old es new
    → list_all (λ (e : Entry). is_heard seats e.seat e.event e.reply) es ≡ true → Gathers old taken → Gathers new (taken_of es taken)
replay_gathers seats old [] new taken h heard has = subst (λ (x : Log). Gathers x taken) (sym h) has
replay_gathers seats old (e ∷ es) new taken h heard has =
    let p = and_parts (is_heard seats e.seat e.event e.reply) (list_all (λ (e : Entry). is_heard seats e.seat e.event e.reply) es) heard in
    replay_gathers seats h.0 es new (with_take true e.event taken) h.2 p.1 (step_gathers old e.event e.reply h.0 taken seats e.seat h.1 p.0 has)
