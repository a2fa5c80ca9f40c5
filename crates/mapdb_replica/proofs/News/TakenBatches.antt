-- What taking a batch comes to, by why it is refused.
use Rattle.std.proofs.Common.{◌≡◌, ℕ, ◌<◌, Bool, true, Err, Result, Some, refl, sym, ap, subst, ◌∙◌, List, [], ◌∷◌, length, take, arith}
use Rattle.std.specs.Prelude.{IfSome, Option, None, slice_get}
use Rattle.std.specs.List.{list_any}
use Rattle.std.specs.Option.{option_map, option_or}
use Rattle.std.proofs.lemmas.Bool.{false≢true}
use Rattle.mapdb_facts.specs.Adding.{is_new}
use Rattle.mapdb_facts.specs.State.{state_of}
use Rattle.mapdb_facts.specs.declared.operations.Op.{Op}
use Rattle.mapdb_replica.specs.Replica.{Log, news}
use Rattle.mapdb_replica.specs.Taking.{HasMore, Takes, first_bad, least_clash, take_outcome, taken_unless, too_many, with_taken}
use Rattle.mapdb_replica.specs.declared.faults.TakeFault.{TakeFault}
use Rattle.mapdb_replica.specs.declared.faults.TakeFault.TheVariants.{Bad, Clash, Full, Memory}
use Rattle.mapdb_replica.proofs.News.Unfinished.{any_from, bad_tells}

-- why a batch is refused that has no bad operation
abbrev pub refusal_of : List Op → List Op → Option TakeFault
refusal_of held batch = option_or (option_map Clash (least_clash held batch)) (too_many held batch)

-- a batch that is refused for this is told so
told : (log : Log) (batch : List Op) (fault : TakeFault) → HasMore log.ops batch fault → Takes batch (Err fault) (Err fault) log log
told log batch (Bad place why) more = (refl, refl, tt, more)
told log batch (Clash id) more = (refl, refl, tt, more)
told log batch Full more = (refl, refl, tt, more)
told log batch (Memory taken) more = (refl, refl, tt, more)

-- it has a bad operation
pub bad_takes : (log : Log) (batch : List Op) (fault : TakeFault) → first_bad 0 batch ≡ Some fault → Takes batch (take_outcome log.ops batch) (Err fault) log log
bad_takes log batch fault is =
    subst (λ (bad : Option TakeFault). Takes batch (taken_unless (option_or bad (refusal_of log.ops batch)) (news (state_of log.ops) batch)) (Err fault) log log) (sym is)
    (told log batch fault (bad_tells log.ops batch fault 0 batch is))

some_there : (test : Op → Bool) (batch : List Op) → list_any test batch ≡ true → 0 < length batch
some_there test [] some = absurd (false≢true some)
some_there test (op ∷ batch) some = omega arith

module _ (log new : Log) (batch : List Op) (good : first_bad 0 batch ≡ None) where
  outcome_is : (refusal : Option TakeFault) → refusal ≡ refusal_of log.ops batch → take_outcome log.ops batch ≡ taken_unless refusal (news (state_of log.ops) batch)
  outcome_is refusal is = ap (λ (bad : Option TakeFault). taken_unless (option_or bad (refusal_of log.ops batch)) (news (state_of log.ops) batch)) good ∙ ap (λ (o : Option TakeFault). taken_unless o (news (state_of log.ops) batch)) (sym is)

  -- memory ended before one that is new then
  pub ended_takes : (taken : ℕ) → None ≡ refusal_of log.ops batch → taken < length batch → new ≡ with_taken log (news (state_of log.ops) (take taken batch)) → IfSome (slice_get batch taken) (λ op. is_new (state_of new.ops) op ≡ true)
      → Takes batch (take_outcome log.ops batch) (Err (Memory taken)) log new
  ended_takes taken is within stands next = subst (λ (outcome : Result (List Op) TakeFault). Takes batch outcome (Err (Memory taken)) log new) (sym (outcome_is None is))
      (refl, stands, within, any_from (is_new (state_of new.ops)) batch taken within next)
