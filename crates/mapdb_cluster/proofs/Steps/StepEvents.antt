-- Each kind of event, as a step of the net.
use Rattle.std.proofs.Common.{◌≡◌, ℕ, Bool, true, false, Err, Ok, Result, Some, refl, sym, subst, ap, ◌∙◌, List, length}
use Rattle.std.specs.Prelude.{◌≢◌, ◌==◌, IfSome, IsOk, Option, slice_get, if◌then◌else◌}
use Rattle.std.proofs.lemmas.Bool.{eqb-true, false≢true}
use Rattle.mapdb_facts.specs.declared.operations.Op.{Op}
use Rattle.mapdb_replica.specs.Commands.{Replies, command_outcome}
use Rattle.mapdb_replica.specs.Giving.{given}
use Rattle.mapdb_replica.specs.Memory.{Memory}
use Rattle.mapdb_replica.specs.Replica.{Log}
use Rattle.mapdb_replica.specs.declared.commands.Command.{Command}
use Rattle.mapdb_replica.specs.declared.faults.GiveFault.{GiveFault}
use Rattle.mapdb_replica.specs.declared.faults.GiveFault.TheVariants as give
use Rattle.mapdb_replica.specs.declared.faults.TakeFault.{TakeFault}
use Rattle.mapdb_cluster.specs.Net.{Done, Net, at_copy, at_processor, delivered, event_done, issue_done, joined, send_done, taken_at, with_copy, with_message}
use Rattle.mapdb_cluster.specs.Steps.{HasMoreAt, HasMoreOf, Steps, TakesWith, applied_reply}
use Rattle.mapdb_cluster.specs.declared.events.Event.TheVariants.{Deliver, Issue, Join, Send}
use Rattle.mapdb_cluster.specs.declared.events.Refusal.TheVariants as refusal
use Rattle.mapdb_cluster.specs.declared.events.Reply.{Reply}
use Rattle.mapdb_cluster.specs.declared.events.Reply.TheVariants.{Refused, Sent, Taken}
use Rattle.mapdb_cluster.proofs.Steps.StepTells.{Tells, command_tells, more_tells, none_given, take_tells, tells_step}

module _ (net : Net) where
  -- at a processor that is there
  at_there : (at : ℕ) (copy : Log) (done : Log → Done) → slice_get net.copies at ≡ Some copy → at_processor net at done ≡ done copy
  at_there at copy done there = ap (λ (o : Option Log). at_copy net o done) there

  pub issue_step : (at : ℕ) (copy new : Log) (command : Command) (reply : Reply) → slice_get net.copies at ≡ Some copy → Replies applied_reply command copy reply new → Steps net (Issue at command) reply (with_copy net at new)
  issue_step at copy new command reply there is =
      tells_step net (Issue at command) (λ memory. issue_done net at copy command memory (command_outcome copy command)) reply (with_copy net at new)
      (λ memory. at_there at copy (λ c. issue_done net at c command memory (command_outcome c command)) there)
      (command_tells net at copy new command there reply is) (none_given reply)

  pub deliver_step : (message to : ℕ) (copy new : Log) (batch : List Op) (reply : Reply) → slice_get net.copies to ≡ Some copy → slice_get net.messages message ≡ Some batch → TakesWith batch copy reply new
      → Steps net (Deliver message to) reply (with_copy net to new)
  deliver_step message to copy new batch reply there sent is =
      tells_step net (Deliver message to) (λ memory. taken_at net memory to batch copy) reply (with_copy net to new)
      (λ memory. at_there to copy (λ c. delivered net memory to (slice_get net.messages message) c) there ∙ ap (λ (o : Option (List Op)). delivered net memory to o copy) sent)
      (take_tells net to copy new batch there reply is) (more_tells net to copy new batch there (HasMoreOf net (Deliver message to) (with_copy net to new)) reply given_batch is)
    where
      given_batch : (fault : TakeFault) → HasMoreAt (with_copy net to new) to batch fault → HasMoreOf net (Deliver message to) (with_copy net to new) fault
      given_batch fault more = subst (λ (o : Option (List Op)). IfSome o (λ (ops : List Op). HasMoreAt (with_copy net to new) to ops fault)) (sym sent) more

  joined_where : (memory : Memory) (into from : ℕ) (copy other : Log) (b : Bool) → (into == from) ≡ b
      → joined net memory into from copy other ≡ (if b then record { reply = Taken 0; net = net; taker = into; took = copy.ops } else taken_at net memory into other.ops copy)
  joined_where memory into from copy other b is = ap (λ (x : Bool). if x then record { reply = Taken 0; net = net; taker = into; took = copy.ops } else taken_at net memory into other.ops copy) is

  apart_false : (into from : ℕ) → into ≢ from → (b : Bool) → (into == from) ≡ b → (into == from) ≡ false
  apart_false into from apart true e = absurd (apart (eqb-true into from e))
  apart_false into from apart false e = e

  pub join_step : (into from : ℕ) (copy other new : Log) (reply : Reply) → slice_get net.copies into ≡ Some copy → slice_get net.copies from ≡ Some other → (into ≢ from) → TakesWith other.ops copy reply new
      → Steps net (Join into from) reply (with_copy net into new)
  join_step into from copy other new reply there here apart is =
      tells_step net (Join into from) (λ memory. taken_at net memory into other.ops copy) reply (with_copy net into new)
      (λ memory. at_there into copy (λ c. at_processor net from (λ o. joined net memory into from c o)) there
      ∙ at_there from other (λ o. joined net memory into from copy o) here
      ∙ joined_where memory into from copy other false (apart_false into from apart (into == from) refl))
      (take_tells net into copy new other.ops there reply is) (more_tells net into copy new other.ops there (HasMoreOf net (Join into from) (with_copy net into new)) reply given_other is)
    where
      given_other : (fault : TakeFault) → HasMoreAt (with_copy net into new) into other.ops fault → HasMoreOf net (Join into from) (with_copy net into new) fault
      given_other fault more = subst (λ (o : Option Log). IfSome o (λ (log : Log). HasMoreAt (with_copy net into new) into log.ops fault)) (sym here) more

  -- sending
  module _ (from first end : ℕ) (copy : Log) (there : slice_get net.copies from ≡ Some copy) where
    sent_at : (memory : Memory) → event_done net (Send from first end) memory ≡ send_done net memory (given copy.ops first end)
    sent_at memory = at_there from copy (λ c. send_done net memory (given c.ops first end)) there

    pub send_step : (ops : List Op) (count : ℕ) → given copy.ops first end ≡ Ok ops → count ≡ length ops → Steps net (Send from first end) (Sent (length net.messages) count) (with_message net ops)
    send_step ops count is counted =
        subst (λ n. Steps net (Send from first end) (Sent (length net.messages) n) (with_message net ops)) (sym counted)
        (tells_step net (Send from first end) (λ memory. send_done net memory (Ok ops)) (Sent (length net.messages) (length ops)) (with_message net ops)
        (λ memory. sent_at memory ∙ ap (λ (o : Result (List Op) GiveFault). send_done net memory o) is) (record { replied = refl; left = refl; part = tt }) tt)

    pub send_marks : given copy.ops first end ≡ Err give.BadMark → Steps net (Send from first end) (Refused refusal.Mark) net
    send_marks is =
        tells_step net (Send from first end) (λ memory. send_done net memory (Err give.BadMark)) (Refused refusal.Mark) net
        (λ memory. sent_at memory ∙ ap (λ (o : Result (List Op) GiveFault). send_done net memory o) is) (record { replied = refl; left = refl; part = tt }) tt

    wanting : (o : Result (List Op) GiveFault) → IsOk o → Tells (λ memory. send_done net memory o) (Refused refusal.Memory) net
    wanting (Ok ops) is = record { replied = refl; left = refl; part = tt }
    wanting (Err fault) is = absurd (false≢true is)

    pub send_wants : IsOk (given copy.ops first end) → Steps net (Send from first end) (Refused refusal.Memory) net
    send_wants is = tells_step net (Send from first end) (λ memory. send_done net memory (given copy.ops first end)) (Refused refusal.Memory) net sent_at (wanting (given copy.ops first end) is) tt
