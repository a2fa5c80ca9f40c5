-- What a call leaves of a cluster: what it keeps, with a reply that refuses no operation as bad, nor for a clash.
use Rattle.std.proofs.Common.{◌≡◌, ℕ, true, Ok, Err, Result, Some, refl, sym, subst, List, length}
use Rattle.std.specs.Prelude.{◌≢◌, slice_get}
use Rattle.mapdb_facts.specs.WellFormed.{all_formed}
use Rattle.mapdb_facts.specs.declared.operations.Op.{Op}
use Rattle.mapdb_replica.specs.Commands.{Replies}
use Rattle.mapdb_replica.specs.Giving.{given}
use Rattle.mapdb_replica.specs.Replica.{Log}
use Rattle.mapdb_replica.specs.declared.commands.Command.{Command}
use Rattle.mapdb_replica.specs.declared.faults.GiveFault.{GiveFault}
use Rattle.mapdb_replica.specs.declared.faults.GiveFault.TheVariants as give
use Rattle.mapdb_cluster.specs.Honest.{IsTrusted}
use Rattle.mapdb_cluster.specs.Kept.{IsKeptNet}
use Rattle.mapdb_cluster.specs.Net.{Net, with_copy, with_message}
use Rattle.mapdb_cluster.specs.Steps.{Sends, Steps, TakesWith, applied_reply, sent_reply}
use Rattle.mapdb_cluster.specs.declared.events.Event.TheVariants.{Send}
use Rattle.mapdb_cluster.specs.declared.events.Refusal.TheVariants as refusal
use Rattle.mapdb_cluster.specs.declared.events.Reply.{Reply}
use Rattle.mapdb_cluster.specs.declared.events.Reply.TheVariants.{Refused, Sent}
use Rattle.mapdb_cluster.specs.declared.sending.SentMessage.{SentMessage}
use Rattle.mapdb_cluster.proofs.Steps.Changing.{each_changed}
use Rattle.mapdb_cluster.proofs.Moves.HonestSteps.{deliver_stepped, issue_stepped, join_stepped, send_stepped}
use Rattle.mapdb_cluster.proofs.Steps.StepEvents.{deliver_step, issue_step, join_step, send_marks, send_step, send_wants}

module _ (net : Net) (kept : IsKeptNet net) where
  pub issue_left : (at : ℕ) (copy new : Log) (command : Command) (reply : Reply) → slice_get net.copies at ≡ Some copy → Replies applied_reply command copy reply new → all_formed new.ops ≡ true
      → IsKeptNet (with_copy net at new) × IsTrusted reply
  issue_left at copy new command reply there is formed =
      issue_stepped net kept at command reply (with_copy net at new) (issue_step net at copy new command reply there is)
      (each_changed net at copy new there (λ i c. all_formed c.ops ≡ true) formed (λ i c here. (kept.copies i c here).formed))

  pub send_left : (from first end : ℕ) (copy : Log) (ops : List Op) → slice_get net.copies from ≡ Some copy → given copy.ops first end ≡ Ok ops → IsKeptNet (with_message net ops)
  send_left from first end copy ops there is =
      (send_stepped net kept from first end (Sent (length net.messages) (length ops)) (with_message net ops) (send_step net from first end copy there ops (length ops) is refl)).0

  pub deliver_left : (message to : ℕ) (copy new : Log) (batch : List Op) (reply : Reply) → slice_get net.copies to ≡ Some copy → slice_get net.messages message ≡ Some batch → TakesWith batch copy reply new
      → IsKeptNet (with_copy net to new) × IsTrusted reply
  deliver_left message to copy new batch reply there sent is = deliver_stepped net kept message to reply (with_copy net to new) (deliver_step net message to copy new batch reply there sent is)

  pub join_left : (into from : ℕ) (copy other new : Log) (reply : Reply) → slice_get net.copies into ≡ Some copy → slice_get net.copies from ≡ Some other → (into ≢ from) → TakesWith other.ops copy reply new
      → IsKeptNet (with_copy net into new) × IsTrusted reply
  join_left into from copy other new reply there here apart is = join_stepped net kept into from reply (with_copy net into new) (join_step net into from copy other new reply there here apart is)

  -- a message is kept, or nothing is changed
  pub sent_left : (from first end : ℕ) (copy : Log) (result : Result SentMessage GiveFault) (messages : List (List Op)) → slice_get net.copies from ≡ Some copy → Sends (given copy.ops first end) net.messages result messages
      → IsKeptNet (record { copies = net.copies; messages = messages })
  sent_left from first end copy (Ok sent) messages there is = subst (λ (ms : List (List Op)). IsKeptNet (record { copies = net.copies; messages = ms })) (sym is.3) (send_left from first end copy is.0 there is.1)
  sent_left from first end copy (Err give.BadMark) messages there is = subst (λ (ms : List (List Op)). IsKeptNet (record { copies = net.copies; messages = ms })) (sym is.1) kept
  sent_left from first end copy (Err give.Memory) messages there is = subst (λ (ms : List (List Op)). IsKeptNet (record { copies = net.copies; messages = ms })) (sym is.1) kept

-- what sending is replied, as a step
pub sent_steps : (net : Net) (from first end : ℕ) (copy : Log) (result : Result SentMessage GiveFault) (messages : List (List Op)) → slice_get net.copies from ≡ Some copy → Sends (given copy.ops first end) net.messages result messages
    → Steps net (Send from first end) (sent_reply result) (record { copies = net.copies; messages = messages })
sent_steps net from first end copy (Ok sent) messages there is =
    subst (λ (s : SentMessage). Steps net (Send from first end) (Sent s.message s.count) (record { copies = net.copies; messages = messages })) (sym is.2)
    (subst (λ (ms : List (List Op)). Steps net (Send from first end) (Sent (length net.messages) (length is.0)) (record { copies = net.copies; messages = ms })) (sym is.3)
    (send_step net from first end copy there is.0 (length is.0) is.1 refl))
sent_steps net from first end copy (Err give.BadMark) messages there is =
    subst (λ (ms : List (List Op)). Steps net (Send from first end) (Refused refusal.Mark) (record { copies = net.copies; messages = ms })) (sym is.1) (send_marks net from first end copy there is.0)
sent_steps net from first end copy (Err give.Memory) messages there is =
    subst (λ (ms : List (List Op)). Steps net (Send from first end) (Refused refusal.Memory) (record { copies = net.copies; messages = ms })) (sym is.1) (send_wants net from first end copy there is.0)
