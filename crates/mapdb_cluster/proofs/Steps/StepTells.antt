-- One event at one copy, told in the net.
use Rattle.std.proofs.Common.{◌≡◌, ℕ, zero, suc, ◌<◌, Err, Ok, Result, Some, refl, sym, subst, ap, ◌∙◌, List, [], ◌∷◌, length, take}
use Rattle.std.specs.Prelude.{IfErr, IfOk, IfSome, OnOk, Option, slice_get, slice_set}
use Rattle.mapdb_facts.specs.declared.names.RecordId.{RecordId}
use Rattle.mapdb_facts.specs.declared.operations.Op.{Op}
use Rattle.mapdb_replica.specs.Commands.{IsAnswer, Replies, command_outcome}
use Rattle.mapdb_replica.specs.Memory.{EndsAfter, EndsWithin, Enough, Memory, take_memory}
use Rattle.mapdb_replica.specs.Replica.{Log, first_number, with_issued}
use Rattle.mapdb_replica.specs.Taking.{HasMore, take_refusal_told, take_answer, take_left, take_outcome}
use Rattle.mapdb_replica.specs.declared.commands.Applied.{Applied}
use Rattle.mapdb_replica.specs.declared.commands.Applied.TheVariants as applied
use Rattle.mapdb_replica.specs.declared.commands.Command.{Command}
use Rattle.mapdb_replica.specs.declared.commands.Command.TheVariants.{End, Map, Unmap}
use Rattle.mapdb_replica.specs.declared.faults.IssueFault.{IssueFault}
use Rattle.mapdb_replica.specs.declared.faults.IssueFault.TheVariants as issue
use Rattle.mapdb_replica.specs.declared.faults.TakeFault.{TakeFault}
use Rattle.mapdb_replica.proofs.Calls.CallCases.{IssueCases, issue_cases}
use Rattle.mapdb_cluster.specs.Net.{Done, Net, event_done, issue_done, issue_reply, refused, take_done, taken_reply, with_copy}
use Rattle.mapdb_cluster.specs.Steps.{HasMoreAt, HasMoreOf, IfNotTaken, LastsForPart, Steps, TakesWith, applied_reply, memory_told}
use Rattle.mapdb_cluster.specs.declared.events.Event.{Event}
use Rattle.mapdb_cluster.specs.declared.events.Refusal.{Refusal}
use Rattle.mapdb_cluster.specs.declared.events.Refusal.TheVariants as refusal
use Rattle.mapdb_cluster.specs.declared.events.Reply.{Reply}
use Rattle.mapdb_cluster.specs.declared.events.Reply.TheVariants.{Ended, Issued, Refused, Revoked, Sent, Taken}
use Rattle.mapdb_cluster.proofs.Steps.Slots.{set_here}

-- What an event does, told by its reply.
pub record Tells (done : Memory → Done) (reply : Reply) (new : Net) : Type 0 where
  pub replied : (done (memory_told reply)).reply ≡ reply
  pub left : (done (memory_told reply)).net ≡ new
  pub part : LastsForPart (memory_told reply) (done Enough)

-- an event that does so is a step
pub tells_step : (net : Net) (event : Event) (done : Memory → Done) (reply : Reply) (new : Net) → ((memory : Memory) → event_done net event memory ≡ done memory) → Tells done reply new → IfNotTaken reply (HasMoreOf net event new) → Steps net event reply new
tells_step net event done reply new is tells more = record {
  replied = ap (λ (d : Done). d.reply) (is (memory_told reply)) ∙ tells.replied;
  done = ap (λ (d : Done). d.net) (is (memory_told reply)) ∙ tells.left;
  part = subst (LastsForPart (memory_told reply)) (sym (is Enough)) tells.part;
  more = more;
}

same_some : (a b : Log) → Some a ≡ Some b → b ≡ a
same_some a b e = cc

set_same : (xs : List Log) (i : ℕ) (x : Log) → slice_get xs i ≡ Some x → slice_set xs i x ≡ xs
set_same [] i x there = refl
set_same (y ∷ xs) zero x there = ap (λ (z : Log). z ∷ xs) (same_some y x there)
set_same (y ∷ xs) (suc i) x there = ap (λ (zs : List Log). y ∷ zs) (set_same xs i x there)

-- a copy that is set to what it was changes nothing
pub with_same : (net : Net) (at : ℕ) (copy new : Log) → slice_get net.copies at ≡ Some copy → new ≡ copy → with_copy net at new ≡ net
with_same net at copy new there same =
    let copies : slice_set net.copies at new ≡ net.copies = ap (slice_set net.copies at) same ∙ set_same net.copies at copy there in
    λ i. record { copies = copies i; messages = net.messages }

-- an event that gives no copy a batch
pub none_given : (reply : Reply) → IfNotTaken reply (λ fault. Unit {0})
none_given (Issued first count) = tt
none_given (Revoked count) = tt
none_given Ended = tt
none_given (Taken count) = tt
none_given (Sent message count) = tt
none_given (Refused refusal.NoProcessor) = tt
none_given (Refused refusal.NoMessage) = tt
none_given (Refused refusal.Mark) = tt
none_given (Refused (refusal.Issue fault)) = tt
none_given (Refused (refusal.Take fault)) = tt
none_given (Refused refusal.Memory) = tt

-- a refusal, in which nothing is done
refused_part : (memory : Memory) (net : Net) (why : Refusal) → LastsForPart memory (refused net why)
refused_part Enough net why = tt
refused_part (EndsAfter count) net why = tt

pub refused_tells : (net : Net) (why : Refusal) → Tells (λ memory. refused net why) (Refused why) net
refused_tells net why = record { replied = refl; left = refl; part = refused_part (memory_told (Refused why)) net why }

-- A command.

issue_part : (net : Net) (at : ℕ) (copy : Log) (command : Command) (ops : List Op) (n : ℕ) → n < length ops → LastsForPart (EndsAfter n) (issue_done net at copy command Enough (Ok ops))
issue_part net at copy (Map sender item receiver window) ops n few = few
issue_part net at copy (Unmap space page rights flush) ops n few = few
issue_part net at copy (End space) ops n few = few

issue_full : (command : Command) (ops : List Op) → memory_told (issue_reply command ops) ≡ Enough
issue_full (Map sender item receiver window) ops = refl
issue_full (Unmap space page rights flush) ops = refl
issue_full (End space) ops = refl

-- what was applied is replied as what the command is replied
answer_reply : (command : Command) (ops : List Op) (applied : Applied) → IsAnswer command ops applied → applied_reply (Ok applied) ≡ issue_reply command ops
answer_reply (Map sender item receiver window) ops (applied.Mapped names) is = ap (λ (ids : List RecordId). Issued (first_number ids) (length ids)) is
answer_reply (Map sender item receiver window) ops (applied.Revoked count) is = absurd is
answer_reply (Map sender item receiver window) ops (applied.Ended ended) is = absurd is
answer_reply (Unmap space page rights flush) ops (applied.Mapped names) is = absurd is
answer_reply (Unmap space page rights flush) ops (applied.Revoked count) is = ap Revoked is
answer_reply (Unmap space page rights flush) ops (applied.Ended ended) is = absurd is
answer_reply (End space) ops (applied.Mapped names) is = absurd is
answer_reply (End space) ops (applied.Revoked count) is = absurd is
answer_reply (End space) ops (applied.Ended ended) is = refl

module _ (net : Net) (at : ℕ) (copy new : Log) (command : Command) (there : slice_get net.copies at ≡ Some copy) where
  all_issued : (ops : List Op) (reply : Reply) → reply ≡ issue_reply command ops → new ≡ with_issued copy ops → Tells (λ memory. issue_done net at copy command memory (Ok ops)) reply (with_copy net at new)
  all_issued ops reply is left =
      let enough : memory_told reply ≡ Enough = ap memory_told is ∙ issue_full command ops in
      record {
        replied = ap (λ (memory : Memory). (issue_done net at copy command memory (Ok ops)).reply) enough ∙ sym is;
        left = ap (λ (memory : Memory). (issue_done net at copy command memory (Ok ops)).net) enough ∙ ap (with_copy net at) (sym left);
        part = subst (λ (memory : Memory). LastsForPart memory (issue_done net at copy command Enough (Ok ops))) (sym enough) tt;
      }

  part_issued : (ops : List Op) (n : ℕ) → n < length ops → new ≡ with_issued copy (take n ops) → Tells (λ memory. issue_done net at copy command memory (Ok ops)) (Refused (refusal.Issue (issue.Memory n))) (with_copy net at new)
  part_issued ops n few left = record { replied = refl; left = ap (with_copy net at) (sym left); part = issue_part net at copy command ops n few }

  applied_tells : (o : Result (List Op) IssueFault) (result : Result Applied IssueFault) → IfOk result (λ applied. IfOk o (λ ops. IsAnswer command ops applied)) → IssueCases o result copy new
      → Tells (λ memory. issue_done net at copy command memory o) (applied_reply result) (with_copy net at new)
  applied_tells (Err why) (Ok applied) answer is = absurd is
  applied_tells (Err why) (Err fault) answer is =
      subst (λ (f : IssueFault). Tells (λ memory. refused net (refusal.Issue why)) (Refused (refusal.Issue f)) (with_copy net at new)) (sym is.0)
      (subst (λ (n : Net). Tells (λ memory. refused net (refusal.Issue why)) (Refused (refusal.Issue why)) n) (sym (with_same net at copy new there is.1)) (refused_tells net (refusal.Issue why)))
  applied_tells (Ok ops) (Ok applied) answer is = all_issued ops (applied_reply (Ok applied)) (answer_reply command ops applied answer) is
  applied_tells (Ok ops) (Err (issue.Memory n)) answer is = part_issued ops n is.0 is.1
  applied_tells (Ok ops) (Err (issue.SpaceEnded space)) answer is = absurd is
  applied_tells (Ok ops) (Err issue.RootSpace) answer is = absurd is
  applied_tells (Ok ops) (Err issue.NumbersSpent) answer is = absurd is
  applied_tells (Ok ops) (Err issue.Full) answer is = absurd is

  pub command_tells : (reply : Reply) → Replies applied_reply command copy reply new → Tells (λ memory. issue_done net at copy command memory (command_outcome copy command)) reply (with_copy net at new)
  command_tells reply is =
      subst (λ (r : Reply). Tells (λ memory. issue_done net at copy command memory (command_outcome copy command)) r (with_copy net at new)) (sym is.2)
      (applied_tells (command_outcome copy command) is.0 is.1.0 (issue_cases (command_outcome copy command) is.0 copy new is.1.1))

-- Taking a batch.

module _ (net : Net) (at : ℕ) (copy new : Log) (batch : List Op) (there : slice_get net.copies at ≡ Some copy) where
  -- memory lasts for a part, where it does for one of the batch
  take_part : (memory : Memory) (ops : List Op) → EndsWithin memory batch → LastsForPart memory (take_done net at copy batch Enough (Ok ops))
  take_part Enough ops within = tt
  take_part (EndsAfter n) ops within = within

  -- the answer tells as far as memory lasted
  reply_memory : (result : Result ℕ TakeFault) → memory_told (taken_reply result) ≡ take_memory result
  reply_memory (Ok count) = refl
  reply_memory (Err fault) = refl

  took_tells : (o : Result (List Op) TakeFault) (memory : Memory) (result : Result ℕ TakeFault) → memory_told (taken_reply result) ≡ memory → result ≡ take_answer memory o → new ≡ take_left memory batch o copy → OnOk o (EndsWithin memory batch)
      → Tells (λ m. take_done net at copy batch m o) (taken_reply result) (with_copy net at new)
  took_tells (Err why) memory result so_far is left within = record {
    replied = ap (λ (m : Memory). Refused (refusal.Take (take_refusal_told m why))) so_far ∙ sym (ap taken_reply is);
    left = sym (with_same net at copy new there left);
    part = refused_part (memory_told (taken_reply result)) net (refusal.Take (take_refusal_told Enough why));
  }
  took_tells (Ok ops) memory result so_far is left within = record {
    replied = ap (λ (m : Memory). taken_reply (take_answer m (Ok ops))) so_far ∙ sym (ap taken_reply is);
    left = ap (λ (m : Memory). with_copy net at (take_left m batch (Ok ops) copy)) so_far ∙ sym (ap (with_copy net at) left);
    part = subst (λ (m : Memory). LastsForPart m (take_done net at copy batch Enough (Ok ops))) (sym so_far) (take_part memory ops within);
  }

  pub take_tells : (reply : Reply) → TakesWith batch copy reply new → Tells (λ memory. take_done net at copy batch memory (take_outcome copy.ops batch)) reply (with_copy net at new)
  take_tells reply is =
      subst (λ (r : Reply). Tells (λ memory. take_done net at copy batch memory (take_outcome copy.ops batch)) r (with_copy net at new)) (sym is.2)
      (took_tells (take_outcome copy.ops batch) (take_memory is.0) is.0 (reply_memory is.0) is.1.0 is.1.1 is.1.2)

  more_told : (Holds : TakeFault → Type 0) (result : Result ℕ TakeFault) → ((fault : TakeFault) → HasMore new.ops batch fault → Holds fault) → IfErr result (HasMore new.ops batch) → IfNotTaken (taken_reply result) Holds
  more_told Holds (Ok count) holds more = tt
  more_told Holds (Err fault) holds more = holds fault more

  -- where memory ended, something of the batch is new still to the copy in the net
  pub more_tells : (Holds : TakeFault → Type 0) (reply : Reply) → ((fault : TakeFault) → HasMoreAt (with_copy net at new) at batch fault → Holds fault) → TakesWith batch copy reply new → IfNotTaken reply Holds
  more_tells Holds reply holds is =
      let here : (fault : TakeFault) → HasMore new.ops batch fault → Holds fault =
      λ fault more. holds fault (subst (λ (o : Option Log). IfSome o (λ (log : Log). HasMore log.ops batch fault)) (sym (set_here net.copies at copy new there)) more) in
      subst (λ (r : Reply). IfNotTaken r Holds) (sym is.2) (more_told Holds is.0 here is.1.3)
