-- The copy of a run in which one processor alone issues commands is that of the commands.
use Rattle.std.proofs.Common.{◌≡◌, ℕ, zero, suc, ◌+◌, Bool, true, false, Err, Ok, Result, Some, sym, subst, ap, ◌∙◌, List, [], ◌∷◌, map, arith}
use Rattle.std.specs.Prelude.{◌<◌, ◌==◌, ◌≢◌, Option, None, slice_get, if◌then◌else◌}
use Rattle.std.specs.List.{range_with_len}
use Rattle.mapdb_facts.specs.declared.operations.Op.{Op}
use Rattle.mapdb_replica.specs.Commands.{command_outcome}
use Rattle.mapdb_replica.specs.Giving.{given}
use Rattle.mapdb_replica.specs.Memory.{EndsAfter, Enough, Memory}
use Rattle.mapdb_replica.specs.Replica.{Log, empty, with_issued}
use Rattle.mapdb_replica.specs.Taking.{take_left, take_outcome}
use Rattle.mapdb_replica.specs.declared.commands.Command.{Command}
use Rattle.mapdb_replica.specs.declared.faults.GiveFault.{GiveFault}
use Rattle.mapdb_replica.specs.declared.faults.IssueFault.{IssueFault}
use Rattle.mapdb_replica.specs.declared.faults.TakeFault.{TakeFault}
use Rattle.mapdb_tree.specs.Tree.{Tree, first_tree}
use Rattle.mapdb_sequential.specs.Plain.{GoesOnWith, IsPlain}
use Rattle.mapdb_sequential.proofs.Lists.PlainLists.{sequential_tree}
use Rattle.mapdb_cluster.specs.Alone.{IsAlone, RunsAloneAreTrees, commands_of}
use Rattle.mapdb_cluster.specs.Net.{Done, Net, at_copy, at_processor, delivered, event_done, issue_done, joined, new_net, send_done, take_done, taken_at, with_copy}
use Rattle.mapdb_cluster.specs.Run.{Happens, Loads, Move, after, move_done}
use Rattle.mapdb_cluster.specs.declared.events.Event.TheVariants.{Deliver, Issue, Join, Send}
use Rattle.mapdb_cluster.specs.declared.events.Reply.TheVariants.{Taken}
use Rattle.mapdb_cluster.proofs.Steps.Slots.{set_apart, set_here}

-- the processor's copy in a net
abbrev IsThere : ℕ → Net → Log → Type 0
IsThere at net log = slice_get net.copies at ≡ Some log

-- the net after a command at a copy that is there
issued_net : (net : Net) (at : ℕ) (log : Log) (command : Command) → IsThere at net log
    → (issue_done net at log command Enough (command_outcome log command)).net ≡ (event_done net (Issue at command) Enough).net
issued_net net at log command there =
    sym (ap (λ (o : Option Log). (at_copy net o (λ copy. issue_done net at copy command Enough (command_outcome copy command))).net) there)

-- one command, whatever it comes to, and then the rest
goes_on : (net : Net) (at : ℕ) (log : Log) (T : Tree) (command : Command) (Rest : Log → Tree → Type 0) (Last : Net → Type 0)
    → ((next : Net) (next_log : Log) (next_tree : Tree) → IsThere at next next_log → Rest next_log next_tree → Last next)
    → IsThere at net log → (outcome : Result (List Op) IssueFault) → GoesOnWith log T command Rest outcome
    → Last (issue_done net at log command Enough outcome).net
goes_on net at log T command Rest Last rest there (Err refusal) is = rest net log T there is
goes_on net at log T command Rest Last rest there (Ok ops) (free, next, step, is) =
    rest (with_copy net at (with_issued log ops)) (with_issued log ops) next (set_here net.copies at log (with_issued log ops) there) is

-- What others take, and what is sent, leaves a copy as it is.
module _ (at : ℕ) (log : Log) where
  taken_stays : (net : Net) (to : ℕ) (copy : Log) (batch : List Op) (memory : Memory) (outcome : Result (List Op) TakeFault) → to ≢ at
      → IsThere at net log → IsThere at (take_done net to copy batch memory outcome).net log
  taken_stays net to copy batch memory (Err why) other there = there
  taken_stays net to copy batch memory (Ok ops) other there = set_apart net.copies to at (take_left memory batch (Ok ops) copy) other ∙ there

  delivered_stays : (net : Net) (memory : Memory) (to : ℕ) (batch : Option (List Op)) (copy : Log) → to ≢ at
      → IsThere at net log → IsThere at (delivered net memory to batch copy).net log
  delivered_stays net memory to None copy other there = there
  delivered_stays net memory to (Some batch) copy other there = taken_stays net to copy batch memory (take_outcome copy.ops batch) other there

  joined_stays : (net : Net) (memory : Memory) (into from : ℕ) (copy from_copy : Log) → into ≢ at
      → IsThere at net log → IsThere at (joined net memory into from copy from_copy).net log
  joined_stays net memory into from copy from_copy other there = by_self (into == from)
    where
      by_self : (b : Bool) → IsThere at (if b then record { reply = Taken 0; net = net; taker = into; took = copy.ops } else taken_at net memory into from_copy.ops copy).net log
      by_self true = there
      by_self false = taken_stays net into copy from_copy.ops memory (take_outcome copy.ops from_copy.ops) other there

  sent_stays : (net : Net) (memory : Memory) (outcome : Result (List Op) GiveFault) → IsThere at net log → IsThere at (send_done net memory outcome).net log
  sent_stays net memory (Err why) there = there
  sent_stays net Enough (Ok ops) there = there
  sent_stays net (EndsAfter count) (Ok ops) there = there

  copy_stays : (net : Net) (found : Option Log) (done : Log → Done) → ((copy : Log) → IsThere at (done copy).net log) → IsThere at net log
      → IsThere at (at_copy net found done).net log
  copy_stays net None done each there = there
  copy_stays net (Some copy) done each there = each copy

  load_stays : (net : Net) (memory : Memory) (to : ℕ) (batch : List Op) → to ≢ at → IsThere at net log
      → IsThere at (at_processor net to (λ copy. taken_at net memory to batch copy)).net log
  load_stays net memory to batch other there =
      copy_stays net (slice_get net.copies to) (λ copy. taken_at net memory to batch copy) (λ copy. taken_stays net to copy batch memory (take_outcome copy.ops batch) other there) there

  send_stays : (net : Net) (memory : Memory) (from first end : ℕ) → IsThere at net log → IsThere at (event_done net (Send from first end) memory).net log
  send_stays net memory from first end there =
      copy_stays net (slice_get net.copies from) (λ copy. send_done net memory (given copy.ops first end)) (λ copy. sent_stays net memory (given copy.ops first end) there) there

  deliver_stays : (net : Net) (memory : Memory) (message to : ℕ) → to ≢ at → IsThere at net log → IsThere at (event_done net (Deliver message to) memory).net log
  deliver_stays net memory message to other there =
      copy_stays net (slice_get net.copies to) (λ copy. delivered net memory to (slice_get net.messages message) copy)
      (λ copy. delivered_stays net memory to (slice_get net.messages message) copy other there) there

  join_stays : (net : Net) (memory : Memory) (into from : ℕ) → into ≢ at → IsThere at net log → IsThere at (event_done net (Join into from) memory).net log
  join_stays net memory into from other there =
      copy_stays net (slice_get net.copies into) (λ copy. at_processor net from (λ from_copy. joined net memory into from copy from_copy))
      (λ copy. copy_stays net (slice_get net.copies from) (λ from_copy. joined net memory into from copy from_copy) (λ from_copy. joined_stays net memory into from copy from_copy other there) there)
      there

-- the copy alone, move by move
alone : (at : ℕ) (moves : List Move) (net : Net) (log : Log) (T : Tree) (last : Log) (T' : Tree)
    → IsThere at net log → IsAlone at moves → IsPlain log T (commands_of moves) last T' → IsThere at (after net moves) last
alone at [] net log T last T' there is_alone (same, same_tree) = subst (IsThere at net) (sym same) there
alone at (Happens (Issue to command) memory ∷ moves) net log T last T' there ((here, all), rest) is =
    subst (λ (m : Memory). IsThere at (after (event_done net (Issue to command) m).net moves) last) (sym all)
    (subst (λ (i : ℕ). IsThere at (after (event_done net (Issue i command) Enough).net moves) last) (sym here)
    (subst (λ (n : Net). IsThere at (after n moves) last) (issued_net net at log command there)
    (goes_on net at log T command (λ next_log next. IsPlain next_log next (commands_of moves) last T') (λ n. IsThere at (after n moves) last)
    (λ next next_log next_tree now plain. alone at moves next next_log next_tree last T' now rest plain)
    there (command_outcome log command) is)))
alone at (Happens (Send from first end) memory ∷ moves) net log T last T' there (other, rest) is =
    alone at moves (event_done net (Send from first end) memory).net log T last T' (send_stays at log net memory from first end there) rest is
alone at (Happens (Deliver message to) memory ∷ moves) net log T last T' there (other, rest) is =
    alone at moves (event_done net (Deliver message to) memory).net log T last T' (deliver_stays at log net memory message to other there) rest is
alone at (Happens (Join into from) memory ∷ moves) net log T last T' there (other, rest) is =
    alone at moves (event_done net (Join into from) memory).net log T last T' (join_stays at log net memory into from other there) rest is
alone at (Loads to ops memory ∷ moves) net log T last T' there (other, rest) is =
    alone at moves (move_done net (Loads to ops memory)).net log T last T' (load_stays at log net memory to ops other there) rest is

-- each processor has an empty copy at first
empty_there : (first count at : ℕ) → at < count → slice_get (map empty (range_with_len first count)) at ≡ Some (empty (first + at))
empty_there first zero at few = absurd (omega (arith, few))
empty_there first (suc count) zero few = ap (λ (n : ℕ). Some (empty n)) (omega arith)
empty_there first (suc count) (suc at) few =
    empty_there (first + 1) count at (omega (arith, few)) ∙ ap (λ (n : ℕ). Some (empty n)) (omega arith)

first_there : (count at : ℕ) → at < count → IsThere at (new_net count) (empty at)
first_there count at few = let same : 0 + at ≡ at = omega arith in empty_there 0 count at few ∙ ap (λ (n : ℕ). Some (empty n)) same

pub runs_alone_are_trees : RunsAloneAreTrees
runs_alone_are_trees run at log T few is_alone are plain = record {
  there = alone at run.moves (new_net run.count) (empty at) first_tree log T (first_there run.count at few) is_alone plain;
  nodes = sequential_tree at (commands_of run.moves) log T are plain;
}
