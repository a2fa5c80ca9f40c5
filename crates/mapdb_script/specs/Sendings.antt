-- What messages have: parts of the lists of the copies that sent them.
use Rattle.std.specs.Prelude.{◌≡◌, ◌≤◌, ◌<◌, ℕ, ◌-◌, List, [], Option, None, Some, Result, drop}
use Rattle.std.specs.Prelude.{Bool, OnOk, length, map, max, min, nat_le, slice_get, slice_set, take, true}
use Rattle.std.specs.Prelude.{◌&&◌, if◌then◌else◌}
use Rattle.mapdb_facts.specs.declared.operations.Op.{Op}
use Rattle.mapdb_replica.specs.Agreement.{knows_all}
use Rattle.mapdb_replica.specs.Replica.{Log}
use Rattle.mapdb_replica.specs.Taking.{Takes, take_outcome}
use Rattle.mapdb_replica.specs.declared.faults.TakeFault.{TakeFault}
use Rattle.mapdb_script.specs.declared.sendings.Sending.{Sending}

-- the operations of a list from a mark on and up to before another
abbrev pub ops_between : ℕ → ℕ → List Op → List Op
ops_between first end ops = take (end - first) (drop first ops)

-- those of a sending, of the copy that sent it
abbrev pub sent_by : Option Log → Sending → List Op
sent_by None sending = []
sent_by (Some log) sending = ops_between sending.first sending.end log.ops

-- those of a sending of one of the copies
abbrev pub ops_sent : List Log → Sending → List Op
ops_sent copies sending = sent_by (slice_get copies sending.sender) sending

-- the operations of each of these
abbrev pub messages_of : List Log → List Sending → List (List Op)
messages_of copies sendings = map (ops_sent copies) sendings

-- the sender is there, and its list has that part
pub record IsSent (copies : List Log) (sending : Sending) : Type 0 where
  pub there : sending.sender < length copies
  pub ordered : sending.first ≤ sending.end
  pub within : (log : Log) → slice_get copies sending.sender ≡ Some log
      → sending.end ≤ length log.ops

-- how many first operations of a sending are among so many first ones of its sender's list
abbrev pub known_among : Sending → ℕ → ℕ
known_among sending mark = min mark sending.end - sending.first

-- How many first ones of that list are known to be held once a sending was taken, or was not: all
-- in front of its end, where it begins among those that were known.
abbrev pub after_taking : ℕ → Sending → Bool → ℕ
after_taking mark sending is_taken =
    if is_taken && nat_le sending.first mark then max mark sending.end else mark

-- What a copy leaves that took a batch behind so many first operations, which it holds: it comes to
-- what taking all of them does. Once it took them it holds them all.
pub record TakesPart (known : ℕ) (batch : List Op) (taken : Result ℕ TakeFault) (old new : Log)
    : Type 0 where
  pub takes : Takes (drop known batch) (take_outcome old.ops batch) taken old new
  pub held : OnOk taken (knows_all new.ops batch ≡ true)

-- One of the copies did so with a sending of another one, and the others stayed.
pub record TakesSent (copies : List Log) (into : ℕ) (sending : Sending) (taken : Result ℕ TakeFault)
    (new : List Log) : Type 0 where
  pub one : Log
  pub other : Log
  pub after : Log
  pub there : slice_get copies into ≡ Some one
  pub other_there : slice_get copies sending.sender ≡ Some other
  pub known : ℕ
  pub takes : TakesPart known (ops_between sending.first sending.end other.ops) taken one after
  pub kept : new ≡ slice_set copies into after
