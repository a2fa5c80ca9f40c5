-- Whatever an event does, each copy holds what it held and what it took.
use Rattle.std.proofs.Common.{◌≡◌, ℕ, Bool, true, false, Err, Ok, Result, Some, refl, subst, inl, inr, List, ◌++◌, drop, take}
use Rattle.std.specs.Prelude.{◌==◌, ◌⊎◌, Option, None, slice_get, if◌then◌else◌}
use Rattle.std.proofs.lemmas.List.{take-append-drop}
use Rattle.mapdb_facts.specs.State.{Atom, HasAtom, IsSound, Rec, SameAtoms, state_of}
use Rattle.mapdb_facts.specs.declared.operations.Op.{Op}
use Rattle.mapdb_facts.proofs.States.Joins.{atom_append, atom_left, atom_right}
use Rattle.mapdb_replica.specs.Commands.{command_outcome}
use Rattle.mapdb_replica.specs.Giving.{given}
use Rattle.mapdb_replica.specs.Memory.{EndsAfter, Enough, Memory, lasting}
use Rattle.mapdb_replica.specs.Replica.{Log, news, with_issued}
use Rattle.mapdb_replica.specs.Taking.{first_bad, least_clash, take_refusal_told, take_outcome, too_many, with_taken}
use Rattle.mapdb_replica.specs.declared.commands.Command.{Command}
use Rattle.mapdb_replica.specs.declared.faults.GiveFault.{GiveFault}
use Rattle.mapdb_replica.specs.declared.faults.IssueFault.{IssueFault}
use Rattle.mapdb_replica.specs.declared.faults.TakeFault.{TakeFault}
use Rattle.mapdb_replica.specs.declared.faults.TakeFault.TheVariants as take_fault
use Rattle.mapdb_replica.proofs.News.NewsAtoms.{news_give, same_itself}
use Rattle.mapdb_replica.proofs.Calls.SoundIssues.{issues_are_sound}
use Rattle.mapdb_replica.proofs.News.SoundTakes.{taken_parts, takes_are_sound}
use Rattle.mapdb_cluster.specs.Laws.{AreSound}
use Rattle.mapdb_cluster.specs.Net.{Done, Net, at_copy, at_processor, delivered, event_done, issue_done, issued_reply, joined, refused, send_done, take_done, taken_at}
use Rattle.mapdb_cluster.specs.Run.{Happens, Loads, Move, move_done}
use Rattle.mapdb_cluster.specs.declared.events.Event.{Event}
use Rattle.mapdb_cluster.specs.declared.events.Event.TheVariants.{Deliver, Issue, Join, Send}
use Rattle.mapdb_cluster.specs.declared.events.Refusal.{Refusal}
use Rattle.mapdb_cluster.specs.declared.events.Refusal.TheVariants as refusal
use Rattle.mapdb_cluster.specs.declared.events.Reply.TheVariants.{Refused, Taken}
use Rattle.mapdb_cluster.proofs.Steps.Holding.{AllHold, changed_hold, repeated_hold, sound_alike, unchanged_hold}

-- what the first operations give, all give
part_gives : (xs : List Op) (n : ℕ) (atom : Atom) → HasAtom (take n xs) atom → HasAtom xs atom
part_gives xs n atom has = subst (λ (ys : List Op). HasAtom ys atom) (take-append-drop n xs) (atom_left (take n xs) (drop n xs) atom has)

-- a part of a sound list is sound
pub part_sound : (held xs : List Op) (n : ℕ) → IsSound (held ++ xs) → IsSound (held ++ take n xs)
part_sound held xs n sound r s in_r in_s same = sound r s (whole r in_r) (whole s in_s) same
  where
    whole : (t : _) → HasAtom (held ++ take n xs) (Rec t) → HasAtom (held ++ xs) (Rec t)
    whole t has = by_part (atom_append held (take n xs) (Rec t) has)
      where
        by_part : HasAtom held (Rec t) ⊎ HasAtom (take n xs) (Rec t) → HasAtom (held ++ xs) (Rec t)
        by_part (inl before) = atom_left held xs (Rec t) before
        by_part (inr later) = atom_right held xs (Rec t) (part_gives xs n (Rec t) later)

pub lasting_sound : (held : List Op) (memory : Memory) (xs : List Op) → IsSound (held ++ xs) → IsSound (held ++ lasting memory xs)
lasting_sound held Enough xs sound = sound
lasting_sound held (EndsAfter count) xs sound = part_sound held xs count sound

module _ (net : Net) (sound : AreSound net) where
  refused_hold : (why : Refusal) → AllHold net (refused net why)
  refused_hold why = unchanged_hold net (refused net why) sound refl refl

  issue_hold : (at : ℕ) (copy : Log) (command : Command) (memory : Memory) (o : Result (List Op) IssueFault) → slice_get net.copies at ≡ Some copy → command_outcome copy command ≡ o → AllHold net (issue_done net at copy command memory o)
  issue_hold at copy command memory (Err fault) there is = refused_hold (refusal.Issue fault)
  issue_hold at copy command memory (Ok ops) there is =
      changed_hold net (issued_reply memory command ops) at copy (with_issued copy (lasting memory ops)) (lasting memory ops) sound there (same_itself (copy.ops ++ lasting memory ops))
      (lasting_sound copy.ops memory ops (issues_are_sound copy command ops (sound at copy there) is))

  take_hold : (at : ℕ) (copy : Log) (batch : List Op) (memory : Memory) (o : Result (List Op) TakeFault) → slice_get net.copies at ≡ Some copy → take_outcome copy.ops batch ≡ o → AllHold net (take_done net at copy batch memory o)
  take_hold at copy batch memory (Err fault) there is = refused_hold (refusal.Take (take_refusal_told memory fault))
  take_hold at copy batch Enough (Ok ops) there is =
      let fresh : news (state_of copy.ops) batch ≡ ops = (taken_parts (first_bad 0 batch) (least_clash copy.ops batch) (too_many copy.ops batch) (news (state_of copy.ops) batch) ops is).3 in
      let same : SameAtoms (copy.ops ++ ops) (copy.ops ++ batch) = subst (λ (xs : List Op). SameAtoms (copy.ops ++ xs) (copy.ops ++ batch)) fresh (news_give copy.ops batch) in
      changed_hold net (Taken _) at copy (with_taken copy ops) batch sound there same
      (sound_alike (copy.ops ++ ops) (copy.ops ++ batch) same (takes_are_sound copy.ops batch ops (sound at copy there) is))
  take_hold at copy batch (EndsAfter n) (Ok ops) there is =
      changed_hold net (Refused (refusal.Take (take_fault.Memory n))) at copy (with_taken copy (news (state_of copy.ops) (take n batch))) (take n batch) sound there (news_give copy.ops (take n batch))
      (sound_alike (copy.ops ++ news (state_of copy.ops) (take n batch)) (copy.ops ++ take n batch) (news_give copy.ops (take n batch))
      (part_sound copy.ops batch n (takes_are_sound copy.ops batch ops (sound at copy there) is)))

  taken_hold : (memory : Memory) (at : ℕ) (batch : List Op) (copy : Log) → slice_get net.copies at ≡ Some copy → AllHold net (taken_at net memory at batch copy)
  taken_hold memory at batch copy there = take_hold at copy batch memory (take_outcome copy.ops batch) there refl

  send_hold : (memory : Memory) (o : Result (List Op) GiveFault) → AllHold net (send_done net memory o)
  send_hold memory (Err fault) = refused_hold refusal.Mark
  send_hold Enough (Ok ops) = unchanged_hold net (send_done net Enough (Ok ops)) sound refl refl
  send_hold (EndsAfter count) (Ok ops) = refused_hold refusal.Memory

  -- where each copy that is there does well, what is done at a processor does
  at_hold : (at : ℕ) (done : Log → Done) → ((copy : Log) → slice_get net.copies at ≡ Some copy → AllHold net (done copy)) → AllHold net (at_processor net at done)
  at_hold at done each = by_copy (slice_get net.copies at) refl
    where
      by_copy : (o : Option Log) → slice_get net.copies at ≡ o → AllHold net (at_copy net o done)
      by_copy None is = refused_hold refusal.NoProcessor
      by_copy (Some copy) is = each copy is

  deliver_hold : (memory : Memory) (to : ℕ) (o : Option (List Op)) (copy : Log) → slice_get net.copies to ≡ Some copy → AllHold net (delivered net memory to o copy)
  deliver_hold memory to None copy there = refused_hold refusal.NoMessage
  deliver_hold memory to (Some batch) copy there = taken_hold memory to batch copy there

  join_hold : (memory : Memory) (into from : ℕ) (copy other : Log) → slice_get net.copies into ≡ Some copy → AllHold net (joined net memory into from copy other)
  join_hold memory into from copy other there = by_place (into == from)
    where
      by_place : (b : Bool) → AllHold net (if b then record { reply = Taken 0; net = net; taker = into; took = copy.ops } else taken_at net memory into other.ops copy)
      by_place true = repeated_hold net (Taken 0) into copy sound there
      by_place false = taken_hold memory into other.ops copy there

  event_hold : (event : Event) (memory : Memory) → AllHold net (event_done net event memory)
  event_hold (Issue at command) memory = at_hold at (λ copy. issue_done net at copy command memory (command_outcome copy command)) (λ copy there. issue_hold at copy command memory (command_outcome copy command) there refl)
  event_hold (Send from first end) memory = at_hold from (λ copy. send_done net memory (given copy.ops first end)) (λ copy there. send_hold memory (given copy.ops first end))
  event_hold (Deliver message to) memory = at_hold to (λ copy. delivered net memory to (slice_get net.messages message) copy) (λ copy there. deliver_hold memory to (slice_get net.messages message) copy there)
  event_hold (Join into from) memory =
      at_hold into (λ copy. at_processor net from (λ other. joined net memory into from copy other)) (λ copy there.
      at_hold from (λ other. joined net memory into from copy other) (λ other here. join_hold memory into from copy other there))

  pub move_hold : (move : Move) → AllHold net (move_done net move)
  move_hold (Happens event memory) = event_hold event memory
  move_hold (Loads at ops memory) = at_hold at (λ copy. taken_at net memory at ops copy) (λ copy there. taken_hold memory at ops copy there)
