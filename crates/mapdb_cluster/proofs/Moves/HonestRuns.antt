-- Runs of events alone are honest: from nothing on, each event keeps what clusters keep.
use Rattle.std.proofs.Common.{◌≡◌, ◌∙◌, ℕ, zero, suc, ◌+◌, ◌<◌, ◌≤◌, true, Err, Ok, Result, Some, refl, sym, subst, ap, inl, inr, List, [], ◌∷◌, ◌++◌, length, map, arith}
use Rattle.std.specs.Prelude.{◌⊎◌, Option, None, slice_get}
use Rattle.std.specs.List.{range_with_len}
use Rattle.mapdb_fpage.specs.Place.{IsPlace}
use Rattle.mapdb_facts.specs.Names.{processor_limit}
use Rattle.mapdb_facts.specs.Records.{IsAmong}
use Rattle.mapdb_facts.specs.WellFormed.{all_formed, is_formed}
use Rattle.mapdb_facts.specs.declared.operations.Op.{Op}
use Rattle.mapdb_facts.specs.declared.operations.Op.TheVariants.{Born}
use Rattle.mapdb_facts.specs.declared.operations.Record.{Record}
use Rattle.mapdb_replica.specs.Commands.{IsCommand, command_outcome}
use Rattle.mapdb_replica.specs.Forms.{HavePlaces}
use Rattle.mapdb_replica.specs.Memory.{Memory, lasting}
use Rattle.mapdb_replica.specs.Replica.{Log, empty, with_issued}
use Rattle.mapdb_replica.specs.declared.commands.Command.{Command}
use Rattle.mapdb_replica.specs.declared.faults.IssueFault.{IssueFault}
use Rattle.mapdb_replica.proofs.Calls.FormedIssues.{issues_are_formed}
use Rattle.mapdb_cluster.specs.Honest.{AllTrusted, AreEvents, HonestRuns, IsEvent}
use Rattle.mapdb_cluster.specs.Kept.{IsCopyOf, IsKeptNet}
use Rattle.mapdb_cluster.specs.Net.{Done, Net, at_copy, at_processor, event_done, issue_done, new_net, with_copy}
use Rattle.mapdb_cluster.specs.Run.{Happens, Loads, Move, after, replies}
use Rattle.mapdb_cluster.specs.declared.events.Event.{Event}
use Rattle.mapdb_cluster.specs.declared.events.Event.TheVariants.{Deliver, Issue, Join, Send}
use Rattle.mapdb_facts.proofs.Lists.Among.{among_append}
use Rattle.mapdb_cluster.proofs.Moves.Among.{among_atom, among_lasting, atom_among, formed_among, formed_each}
use Rattle.mapdb_cluster.proofs.Steps.Changing.{each_changed}
use Rattle.mapdb_cluster.proofs.Moves.HonestSteps.{AllFormed, Does, EachHeld, deliver_event, issue_event, join_event, send_event}
use Rattle.mapdb_cluster.proofs.Moves.Issuers.{kept_from}
use Rattle.mapdb_cluster.proofs.Steps.Slots.{none_some}

-- the operation's record has a place, where it is one
abbrev pub HasPlace : Op → Type 0
HasPlace op = (r : Record) → op ≡ Born r → IsPlace r.place

pub places_of : (ops : List Op) → ((op : Op) → IsAmong op ops → HasPlace op) → HavePlaces ops
places_of ops each r has = each (Born r) (atom_among ops r has) r refl

place_at : (ops : List Op) → HavePlaces ops → (op : Op) → IsAmong op ops → HasPlace op
place_at ops places op among r is = places r (among_atom ops r (subst (λ (x : Op). IsAmong x ops) is among))

-- a place of a list is below its length
below_length : {X : Type 0} → (xs : List X) (i : ℕ) (x : X) → slice_get xs i ≡ Some x → i < length xs
below_length [] i x there = absurd (none_some x there)
below_length (y ∷ ys) zero x there = omega arith
below_length (y ∷ ys) (suc i) x there = let below = below_length ys i x there in omega arith

-- A copy that issues.

module _ (net : Net) (kept : IsKeptNet net) (placed : EachHeld HasPlace net) where
  formed_here : AllFormed net
  formed_here at copy there = (kept.copies at copy there).formed

  -- what a command issues
  issued_good : (at : ℕ) (copy : Log) (command : Command) (ops : List Op) → IsCommand command → slice_get net.copies at ≡ Some copy → command_outcome copy command ≡ Ok ops → (all_formed ops ≡ true) × HavePlaces ops
  issued_good at copy command ops is there outcome =
      let low : copy.processor < processor_limit = omega (arith, (kept.copies at copy there).place, below_length net.copies at copy there, kept.few) in
      issues_are_formed copy command ops low (kept.copies at copy there).formed (places_of copy.ops (placed at copy there)) is outcome

  -- a part of it
  module _ (at : ℕ) (copy : Log) (ops part : List Op) (there : slice_get net.copies at ≡ Some copy) (good : (all_formed ops ≡ true) × HavePlaces ops) (within : (op : Op) → IsAmong op part → IsAmong op ops) where
    formed_more : AllFormed (with_copy net at (with_issued copy part))
    formed_more = each_changed net at copy (with_issued copy part) there (λ i c. all_formed c.ops ≡ true) (formed_each (copy.ops ++ part) (λ op among. by_part op (among_append copy.ops part op among))) formed_here
      where
        by_part : (op : Op) → IsAmong op copy.ops ⊎ IsAmong op part → is_formed op ≡ true
        by_part op (inl before) = formed_among copy.ops op (kept.copies at copy there).formed before
        by_part op (inr later) = formed_among ops op good.0 (within op later)

    placed_more : EachHeld HasPlace (with_copy net at (with_issued copy part))
    placed_more = each_changed net at copy (with_issued copy part) there (λ i c. (op : Op) → IsAmong op c.ops → HasPlace op) (λ op among. by_part op (among_append copy.ops part op among)) placed
      where
        by_part : (op : Op) → IsAmong op copy.ops ⊎ IsAmong op part → HasPlace op
        by_part op (inl before) = placed at copy there op before
        by_part op (inr later) = place_at ops good.1 op (within op later)

  formed_issue : (at : ℕ) (copy : Log) (command : Command) (memory : Memory) (o : Result (List Op) IssueFault) → IsCommand command → slice_get net.copies at ≡ Some copy → command_outcome copy command ≡ o → AllFormed (issue_done net at copy command memory o).net
  formed_issue at copy command memory (Err fault) is there outcome = formed_here
  formed_issue at copy command memory (Ok ops) is there outcome = formed_more at copy ops (lasting memory ops) there (issued_good at copy command ops is there outcome) (among_lasting memory ops)

  placed_issue : (at : ℕ) (copy : Log) (command : Command) (memory : Memory) (o : Result (List Op) IssueFault) → IsCommand command → slice_get net.copies at ≡ Some copy → command_outcome copy command ≡ o → EachHeld HasPlace (issue_done net at copy command memory o).net
  placed_issue at copy command memory (Err fault) is there outcome = placed
  placed_issue at copy command memory (Ok ops) is there outcome = placed_more at copy ops (lasting memory ops) there (issued_good at copy command ops is there outcome) (among_lasting memory ops)

  -- An event whose places are places.

  at_issue : (P : Net → Type 0) → P net → (at : ℕ) (done : Log → Done) → ((copy : Log) → slice_get net.copies at ≡ Some copy → P (done copy).net) → P (at_processor net at done).net
  at_issue P same at done each = by_copy (slice_get net.copies at) refl
    where
      by_copy : (o : Option Log) → slice_get net.copies at ≡ o → P (at_copy net o done).net
      by_copy None is = same
      by_copy (Some copy) is = each copy is

  pub honest_step : (event : Event) (memory : Memory) → IsEvent event → Does HasPlace (event_done net event memory)
  honest_step (Issue at command) memory is =
      issue_event HasPlace net kept placed at command memory
      (at_issue AllFormed formed_here at (λ copy. issue_done net at copy command memory (command_outcome copy command)) (λ copy there. formed_issue at copy command memory (command_outcome copy command) is there refl))
      (at_issue (EachHeld HasPlace) placed at (λ copy. issue_done net at copy command memory (command_outcome copy command)) (λ copy there. placed_issue at copy command memory (command_outcome copy command) is there refl))
  honest_step (Send from first end) memory is = send_event HasPlace net kept placed from first end memory
  honest_step (Deliver message to) memory is = deliver_event HasPlace net kept placed message to memory
  honest_step (Join into from) memory is = join_event HasPlace net kept placed into from memory

-- Copies that hold nothing.

some_same : (a b : Log) → Some a ≡ Some b → b ≡ a
some_same a b e = cc

empty_is : (first count at : ℕ) (copy : Log) → slice_get (map empty (range_with_len first count)) at ≡ Some copy → copy ≡ empty (first + at)
empty_is first zero at copy there = absurd (none_some copy there)
empty_is first (suc count) zero copy there = let same : first ≡ first + 0 = omega arith in some_same (empty first) copy there ∙ ap empty same
empty_is first (suc count) (suc at) copy there = let same : first + 1 + at ≡ first + suc at = omega arith in empty_is (first + 1) count at copy there ∙ ap empty same

length_new : (first count : ℕ) → length (map empty (range_with_len first count)) ≡ count
length_new first zero = refl
length_new first (suc count) = ap suc (length_new (first + 1) count)

pub new_kept : (count : ℕ) → count ≤ processor_limit → IsKeptNet (new_net count)
new_kept count few =
    kept_from (new_net count) copies (omega (arith, few, length_new 0 count))
    (λ at copy there op among. absurd (subst (λ (c : Log). IsAmong op c.ops) (empty_is 0 count at copy there) among))
    (λ message batch there op among. absurd (none_some batch there))
  where
    empty_copy : (at : ℕ) → IsCopyOf at (empty (0 + at))
    empty_copy at = record { place = omega arith; formed = refl; sound = λ r s in_r in_s same. absurd in_r; held = λ op among. among; named = λ r among. absurd among }

    copies : (at : ℕ) (copy : Log) → slice_get (map empty (range_with_len 0 count)) at ≡ Some copy → IsCopyOf at copy
    copies at copy there = subst (IsCopyOf at) (sym (empty_is 0 count at copy there)) (empty_copy at)

new_placed : (count : ℕ) → EachHeld HasPlace (new_net count)
new_placed count at copy there op among = absurd (subst (λ (c : Log). IsAmong op c.ops) (empty_is 0 count at copy there) among)

-- Runs.

-- a net that is kept, in which each record has a place
pub record IsGood (net : Net) : Type 0 where
  pub kept : IsKeptNet net
  pub placed : EachHeld HasPlace net

pub good_from : (net : Net) (moves : List Move) → IsGood net → AreEvents moves → IsGood (after net moves) × AllTrusted (replies net moves)
good_from net [] good are = (good, tt)
good_from net (Happens event memory ∷ moves) good are =
    let done = honest_step net good.kept good.placed event memory are.0 in
    let rest = good_from (event_done net event memory).net moves (record { kept = done.kept; placed = done.each }) are.1 in
    (rest.0, (done.trusted, rest.1))
good_from net (Loads at ops memory ∷ moves) good are = absurd are

pub new_good : (count : ℕ) → count ≤ processor_limit → IsGood (new_net count)
new_good count few = record { kept = new_kept count few; placed = new_placed count }

pub honest_runs : HonestRuns
honest_runs run few are = let runs = good_from (new_net run.count) run.moves (new_good run.count few) are in (runs.0.kept.honest, runs.1)
