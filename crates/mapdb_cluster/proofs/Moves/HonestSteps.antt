-- An event keeps what a cluster keeps, and refuses no operation as bad, nor for a clash.
use Rattle.std.proofs.Common.{◌≡◌, ℕ, ◌+◌, ◌-◌, Bool, true, false, Err, Ok, Result, Some, refl, sym, subst, inl, inr, List, ◌++◌, drop, take}
use Rattle.std.specs.Prelude.{◌&&◌, ◌==◌, ◌⊎◌, Option, None, count_by, length, nat_le, nat_lt, slice_get, if◌then◌else◌}
use Rattle.std.specs.Option.{option_map, option_or}
use Rattle.mapdb_facts.specs.Adding.{is_new}
use Rattle.mapdb_facts.specs.Records.{IsAmong}
use Rattle.mapdb_facts.specs.State.{IsSound, state_of}
use Rattle.mapdb_facts.specs.WellFormed.{all_formed}
use Rattle.mapdb_facts.specs.declared.names.RecordId.{RecordId}
use Rattle.mapdb_facts.specs.declared.operations.Op.{Op}
use Rattle.mapdb_facts.specs.declared.operations.Op.TheVariants.{Born, Closed, Cut}
use Rattle.mapdb_facts.specs.declared.operations.Record.{Record}
use Rattle.mapdb_replica.specs.Commands.{command_outcome}
use Rattle.mapdb_replica.specs.Giving.{given}
use Rattle.mapdb_replica.specs.Memory.{EndsAfter, Enough, Memory, lasting}
use Rattle.mapdb_replica.specs.Replica.{Log, most_operations, news, with_issued}
use Rattle.mapdb_replica.specs.Taking.{first_bad, least_clash, take_outcome, taken_unless, too_many, with_taken}
use Rattle.mapdb_replica.specs.declared.commands.Command.{Command}
use Rattle.mapdb_replica.specs.declared.commands.Command.TheVariants.{End, Map, Unmap}
use Rattle.mapdb_replica.specs.declared.faults.GiveFault.{GiveFault}
use Rattle.mapdb_replica.specs.declared.faults.GiveFault.TheVariants as give
use Rattle.mapdb_replica.specs.declared.faults.IssueFault.{IssueFault}
use Rattle.mapdb_replica.specs.declared.faults.TakeFault.{TakeFault}
use Rattle.mapdb_replica.specs.declared.faults.TakeFault.TheVariants as take_fault
use Rattle.mapdb_replica.proofs.Copies.Bounding.{formed_good}
use Rattle.mapdb_replica.proofs.Calls.FormedIssues.{issues_are_named}
use Rattle.mapdb_replica.proofs.Calls.SoundIssues.{issues_are_sound}
use Rattle.mapdb_replica.proofs.News.SoundTakes.{no_clash_is_sound, taken_parts}
use Rattle.mapdb_cluster.specs.Honest.{IsIssued, IsTrusted}
use Rattle.mapdb_cluster.specs.Kept.{IsKeptNet}
use Rattle.mapdb_cluster.specs.Net.{Done, Net, at_copy, at_processor, delivered, event_done, issue_done, issued_reply, joined, refused, send_done, take_done, take_refused, taken_at, with_copy, with_message}
use Rattle.mapdb_cluster.specs.Steps.{Steps, memory_told}
use Rattle.mapdb_cluster.specs.declared.events.Event.{Event}
use Rattle.mapdb_cluster.specs.declared.events.Event.TheVariants.{Deliver, Issue, Join, Send}
use Rattle.mapdb_cluster.specs.declared.events.Refusal.{Refusal}
use Rattle.mapdb_cluster.specs.declared.events.Refusal.TheVariants as refusal
use Rattle.mapdb_cluster.specs.declared.events.Reply.{Reply}
use Rattle.mapdb_cluster.specs.declared.events.Reply.TheVariants.{Refused, Taken}
use Rattle.mapdb_facts.proofs.Lists.Among.{among_append, among_left, among_right}
use Rattle.mapdb_cluster.proofs.Moves.Among.{among_atom, among_drop, among_lasting, among_news, among_take, put_at}
use Rattle.mapdb_cluster.proofs.Steps.Changing.{changed_kept, each_changed}
use Rattle.mapdb_cluster.proofs.Moves.Issuers.{AllIssued, issued_formed, issued_held, issued_sound, kept_from}
use Rattle.mapdb_cluster.proofs.Steps.Slots.{set_here}
use Rattle.mapdb_cluster.proofs.Steps.Stepping.{lasting_sound}

-- this is so of each operation that a copy holds
abbrev pub EachHeld : (Op → Type 0) → Net → Type 0
EachHeld P net = (at : ℕ) (copy : Log) → slice_get net.copies at ≡ Some copy → (op : Op) → IsAmong op copy.ops → P op

-- what an event comes to keeps what is kept and what is so of each operation, and refuses no operation as bad, nor for a clash
pub record Does (P : Op → Type 0) (done : Done) : Type 0 where
  pub kept : IsKeptNet done.net
  pub each : EachHeld P done.net
  pub trusted : IsTrusted done.reply

abbrev pub AllFormed : Net → Type 0
AllFormed net = (at : ℕ) (copy : Log) → slice_get net.copies at ≡ Some copy → all_formed copy.ops ≡ true

issue_trusted : (memory : Memory) (command : Command) (ops : List Op) → IsTrusted (issued_reply memory command ops)
issue_trusted Enough (Map sender item receiver window) ops = tt
issue_trusted Enough (Unmap space page rights flush) ops = tt
issue_trusted Enough (End space) ops = tt
issue_trusted (EndsAfter count) command ops = tt

err_is : (f g : TakeFault) → (let r : Result (List Op) TakeFault = Err f in r) ≡ Err g → g ≡ f
err_is f g e = cc

ok_err : (ops : List Op) (fault : TakeFault) → Ok ops ≡ Err fault → ⊥
ok_err ops fault e = cc

none_clash : (id : RecordId) → Some id ≡ None → ⊥
none_clash id e = cc

none_bad : (fault : TakeFault) → Some fault ≡ None → ⊥
none_bad fault e = cc

-- what is neither bad nor a clash is refused only for the limit
full_only : (bad : Option TakeFault) (clash : Option RecordId) (full : Bool) (fresh : List Op) (fault : TakeFault) → bad ≡ None → clash ≡ None
    → taken_unless (option_or bad (option_or (option_map take_fault.Clash clash) (if full then Some take_fault.Full else None))) fresh ≡ Err fault → fault ≡ take_fault.Full
full_only (Some why) clash full fresh fault good apart is = absurd (none_bad why good)
full_only None (Some id) full fresh fault good apart is = absurd (none_clash id apart)
full_only None None true fresh fault good apart is = err_is take_fault.Full fault is
full_only None None false fresh fault good apart is = absurd (ok_err fresh fault is)

given_err : (xs : List Op) → Err give.BadMark ≡ Ok xs → ⊥
given_err xs e = cc

given_same : (r : Result (List Op) GiveFault) (a b : List Op) → r ≡ Ok a → r ≡ Ok b → a ≡ b
given_same r a b e f = cc

-- what is given is held
given_among : (ops xs : List Op) (first end : ℕ) → given ops first end ≡ Ok xs → (op : Op) → IsAmong op xs → IsAmong op ops
given_among ops xs first end is op among = by_marks (nat_le first end && nat_le end (length ops)) is
  where
    by_marks : (b : Bool) → (if b then Ok (take (end - first) (drop first ops)) else Err give.BadMark) ≡ Ok xs → IsAmong op ops
    by_marks true e =
        let same : take (end - first) (drop first ops) ≡ xs = given_same (Ok (take (end - first) (drop first ops))) (take (end - first) (drop first ops)) xs refl e in
        among_drop ops first op (among_take (drop first ops) (end - first) op (subst (λ (ys : List Op). IsAmong op ys) (sym same) among))
    by_marks false e = absurd (given_err xs e)

module _ (P : Op → Type 0) (net : Net) (kept : IsKeptNet net) (each : EachHeld P net) where
  refused_does : (why : Refusal) → IsTrusted (Refused why) → Does P (refused net why)
  refused_does why trusted = record { kept = kept; each = each; trusted = trusted }

  -- A command.

  issued_kept : (at : ℕ) (copy : Log) (command : Command) (issued part : List Op) → slice_get net.copies at ≡ Some copy → command_outcome copy command ≡ Ok issued → ((op : Op) → IsAmong op part → IsAmong op issued)
      → IsSound (copy.ops ++ part) → all_formed (copy.ops ++ part) ≡ true → IsKeptNet (with_copy net at (with_issued copy part))
  issued_kept at copy command issued part there is within sound formed =
      changed_kept net kept at copy (with_issued copy part) there
      (record {
        place = (kept.copies at copy there).place;
        formed = formed;
        sound = sound;
        held = λ op among. has op (among_append copy.own part op among);
        named = λ r among. name r (among_append copy.own part (Born r) among);
      })
      (λ op among. among_left copy.own part op among)
      (λ op among. by_part op (among_append copy.ops part op among))
    where
      has : (op : Op) → IsAmong op copy.own ⊎ IsAmong op part → IsAmong op (copy.ops ++ part)
      has op (inl before) = among_left copy.ops part op ((kept.copies at copy there).held op before)
      has op (inr later) = among_right copy.ops part op later

      name : (r : Record) → IsAmong (Born r) copy.own ⊎ IsAmong (Born r) part → r.id.processor ≡ copy.processor
      name r (inl before) = (kept.copies at copy there).named r before
      name r (inr later) = issues_are_named copy command issued is r (among_atom issued r (within (Born r) later))

      by_part : (op : Op) → IsAmong op copy.ops ⊎ IsAmong op part → IsIssued net op ⊎ IsAmong op (copy.own ++ part)
      by_part op (inl before) = inl (kept.honest.held at copy op there before)
      by_part op (inr later) = inr (among_right copy.own part op later)

  issue_does : (at : ℕ) (copy : Log) (command : Command) (memory : Memory) (o : Result (List Op) IssueFault) → slice_get net.copies at ≡ Some copy → command_outcome copy command ≡ o
      → AllFormed (issue_done net at copy command memory o).net → EachHeld P (issue_done net at copy command memory o).net → Does P (issue_done net at copy command memory o)
  issue_does at copy command memory (Err fault) there is formed so = refused_does (refusal.Issue fault) tt
  issue_does at copy command memory (Ok ops) there is formed so = record {
    each = so;
    kept = issued_kept at copy command ops (lasting memory ops) there is (λ op among. among_lasting memory ops op among) (lasting_sound copy.ops memory ops (issues_are_sound copy command ops (kept.copies at copy there).sound is))
        (formed at (with_issued copy (lasting memory ops)) (set_here net.copies at copy (with_issued copy (lasting memory ops)) there));
    trusted = issue_trusted memory command ops;
  }

  -- Taking what was issued.

  both_issued : (at : ℕ) (copy : Log) (part : List Op) → slice_get net.copies at ≡ Some copy → AllIssued net part → AllIssued net (copy.ops ++ part)
  both_issued at copy part there all op among = by_part (among_append copy.ops part op among)
    where
      by_part : IsAmong op copy.ops ⊎ IsAmong op part → IsIssued net op
      by_part (inl before) = kept.honest.held at copy op there before
      by_part (inr later) = all op later

  taken_kept : (at : ℕ) (copy : Log) (part : List Op) → slice_get net.copies at ≡ Some copy → AllIssued net part → IsKeptNet (with_copy net at (with_taken copy part))
  taken_kept at copy part there all =
      changed_kept net kept at copy (with_taken copy part) there
      (record {
        place = (kept.copies at copy there).place;
        formed = issued_formed net kept.copies (copy.ops ++ part) (both_issued at copy part there all);
        sound = issued_sound net kept.copies (copy.ops ++ part) (both_issued at copy part there all);
        held = λ op among. among_left copy.ops part op ((kept.copies at copy there).held op among);
        named = λ r among. (kept.copies at copy there).named r among;
      })
      (λ op among. among)
      (λ op among. inl (both_issued at copy part there all op among))

  -- who issued an operation holds it, so it is so of it
  issued_each : (op : Op) → IsIssued net op → P op
  issued_each op by = let held = issued_held net kept.copies op by in each held.at held.copy held.there op held.among

  taken_each : (at : ℕ) (copy : Log) (part : List Op) → slice_get net.copies at ≡ Some copy → AllIssued net part → EachHeld P (with_copy net at (with_taken copy part))
  taken_each at copy part there all =
      each_changed net at copy (with_taken copy part) there (λ i c. (op : Op) → IsAmong op c.ops → P op)
      (λ op among. issued_each op (both_issued at copy part there all op among)) each

  full_does : (memory : Memory) → Does P (take_refused net memory take_fault.Full)
  full_does Enough = refused_does (refusal.Take take_fault.Full) tt
  full_does (EndsAfter count) = refused_does (refusal.Take (take_fault.Memory 0)) tt

  take_does : (at : ℕ) (copy : Log) (batch : List Op) (memory : Memory) (o : Result (List Op) TakeFault) → slice_get net.copies at ≡ Some copy → AllIssued net batch → take_outcome copy.ops batch ≡ o → Does P (take_done net at copy batch memory o)
  take_does at copy batch memory (Err fault) there all is =
      let good : first_bad 0 batch ≡ None = formed_good 0 batch (issued_formed net kept.copies batch all) in
      let apart : least_clash copy.ops batch ≡ None = (no_clash_is_sound copy.ops batch (kept.copies at copy there).sound).1 (issued_sound net kept.copies (copy.ops ++ batch) (both_issued at copy batch there all)) in
      let full : fault ≡ take_fault.Full = full_only (first_bad 0 batch) (least_clash copy.ops batch) (nat_lt most_operations (length copy.ops + count_by (is_new (state_of copy.ops)) batch)) (news (state_of copy.ops) batch) fault good apart is in
      subst (λ (f : TakeFault). Does P (take_refused net memory f)) (sym full) (full_does memory)
  take_does at copy batch Enough (Ok ops) there all is =
      let fresh : news (state_of copy.ops) batch ≡ ops = (taken_parts (first_bad 0 batch) (least_clash copy.ops batch) (too_many copy.ops batch) (news (state_of copy.ops) batch) ops is).3 in
      let issued : AllIssued net ops = λ op among. all op (among_news (state_of copy.ops) batch op (subst (λ (xs : List Op). IsAmong op xs) (sym fresh) among)) in
      record { kept = taken_kept at copy ops there issued; each = taken_each at copy ops there issued; trusted = tt }
  take_does at copy batch (EndsAfter n) (Ok ops) there all is =
      let issued : AllIssued net (news (state_of copy.ops) (take n batch)) = λ op among. all op (among_take batch n op (among_news (state_of copy.ops) (take n batch) op among)) in
      record { kept = taken_kept at copy (news (state_of copy.ops) (take n batch)) there issued; each = taken_each at copy (news (state_of copy.ops) (take n batch)) there issued; trusted = tt }

  taken_does : (memory : Memory) (at : ℕ) (batch : List Op) (copy : Log) → slice_get net.copies at ≡ Some copy → AllIssued net batch → Does P (taken_at net memory at batch copy)
  taken_does memory at batch copy there all = take_does at copy batch memory (take_outcome copy.ops batch) there all refl

  -- Sending what is held.

  message_issued : (ops : List Op) (op : Op) → IsIssued net op → IsIssued (with_message net ops) op
  message_issued ops (Born r) by = by
  message_issued ops (Cut cut) by = by
  message_issued ops (Closed space) by = by

  sent_kept : (ops : List Op) → AllIssued net ops → IsKeptNet (with_message net ops)
  sent_kept ops all =
      kept_from (with_message net ops) kept.copies kept.few
      (λ at copy there op among. message_issued ops op (kept.honest.held at copy op there among))
      (λ message batch there op among. message_issued ops op (by_place message batch op among (put_at net.messages ops batch message there)))
    where
      by_place : (message : ℕ) (batch : List Op) (op : Op) → IsAmong op batch → (slice_get net.messages message ≡ Some batch) ⊎ (batch ≡ ops) → IsIssued net op
      by_place message batch op among (inl before) = kept.honest.sent message batch op before among
      by_place message batch op among (inr last) = all op (subst (λ (xs : List Op). IsAmong op xs) last among)

  send_does : (memory : Memory) (copy : Log) (at first end : ℕ) (o : Result (List Op) GiveFault) → slice_get net.copies at ≡ Some copy → given copy.ops first end ≡ o → Does P (send_done net memory o)
  send_does memory copy at first end (Err fault) there is = refused_does refusal.Mark tt
  send_does Enough copy at first end (Ok ops) there is = record {
    each = each;
    kept = sent_kept ops (λ op among. kept.honest.held at copy op there (given_among copy.ops ops first end is op among));
    trusted = tt;
  }
  send_does (EndsAfter count) copy at first end (Ok ops) there is = refused_does refusal.Memory tt

  -- At a processor.

  at_does : (at : ℕ) (done : Log → Done) → ((copy : Log) → slice_get net.copies at ≡ Some copy → Does P (done copy)) → Does P (at_processor net at done)
  at_does at done each = by_copy (slice_get net.copies at) refl
    where
      by_copy : (o : Option Log) → slice_get net.copies at ≡ o → Does P (at_copy net o done)
      by_copy None is = refused_does refusal.NoProcessor tt
      by_copy (Some copy) is = each copy is

  pub issue_event : (at : ℕ) (command : Command) (memory : Memory) → AllFormed (event_done net (Issue at command) memory).net → EachHeld P (event_done net (Issue at command) memory).net → Does P (event_done net (Issue at command) memory)
  issue_event at command memory = by_copy (slice_get net.copies at) refl
    where
      by_copy : (o : Option Log) → slice_get net.copies at ≡ o → AllFormed (at_copy net o (λ copy. issue_done net at copy command memory (command_outcome copy command))).net
          → EachHeld P (at_copy net o (λ copy. issue_done net at copy command memory (command_outcome copy command))).net
          → Does P (at_copy net o (λ copy. issue_done net at copy command memory (command_outcome copy command)))
      by_copy None is formed so = refused_does refusal.NoProcessor tt
      by_copy (Some copy) is formed so = issue_does at copy command memory (command_outcome copy command) is refl formed so

  pub send_event : (from first end : ℕ) (memory : Memory) → Does P (event_done net (Send from first end) memory)
  send_event from first end memory =
      at_does from (λ copy. send_done net memory (given copy.ops first end)) (λ copy there. send_does memory copy from first end (given copy.ops first end) there refl)

  pub deliver_event : (message to : ℕ) (memory : Memory) → Does P (event_done net (Deliver message to) memory)
  deliver_event message to memory = at_does to (λ copy. delivered net memory to (slice_get net.messages message) copy) (λ copy there. by_message copy there (slice_get net.messages message) refl)
    where
      by_message : (copy : Log) → slice_get net.copies to ≡ Some copy → (o : Option (List Op)) → slice_get net.messages message ≡ o → Does P (delivered net memory to o copy)
      by_message copy there None is = refused_does refusal.NoMessage tt
      by_message copy there (Some batch) is = taken_does memory to batch copy there (λ op among. kept.honest.sent message batch op is among)

  pub join_event : (into from : ℕ) (memory : Memory) → Does P (event_done net (Join into from) memory)
  join_event into from memory =
      at_does into (λ copy. at_processor net from (λ other. joined net memory into from copy other)) (λ copy there.
      at_does from (λ other. joined net memory into from copy other) (λ other here. by_place copy there other here (into == from)))
    where
      by_place : (copy : Log) → slice_get net.copies into ≡ Some copy → (other : Log) → slice_get net.copies from ≡ Some other → (b : Bool)
          → Does P (if b then record { reply = Taken 0; net = net; taker = into; took = copy.ops } else taken_at net memory into other.ops copy)
      by_place copy there other here true = record { kept = kept; each = each; trusted = tt }
      by_place copy there other here false = taken_does memory into other.ops copy there (λ op among. kept.honest.held from other op here among)

-- what one call of a cluster leaves and answers
module _ (net : Net) (kept : IsKeptNet net) where
  -- nothing more is so of each operation
  abbrev Nothing : Op → Type 0
  Nothing op = Unit {0}

  stepped : (event : Event) (reply : Reply) (new : Net) → Steps net event reply new → Does Nothing (event_done net event (memory_told reply)) → IsKeptNet new × IsTrusted reply
  stepped event reply new step does = (subst IsKeptNet step.done does.kept, subst IsTrusted step.replied does.trusted)

  pub issue_stepped : (at : ℕ) (command : Command) (reply : Reply) (new : Net) → Steps net (Issue at command) reply new → AllFormed new → IsKeptNet new × IsTrusted reply
  issue_stepped at command reply new step formed =
      stepped (Issue at command) reply new step (issue_event Nothing net kept (λ i copy there op among. tt) at command (memory_told reply) (subst AllFormed (sym step.done) formed) (λ i copy there op among. tt))

  pub send_stepped : (from first end : ℕ) (reply : Reply) (new : Net) → Steps net (Send from first end) reply new → IsKeptNet new × IsTrusted reply
  send_stepped from first end reply new step = stepped (Send from first end) reply new step (send_event Nothing net kept (λ i copy there op among. tt) from first end (memory_told reply))

  pub deliver_stepped : (message to : ℕ) (reply : Reply) (new : Net) → Steps net (Deliver message to) reply new → IsKeptNet new × IsTrusted reply
  deliver_stepped message to reply new step = stepped (Deliver message to) reply new step (deliver_event Nothing net kept (λ i copy there op among. tt) message to (memory_told reply))

  pub join_stepped : (into from : ℕ) (reply : Reply) (new : Net) → Steps net (Join into from) reply new → IsKeptNet new × IsTrusted reply
  join_stepped into from reply new step = stepped (Join into from) reply new step (join_event Nothing net kept (λ i copy there op among. tt) into from (memory_told reply))
