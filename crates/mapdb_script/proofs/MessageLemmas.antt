-- What copies take from messages and from each other, and how that is told.
use Rattle.std.proofs.Common.{drop, ◌≡◌, ◌≢◌, ℕ, ◌<◌, ◌⊎◌, inl, inr, Bool, true, false, ◌&&◌, cond, eq-eqb, List, length, get_or, refl, sym, subst, ap, arith}
use Rattle.std.proofs.lemmas.Bool.{lt-ltb, ltb-false}
use Rattle.std.proofs.lemmas.Bool.Decides.{nat_tests}
use Rattle.std.proofs.lemmas.Option.{slice_get_cases, slice_get_past, slice_get_within}
use Rattle.std.specs.Prelude.{Option, Some, None, Result, Ok, Err, nat_lt, ◌==◌, slice_get}
use Rattle.mapdb_facts.specs.declared.operations.Op.{Op}
use Rattle.mapdb_replica.specs.Memory.{Enough}
use Rattle.mapdb_replica.proofs.Calls.CallCases.{IsRefusedAs, TakeCases, take_cases}
use Rattle.mapdb_replica.specs.Replica.{Log}
use Rattle.mapdb_replica.specs.Taking.{Takes, take_outcome}
use Rattle.mapdb_replica.specs.declared.faults.TakeFault.{TakeFault}
use Rattle.mapdb_replica.specs.declared.faults.TakeFault.TheVariants as take
use Rattle.mapdb_snapshot.specs.declared.faults.SnapshotFault.{SnapshotFault}
use Rattle.mapdb_cluster.specs.Net.{Done, Net, at_copy, event_done, joined, refused, take_done, take_refused, taken_at, with_copy}
use Rattle.mapdb_cluster.specs.Run.{Happens, Loads, Move}
use Rattle.mapdb_cluster.specs.declared.events.Event.TheVariants as event
use Rattle.mapdb_cluster.specs.declared.events.Refusal.TheVariants as move_refusal
use Rattle.mapdb_cluster.proofs.Steps.StepTells.{with_same}
use Rattle.mapdb_script.specs.Sendings.{TakesSent, ops_between}
use Rattle.mapdb_script.specs.declared.sendings.Sending.{Sending}
use Rattle.mapdb_script.specs.Accepting.{heard}
use Rattle.mapdb_script.specs.Answering.{Answered, ScriptCluster, LineDone, Refused, happened, line_done, loaded}
use Rattle.mapdb_script.specs.Reply.{taken_text}
use Rattle.mapdb_script.specs.States.{Does, IsTakeTold, IsToldAs}
use Rattle.mapdb_script.specs.declared.answering.Reply.{Reply as Answer}
use Rattle.mapdb_lines.specs.declared.fault.LineFault.{LineFault}
use Rattle.mapdb_script.specs.declared.replies.Refusal.TheVariants as refusal
use Rattle.mapdb_script.specs.declared.turn_fault.TurnFault.{TurnFault}
use Rattle.mapdb_script.proofs.AnsweringLemmas.{at_there, refused_told}

-- where a copy is, there is a cluster
pub some_copy : (copies : List Log) (at : ℕ) (copy : Log) → slice_get copies at ≡ Some copy → nat_lt 0 (length copies) ≡ true
some_copy copies at copy there =
    let within = slice_get_within copies at copy there in
    lt-ltb 0 (length copies) (omega (arith, within))

module _ (c : ScriptCluster) (move : Move) where
  -- a refusal is told as it is, or that memory ran out
  told_as : (why fault : TakeFault) (result : Result Answer TurnFault) → (fault ≡ why) ⊎ (fault ≡ take.Memory 0) → IsToldAs (move_refusal.Take fault) result
      → Does result c.net (Ok (line_done c move (refused c.net (move_refusal.Take why))))
  told_as why fault result (inl e) told = refused_told c move (move_refusal.Take why) result (rw e at told)
  told_as why fault result (inr e) told = let wanted = rw e at told in rw wanted tt

  take_refusal_told : (why fault : TakeFault) (result : Result Answer TurnFault) → IsRefusedAs why fault → IsToldAs (move_refusal.Take fault) result
      → Does result c.net (Ok (line_done c move (take_refused c.net Enough why)))
  take_refusal_told (take.Bad place what) fault result same told = told_as (take.Bad place what) fault result (inl same) told
  take_refusal_told why fault result same told = told_as why fault result same told

  -- what a copy was given, or a part of it that comes to the same, by a move by which it hears from others
  taken_told : (at : ℕ) (copy new : Log) (batch part : List Op) (outcome : Result (List Op) TakeFault) (taken : Result ℕ TakeFault) (result : Result Answer TurnFault)
      → slice_get c.net.copies at ≡ Some copy → TakeCases part outcome taken copy new → IsTakeTold taken result
      → Does result (with_copy c.net at new) (Ok (line_done c move (take_done c.net at copy batch Enough outcome)))
  taken_told at copy new batch part (Ok ops) (Ok count) result there takes told = rw (told, takes.0, takes.1) refl
  taken_told at copy new batch part (Ok ops) (Err (take.Memory n)) result there takes told = rw told tt
  taken_told at copy new batch part (Ok ops) (Err fault) result there takes told = absurd takes
  taken_told at copy new batch part (Err why) (Ok count) result there takes told = absurd takes
  taken_told at copy new batch part (Err why) (Err fault) result there takes told =
      subst (λ (n : Net). Does result n (Ok (line_done c move (take_refused c.net Enough why)))) (sym (with_same c.net at copy new there takes.1))
      (take_refusal_told why fault result takes.0 told)

-- a message that came to a copy, of which it took the whole or a part that comes to the same
pub delivery_told : (c : ScriptCluster) (at message : ℕ) (copy new : Log) (batch part : List Op) (taken : Result ℕ TakeFault) (result : Result Answer TurnFault)
    → slice_get c.net.copies at ≡ Some copy → slice_get c.net.messages message ≡ Some batch
    → Takes part (take_outcome copy.ops batch) taken copy new → IsTakeTold taken result
    → Does result (with_copy c.net at new) (happened c (event.Deliver message at))
delivery_told c at message copy new batch part taken result there sent takes told =
    let some = some_copy c.net.copies at copy there in
    let done : happened c (event.Deliver message at) ≡ Ok (line_done c (Happens (event.Deliver message at) Enough) (taken_at c.net Enough at batch copy)) = rw (some, there, sent) refl in
    rw done (taken_told c (Happens (event.Deliver message at) Enough) at copy new batch part (take_outcome copy.ops batch) taken result there (take_cases part (take_outcome copy.ops batch) taken copy new takes) told)

-- a snapshot whose operations a copy was given
pub load_told : (c : ScriptCluster) (at : ℕ) (copy new : Log) (said : Result (List Op) SnapshotFault) (batch : List Op) (taken : Result ℕ TakeFault)
    (result : Result Answer TurnFault) → at < length c.net.copies → copy ≡ get_or c.net.copies at copy → said ≡ Ok batch
    → Takes batch (take_outcome copy.ops batch) taken copy new → IsTakeTold taken result
    → Does result (with_copy c.net at new) (loaded c at said)
load_told c at copy new said batch taken result within is e takes told =
    let there = at_there c.net.copies at copy within is in
    let done : loaded c at said ≡ Ok (line_done c (Loads at batch Enough) (taken_at c.net Enough at batch copy)) = rw (e, there.0, there.1) refl in
    rw done (taken_told c (Loads at batch Enough) at copy new batch batch (take_outcome copy.ops batch) taken result there.1 (take_cases batch (take_outcome copy.ops batch) taken copy new takes) told)

-- a snapshot for a processor that is not there
pub load_nowhere : (c : ScriptCluster) (at : ℕ) (said : Result (List Op) SnapshotFault) → (nat_lt 0 (length c.net.copies) ≡ true) × (slice_get c.net.copies at ≡ None)
    → loaded c at said ≡ Ok (record { reply = Refused refusal.NoProcessor; cluster = c })
load_nowhere c at (Ok batch) gone = rw (gone.0, gone.1) refl
load_nowhere c at (Err f) gone = rw (gone.0, gone.1) refl

-- a text that is no snapshot
pub load_fault : (c : ScriptCluster) (at : ℕ) (said : Result (List Op) SnapshotFault) (f : SnapshotFault) → at < length c.net.copies → said ≡ Err f
    → loaded c at said ≡ Ok (record { reply = Refused (refusal.Snapshot f); cluster = c })
load_fault c at said f within e = elim (slice_get_cases c.net.copies at).1 [
  | inl found ↦ rw (e, some_copy c.net.copies at found.0 found.2, found.2) refl
  | inr past ↦ absurd (omega (arith, past.0))
]

-- the second of two processors is not there
second_missing : (net : Net) (first : Option Log) (f : Log → Log → Done) → at_copy net first (λ copy. at_copy net None (f copy)) ≡ refused net move_refusal.NoProcessor
second_missing net None f = refl
second_missing net (Some copy) f = refl

missing_by : (net : Net) (into from : ℕ) (found : Option (ℕ × ℕ)) (first second : Bool)
    → nat_lt into (length net.copies) ≡ first → nat_lt from (length net.copies) ≡ second
    → found ≡ cond (first && second) (Some (into, from)) None → found ≡ None
    → event_done net (event.Join into from) Enough ≡ refused net move_refusal.NoProcessor
missing_by net into from found false second e f is none = rw (slice_get_past net.copies into (ltb-false into (length net.copies) e)) refl
missing_by net into from found true false e f is none =
    rw (slice_get_past net.copies from (ltb-false from (length net.copies) f)) (second_missing net (slice_get net.copies into) (joined net Enough into from))
missing_by net into from found true true e f is none = cc

-- two processors of which one is not there
pub no_processors : (c : ScriptCluster) (into from : ℕ) (found : Option (ℕ × ℕ)) → 0 < length c.net.copies
    → found ≡ cond (nat_lt into (length c.net.copies) && nat_lt from (length c.net.copies)) (Some (into, from)) None → found ≡ None
    → happened c (event.Join into from) ≡ Ok (record { reply = Refused refusal.NoProcessor; cluster = c })
no_processors c into from found some is none =
    rw (lt-ltb 0 (length c.net.copies) some) (ap (λ (d : Done). let r : Result LineDone LineFault = Ok (line_done c (Happens (event.Join into from) Enough) d) in r)
    (missing_by c.net into from found (nat_lt into (length c.net.copies)) (nat_lt from (length c.net.copies)) refl refl is none))

merge_same_by : (c : ScriptCluster) (at : ℕ) (copy : Log) (result : Result Answer TurnFault) → slice_get c.net.copies at ≡ Some copy → IsTakeTold (Ok 0) result
    → Does result c.net (happened c (event.Join at at))
merge_same_by c at copy result there told =
    let after : ScriptCluster = record { net = c.net; accepted = heard c.accepted at true } in
    let done : happened c (event.Join at at) ≡ Ok (record { reply = Answered (taken_text 0); cluster = after }) = rw (some_copy c.net.copies at copy there, there, eq-eqb at at refl) refl in
    rw (done, told) refl

-- a copy that takes all of itself
pub merge_same : (c : ScriptCluster) (into from : ℕ) (result : Result Answer TurnFault) → into < length c.net.copies → into ≡ from → IsTakeTold (Ok 0) result
    → Does result c.net (happened c (event.Join into from))
merge_same c into from result within e told = elim (slice_get_cases c.net.copies into).1 [
  | inl found ↦ rw (← e) (merge_same_by c into found.0 result found.2 told)
  | inr past ↦ absurd (omega (arith, past.0))
]

-- a copy that was given all that another one holds, or what is behind so many first ones of it, which it holds
pub merge_told : (c : ScriptCluster) (into : ℕ) (all : Sending) (copies : List Log) (taken : Result ℕ TakeFault) (result : Result Answer TurnFault)
    → into ≢ all.sender → (sent : TakesSent c.net.copies into all taken copies) → ops_between all.first all.end sent.other.ops ≡ sent.other.ops → IsTakeTold taken result
    → Does result (record { copies = copies; messages = c.net.messages }) (happened c (event.Join into all.sender))
merge_told c into all copies taken result apart sent whole told =
    let one = sent.one in
    let other = sent.other in
    let some = some_copy c.net.copies into one sent.there in
    let differ : (into == all.sender) ≡ false = grind (arith, nat_tests) in
    let done : happened c (event.Join into all.sender) ≡ Ok (line_done c (Happens (event.Join into all.sender) Enough) (taken_at c.net Enough into other.ops one)) =
    rw (some, sent.there, sent.other_there, differ) refl in
    let takes : Takes (drop sent.known other.ops) (take_outcome one.ops other.ops) taken one sent.after =
    subst (λ (ops : List Op). Takes (drop sent.known ops) (take_outcome one.ops ops) taken one sent.after) whole sent.takes.takes in
    rw (done, sent.kept) (taken_told c (Happens (event.Join into all.sender) Enough) into one sent.after other.ops (drop sent.known other.ops) (take_outcome one.ops other.ops) taken result sent.there
    (take_cases (drop sent.known other.ops) (take_outcome one.ops other.ops) taken one sent.after takes) told)
