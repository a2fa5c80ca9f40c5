-- Copies that stand for trees: what a line makes of them.
use Rattle.std.proofs.Common.{arith, ◌&&◌, ◌≡◌, ◌≢◌, ◌∙◌, ℕ, zero, suc, Bool, true, false, cond, ◌||◌, Some, None, refl, sym, subst, List, [], ◌∷◌, length, inl}
use Rattle.std.specs.Prelude.{◌↔◌, ◌==◌, nat_lt, Option, Result, Ok, Err, IfSome, IsTrue, slice_get, slice_set, if◌then◌else◌, map}
use Rattle.std.specs.List.{range_with_len}
use Rattle.std.proofs.lemmas.Bool.{and_right, cond-false, true≢false}
use Rattle.std.proofs.lemmas.Bool.Decides.{nat_tests}
use Rattle.mapdb_fpage.specs.Place.{Place}
use Rattle.mapdb_fpage.specs.Transfer.{transfer_of}
use Rattle.mapdb_fpage.specs.declared.items.MapItem.{MapItem}
use Rattle.mapdb_fpage.specs.declared.right_sets.Rights.{Rights}
use Rattle.mapdb_facts.specs.declared.names.Space.{Space}
use Rattle.mapdb_facts.specs.declared.operations.Op.{Op}
use Rattle.mapdb_replica.specs.Commands.{IsCommand, command_outcome}
use Rattle.mapdb_replica.specs.Giving.{given}
use Rattle.mapdb_replica.specs.Memory.{Enough}
use Rattle.mapdb_replica.specs.Replica.{Log, empty, with_issued}
use Rattle.mapdb_replica.specs.Taking.{take_outcome}
use Rattle.mapdb_replica.specs.declared.commands.Command.{Command}
use Rattle.mapdb_replica.specs.declared.commands.Command.TheVariants as command
use Rattle.mapdb_replica.specs.declared.faults.GiveFault.{GiveFault}
use Rattle.mapdb_replica.specs.declared.faults.IssueFault.{IssueFault}
use Rattle.mapdb_replica.specs.declared.faults.TakeFault.{TakeFault}
use Rattle.mapdb_snapshot.specs.Reading.{snapshot_of}
use Rattle.mapdb_snapshot.specs.declared.faults.SnapshotFault.{SnapshotFault}
use Rattle.mapdb_tree.specs.Tree.{first_tree}
use Rattle.mapdb_sequential.specs.Trees.{tree_from}
use Rattle.mapdb_cluster.proofs.Steps.Slots.{set_apart}
use Rattle.mapdb_cluster.specs.Net.{Done, at_copy, delivered, issue_done, joined, new_net, send_done, take_done, taken_at}
use Rattle.mapdb_cluster.specs.Run.{Happens, Loads, Move, move_done}
use Rattle.mapdb_cluster.specs.declared.events.Event.TheVariants as event
use Rattle.mapdb_cluster.specs.declared.events.Reply.TheVariants.{Taken}
use Rattle.mapdb_lines.specs.Limits.{most_processors}
use Rattle.mapdb_lines.specs.declared.fault.LineFault.{LineFault}
use Rattle.mapdb_lines.specs.declared.fault.LineFault.TheVariants as fault
use Rattle.mapdb_lines.specs.declared.lines.Line.{Line}
use Rattle.mapdb_lines.specs.declared.lines.Line.TheVariants as line
use Rattle.mapdb_script.specs.Accepting.{Accepted, heard, none_accepted, with_next}
use Rattle.mapdb_script.specs.Answering.{LineDone, Refused, Reply, ScriptCluster, Silent, accepted_after, begin, done_by, is_refusal, line_done, loaded, new_cluster, once_made, reply_at_copy, told}
use Rattle.mapdb_script.specs.NarrowTrees.{names_narrow, narrow_tree}
use Rattle.mapdb_script.specs.declared.replies.Refusal.{Refusal}
use Rattle.mapdb_script.specs.declared.replies.Refusal.TheVariants as refusal
use Rattle.mapdb_script.specs.Standing.{CopiesStandFor, IsSoAtFirst, MapGoesOn, NamesPlaces, ShowsAfter, ShowsTree}
use Rattle.mapdb_script.proofs.StandingTrees.{CommandGoesOn, stands_command}

-- where no command was accepted yet
no_commands : narrow_tree [] ≡ Some first_tree
unfolding tree_from
no_commands = refl

shows_first : ShowsTree (empty 0) []
shows_first = record { tree = first_tree; plain = (refl, refl); places = tt; is = no_commands }

first_of : (count : ℕ) → IfSome (slice_get (map empty (range_with_len 0 count)) 0) (λ log. ShowsTree log [])
first_of zero = tt
first_of (suc count) = shows_first

pub stands_new : (count : ℕ) → CopiesStandFor true (new_net count).copies none_accepted
stands_new count = (refl, first_of count)

same_if : (a b : Bool) (P : Type 0) → (IsTrue a ↔ IsTrue b × P) → P → a ≡ b
same_if true true P on p = refl
same_if true false P on p = absurd (true≢false (sym (on.0 refl).0))
same_if false true P on p = absurd (true≢false (sym (on.1 (refl, p))))
same_if false false P on p = refl

not_first : (at : ℕ) → at ≢ 0 → (at == 0) ≡ false
not_first at other = grind (arith, nat_tests)

next_other : (accepted : Accepted) (at : ℕ) (command : Command) → at ≢ 0 → with_next accepted at command ≡ accepted
next_other accepted at command other = cond-false (accepted.is_alone && (at == 0)) _ _ (and_right accepted.is_alone (at == 0) (not_first at other))

heard_other : (accepted : Accepted) (at : ℕ) → at ≢ 0 → heard accepted at true ≡ accepted
heard_other accepted at other = rw (not_first at other) refl

module _ (shows after : Bool) (cluster : ScriptCluster) (stands : CopiesStandFor shows cluster.net.copies cluster.accepted) where
  -- after a line that is replied this
  abbrev StandsAfter : Reply → List Log → Accepted → Type 0
  StandsAfter reply copies accepted = CopiesStandFor (cond (is_refusal reply) shows after) copies accepted

  -- after a move
  abbrev MoveStands : Move → Done → Type 0
  MoveStands move done = StandsAfter (told move done.took done.reply) done.net.copies (accepted_after cluster.accepted move done.reply)

  -- the copies change, but not that of processor 0
  stands_apart : (at : ℕ) (new : Log) → at ≢ 0 → after ≡ shows → CopiesStandFor after (slice_set cluster.net.copies at new) cluster.accepted
  stands_apart at new other same = rw same (by shows stands)
    where
      by : (b : Bool) → CopiesStandFor b cluster.net.copies cluster.accepted → CopiesStandFor b (slice_set cluster.net.copies at new) cluster.accepted
      by true is = (is.0, rw (set_apart cluster.net.copies at 0 new other) is.1)
      by false is = is

  same_stands : after ≡ shows → CopiesStandFor after cluster.net.copies cluster.accepted
  same_stands same = rw same stands

  -- Commands.

  record CommandOn (at : ℕ) (command : Command) : Type 0 where
    first : at ≡ 0 → (log : Log) → slice_get cluster.net.copies 0 ≡ Some log → IsTrue after ↔ IsTrue shows × CommandGoesOn log command
    other : at ≢ 0 → after ≡ shows

  done_stands : (at : ℕ) (command : Command) (copy : Log) (ops : List Op) → slice_get cluster.net.copies at ≡ Some copy → IsCommand command
      → command_outcome copy command ≡ Ok ops → CommandOn at command
      → CopiesStandFor after (slice_set cluster.net.copies at (with_issued copy ops)) (with_next cluster.accepted at command)
  done_stands zero command copy ops there is issues on =
      stands_command shows after cluster.net.copies cluster.accepted command copy ops stands there is issues (on.first refl copy there)
  done_stands (suc at) command copy ops there is issues on =
      let other : suc at ≢ 0 = λ e. cc in
      rw (next_other cluster.accepted (suc at) command other) (stands_apart (suc at) (with_issued copy ops) other (on.other other))

  issued_stands : (at : ℕ) (command : Command) (copy : Log) (o : Result (List Op) IssueFault) → slice_get cluster.net.copies at ≡ Some copy → IsCommand command
      → command_outcome copy command ≡ o → CommandOn at command → MoveStands (Happens (event.Issue at command) Enough) (issue_done cluster.net at copy command Enough o)
  issued_stands at command copy (Err why) there is issues on = stands
  issued_stands at (command.Map sender item receiver window) copy (Ok ops) there is issues on = done_stands at (command.Map sender item receiver window) copy ops there is issues on
  issued_stands at (command.Unmap space page rights flush) copy (Ok ops) there is issues on = done_stands at (command.Unmap space page rights flush) copy ops there is issues on
  issued_stands at (command.End space) copy (Ok ops) there is issues on = done_stands at (command.End space) copy ops there is issues on

  issue_stands : (at : ℕ) (command : Command) (o : Option Log) → slice_get cluster.net.copies at ≡ o → IsCommand command → CommandOn at command
      → MoveStands (Happens (event.Issue at command) Enough) (at_copy cluster.net o (λ copy. issue_done cluster.net at copy command Enough (command_outcome copy command)))
  issue_stands at command None there is on = stands
  issue_stands at command (Some copy) there is on = issued_stands at command copy (command_outcome copy command) there is refl on

  -- What is sent.

  sent_stands : (from first end : ℕ) (o : Result (List Op) GiveFault) → after ≡ shows → MoveStands (Happens (event.Send from first end) Enough) (send_done cluster.net Enough o)
  sent_stands from first end (Err why) same = stands
  sent_stands from first end (Ok ops) same = same_stands same

  send_stands : (from first end : ℕ) (o : Option Log) → after ≡ shows
      → MoveStands (Happens (event.Send from first end) Enough) (at_copy cluster.net o (λ copy. send_done cluster.net Enough (given copy.ops first end)))
  send_stands from first end None same = stands
  send_stands from first end (Some copy) same = sent_stands from first end (given copy.ops first end) same

  -- What is taken from others.

  heard_stands : (at : ℕ) (new : Log) → (IsTrue after ↔ IsTrue shows × (at ≡ 0 → ⊥)) → CopiesStandFor after (slice_set cluster.net.copies at new) (heard cluster.accepted at true)
  heard_stands zero new on = by after (λ is. (on.0 is).1 refl)
    where
      by : (b : Bool) → (IsTrue b → ⊥) → CopiesStandFor b (slice_set cluster.net.copies 0 new) (heard cluster.accepted 0 true)
      by true never = absurd (never refl)
      by false never = inl refl
  heard_stands (suc at) new on =
      let other : suc at ≢ 0 = λ e. cc in
      rw (heard_other cluster.accepted (suc at) other) (stands_apart (suc at) new other (same_if after shows (suc at ≡ 0 → ⊥) on other))

  heard_same : (at : ℕ) → (IsTrue after ↔ IsTrue shows × (at ≡ 0 → ⊥)) → CopiesStandFor after cluster.net.copies (heard cluster.accepted at true)
  heard_same zero on = by after (λ is. (on.0 is).1 refl)
    where
      by : (b : Bool) → (IsTrue b → ⊥) → CopiesStandFor b cluster.net.copies (heard cluster.accepted 0 true)
      by true never = absurd (never refl)
      by false never = inl refl
  heard_same (suc at) on =
      let other : suc at ≢ 0 = λ e. cc in
      rw (heard_other cluster.accepted (suc at) other) (same_stands (same_if after shows (suc at ≡ 0 → ⊥) on other))

  delivery_stands : (at message : ℕ) (copy : Log) (batch : List Op) (o : Result (List Op) TakeFault) → (IsTrue after ↔ IsTrue shows × (at ≡ 0 → ⊥))
      → MoveStands (Happens (event.Deliver message at) Enough) (take_done cluster.net at copy batch Enough o)
  delivery_stands at message copy batch (Err why) on = stands
  delivery_stands at message copy batch (Ok ops) on = heard_stands at _ on

  deliver_batch : (at message : ℕ) (copy : Log) (o : Option (List Op)) → (IsTrue after ↔ IsTrue shows × (at ≡ 0 → ⊥))
      → MoveStands (Happens (event.Deliver message at) Enough) (delivered cluster.net Enough at o copy)
  deliver_batch at message copy None on = stands
  deliver_batch at message copy (Some batch) on = delivery_stands at message copy batch (take_outcome copy.ops batch) on

  deliver_stands : (at message : ℕ) (o : Option Log) → (IsTrue after ↔ IsTrue shows × (at ≡ 0 → ⊥))
      → MoveStands (Happens (event.Deliver message at) Enough) (at_copy cluster.net o (λ copy. delivered cluster.net Enough at (slice_get cluster.net.messages message) copy))
  deliver_stands at message None on = stands
  deliver_stands at message (Some copy) on = deliver_batch at message copy (slice_get cluster.net.messages message) on

  join_taken : (into from : ℕ) (copy : Log) (batch : List Op) (o : Result (List Op) TakeFault) → (IsTrue after ↔ IsTrue shows × (into ≡ 0 → ⊥))
      → MoveStands (Happens (event.Join into from) Enough) (take_done cluster.net into copy batch Enough o)
  join_taken into from copy batch (Err why) on = stands
  join_taken into from copy batch (Ok ops) on = heard_stands into _ on

  join_both : (into from : ℕ) (copy other : Log) → (IsTrue after ↔ IsTrue shows × (into ≡ 0 → ⊥))
      → MoveStands (Happens (event.Join into from) Enough) (joined cluster.net Enough into from copy other)
  join_both into from copy other on = by (into == from)
    where
      by : (b : Bool) → MoveStands (Happens (event.Join into from) Enough)
          (if b then record { reply = Taken 0; net = cluster.net; taker = into; took = copy.ops } else taken_at cluster.net Enough into other.ops copy)
      by true = heard_same into on
      by false = join_taken into from copy other.ops (take_outcome copy.ops other.ops) on

  join_one : (into from : ℕ) (copy : Log) (o : Option Log) → (IsTrue after ↔ IsTrue shows × (into ≡ 0 → ⊥))
      → MoveStands (Happens (event.Join into from) Enough) (at_copy cluster.net o (joined cluster.net Enough into from copy))
  join_one into from copy None on = stands
  join_one into from copy (Some other) on = join_both into from copy other on

  join_stands : (into from : ℕ) (o : Option Log) → (IsTrue after ↔ IsTrue shows × (into ≡ 0 → ⊥))
      → MoveStands (Happens (event.Join into from) Enough) (at_copy cluster.net o (λ copy. at_copy cluster.net (slice_get cluster.net.copies from) (joined cluster.net Enough into from copy)))
  join_stands into from None on = stands
  join_stands into from (Some copy) on = join_one into from copy (slice_get cluster.net.copies from) on

  load_taken : (at : ℕ) (batch : List Op) (copy : Log) (o : Result (List Op) TakeFault) → (IsTrue after ↔ IsTrue shows × (at ≡ 0 → ⊥))
      → MoveStands (Loads at batch Enough) (take_done cluster.net at copy batch Enough o)
  load_taken at batch copy (Err why) on = stands
  load_taken at batch copy (Ok ops) on = heard_stands at _ on

  load_stands : (at : ℕ) (batch : List Op) (o : Option Log) → (IsTrue after ↔ IsTrue shows × (at ≡ 0 → ⊥))
      → MoveStands (Loads at batch Enough) (at_copy cluster.net o (taken_at cluster.net Enough at batch))
  load_stands at batch None on = stands
  load_stands at batch (Some copy) on = load_taken at batch copy (take_outcome copy.ops batch) on

  -- Lines.

  abbrev LineStands : LineDone → Type 0
  LineStands done = StandsAfter done.reply done.cluster.net.copies done.cluster.accepted

  -- a line that has no fault
  once : (b : Bool) (made done : LineDone) → (let r : Result LineDone LineFault = if b then Ok made else Err fault.NoProcessors in r) ≡ Ok done → LineStands made → LineStands done
  once true made done e is = let same : made ≡ done = cc in subst LineStands same is
  once false made done e is = absurd (never e)
    where
      never : (let r : Result LineDone LineFault = Err fault.NoProcessors in r) ≡ Ok done → ⊥
      never e = cc

  made_stands : (made done : LineDone) → once_made cluster made ≡ Ok done → LineStands made → LineStands done
  made_stands made done e is = once (nat_lt 0 (length cluster.net.copies)) made done e is

  move_stands : (move : Move) (done : LineDone) → once_made cluster (line_done cluster move (move_done cluster.net move)) ≡ Ok done
      → MoveStands move (move_done cluster.net move) → LineStands done
  move_stands move done e is = made_stands (line_done cluster move (move_done cluster.net move)) done e is

  asked_stands : (reply : Reply) (done : LineDone) → once_made cluster (record { reply = reply; cluster = cluster }) ≡ Ok done → after ≡ shows → LineStands done
  asked_stands reply done e same = made_stands (record { reply = reply; cluster = cluster }) done e (by (is_refusal reply))
    where
      by : (b : Bool) → CopiesStandFor (cond b shows after) cluster.net.copies cluster.accepted
      by true = stands
      by false = same_stands same

  -- The three commands.

  map_on : (at : ℕ) (sender : Space) (item : MapItem) (receiver : Space) (window : Option Place)
      → (IsTrue after ↔ IsTrue shows × IsSoAtFirst cluster.net.copies at (λ log. MapGoesOn log sender (transfer_of item window) receiver))
      → CommandOn at (command.Map sender item receiver window)
  map_on at sender item receiver window on = record {
    first = λ e log there. (
      (λ a. ((on.0 a).0, (let goes = (on.0 a).1 e in rw there at goes))),
      (λ is. on.1 (is.0, λ e. rw there is.1)),
    );
    other = λ other. same_if after shows _ on (λ e. absurd (other e));
  }

  unmap_on : (at : ℕ) (space : Space) (page : Option Place) (rights : Rights) (flush : Bool)
      → (IsTrue after ↔ IsTrue shows × (at ≡ 0 → names_narrow page ≡ true)) → CommandOn at (command.Unmap space page rights flush)
  unmap_on at space page rights flush on = record {
    first = λ e log there. ((λ a. ((on.0 a).0, (on.0 a).1 e)), (λ is. on.1 (is.0, λ e. is.1)));
    other = λ other. same_if after shows _ on (λ e. absurd (other e));
  }

  end_on : (at : ℕ) (space : Space) → after ≡ shows → CommandOn at (command.End space)
  end_on at space same = record {
    first = λ e log there. ((λ a. (sym same ∙ a, refl)), (λ is. same ∙ is.0));
    other = λ other. same;
  }

  refused_stands : (o : Option Log) (why : Refusal) (done : LineDone)
      → once_made cluster (record { reply = reply_at_copy o (λ copy. Refused why); cluster = cluster }) ≡ Ok done → LineStands done
  refused_stands o why done e = made_stands (record { reply = reply_at_copy o (λ copy. Refused why); cluster = cluster }) done e (by o)
    where
      by : (o : Option Log) → StandsAfter (reply_at_copy o (λ copy. Refused why)) cluster.net.copies cluster.accepted
      by None = stands
      by (Some copy) = stands

  loaded_stands : (at : ℕ) (said : Result (List Op) SnapshotFault) (done : LineDone) → (IsTrue after ↔ IsTrue shows × (at ≡ 0 → ⊥))
      → loaded cluster at said ≡ Ok done → LineStands done
  loaded_stands at (Ok ops) done on e = move_stands (Loads at ops Enough) done e (load_stands at ops (slice_get cluster.net.copies at) on)
  loaded_stands at (Err why) done on e = refused_stands (slice_get cluster.net.copies at) (refusal.Snapshot why) done e

  begun_stands : (copies : List Log) (count : ℕ) (done : LineDone) → IsTrue after → begin copies count ≡ Ok done → LineStands done
  begun_stands [] count done is e =
      let same : (let made : LineDone = record { reply = Silent; cluster = new_cluster count } in made) ≡ done = cc in
      subst LineStands same (rw is (stands_new count))
  begun_stands (copy ∷ copies) count done is e = absurd (never e)
    where
      never : (let r : Result LineDone LineFault = Err fault.ProcessorsAgain in r) ≡ Ok done → ⊥
      never e = cc

  counted_stands : (b : Bool) (count : ℕ) (done : LineDone) → IsTrue after
      → (let r : Result LineDone LineFault = if b then Err fault.ProcessorCount else begin cluster.net.copies count in r) ≡ Ok done → LineStands done
  counted_stands true count done is e = absurd (never e)
    where
      never : (let r : Result LineDone LineFault = Err fault.ProcessorCount in r) ≡ Ok done → ⊥
      never e = cc
  counted_stands false count done is e = begun_stands cluster.net.copies count done is e

  -- what stands for the commands after a line
  pub line_stands : (said : Line) (done : LineDone) → NamesPlaces said → ShowsAfter shows cluster.net.copies said after → done_by cluster said ≡ Ok done → LineStands done
  unfolding done_by
  line_stands (line.Processors count) done places on e = counted_stands ((count == 0) || nat_lt most_processors count) count done on e
  line_stands (line.Map at sender item receiver window) done places on e =
      move_stands (Happens (event.Issue at (command.Map sender item receiver window)) Enough) done e
      (issue_stands at (command.Map sender item receiver window) (slice_get cluster.net.copies at) refl places.0 (map_on at sender item receiver window on))
  line_stands (line.Unmap at space page rights flush) done places on e =
      move_stands (Happens (event.Issue at (command.Unmap space page rights flush)) Enough) done e
      (issue_stands at (command.Unmap space page rights flush) (slice_get cluster.net.copies at) refl places.0 (unmap_on at space page rights flush on))
  line_stands (line.End at space) done places on e =
      move_stands (Happens (event.Issue at (command.End space)) Enough) done e
      (issue_stands at (command.End space) (slice_get cluster.net.copies at) refl places.0 (end_on at space on))
  line_stands (line.Rights at space address) done places on e = asked_stands _ done e on
  line_stands (line.Served at space address) done places on e = asked_stands _ done e on
  line_stands (line.Tree space address) done places on e = asked_stands _ done e on
  line_stands (line.Version at number) done places on e = asked_stands _ done e on
  line_stands (line.Send at first end) done places on e =
      move_stands (Happens (event.Send at first end) Enough) done e (send_stands at first end (slice_get cluster.net.copies at) on)
  line_stands (line.Deliver message at) done places on e =
      move_stands (Happens (event.Deliver message at) Enough) done e (deliver_stands at message (slice_get cluster.net.copies at) on)
  line_stands (line.Merge into from) done places on e =
      move_stands (Happens (event.Join into from) Enough) done e (join_stands into from (slice_get cluster.net.copies into) on)
  line_stands (line.Same at other) done places on e = asked_stands _ done e on
  line_stands (line.Covers at other) done places on e = asked_stands _ done e on
  line_stands (line.Save at) done places on e = asked_stands _ done e on
  line_stands (line.Load at text) done places on e = loaded_stands at (snapshot_of text) done on e
  line_stands (line.Table at) done places on e = asked_stands _ done e on
