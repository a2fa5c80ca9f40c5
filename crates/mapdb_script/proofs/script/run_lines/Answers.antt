use Rattle.std.proofs.Common.{◌++◌, ◌∙◌, [], refl, ap, ℕ, List, arith, inl, inr}
use Rattle.std.specs.Prelude.{Err}
use Rattle.std.proofs.lemmas.Result.{err_from_is_err_and}
use Rattle.mapdb_script.specs.Accepting.{none_accepted}
use Rattle.mapdb_script.specs.States.{script_state}
use Rattle.mapdb_lines.specs.Reading.{ahead_of, line_of}
use Rattle.mapdb_lines.specs.Blocks.{waiting}
use Rattle.mapdb_lines.proofs.BlockLemmas.{passes-none, passes-on, passes-then}
use Rattle.mapdb_lines.proofs.LineCounts.{stops_at_once}
use Rattle.mapdb_lines.proofs.ReadAhead.{few_ahead}
use Rattle.mapdb_script.proofs.RunLemmas.{begins, read_part, replied_nothing, tells_unread, tells_unwritten, tells_nothing, tells_stopped, tells_last, next_line, turn_lines, turn_few, falls_by_line, Consumes-grow, Consumes-same, Consumes-none, still_works, went_on}
use Rattle.mapdb_script.proofs.script.run_lines.Goals as goal

pub loop-text-init : goal.loop-text-init
loop-text-init g c = record {
  few = omega (arith, ap (λ s. s.counts.lines) c.requires.starts);
  so_far = ([], [], Consumes-none _ _ c.in_ok-reading.ensures.0, passes-none _ _ _ refl, none_accepted, c.requires.stands, rw c.requires.starts begins);
  reads = c.requires.reader_works;
  once = refl;
  writes = c.requires.writer_works;
}

pub returns-in_err-reading-clause-told : goal.returns-in_err-reading-clause-told
returns-in_err-reading-clause-told g c =
    let p = err_from_is_err_and c.from_residual.result c.from_residual.ensures.1 in
    ([], [], Consumes-none (g.R.Source.left c.args.reader.now) [] refl, passes-none _ _ _ refl, rw (p.1, p.2) (replied_nothing, stops_at_once))

pub returns-in_err-progress-clause-told : goal.returns-in_err-progress-clause-told
returns-in_err-progress-clause-told g c =
    let p = err_from_is_err_and c.from_residual-in_err-progress.result c.from_residual-in_err-progress.ensures.1 in
    let so_far = c.loop-text.invariant.so_far in
    let passed = passes-on (g.W.Sink.written c.args.writer.now) (g.W.Sink.written c.loop-text.writer) (g.W.Sink.written c.flush_before_read.new.writer) (waiting c.args.block.now) (waiting c.loop-text.block) (waiting c.flush_before_read.new.block) so_far.1 so_far.3 c.in_ok-flush_before_read.ensures.told in
    let read = c.in_err-progress.ensures.bytes in
    let bytes : List ℕ = ahead_of c.loop-text.reading ++ read.0 in (
      so_far.0 ++ bytes,
      so_far.1,
      Consumes-grow _ _ _ so_far.0 (ahead_of c.loop-text.reading) read.0 so_far.2 read.1,
      passed,
      rw (p.1, p.2) (tells_unread c.in_err-progress.field-0.0 so_far.0 so_far.1 bytes (script_state c.loop-text.engine so_far.4) _ so_far.6 c.loop-text.invariant.few read.3),
    )

pub returns-in_err-progress-clause-empty : goal.returns-in_err-progress-clause-empty
returns-in_err-progress-clause-empty g c told =
    let p = err_from_is_err_and c.from_residual-in_err-progress.result c.from_residual-in_err-progress.ensures.1 in
    let read = c.in_err-progress.ensures.bytes in
    c.in_ok-flush_before_read.ensures.empty
    (read_part c.from_residual-in_err-progress.result c.in_err-progress.field-0.0 (ahead_of c.loop-text.reading) read.0 (p.1 ∙ ap Err p.2) told read.3)

pub returns-in-Nothing-clause-told : goal.returns-in-Nothing-clause-told
returns-in-Nothing-clause-told g c =
    let so_far = c.loop-text.invariant.so_far in
    let passed = passes-on (g.W.Sink.written c.args.writer.now) (g.W.Sink.written c.loop-text.writer) (g.W.Sink.written c.flush_before_read.new.writer) (waiting c.args.block.now) (waiting c.loop-text.block) (waiting c.flush_before_read.new.block) so_far.1 so_far.3 c.in_ok-flush_before_read.ensures.told in
    let read = c.in_ok-progress.ensures.bytes in
    let bytes : List ℕ = ahead_of c.loop-text.reading ++ read.0 in
    let reads = rw c.in-Nothing.is at read.2.0 in (
      so_far.0 ++ bytes,
      so_far.1,
      Consumes-grow _ _ _ so_far.0 (ahead_of c.loop-text.reading) read.0 so_far.2 read.1,
      passed,
      rw (c.summary.ensures so_far.4) (tells_nothing so_far.0 so_far.1 bytes (script_state c.loop-text.engine so_far.4) _ so_far.6 c.loop-text.invariant.few reads.0 (c.in_ok-progress.ensures.ended (inr c.in-Nothing.is), c.in_ok-progress.ensures.over (inr c.in-Nothing.is))),
    )

pub returns-in_err-respond-clause-told : goal.returns-in_err-respond-clause-told
returns-in_err-respond-clause-told g c =
    let p = err_from_is_err_and c.from_residual-in_err-respond.result c.from_residual-in_err-respond.ensures.1 in
    let so_far = c.loop-text.invariant.so_far in
    let passed = passes-on (g.W.Sink.written c.args.writer.now) (g.W.Sink.written c.loop-text.writer) (g.W.Sink.written c.flush_before_read.new.writer) (waiting c.args.block.now) (waiting c.loop-text.block) (waiting c.flush_before_read.new.block) so_far.1 so_far.3 c.in_ok-flush_before_read.ensures.told in
    let read = c.in_ok-progress.ensures.bytes in
    let bytes : List ℕ = ahead_of c.loop-text.reading ++ read.0 in
    let told = rw c.line.ensures at (c.in_err-respond.ensures.told so_far.4 so_far.5) in (
      so_far.0 ++ bytes,
      so_far.1 ++ told.0,
      Consumes-grow _ _ _ so_far.0 (ahead_of c.loop-text.reading) read.0 so_far.2 read.1,
      passes-then (g.W.Sink.written c.args.writer.now) (g.W.Sink.written c.flush_before_read.new.writer) (g.W.Sink.written c.respond.new.writer) (waiting c.args.block.now) (waiting c.flush_before_read.new.block) (waiting c.respond.new.block) so_far.1 told.0 passed told.1,
      rw (p.1, p.2) (tells_stopped (Unit {0}) c.in_err-respond.field-0.0 so_far.0 so_far.1 bytes (line_of c.advance.new.self) (ahead_of c.advance.new.self) told.0 c.in_ok-progress.progress (script_state c.loop-text.engine so_far.4) (script_state c.respond.new.engine told.2) _
          so_far.6 c.loop-text.invariant.few read.2.0 read.2.1 c.in_default.not-Nothing (λ e. (c.in_ok-progress.ensures.ended (inl e), c.in_ok-progress.ensures.over (inl e))) told.3),
    )

pub returns-in-Last-clause-told : goal.returns-in-Last-clause-told
returns-in-Last-clause-told g c =
    let so_far = c.loop-text.invariant.so_far in
    let passed = passes-on (g.W.Sink.written c.args.writer.now) (g.W.Sink.written c.loop-text.writer) (g.W.Sink.written c.flush_before_read.new.writer) (waiting c.args.block.now) (waiting c.loop-text.block) (waiting c.flush_before_read.new.block) so_far.1 so_far.3 c.in_ok-flush_before_read.ensures.told in
    let read = c.in_ok-progress.ensures.bytes in
    let bytes : List ℕ = ahead_of c.loop-text.reading ++ read.0 in
    let reads = rw c.in-Last.is at read.2.0 in
    let told = rw c.line.ensures at (c.in_ok-respond.ensures.told so_far.4 so_far.5) in (
      so_far.0 ++ bytes,
      so_far.1 ++ told.0,
      Consumes-grow _ _ _ so_far.0 (ahead_of c.loop-text.reading) read.0 so_far.2 read.1,
      passes-then (g.W.Sink.written c.args.writer.now) (g.W.Sink.written c.flush_before_read.new.writer) (g.W.Sink.written c.respond.new.writer) (waiting c.args.block.now) (waiting c.flush_before_read.new.block) (waiting c.respond.new.block) so_far.1 told.0 passed told.1,
      rw (c.summary-in-Last.ensures told.2) (tells_last so_far.0 so_far.1 bytes (line_of c.advance.new.self) (ahead_of c.advance.new.self) told.0 (script_state c.loop-text.engine so_far.4) (script_state c.respond.new.engine told.2) _
          so_far.6 c.loop-text.invariant.few reads (c.in_ok-progress.ensures.ended (inl c.in-Last.is), c.in_ok-progress.ensures.over (inl c.in-Last.is)) told.3),
    )

pub loop-text-smaller : goal.loop-text-smaller
loop-text-smaller g c =
    let so_far = c.loop-text.invariant.so_far in
    let told = c.in_ok-respond.ensures.told so_far.4 so_far.5 in
    let old = script_state c.loop-text.engine so_far.4 in
    let new = script_state c.respond.new.engine told.2 in
    falls_by_line old.counts.lines new.counts.lines (turn_lines old new _ told.0 told.3) (turn_few old new _ told.0 told.3)

pub loop-text-preserved : goal.loop-text-preserved
loop-text-preserved g c =
    let so_far = c.loop-text.invariant.so_far in
    let passed = passes-on (g.W.Sink.written c.args.writer.now) (g.W.Sink.written c.loop-text.writer) (g.W.Sink.written c.flush_before_read.new.writer) (waiting c.args.block.now) (waiting c.loop-text.block) (waiting c.flush_before_read.new.block) so_far.1 so_far.3 c.in_ok-flush_before_read.ensures.told in
    let read = c.in_ok-progress.ensures.bytes in
    let bytes : List ℕ = ahead_of c.loop-text.reading ++ read.0 in
    let told = rw c.line.ensures at (c.in_ok-respond.ensures.told so_far.4 so_far.5) in
    let old = script_state c.loop-text.engine so_far.4 in
    let new = script_state c.respond.new.engine told.2 in
    let next = next_line so_far.0 so_far.1 bytes (line_of c.advance.new.self) (ahead_of c.advance.new.self) told.0 c.in_ok-progress.progress old new so_far.6 read.2.0 c.in_default.not-Nothing c.in_default-progress.not-Last told.3 in
    record {
      few = omega (arith, turn_lines old new _ told.0 told.3, turn_few old new _ told.0 told.3);
      so_far = (
        next.0,
        so_far.1 ++ told.0,
        Consumes-same _ _ (so_far.0 ++ bytes) (next.0 ++ ahead_of c.advance.new.self) (Consumes-grow _ _ _ so_far.0 (ahead_of c.loop-text.reading) read.0 so_far.2 read.1) next.1,
        passes-then (g.W.Sink.written c.args.writer.now) (g.W.Sink.written c.flush_before_read.new.writer) (g.W.Sink.written c.respond.new.writer) (waiting c.args.block.now) (waiting c.flush_before_read.new.block) (waiting c.respond.new.block) so_far.1 told.0 passed told.1,
        told.2,
        told.4,
        next.2,
      );
      reads = still_works c.in_ok-progress.progress _ _ _ c.in_ok-progress.ensures.works ∙ c.loop-text.invariant.reads;
      once = c.in_ok-progress.ensures.goes_on (went_on c.in_ok-progress.progress c.in_default.not-Nothing c.in_default-progress.not-Last) ∙ c.loop-text.invariant.once;
      writes = still_works c.in_ok-respond.field-0 _ _ _ c.in_ok-respond.ensures.works ∙ (c.in_ok-flush_before_read.ensures.kept ∙ c.loop-text.invariant.writes);
    }

pub returns-in_err-flush_before_read-clause-told : goal.returns-in_err-flush_before_read-clause-told
returns-in_err-flush_before_read-clause-told g c =
    let p = err_from_is_err_and c.from_residual-in_err-flush_before_read.result c.from_residual-in_err-flush_before_read.ensures.1 in
    let so_far = c.loop-text.invariant.so_far in
    let passed = passes-on (g.W.Sink.written c.args.writer.now) (g.W.Sink.written c.loop-text.writer) (g.W.Sink.written c.flush_before_read.new.writer) (waiting c.args.block.now) (waiting c.loop-text.block) (waiting c.flush_before_read.new.block) so_far.1 so_far.3 c.in_err-flush_before_read.ensures.told in (
      so_far.0 ++ ahead_of c.loop-text.reading,
      so_far.1,
      so_far.2,
      passed,
      rw (p.1, p.2) (tells_unwritten c.in_err-flush_before_read.field-0.0 so_far.0 so_far.1 (ahead_of c.loop-text.reading) (script_state c.loop-text.engine so_far.4) _ so_far.6 c.loop-text.invariant.few (let few = few_ahead c.loop-text.reading in omega arith) c.in_err-flush_before_read.ensures.write.0),
    )
