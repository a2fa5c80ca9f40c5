use Rattle.std.proofs.Common.{[], refl}
use Rattle.std.proofs.lemmas.Result.{on_err_weaker, on_ok_weaker}
use Rattle.mapdb_lines.specs.Blocks.{waiting}
use Rattle.mapdb_facts.proofs.Results.{on_err_from}
use Rattle.mapdb_lines.proofs.BlockLemmas.{passes-direct, passes-then}
use Rattle.mapdb_lines.proofs.blocks.Block.put.Goals as goal

pub returns-then-text-gt-BLOCK_BYTES-clause-ok : goal.returns-then-text-gt-BLOCK_BYTES-clause-ok
returns-then-text-gt-BLOCK_BYTES-clause-ok g c =
    let before = c.in_ok-flush.ensures in
    on_ok_weaker c.write_all.result (λ written. passes-then (g.W.Sink.written c.args.writer.now) (g.W.Sink.written c.flush.new.writer) (g.W.Sink.written c.write_all.new.writer) (waiting c.args.self.now) (waiting c.flush.new.self) (waiting c.flush.new.self) [] c.args.text.now before.told
    (passes-direct (g.W.Sink.written c.flush.new.writer) (g.W.Sink.written c.write_all.new.writer) (waiting c.flush.new.self) c.args.text.now before.empty written)) c.write_all.ensures.ok

pub returns-then-text-gt-BLOCK_BYTES-clause-err : goal.returns-then-text-gt-BLOCK_BYTES-clause-err
returns-then-text-gt-BLOCK_BYTES-clause-err g c =
    let before = c.in_ok-flush.ensures in
    on_err_weaker c.write_all.result (λ front. (
      front.0,
      front.1,
      passes-then (g.W.Sink.written c.args.writer.now) (g.W.Sink.written c.flush.new.writer) (g.W.Sink.written c.write_all.new.writer) (waiting c.args.self.now) (waiting c.flush.new.self) (waiting c.flush.new.self) [] front.0 before.told
          (passes-direct (g.W.Sink.written c.flush.new.writer) (g.W.Sink.written c.write_all.new.writer) (waiting c.flush.new.self) front.0 before.empty front.2),
    )) c.write_all.ensures.err

pub returns-in_err-flush-clause-err : goal.returns-in_err-flush-clause-err
returns-in_err-flush-clause-err g c = on_err_from c.from_residual.result ([], (c.args.text.now, refl), c.in_err-flush.ensures.told)
