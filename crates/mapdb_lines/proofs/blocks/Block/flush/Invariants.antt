use Rattle.std.proofs.Common.{◌≡◌, ◌-◌, []}
use Rattle.mapdb_lines.specs.Blocks.{Passes, waiting}
use Rattle.mapdb_lines.proofs.blocks.Block.flush.Given as goal

abbrev pub invariant-loop-self : goal.invariant-loop-self
invariant-loop-self g l = record {
  passes : Passes (g.W.Sink.written l.fn.writer) (g.W.Sink.written l.writer) (waiting l.fn.self) (waiting l.self) [];
  kept : g.W.Sink.has_failed l.writer ≡ g.W.Sink.has_failed l.fn.writer;
}

abbrev pub decreases-loop-self : goal.decreases-loop-self
decreases-loop-self g l = l.self.end - l.self.start
