use Rattle.std.proofs.Common.{◌≡◌, ℕ, ◌+◌, List, [], ◌∙◌, arith, drop}
use Rattle.std.specs.Prelude.{slice_range}
use mathlib.Core.Bool.{or-false}
use Rattle.mapdb_lines.specs.Blocks.{waiting}
use Rattle.mapdb_facts.proofs.Results.{on_err_from}
use Rattle.mapdb_lines.proofs.BlockLemmas.{passes-then, passes-written, passes_none_left}
use Rattle.mapdb_lines.proofs.LineLemmas.{slice_range_drop, length_range}
use Rattle.mapdb_lines.proofs.blocks.Block.flush.Goals as goal

pub loop-self-preserved : goal.loop-self-preserved
loop-self-preserved g c =
    let old = c.loop-self.self in
    let n = c.in_ok-self.field-0 in
    let size = length_range old.piece.items old.start old.end (omega (arith, old.piece.ok.0)) in
    let bytes = rw c.deref.ensures.value at c.in_ok-self.ensures.bytes in
    let rest : List ℕ = slice_range old.piece.items (old.start + n) old.end in
    let left : rest ≡ drop n (waiting old) = slice_range_drop old.piece.items old.start old.end n (omega (arith, c.in_ok-self.ensures.bound)) in
    record {
      passes = passes-then (g.W.Sink.written c.args.writer.now) (g.W.Sink.written c.loop-self.writer) (g.W.Sink.written c.write.new.self) (waiting c.args.self.now) (waiting old) rest [] [] c.loop-self.invariant.passes
          (passes-written (g.W.Sink.written c.loop-self.writer) (g.W.Sink.written c.write.new.self) n (waiting old) rest bytes left);
      kept = c.in_ok-self.ensures.failed ∙ (or-false _ ∙ c.loop-self.invariant.kept);
    }

pub returns-in_err-self-clause-asked : goal.returns-in_err-self-clause-asked
returns-in_err-self-clause-asked g c =
    let old = c.loop-self.self in
    let size = length_range old.piece.items old.start old.end (omega (arith, old.piece.ok.0)) in
    let passes = c.loop-self.invariant.passes in
    on_err_from c.from_residual.result (λ nothing. absurd (passes_none_left (waiting c.args.self.now) passes.0 (waiting old) passes.2 nothing (omega arith)))
