use Rattle.std.proofs.Common.{arith, sym}
use Rattle.mapdb_lines.proofs.BlockLemmas.{range_put}
use Rattle.mapdb_lines.proofs.blocks.Block.add.Goals as goal

pub returns : goal.returns
returns c =
    let old = c.args.self.now in
    rw (c.copy_from_slice.ensures.after, c.deref_mut.ensures.value) (range_put old.piece.items c.args.text.now old.start old.end old.piece.len (omega arith) (omega arith) (sym old.piece.ok.0))
