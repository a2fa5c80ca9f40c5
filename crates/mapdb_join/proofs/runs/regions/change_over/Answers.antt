use Rattle.std.proofs.Common.{◌+◌, [], ◌∷◌, ◌++◌, List, map, bit_or, arith}
use Rattle.std.specs.Prelude.{slice_range}
use Rattle.mapdb_join.specs.Tidy.{with_bits}
use Rattle.mapdb_join.specs.declared.runs.starts.Start.{Start}
use Rattle.mapdb_join.proofs.Changing.{put_together}
use Rattle.mapdb_join.proofs.Pieces.{count_rises}
use Rattle.mapdb_join.proofs.runs.regions.change_over.Goals as goal

pub put_between-requires : goal.put_between-requires
put_between-requires c =
    let r = count_rises c.args.starts.now (c.args.first + 1) c.args.end (omega arith) in
    (omega (arith, r, c.starts_below-inner.ensures.count, c.starts_below-outer.ensures.count), c.starts_below-outer.ensures.bound)

pub returns-clause-bounds : goal.returns-clause-bounds
returns-clause-bounds c =
    let r = count_rises c.args.starts.now c.args.first (c.args.end + 1) (omega arith) in
    (omega (arith, r, c.starts_below-low.ensures.count, c.starts_below-high.ensures.count), c.starts_below-high.ensures.bound)

pub returns-clause-list : goal.returns-clause-list
returns-clause-list c =
    let one : List Start = [] ++ record { page = c.args.first; bits = bit_or c.bits_before.result c.args.bits } ∷ [] in
    let two : List Start = one ++ map (with_bits c.args.bits) (slice_range c.args.starts.now c.starts_below-inner.result c.starts_below-outer.result) in
    put_together c.args.starts.now c.args.first c.args.end c.args.bits c.starts_below-low.result c.bits_before-before.result
    c.starts_below-inner.result c.bits_before.result c.starts_below-high.result c.bits_before-at_end.result c.starts_below-outer.result _
    c.starts_below-low.ensures.count c.bits_before-before.ensures c.starts_below-inner.ensures.count c.bits_before.ensures
    c.starts_below-high.ensures.count c.bits_before-at_end.ensures c.starts_below-outer.ensures.count
    (c.in_ok-put-2.ensures two (c.in_ok-put_between.ensures one (c.in_ok-put.ensures [] c.new-list.ensures.items)))
