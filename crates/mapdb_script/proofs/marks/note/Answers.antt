use Rattle.std.proofs.Common.{◌≡◌, ◌<◌, Some, arith, length, refl, slice_get}
use Rattle.std.proofs.lemmas.Option.{slice_get_read}
use Rattle.std.specs.Vec.{with_item}
use Rattle.mapdb_cluster.proofs.Steps.Slots.{one_there}
use Rattle.mapdb_script.proofs.MarkLemmas.{row_set}
use Rattle.mapdb_script.proofs.marks.note.Goals as goal

pub returns : goal.returns
returns c =
    let rows = c.args.rows.now in
    let mark = c.args.mark in
    let row = c.index_mut.result.now in
    let here : mark.at < length rows.items = omega (arith, rows.ok.0, c.len.ensures, c.if-mark-len.false) in
    let there : slice_get rows.items mark.at ≡ Some row = slice_get_read rows.items (length rows.items) mark.at row refl here c.index_mut.ensures.value in
    let read : slice_get rows.items mark.at ≡ Some c.index.result.now = slice_get_read rows.items (length rows.items) mark.at c.index.result.now refl here c.index.ensures in
    let same : c.index.result.now ≡ row = one_there rows.items mark.at c.index.result.now row read there in
    let within : mark.other < length row.items = rw (← same) (omega (arith, c.index.result.now.ok.0, c.len-else-mark-len.ensures, c.if-mark-len-2.false)) in
    λ copies all so. row_set copies rows.items mark row (with_item row mark.other mark.known) all so there within refl
