use Rattle.std.proofs.Common.{◌∙◌, Ok, ap, sym}
use Rattle.mapdb_snapshot.specs.Reading.{snapshot_of}
use Rattle.mapdb_snapshot.proofs.Texts.TextsComeBack.{lists_back}
use Rattle.mapdb_snapshot.proofs.written_form.written_read.Goals as goal

pub returns : goal.returns
returns c =
    let lists = c.in_ok-lists.lists in
    let is = c.in_ok-lists.ensures in
    ap snapshot_of is.text ∙ lists_back lists.cuts.items lists.ended.items lists.records.items is.cuts is.ended is.records
    ∙ ap Ok (sym c.in_ok-ops.ensures)
