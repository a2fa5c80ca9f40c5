use Rattle.std.proofs.Common.{◌≡◌, ◌∷◌, drop, rules}
use Rattle.mapdb_snapshot.specs.Snapshot.{cut_row}
use Rattle.mapdb_snapshot.proofs.Scans.OpenRows.{rows_closed}
use Rattle.mapdb_snapshot.proofs.written_form.cuts_scanned.Goals as goal

pub returns-clause-list : goal.returns-clause-list
returns-clause-list c =
    let closes : drop c.rows.at c.args.text.now ≡ 93 ∷ drop c.row_follows.new.at c.args.text.now = search rules in
    rows_closed cut_row c.rows.cuts.items c.rows.later _ _ _ c.rows.invariant.rows closes
