use Rattle.std.proofs.Common.{◌≡◌, ◌∷◌, [], ◌++◌, true, drop, rules}
use Rattle.std.proofs.lemmas.List.Elements.{All-push}
use Rattle.mapdb_snapshot.specs.ComingBack.{FitsRow}
use Rattle.mapdb_snapshot.specs.Snapshot.{record_row}
use Rattle.serde_json.specs.Written.{comma_if, compact_text}
use Rattle.mapdb_snapshot.proofs.Scans.OpenRows.{row_scanned, rows_closed}
use Rattle.mapdb_snapshot.proofs.written_form.records_scanned.Goals as goal

pub rows-preserved : goal.rows-preserved
rows-preserved c =
    let text = c.args.text.now in
    let mapping = c.in_ok-ok_or-3.field-0 in
    let follows : drop c.rows.at text ≡ comma_if c.rows.later ++ drop c.row_follows.new.at text = search rules in
    let row : drop c.row_follows.new.at text ≡ compact_text (record_row mapping) ++ drop c.record_scanned.new.at text = search rules in
    let fit : FitsRow mapping = search rules in
    let later : c.row_follows.new.later ≡ true = c.row_follows.ensures.later in
    let items : c.push.new.self.items ≡ c.rows.records.items ++ (mapping ∷ []) = c.in_ok-push.ensures.items in
    record {
      rows = rw (later, items) (row_scanned record_row c.rows.records.items mapping c.rows.later _ _ _ _ c.rows.invariant.rows follows row);
      fits = rw items (All-push FitsRow c.rows.records.items mapping c.rows.invariant.fits fit);
    }

pub returns-clause-list : goal.returns-clause-list
returns-clause-list c =
    let closes : drop c.rows.at c.args.text.now ≡ 93 ∷ drop c.row_follows.new.at c.args.text.now = search rules in
    rows_closed record_row c.rows.records.items c.rows.later _ _ _ c.rows.invariant.rows closes
