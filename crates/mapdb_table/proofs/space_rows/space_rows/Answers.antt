use Rattle.std.proofs.Common.{◌∙◌, ◌++◌, ◌-◌, ◌∷◌, [], List, ap, append_assoc, drop, subst, sym}
use Rattle.mapdb_replica.specs.Pairs.{Pair}
use Rattle.mapdb_replica.specs.Served.{served}
use Rattle.mapdb_rights.specs.declared.index.served_pages.SteadyPages.{SteadyPages}
use Rattle.mapdb_table.specs.Table.{row_of, rows_behind, space_rows}
use Rattle.mapdb_table.specs.declared.rows.TableRow.{TableRow}
use Rattle.mapdb_table.proofs.RowsLeft.{NextRun, begins, next_run, no_row, one_row, rows_over}
use Rattle.mapdb_table.proofs.space_rows.space_rows.Goals as goal

pub runs-preserved-in_ok-push : goal.runs-preserved-in_ok-push
runs-preserved-in_ok-push c =
    let f = served c.args.copy.now.ops c.args.space in
    let parts = c.as_slice-parts.result.now in
    let first = c.index-parts-place.result in
    let end = c.run_from-run.result.end in
    let behind = c.run_from-run.result.behind in
    let pair : Pair = (c.in-Some.frame, c.in-Some.rights) in
    let row : TableRow = row_of c.args.space first.page (end - first.page) pair in
    let run : NextRun f parts c.runs.place first end behind =
    subst (λ (part : SteadyPages). NextRun f parts c.runs.place part end behind) (sym c.index-parts-place.is)
    (next_run f parts c.runs.place first end behind c.runs-test.true (c.run_from-run.ensures.run f) (c.run_from-run.ensures.rest f) c.runs.invariant.parts) in
    record {
      rows =
          ap (λ (rows : List TableRow). rows ++ rows_behind f c.args.space (begins (drop behind parts))) c.in_ok-push.ensures.items
          ∙ append_assoc c.runs.rows.items (row ∷ []) (rows_behind f c.args.space (begins (drop behind parts)))
          ∙ ap (λ (rows : List TableRow). c.runs.rows.items ++ rows)
          (ap (λ n. row ∷ rows_behind f c.args.space n) run.next ∙ sym (one_row f c.args.space first end run.steady run.run pair c.in-Some.is) ∙ ap (rows_behind f c.args.space) (sym run.here))
          ∙ c.runs.invariant.rows;
      parts = run.left;
    }

pub runs-preserved : goal.runs-preserved
runs-preserved c =
    let f = served c.args.copy.now.ops c.args.space in
    let parts = c.as_slice-parts.result.now in
    let first = c.index-parts-place.result in
    let end = c.run_from-run.result.end in
    let behind = c.run_from-run.result.behind in
    let run : NextRun f parts c.runs.place first end behind =
    subst (λ (part : SteadyPages). NextRun f parts c.runs.place part end behind) (sym c.index-parts-place.is)
    (next_run f parts c.runs.place first end behind c.runs-test.true (c.run_from-run.ensures.run f) (c.run_from-run.ensures.rest f) c.runs.invariant.parts) in
    record {
      rows =
          ap (λ (rows : List TableRow). c.runs.rows.items ++ rows)
          (ap (rows_behind f c.args.space) run.next ∙ sym (no_row f c.args.space first end run.steady run.run c.in_default.is) ∙ ap (rows_behind f c.args.space) (sym run.here))
          ∙ c.runs.invariant.rows;
      parts = run.left;
    }

pub returns : goal.returns
unfolding space_rows
returns c = rows_over (served c.args.copy.now.ops c.args.space) c.args.space c.as_slice-parts.result.now c.runs.place c.runs.rows.items c.runs-test.false c.runs.invariant.rows
