use Rattle.std.proofs.Common.{◌≡◌, ◌∙◌, ◌≤◌, Some, ap, arith, length, refl, slice_get, sym}
use Rattle.std.proofs.lemmas.List.{get_or_past}
use Rattle.std.proofs.lemmas.Option.{slice_get_read}
use Rattle.mapdb_script.specs.Marks.{known_in}
use Rattle.mapdb_script.proofs.marks.known_of.Goals as goal

pub returns-else-other-len : goal.returns-else-other-len
returns-else-other-len c =
    let rows = c.args.rows.now in
    let row = c.in-Some.row.now in
    let found = c.in-Some.ensures.lookup in
    let there : slice_get rows c.args.at ≡ Some row = slice_get_read rows (length rows) c.args.at row refl found.3.0 found.1 in
    let past : length row.items ≤ c.args.other = omega (arith, row.ok.0, c.len.ensures) in
    sym (ap (λ r. known_in r c.args.other) there ∙ get_or_past row.items c.args.other 0 past)
