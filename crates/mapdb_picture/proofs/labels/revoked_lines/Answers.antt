use Rattle.std.proofs.Common.{rules, ◌≡◌, ◌+◌, ◌++◌, ap, arith, length}
use Rattle.std.specs.Prelude.{Some, string_bytes}
use Rattle.mapdb_facts.specs.Adding.{cut_at}
use Rattle.mapdb_facts.specs.Facts.{state_of_facts}
use Rattle.mapdb_facts.specs.Runs.{cut_runs}
use Rattle.mapdb_facts.proofs.Maps.CutRuns.{begins_behind, ends_behind}
use Rattle.mapdb_picture.specs.Labels.{revoked_line}
use Rattle.mapdb_picture.proofs.Telling.{told}
use Rattle.mapdb_picture.proofs.labels.revoked_lines.Goals as goal

pub runs-preserved : goal.runs-preserved
runs-preserved c =
    let S = state_of_facts c.args.facts.now in
    let run = c.in-Some.run' in
    let first = c.in-Some.ensures.first (begins_behind (cut_at S c.args.id) c.runs.page (Some run) c.runs.invariant.apart c.in-Some.ensures.least) in
    let more : string_bytes c.push_str.new.self ≡ string_bytes c.runs.text ++ revoked_line run = search rules in
    record {
      text = told revoked_line (string_bytes c.runs.text) (string_bytes c.push_str.new.self) _ run
          (cut_runs S c.args.id (run.first_page + run.page_count)) (cut_runs S c.args.id c.runs.page) more first c.runs.invariant.text;
      apart = ends_behind (cut_at S c.args.id) c.runs.page run c.in-Some.ensures.least;
    }

pub runs-smaller : goal.runs-smaller
runs-smaller c =
    let S = state_of_facts c.args.facts.now in
    let run = c.in-Some.run' in
    let first = c.in-Some.ensures.first (begins_behind (cut_at S c.args.id) c.runs.page (Some run) c.runs.invariant.apart c.in-Some.ensures.least) in
    omega (arith, ap length first)
