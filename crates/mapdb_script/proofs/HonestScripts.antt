-- A script without `load` is an honest run.
use Rattle.std.proofs.Common.{◌≡◌, ◌∙◌, Some, sym, subst, ap}
use Rattle.std.specs.Prelude.{slice_get}
use Rattle.mapdb_cluster.specs.Honest.{IsHonest}
use Rattle.mapdb_cluster.specs.Net.{Net}
use Rattle.mapdb_cluster.specs.Run.{after}
use Rattle.mapdb_cluster.proofs.Moves.HonestRuns.{honest_runs}
use Rattle.mapdb_script.specs.Moves.{ScriptCopiesAreOfRuns, ScriptsAreHonest, moves_in, run_of_lines}
use Rattle.mapdb_script.proofs.MessageLemmas.{some_copy}
use Rattle.mapdb_script.proofs.ScriptEvents.{are_events}
use Rattle.mapdb_script.proofs.ScriptRuns.{going_on, scripts_are_runs}

pub scripts_are_honest : ScriptsAreHonest
scripts_are_honest lines last reads none =
    let is = scripts_are_runs lines last reads in
    let events = are_events lines none in
    let honest = honest_runs (run_of_lines lines) is.1 events in
    (events, subst IsHonest (sym is.0) honest.0, honest.1)

pub script_copies_are_of_runs : ScriptCopiesAreOfRuns
script_copies_are_of_runs lines later now last reads more none none_later at other issuer copy there there_later =
    let is = scripts_are_runs lines now reads in
    let on : last.cluster.net ≡ after now.cluster.net (moves_in later) = going_on later now last (some_copy now.cluster.net.copies at issuer there) more in
    record {
      few = is.1;
      first = are_events lines none;
      more = are_events later none_later;
      issues = (at, subst (λ (n : Net). slice_get n.copies at ≡ Some issuer) is.0 there);
      takes = (other, subst (λ (n : Net). slice_get n.copies other ≡ Some copy) (on ∙ ap (λ (n : Net). after n (moves_in later)) is.0) there_later);
    }
