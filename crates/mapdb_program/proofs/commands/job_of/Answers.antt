use Rattle.std.proofs.Common.{◌∙◌, inr, sym, map, List}
use Rattle.std.proofs.lemmas.Result.{err_from_is_err_and}
use Rattle.clap.specs.Words.{Text, app_of}
use Rattle.mapdb_program.proofs.CommandLemmas.{refused_none, taken_asks}
use Rattle.mapdb_program.proofs.commands.job_of.Goals as goal

pub returns-in_err-matches-clause-err : goal.returns-in_err-matches-clause-err
returns-in_err-matches-clause-err g c =
    let p = err_from_is_err_and c.from_residual-in_err-matches.result c.from_residual-in_err-matches.ensures.1 in
    let words : List Text = map g.S.AsStr.text c.args.words.now in
    rw (p.1, p.2) (refused_none words (app_of c.in_ok-command.field-0) c.in_err-matches.field-0.0 c.in_ok-command.ensures c.in_err-matches.ensures.kinds)

pub returns-in-Some-clause-ok : goal.returns-in-Some-clause-ok
returns-in-Some-clause-ok g c =
    let words : List Text = map g.S.AsStr.text c.args.words.now in
    taken_asks words (app_of c.in_ok-command.field-0) c.in_ok-matches.matches c.in_ok-command.ensures c.in_ok-matches.ensures.kinds c.in_ok-matches.ensures.matches
    ∙ (sym c.job_met.ensures ∙ c.in-Some.is)

pub returns-clause-err : goal.returns-clause-err
returns-clause-err g c =
    let words : List Text = map g.S.AsStr.text c.args.words.now in
    inr (taken_asks words (app_of c.in_ok-command.field-0) c.in_ok-matches.matches c.in_ok-command.ensures c.in_ok-matches.ensures.kinds c.in_ok-matches.ensures.matches
    ∙ (sym c.job_met.ensures ∙ c.in-None.is))
