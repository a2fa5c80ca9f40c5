use Rattle.std.proofs.lemmas.Result.{IfOk-weaker}
use Rattle.mapdb_lists.proofs.ChangeLemmas.Replacing.{replaced_seen}
use Rattle.mapdb_lists.proofs.changes.begin.Goals as goal

pub returns-clause-replaced : goal.returns-clause-replaced
returns-clause-replaced c =
    IfOk-weaker c.begin_among.result _ _
    (λ replaced. replaced_seen c.args.changes.now.own.entries c.begin_among.new.own_changes.entries c.args.id c.args.first c.args.limit c.args.change replaced c.requires.limit)
    c.begin_among.ensures.replaced
