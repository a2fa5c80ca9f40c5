use Rattle.std.proofs.lemmas.Result.{IfOk-weaker}
use Rattle.mapdb_lists.proofs.ChangeLemmas.Replacing.{replaced_seen}
use Rattle.mapdb_lists.proofs.changes.replace.Goals as goal

pub returns : goal.returns
returns c =
    IfOk-weaker c.replace_among.result _ _
    (λ replaced. replaced_seen c.args.changes.now.own.entries c.replace_among.new.own_changes.entries c.args.id c.args.first c.args.limit c.args.change replaced c.requires.limit)
    c.replace_among.ensures
