use Rattle.mapdb_facts.proofs.Maps.CutRuns.{least_rights}
use Rattle.mapdb_facts.proofs.runs.run_from.Goals as goal

pub returns : goal.returns
returns c =
    rw c.rights_of.ensures
    (least_rights c.args.runs.now c.run_from.ensures.atoms c.run_from.ensures.small c.args.page _ _ _ c.in_ok-first_page.ensures.some)
