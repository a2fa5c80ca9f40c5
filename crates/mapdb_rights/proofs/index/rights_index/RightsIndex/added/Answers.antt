use Rattle.mapdb_rights.proofs.index.rights_index.RightsIndex.added.Goals as goal

pub returns-in-Err-clause-ok : goal.returns-in-Err-clause-ok
returns-in-Err-clause-ok c = tt

pub returns-in-Err-clause-nothing_kept : goal.returns-in-Err-clause-nothing_kept
returns-in-Err-clause-nothing_kept c = (c.let_go.ensures.no_changes, c.let_go.ensures.none_listed, c.let_go.ensures.none_live)
