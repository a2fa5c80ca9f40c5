use Rattle.mapdb_lists.proofs.change_lists.list_last.Goals as goal

pub returns : goal.returns
returns c = c.last_at.ensures c.args.page c.spot_of.ensures
