use Rattle.mapdb_rights.proofs.Rights.OneRelation.{one_relation_says_who_has}
use Rattle.mapdb_rights.proofs.laws.one_relation_says_who_has.Goals as goal

pub returns : goal.returns
returns c = one_relation_says_who_has
