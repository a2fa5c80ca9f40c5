use Rattle.mapdb_rights.proofs.Rights.OneFrameRelation.{one_relation_says_frames}
use Rattle.mapdb_rights.proofs.laws.one_relation_says_frames.Goals as goal

pub returns : goal.returns
returns c = one_relation_says_frames
