use Rattle.mapdb_rights.proofs.Rights.Frames.{frames_stay}
use Rattle.mapdb_rights.proofs.laws.frames_stay.Goals as goal

pub returns : goal.returns
returns c = frames_stay
