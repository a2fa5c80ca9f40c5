use Rattle.mapdb_rights.proofs.Places.Unlisted.{idle_without_place, without_place}
use Rattle.mapdb_rights.proofs.index.unlisting.unlist_place.Goals as goal

pub returns-then-is_childless-clause-listed : goal.returns-then-is_childless-clause-listed
returns-then-is_childless-clause-listed c S =
    without_place S c.args.listed.now c.remove.new.self c.place_of.result c.remove.ensures c.args.mapping.now c.place_of.ensures.is

pub returns-then-is_childless-clause-idle : goal.returns-then-is_childless-clause-idle
returns-then-is_childless-clause-idle c S cached are own revoked =
    idle_without_place S c.args.listed.now c.remove.new.self c.place_of.result c.remove.ensures c.args.mapping.now cached are own revoked
    (c.is_childless.ensures c.if-is_childless.true) c.place_of.ensures.is
