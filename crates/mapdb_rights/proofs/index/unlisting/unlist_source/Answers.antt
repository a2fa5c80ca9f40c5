use Rattle.mapdb_rights.proofs.Places.Unlisted.{idle_without_source, without_source}
use Rattle.mapdb_rights.proofs.index.unlisting.unlist_source.Goals as goal

pub returns-clause-listed : goal.returns-clause-listed
returns-clause-listed c S are own revoked =
    without_source S c.args.listed.now c.remove.new.self c.source_of.result c.remove.ensures c.args.mapping.now are own revoked c.source_of.ensures.is

pub returns-clause-idle : goal.returns-clause-idle
returns-clause-idle c S cached =
    idle_without_source S c.args.listed.now c.remove.new.self c.source_of.result c.remove.ensures c.args.mapping.now cached c.source_of.ensures.is
