use Rattle.mapdb_rights.proofs.index.unlisting.unlist_revoked.Goals as goal

pub loop-mapping-preserved : goal.loop-mapping-preserved
loop-mapping-preserved c = record {
  listed = c.unlist.ensures.listed;
  idle = λ cached idle. c.unlist.ensures.idle cached (c.loop-mapping.invariant.idle cached idle);
}
