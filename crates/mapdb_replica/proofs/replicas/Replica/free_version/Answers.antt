use Rattle.std.proofs.Common.{◌≤◌, ◌+◌, length, arith, sym, ◌∙◌}
use Rattle.mapdb_replica.proofs.Copies.EndedVersions.{few_versions, first_version, one_more, root_version}
use Rattle.mapdb_replica.proofs.replicas.Replica.free_version.Goals as goal

pub versions-preserved : goal.versions-preserved
versions-preserved c =
    let before = one_more c.args.self.now.ops c.args.number c.versions.version c.versions.invariant.before (sym c.has_ended.ensures.ended ∙ c.versions-test.true) in
    let few : c.versions.version + 1 ≤ length c.args.self.now.ops = few_versions c.args.self.now.ops c.args.number (c.versions.version + 1) before in
    record { before = before; limit = few; small = omega (arith, few, c.has_ended.ensures.few) }

pub returns-clause-exact : goal.returns-clause-exact
returns-clause-exact c =
    first_version c.args.self.now.ops c.args.number c.versions.version c.versions.invariant.before (sym c.has_ended.ensures.ended ∙ c.versions-test.false)
    c.versions.invariant.limit

pub returns-clause-first : goal.returns-clause-first
returns-clause-first c = root_version c.args.self.now.ops c.args.number c.versions.version c.has_ended.ensures.formed c.versions.invariant.before
