use Rattle.std.proofs.Common.{refl}
use Rattle.mapdb_facts.specs.Facts.{state_of_facts}
use Rattle.mapdb_rights.proofs.Rights.Stepped.{root_follows}
use Rattle.mapdb_rights.proofs.index.stepping.root_given.Goals as goal

pub returns : goal.returns
returns c changes = record {
  above = c.taken_at-taken.ensures.above;
  limit = c.taken_at-taken.ensures.limit;
  follows = root_follows (state_of_facts c.args.facts.now) changes c.args.id c.args.page c.taken_at-taken.result.1 c.taken_at-taken.result.0 _
      c.requires.root c.taken_at-taken.ensures.limit c.taken_at-taken.ensures.same c.without.ensures refl;
}
