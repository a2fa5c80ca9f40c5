use Rattle.std.proofs.Common.{◌∙◌}
use Rattle.mapdb_facts.specs.Facts.{records_of_facts}
use Rattle.mapdb_snapshot.specs.Cutting.{cut_names}
use Rattle.mapdb_picture.proofs.ReferredNames.{gathered-first, gathered-last, gathered-next}
use Rattle.mapdb_picture.proofs.pictures.referred_names.Goals as goal

pub loop-mapping-init : goal.loop-mapping-init
loop-mapping-init c =
    gathered-first (records_of_facts c.args.facts.now) c.into_iter-mapping-iterator.result c.args.ops.now c.in_ok-names.names.keys
    (c.into_iter-mapping-iterator.ensures.into_iter_gives ∙ c.records-mapping-items.ensures.listed) c.in_ok-names.ensures

pub loop-mapping-preserved : goal.loop-mapping-preserved
loop-mapping-preserved c =
    gathered-next (records_of_facts c.args.facts.now) c.loop-mapping.mapping-iterator c.next.new.self c.in-Some.mapping (cut_names c.args.ops.now)
    c.loop-mapping.names.keys c.insert.new.self.keys c.in-Some.ensures.steps c.in_ok-insert.ensures.keys c.loop-mapping.invariant

pub returns : goal.returns
returns c =
    gathered-last (records_of_facts c.args.facts.now) c.loop-mapping.mapping-iterator (cut_names c.args.ops.now) c.loop-mapping.names.keys
    c.in-None.ensures.steps.0 c.loop-mapping.invariant
