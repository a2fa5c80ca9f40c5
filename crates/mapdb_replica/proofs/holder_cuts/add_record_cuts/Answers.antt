use Rattle.std.proofs.Common.{◌∙◌, List, ap, subst, sym, take}
use Rattle.std.specs.List.{flat_map}
use Rattle.std.proofs.lemmas.List.{take_all}
use Rattle.mapdb_facts.specs.Facts.{records_of_facts, state_of_facts}
use Rattle.mapdb_facts.specs.declared.operations.Op.{Op}
use Rattle.mapdb_facts.specs.declared.operations.Record.{Record}
use Rattle.mapdb_replica.specs.Issue.{holder_of}
use Rattle.mapdb_replica.specs.LeftOut.{Adds}
use Rattle.mapdb_replica.specs.Unmap.{holder_cuts}
use Rattle.mapdb_replica.proofs.News.KnownLeftOut.{adds_none, adds_twice}
use Rattle.mapdb_replica.proofs.Unmaps.MeetingRecords.{listed_map, listed_more}
use Rattle.mapdb_replica.proofs.holder_cuts.add_record_cuts.Goals as goal

pub loop-mapping-init : goal.loop-mapping-init
loop-mapping-init c = adds_none (state_of_facts c.args.facts.now) c.args.found.now.items

pub loop-mapping-preserved : goal.loop-mapping-preserved
loop-mapping-preserved c =
    let S = state_of_facts c.args.facts.now in
    let cuts : Record → List Op = λ (r : Record). holder_cuts (records_of_facts c.args.facts.now) c.args.page.now c.args.rights c.args.flush (holder_of r) in
    subst (λ (ops : List Op). Adds S ops c.args.found.now.items c.add_holder_cuts.new.found.items)
    (listed_more cuts c.args.held.now c.loop-mapping.mapping-index c.mapping-item.result c.loop-mapping-test.true c.mapping-item.is)
    (adds_twice S (flat_map cuts (take c.loop-mapping.mapping-index c.args.held.now)) (cuts c.mapping-item.result) c.args.found.now.items c.loop-mapping.found.items
    c.add_holder_cuts.new.found.items c.loop-mapping.invariant c.in_ok-add_holder_cuts.ensures)

pub returns : goal.returns
returns c =
    let S = state_of_facts c.args.facts.now in
    let cuts = holder_cuts (records_of_facts c.args.facts.now) c.args.page.now c.args.rights c.args.flush in
    subst (λ (ops : List Op). Adds S ops c.args.found.now.items c.loop-mapping.found.items)
    (ap (λ (rs : List Record). flat_map (λ (r : Record). cuts (holder_of r)) rs) (take_all c.loop-mapping.mapping-index c.args.held.now c.loop-mapping-test.false)
    ∙ sym (listed_map holder_of cuts c.args.held.now))
    c.loop-mapping.invariant
