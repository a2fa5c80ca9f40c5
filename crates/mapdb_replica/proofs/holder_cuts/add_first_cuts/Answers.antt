use Rattle.std.proofs.Common.{◌∙◌, List, subst, sym}
use Rattle.std.proofs.lemmas.Result.{on_ok_weaker}
use Rattle.mapdb_facts.specs.Facts.{records_of_facts, state_of_facts}
use Rattle.mapdb_facts.specs.declared.operations.Op.{Op}
use Rattle.mapdb_replica.specs.LeftOut.{Adds}
use Rattle.mapdb_replica.specs.Unmap.{holder_cuts}
use Rattle.mapdb_replica.proofs.News.KnownLeftOut.{adds_none}
use Rattle.mapdb_replica.proofs.Unmaps.MeetingRecords.{listed_first, none_first}
use Rattle.mapdb_replica.proofs.holder_cuts.add_first_cuts.Goals as goal

pub returns-in-Some : goal.returns-in-Some
returns-in-Some c =
    on_ok_weaker c.add_holder_cuts.result
    (λ added. subst (λ (ops : List Op). Adds (state_of_facts c.args.facts.now) ops c.args.found.now.items c.add_holder_cuts.new.found.items)
    (sym (listed_first (holder_cuts (records_of_facts c.args.facts.now) c.args.page.now c.args.rights c.args.flush) c.args.space c.in-Some.holder (sym c.first_holder.ensures ∙ c.in-Some.is))) added)
    c.add_holder_cuts.ensures

pub returns-in-None : goal.returns-in-None
returns-in-None c =
    subst (λ (ops : List Op). Adds (state_of_facts c.args.facts.now) ops c.args.found.now.items c.args.found.now.items)
    (sym (none_first (holder_cuts (records_of_facts c.args.facts.now) c.args.page.now c.args.rights c.args.flush) c.args.space (sym c.first_holder.ensures ∙ c.in-None.is)))
    (adds_none (state_of_facts c.args.facts.now) c.args.found.now.items)
