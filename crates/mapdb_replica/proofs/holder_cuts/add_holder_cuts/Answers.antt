use Rattle.std.proofs.Common.{◌∙◌, subst, sym}
use Rattle.std.specs.Prelude.{Option}
use Rattle.std.proofs.lemmas.Result.{on_ok_weaker}
use Rattle.mapdb_fpage.specs.Place.{Place}
use Rattle.mapdb_facts.specs.Facts.{records_of_facts, state_of_facts}
use Rattle.mapdb_replica.specs.LeftOut.{Adds}
use Rattle.mapdb_replica.specs.Unmap.{cuts_within}
use Rattle.mapdb_replica.proofs.News.KnownLeftOut.{adds_none}
use Rattle.mapdb_replica.proofs.holder_cuts.add_holder_cuts.Goals as goal

pub returns-in-Some : goal.returns-in-Some
returns-in-Some c =
    on_ok_weaker c.add_part_cuts.result
    (λ added. subst (λ (o : Option Place). Adds (state_of_facts c.args.facts.now) (cuts_within (records_of_facts c.args.facts.now) c.args.rights c.args.flush c.args.holder.now.id o) c.args.found.now.items c.add_part_cuts.new.found.items)
    (sym c.in-Some.is ∙ c.meet.ensures.smaller) added)
    c.add_part_cuts.ensures

pub returns-in-None : goal.returns-in-None
returns-in-None c =
    subst (λ (o : Option Place). Adds (state_of_facts c.args.facts.now) (cuts_within (records_of_facts c.args.facts.now) c.args.rights c.args.flush c.args.holder.now.id o) c.args.found.now.items c.args.found.now.items)
    (sym c.in-None.is ∙ c.meet.ensures.smaller) (adds_none (state_of_facts c.args.facts.now) c.args.found.now.items)
