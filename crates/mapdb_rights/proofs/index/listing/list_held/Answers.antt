use Rattle.std.proofs.Common.{ap, inr, sym, subst, ◌∙◌}
use Rattle.mapdb_facts.specs.Facts.{state_of_facts}
use Rattle.mapdb_facts.specs.Looking.{Holds}
use Rattle.mapdb_facts.specs.declared.operations.Record.{Record}
use Rattle.std.proofs.lemmas.Result.{on_ok_weaker}
use Rattle.mapdb_rights.specs.HeldPlaces.{HasSource}
use Rattle.mapdb_facts.proofs.Lists.SameNames.{some_same}
use Rattle.mapdb_rights.proofs.Settling.Followed.{of_held_with}
use Rattle.mapdb_rights.proofs.index.listing.list_held.Goals as goal

pub returns-in-Some-clause-there : goal.returns-in-Some-clause-there
returns-in-Some-clause-there c =
    on_ok_weaker c.list_source.result
    (λ there r at. subst (λ (s : Record). HasSource c.list_source.new.listed s) (some_same c.in-Some.mapping r (sym c.in-Some.is ∙ c.record.ensures.held ∙ at)) there)
    c.list_source.ensures.there

pub returns-in-Some-clause-held : goal.returns-in-Some-clause-held
returns-in-Some-clause-held c =
    let own : Holds (state_of_facts c.args.facts.now) c.in-Some.mapping =
    ap ((state_of_facts c.args.facts.now).record_at) c.in-Some.ensures.named ∙ sym c.record.ensures.held ∙ c.in-Some.is in
    on_ok_weaker c.list_source.result (λ no_more. of_held_with (state_of_facts c.args.facts.now) c.args.listed.now c.list_source.new.listed c.in-Some.mapping own (λ e has. inr (no_more e has)) c.requires.held)
    c.list_source.ensures.no_more
