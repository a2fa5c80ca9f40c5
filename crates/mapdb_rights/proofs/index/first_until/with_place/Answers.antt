use Rattle.std.proofs.Common.{ap, arith, subst, sym, ◌∙◌}
use Rattle.mapdb_facts.specs.Facts.{state_of_facts}
use Rattle.mapdb_facts.specs.declared.names.RecordId.{RecordId}
use Rattle.mapdb_lists.specs.Changes.{IsStretch, at_first, change_at}
use Rattle.mapdb_rights.specs.First.{first_with}
use Rattle.mapdb_rights.proofs.Live.ShownPlaces.{found_stays, found_with, stretch_stays}
use Rattle.mapdb_rights.proofs.index.first_until.with_place.Goals as goal

pub returns-then-first-page-clause-first : goal.returns-then-first-page-clause-first
returns-then-first-page-clause-first c =
    found_stays (state_of_facts c.args.facts.now) c.args.live.now c.requires.stands.live_there c.args.space c.args.page c.args.place c.requires.listed
    c.args.changes.now.own.entries c.args.found (omega (arith, c.if-first-page.true, c.first.ensures.page))

pub returns-then-is_none-clause-same : goal.returns-then-is_none-clause-same
returns-then-is_none-clause-same c meeting =
    stretch_stays c.args.changes.now.own.entries c.args.place.id c.args.page c.stretch_at-own.result
    (subst (λ (o : RecordId). IsStretch (change_at c.args.changes.now.own.entries o) (at_first o) c.args.page c.stretch_at-own.result) c.id.ensures c.stretch_at-own.ensures)

pub returns-clause-first : goal.returns-clause-first
returns-clause-first c =
    c.with.ensures
    ∙ ap (λ (o : RecordId). first_with o c.stretch_at-own.result.change c.args.found) c.id-2.ensures
    ∙ found_with (state_of_facts c.args.facts.now) c.args.live.now c.requires.stands.live_there c.args.space c.args.page c.args.place c.requires.listed
    c.args.changes.now.own.entries c.args.found c.stretch_at-own.result c.requires.stands.rights
    (subst (λ (o : RecordId). IsStretch (change_at c.args.changes.now.own.entries o) (at_first o) c.args.page c.stretch_at-own.result) c.id.ensures c.stretch_at-own.ensures) (sym c.is_none.ensures ∙ c.if-is_none.false)

pub returns-clause-same : goal.returns-clause-same
returns-clause-same c meeting =
    stretch_stays c.args.changes.now.own.entries c.args.place.id c.args.page c.stretch_at-own.result
    (subst (λ (o : RecordId). IsStretch (change_at c.args.changes.now.own.entries o) (at_first o) c.args.page c.stretch_at-own.result) c.id.ensures c.stretch_at-own.ensures)
