use Rattle.std.proofs.Common.{sym}
use Rattle.mapdb_facts.specs.Facts.{state_of_facts}
use Rattle.mapdb_lists.specs.Changes.{cached_in}
use Rattle.mapdb_rights.proofs.Live.FirstWalks.{first_alone}
use Rattle.mapdb_rights.proofs.Steady.ShownRuns.{none_there}
use Rattle.mapdb_rights.proofs.index.first_until.first_until.Goals as goal

pub first_until_among-requires-clause-places : goal.first_until_among-requires-clause-places
first_until_among-requires-clause-places c = sym c.in-Some.ensures

pub returns-in-None-clause-first : goal.returns-in-None-clause-first
returns-in-None-clause-first c =
    first_alone (state_of_facts c.args.facts.now) c.args.changes.now.own.entries c.args.space c.args.page c.args.live.now c.requires.stands.live_there c.root_first.result
    (sym c.in-None.ensures) c.root_first.ensures.found c.root_first.ensures.there

pub returns-in-None-clause-shown : goal.returns-in-None-clause-shown
returns-in-None-clause-shown c =
    none_there c.args.live.now c.args.space (cached_in c.args.changes.now.own.entries) c.args.page (state_of_facts c.args.facts.now) c.requires.stands.live_there.named
    c.requires.stands.live_there c.requires.stands.rights c.root_until.result (sym c.in-None.ensures) c.root_until.ensures.same
