use Rattle.std.proofs.Common.{sym}
use Rattle.mapdb_facts.specs.Facts.{state_of_facts}
use Rattle.mapdb_rights.proofs.Live.FirstWalks.{first_alone}
use Rattle.mapdb_rights.proofs.index.first_records.first_live.Goals as goal

pub first_among-requires : goal.first_among-requires
first_among-requires c = record { stands = c.requires; places = sym c.in-Some.ensures }

pub returns-in-None : goal.returns-in-None
returns-in-None c =
    first_alone (state_of_facts c.args.facts.now) c.args.changes.now.own.entries c.args.space c.args.page c.args.live.now c.requires.live_there c.root_first.result
    (sym c.in-None.ensures) c.root_first.ensures.found c.root_first.ensures.there
