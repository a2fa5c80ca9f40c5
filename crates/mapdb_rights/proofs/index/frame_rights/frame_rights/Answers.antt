use Rattle.std.proofs.Common.{sym}
use Rattle.mapdb_facts.specs.Facts.{state_of_facts}
use Rattle.mapdb_rights.proofs.Live.FrameRights.{rights_alone}
use Rattle.mapdb_rights.proofs.index.frame_rights.frame_rights.Goals as goal

pub rights_among-requires : goal.rights_among-requires
rights_among-requires c = record { stands = c.requires; places = sym c.in-Some.ensures }

pub returns-in-None : goal.returns-in-None
returns-in-None c =
    rights_alone (state_of_facts c.args.facts.now) c.args.changes.now.own.entries c.args.space c.args.page c.args.shift c.requires.rights c.args.live.now c.requires.live_there
    c.root_rights.result (sym c.in-None.ensures) c.root_rights.ensures.found c.root_rights.ensures.there
