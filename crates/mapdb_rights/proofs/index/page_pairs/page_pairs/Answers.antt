use Rattle.std.proofs.Common.{sym}
use Rattle.mapdb_facts.specs.Facts.{state_of_facts}
use Rattle.mapdb_facts.specs.Names.{root}
use Rattle.mapdb_lists.proofs.Lists.Results.{if_both}
use Rattle.mapdb_rights.specs.Live.{IsLive}
use Rattle.mapdb_rights.specs.PagePairs.{ArePagePairs, AreShown, HasPairAmong}
use Rattle.mapdb_rights.proofs.Live.PagePairs.{pairs_alone}
use Rattle.mapdb_rights.proofs.index.page_pairs.page_pairs.Goals as goal

pub pairs_among-requires : goal.pairs_among-requires
pairs_among-requires c = record { stands = c.requires; places = sym c.in-Some.ensures }

pub returns-in-None : goal.returns-in-None
returns-in-None c =
    let S = state_of_facts c.args.facts.now in
    let space = c.args.space in
    let page = c.args.page in
    if_both c.root_pairs.result (λ pairs. AreShown S space page pairs.items) (λ pairs. IsLive S space page root → HasPairAmong S page pairs.items root)
    (λ pairs. ArePagePairs S space page pairs.items)
    (λ pairs shown top. pairs_alone S space page c.args.live.now c.requires.live_there pairs.items (sym c.in-None.ensures) shown top)
    c.root_pairs.ensures.shown c.root_pairs.ensures.top
