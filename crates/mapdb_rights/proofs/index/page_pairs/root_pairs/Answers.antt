use Rattle.std.proofs.Common.{◌≡◌, List, ap, sym, subst, ◌∙◌}
use Rattle.std.specs.Prelude.{Option}
use Rattle.mapdb_facts.specs.Facts.{state_of_facts}
use Rattle.mapdb_facts.specs.Names.{root}
use Rattle.mapdb_rights.specs.PagePairs.{HasPairAmong, with_shown}
use Rattle.mapdb_rights.proofs.Live.PagePairs.{Pair, among_here}
use Rattle.mapdb_rights.proofs.index.page_pairs.root_pairs.Goals as goal

pub returns-clause-top : goal.returns-clause-top
returns-clause-top c live =
    let S = state_of_facts c.args.facts.now in
    let known = c.new-pairs.result.items in
    let is : c.add_shown.new.pairs.items ≡ with_shown _ known = c.in_ok-add_shown.ensures ∙ ap (λ (o : Option Pair). with_shown o known) c.pair_of.ensures in
    subst (λ (ps : List Pair). HasPairAmong S c.args.page ps root) (sym is) (among_here S c.args.space c.args.page root known live.has_some)
