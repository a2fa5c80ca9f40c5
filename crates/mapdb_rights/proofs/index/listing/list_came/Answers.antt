use Rattle.mapdb_facts.specs.Facts.{state_of_facts}
use Rattle.mapdb_facts.specs.State.{said}
use Rattle.mapdb_facts.specs.declared.operations.Op.TheVariants.{Born}
use Rattle.mapdb_rights.proofs.Settling.Followed.{listed_by_record, of_held_on, source_on}
use Rattle.mapdb_rights.proofs.Settling.IdleRecords.{idle_by_record}
use Rattle.mapdb_rights.proofs.index.listing.list_came.Goals as goal

pub list_held-requires : goal.list_held-requires
list_held-requires c = record {
  aligned = c.requires.listed_there.aligned;
  held = of_held_on (state_of_facts c.args.facts.now) c.requires.before (said (Born c.args.mapping.now)) c.args.listed.now c.requires.is c.requires.listed_there.held;
}

pub list_parent-requires : goal.list_parent-requires
list_parent-requires c = record {
  aligned = c.in_ok-list_held.ensures.aligned;
  held = c.in_ok-list_held.ensures.held;
}

pub returns-clause-listed : goal.returns-clause-listed
returns-clause-listed c =
    let S = state_of_facts c.args.facts.now in
    let there = c.requires.listed_there in
    let held = c.in_ok-list_held.ensures in
    let more = c.in_ok-list_parent.ensures in
    listed_by_record c.args.listed.now c.list_parent.new.listed (λ e has. more.kept e (held.kept e has))
    S c.requires.before c.args.mapping.now c.requires.is
    (λ r at. source_on c.list_held.new.listed c.list_parent.new.listed more.kept r (held.there r at))
    there more.aligned more.held held.held_named held.held_formed

pub returns-clause-idle : goal.returns-clause-idle
returns-clause-idle c before cached is idle =
    let S = state_of_facts c.args.facts.now in
    let held = c.in_ok-list_held.ensures in
    let more = c.in_ok-list_parent.ensures in
    idle_by_record c.args.listed.now c.list_parent.new.listed (λ e has. more.kept e (held.kept e has)) S before c.args.mapping.now is
    more.there cached idle
