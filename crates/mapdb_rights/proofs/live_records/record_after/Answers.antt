use Rattle.std.proofs.Common.{sym, ◌∙◌}
use Rattle.mapdb_facts.specs.Facts.{state_of_facts}
use Rattle.mapdb_rights.proofs.Live.LiveRecords.{further_next, live_here, not_root, none_left}
use Rattle.mapdb_facts.proofs.RecordLemmas.Ascending.{after_later}
use Rattle.mapdb_rights.proofs.live_records.record_after.Goals as goal

pub records-init : goal.records-init
records-init c = record { further = λ id live above. above; within = λ id behind. behind }

pub returns-then-is_live : goal.returns-then-is_live
returns-then-is_live c =
    live_here (state_of_facts c.args.facts.now) c.args.space c.args.page c.args.after c.records.from c.in-Some.mapping c.in-Some.ensures.held_named c.requires
    c.in-Some.ensures.found (not_root c.in-Some.mapping c.in-Some.ensures.formed) (sym c.is_live.ensures ∙ c.if-is_live.true) c.records.invariant.further c.records.invariant.within

pub records-preserved : goal.records-preserved
records-preserved c = record {
  further = further_next (state_of_facts c.args.facts.now) c.args.space c.args.page c.args.after c.records.from c.in-Some.mapping c.in-Some.ensures.held_named c.requires
      c.in-Some.ensures.found (sym c.is_live.ensures ∙ c.if-is_live.false) c.records.invariant.further;
  within = λ id behind. c.records.invariant.within id (after_later c.records.from c.in-Some.mapping.id id c.in-Some.ensures.found.above behind);
}

pub returns : goal.returns
returns c =
    none_left (state_of_facts c.args.facts.now) c.args.space c.args.page c.args.after c.records.from c.in_default.ensures.held_named c.requires
    c.in_default.ensures.found c.records.invariant.further
