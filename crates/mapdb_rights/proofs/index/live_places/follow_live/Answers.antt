use Rattle.std.proofs.Common.{◌≡◌, List, false, subst, sym, ◌∙◌, arith, inl, inr}
use Rattle.std.proofs.lemmas.Grind.{common_steps}
use Rattle.std.proofs.lemmas.Bool.{cases_Bool}
use Rattle.std.proofs.lemmas.Result.{on_ok_weaker}
use Rattle.mapdb_facts.specs.Facts.{state_of_facts}
use Rattle.mapdb_facts.specs.declared.names.RecordId.{RecordId}
use Rattle.mapdb_lists.specs.Changes.{cached_in}
use Rattle.mapdb_lists.proofs.Lists.Results.{on_any}
use Rattle.mapdb_rights.specs.IdlePlaces.{StayNoted}
use Rattle.mapdb_rights.proofs.Settling.IdleRecords.{noted_more, noted_still}
use Rattle.mapdb_rights.proofs.Settling.LiveRecords.{lists_less, lists_more, lists_still, none_has}
use Rattle.mapdb_rights.proofs.index.live_places.follow_live.Goals as goal

pub returns-then-has-had_some-clause-live : goal.returns-then-has-had_some-clause-live
returns-then-has-had_some-clause-live c =
    let cached = cached_in c.args.changes.now.own.entries in
    let same : c.has_some-has.result ≡ c.args.had_some = grind (arith, common_steps) in
    lists_still (state_of_facts c.args.facts.now) cached c.args.live.now c.args.run.id c.args.had_some c.requires.before
    (λ has. elim (cases_Bool c.has_some-has.result) [
      | inl some ↦ sym same ∙ some
      | inr none ↦ absurd (none_has (cached c.args.run.id) (c.has_some-has.ensures.none none) has)
    ])
    (λ had. c.has_some-has.ensures.some (same ∙ had))

pub returns-then-has-clause-live : goal.returns-then-has-clause-live
returns-then-has-clause-live c =
    let done = c.list_live.ensures in
    let none : c.args.had_some ≡ false = grind (arith, common_steps) in
    lists_more (state_of_facts c.args.facts.now) (cached_in c.args.changes.now.own.entries) c.args.live.now c.args.run.id c.args.had_some c.requires.before
    c.list_live.result c.list_live.new.live none (c.has_some-has.ensures.some c.if-has.true)
    done.aligned done.there done.kept done.no_more done.held_named

pub returns-clause-live : goal.returns-clause-live
returns-clause-live c =
    on_any c.add_item.result
    (lists_less (state_of_facts c.args.facts.now) (cached_in c.args.changes.now.own.entries) c.args.live.now c.args.run.id c.args.had_some c.requires.before
    c.unlist_live.new.live (c.has_some-has.ensures.none c.if-has.false) c.unlist_live.ensures.less c.unlist_live.ensures.gone c.unlist_live.ensures.others)

pub returns-then-has-had_some-clause-noted : goal.returns-then-has-had_some-clause-noted
returns-then-has-had_some-clause-noted c before none others =
    let cached = cached_in c.args.changes.now.own.entries in
    let same : c.has_some-has.result ≡ c.args.had_some = grind (arith, common_steps) in
    noted_still before cached c.args.idle.now.items c.args.run.id others
    (elim (cases_Bool c.has_some-has.result) [
      | inl some ↦ inl (c.has_some-has.ensures.some some)
      | inr gone ↦ inr (none (sym same ∙ gone))
    ])

pub returns-then-has-clause-noted : goal.returns-then-has-clause-noted
returns-then-has-clause-noted c =
    on_any c.list_live.result
    (λ before none others. noted_still before (cached_in c.args.changes.now.own.entries) c.args.idle.now.items c.args.run.id others
    (inl (c.has_some-has.ensures.some c.if-has.true)))

pub returns-clause-noted : goal.returns-clause-noted
returns-clause-noted c =
    on_ok_weaker c.add_item.result
    (λ more before none others.
    subst (λ (names : List RecordId). StayNoted before c.args.idle.now.items (cached_in c.args.changes.now.own.entries) names) (sym more)
    (noted_more before (cached_in c.args.changes.now.own.entries) c.args.idle.now.items c.args.run.id others))
    c.add_item.ensures
