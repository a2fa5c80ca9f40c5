use Rattle.std.proofs.Common.{◌≡◌, Some, ap, sym, subst, ◌∙◌, arith, inl, inr}
use Rattle.std.proofs.lemmas.Bool.{and_left, cond-false, cond-true}
use Rattle.std.proofs.lemmas.Result.{on_ok_weaker}
use Rattle.mapdb_facts.specs.Facts.{state_of_facts}
use Rattle.mapdb_facts.specs.State.{State}
use Rattle.mapdb_facts.specs.declared.names.RecordId.{RecordId}
use Rattle.mapdb_fpage.specs.RightSets.{is_empty}
use Rattle.mapdb_lists.specs.Changes.{Cached, cached_in, covers}
use Rattle.mapdb_lists.specs.Listing.{listed_len}
use Rattle.mapdb_lists.specs.declared.changes.Change.{Change}
use Rattle.mapdb_lists.proofs.Lists.Results.{on_any, on_both}
use Rattle.mapdb_rights.specs.CachedFrames.{HasFrame}
use Rattle.mapdb_rights.specs.IdlePlaces.{StayNoted}
use Rattle.mapdb_rights.specs.LivePlaces.{ListsLive}
use Rattle.mapdb_rights.specs.Pending.{AreSettledBut, IsPending, base_of}
use Rattle.mapdb_rights.proofs.Rights.FramesFrom.{frames_written}
use Rattle.mapdb_rights.proofs.Settling.Pendings.{weight-last}
use Rattle.mapdb_rights.proofs.Settling.SeenReplaced.{got, kept, still}
use Rattle.mapdb_rights.proofs.Settling.Settlement.{settled_after, settled_already, step_empty, step_settled, to_covers, weight_falls}
use Rattle.mapdb_rights.proofs.index.settling.settle_next.Goals as goal

pub returns-then-stale-clause-settled : goal.returns-then-stale-clause-settled
returns-then-stale-clause-settled c =
    step_empty (state_of_facts c.args.facts.now) (cached_in c.args.changes.now.own.entries) c.args.stack.now.items c.args.stale.now (omega arith) c.requires.settled

pub returns-then-stale-clause-weight : goal.returns-then-stale-clause-weight
returns-then-stale-clause-weight c =
    let last = weight-last (base_of c.args.listed.now) c.args.stack.now.items c.args.stale.now in omega (arith, last)

pub returns-in_default-clause-frames : goal.returns-in_default-clause-frames
returns-in_default-clause-frames c id page some =
    let S : State = state_of_facts c.args.facts.now in
    let is = (kept c.in_default.is c.in_ok-replaced.ensures.how).same id page in
    subst (λ (t : Change). HasFrame S id page t.shift) (sym is)
    (c.requires.frames id page (ap (λ (t : Change). is_empty t.rights) (sym is) ∙ some))

pub returns-in_default-clause-live : goal.returns-in_default-clause-live
returns-in_default-clause-live c =
    subst (λ (cached : Cached). ListsLive (state_of_facts c.args.facts.now) cached c.args.live.now) (sym (still (kept c.in_default.is c.in_ok-replaced.ensures.how))) c.requires.live_there

pub returns-in_default-clause-noted : goal.returns-in_default-clause-noted
returns-in_default-clause-noted c =
    subst (λ (cached : Cached). StayNoted (cached_in c.args.changes.now.own.entries) c.args.idle.now.items cached c.args.idle.now.items)
    (sym (still (kept c.in_default.is c.in_ok-replaced.ensures.how))) (λ id noted. noted)

pub returns-in_default-clause-settled : goal.returns-in_default-clause-settled
returns-in_default-clause-settled c =
    let S : State = state_of_facts c.args.facts.now in
    let old : Cached = cached_in c.args.changes.now.own.entries in
    let end = c.in_ok-replaced.replaced.end in
    let replaced = c.in_ok-replaced.ensures in
    subst (λ (cached : Cached). AreSettledBut S cached c.keep_rest.new.stack.items) (sym (still (kept c.in_default.is replaced.how)))
    (step_settled S old old c.args.stack.now.items c.keep_rest.new.stack.items c.keep_rest.new.stack.items c.args.stale.now end
    c.requires.settled c.in_ok-keep_rest.ensures.pending c.in_ok-keep_rest.ensures.rest (λ id page pending. pending)
    (λ id page before. inl (settled_already S old old c.args.stale.now.id c.args.stale.now.first end c.given_at-given.result.change.rights
    (λ q from before_end. c.given_at-given.ensures.follows.rights q from (let w = replaced.within in omega (arith, w)))
    (kept c.in_default.is replaced.how).rights id page before)))

pub returns-in_default-clause-weight : goal.returns-in_default-clause-weight
returns-in_default-clause-weight c =
    let replaced = c.in_ok-replaced.ensures in
    let w = replaced.within in
    let a = replaced.above in
    weight_falls (listed_len c.args.listed.now) c.args.stack.now.items c.keep_rest.new.stack.items c.keep_rest.new.stack.items c.args.stale.now c.in_ok-replaced.replaced.end
    (omega (arith, a)) (omega (arith, w)) (c.in_ok-keep_rest.ensures.weight (base_of c.args.listed.now)) (omega arith)

pub returns-clause-frames : goal.returns-clause-frames
returns-clause-frames c =
    let replaced = c.in_ok-replaced.ensures in
    let given = got c.in-Some.is replaced.how in
    on_any c.push_children.result
    (frames_written (state_of_facts c.args.facts.now) c.args.changes.now.own.entries c.replace.new.changes.own.entries c.args.stale.now.id c.args.stale.now.first c.in_ok-replaced.replaced.end
    c.given_at-given.result.change c.requires.frames
    (λ some q from before. c.given_at-given.ensures.follows.frames c.requires.frames some q from (let w = replaced.within in omega (arith, w)))
    given.seen)

pub follow_live-requires-clause-written : goal.follow_live-requires-clause-written
follow_live-requires-clause-written c =
    let replaced = c.in_ok-replaced.ensures in
    let given = got c.in-Some.is replaced.how in
    sym (given.cached c.args.stale.now.id c.args.stale.now.first
    ∙ cond-true (covers c.args.stale.now.id c.args.stale.now.first c.in_ok-replaced.replaced.end c.args.stale.now.id c.args.stale.now.first) _ _
    (to_covers c.args.stale.now.id c.args.stale.now.first c.in_ok-replaced.replaced.end c.args.stale.now.first (omega arith) replaced.above))

pub follow_live-requires-clause-before : goal.follow_live-requires-clause-before
follow_live-requires-clause-before c =
    let given = got c.in-Some.is c.in_ok-replaced.ensures.how in
    record {
      before = cached_in c.args.changes.now.own.entries;
      listed = c.requires.live_there;
      others = λ other page apart. given.cached other page
          ∙ cond-false (covers c.args.stale.now.id c.args.stale.now.first c.in_ok-replaced.replaced.end other page) _ _ (and_left _ _ apart);
      some = given.some;
      none = given.none;
    }

pub returns-clause-live : goal.returns-clause-live
returns-clause-live c = on_any c.push_children.result c.in_ok-follow_live.ensures.live

pub returns-clause-noted : goal.returns-clause-noted
returns-clause-noted c =
    let given = got c.in-Some.is c.in_ok-replaced.ensures.how in
    on_any c.push_children.result
    (c.in_ok-follow_live.ensures.noted (cached_in c.args.changes.now.own.entries) given.none
    (λ other page apart. given.cached other page
    ∙ cond-false (covers c.args.stale.now.id c.args.stale.now.first c.in_ok-replaced.replaced.end other page) _ _ (and_left _ _ apart)))

pub returns-clause-settled : goal.returns-clause-settled
returns-clause-settled c =
    let S : State = state_of_facts c.args.facts.now in
    let old : Cached = cached_in c.args.changes.now.own.entries in
    let new : Cached = cached_in c.replace.new.changes.own.entries in
    let end = c.in_ok-replaced.replaced.end in
    let replaced = c.in_ok-replaced.ensures in
    let given = got c.in-Some.is replaced.how in
    on_both c.push_children.result
    (λ pushed later. step_settled S old new c.args.stack.now.items c.keep_rest.new.stack.items c.push_children.new.stack.items c.args.stale.now end
    c.requires.settled c.in_ok-keep_rest.ensures.pending c.in_ok-keep_rest.ensures.rest later
    (settled_after S old new c.args.stale.now.id c.args.stale.now.first end c.given_at-given.result.change.rights
    (λ q from before_end. c.given_at-given.ensures.follows.rights q from (let w = replaced.within in omega (arith, w)))
    given.cached c.requires.listed_there.named c.requires.listed_there.formed c.push_children.new.stack.items
    (λ other r held parent page inside from before.
    let named = c.requires.listed_there.named other r held in
    let own : S.record_at r.id ≡ Some r = ap S.record_at named ∙ held in
    elim (c.requires.listed_there.sources r own).by_parent [
      | inl revoked ↦ inl revoked
      | inr listed ↦ inr (subst (λ (o : RecordId). IsPending c.push_children.new.stack.items o page) named
          (pushed r own (c.requires.listed_there.formed r own) listed parent page inside from before))
    ])))
    c.push_children.ensures.stale c.push_children.ensures.kept

pub returns-clause-weight : goal.returns-clause-weight
returns-clause-weight c =
    let replaced = c.in_ok-replaced.ensures in
    let inside = replaced.within in
    let a = replaced.above in
    on_ok_weaker c.push_children.result
    (λ w. weight_falls (listed_len c.args.listed.now) c.args.stack.now.items c.keep_rest.new.stack.items c.push_children.new.stack.items c.args.stale.now c.in_ok-replaced.replaced.end
    (omega (arith, a)) (omega (arith, inside)) (c.in_ok-keep_rest.ensures.weight (base_of c.args.listed.now)) (w (base_of c.args.listed.now) (omega arith)))
    c.push_children.ensures.weight
