use Rattle.std.proofs.Common.{◌≡◌, ◌∙◌, List, Some, ap, length, subst, sym, arith}
use Rattle.std.proofs.Math.ListN.{length-set}
use Rattle.std.proofs.lemmas.List.{with_items_is}
use Rattle.std.specs.Prelude.{slice_get, slice_set}
use Rattle.std.specs.Vec.{with_items}
use Rattle.mapdb_replica.specs.Replica.{Log}
use Rattle.mapdb_cluster.specs.Kept.{IsKeptNet}
use Rattle.mapdb_cluster.specs.Net.{Net}
use Rattle.mapdb_cluster.specs.Steps.{Steps}
use Rattle.mapdb_cluster.specs.declared.events.Event.TheVariants as event
use Rattle.mapdb_cluster.proofs.Steps.Leaving.{join_left}
use Rattle.mapdb_cluster.proofs.Steps.StepEvents.{join_step}
use Rattle.mapdb_cluster.proofs.clusters.Cluster.join.Goals as goal

pub invariant_of-self : goal.invariant_of-self
invariant_of-self c =
    let net : Net = record { copies = c.self.inside.copies.items; messages = c.self.inside.messages.items } in
    let same : c.as_mut_slice.result.now ≡ net.copies = c.as_mut_slice.ensures.value in
    let there : slice_get net.copies c.args.into ≡ Some c.join.ensures.1.one = subst (λ (xs : List Log). slice_get xs c.args.into ≡ Some c.join.ensures.1.one) same c.join.ensures.1.there in
    let here : slice_get net.copies c.args.from ≡ Some c.join.ensures.1.other = subst (λ (xs : List Log). slice_get xs c.args.from ≡ Some c.join.ensures.1.other) same c.join.ensures.1.other_there in
    let left : c.join.new.copies ≡ slice_set net.copies c.args.into c.join.ensures.1.after = c.join.ensures.1.kept ∙ ap (λ (xs : List Log). slice_set xs c.args.into c.join.ensures.1.after) same in
    let many : length c.join.new.copies ≡ length net.copies = ap length left ∙ length-set net.copies c.args.into c.join.ensures.1.after in
    let whole : (with_items c.self.inside.copies c.join.new.copies).items ≡ c.join.new.copies = with_items_is c.self.inside.copies c.join.new.copies (omega (arith, many, c.self.inside.copies.ok.0)) in
    subst (λ (xs : List Log). IsKeptNet (record { copies = xs; messages = c.self.inside.messages.items })) (sym (whole ∙ left))
    (join_left net c.self.invariant c.args.into c.args.from c.join.ensures.1.one c.join.ensures.1.other c.join.ensures.1.after c.join.result there here c.if-into-from.false (c.join.ensures.0, c.join.ensures.1.takes, c.join.ensures.2)).0

pub returns-clause-steps : goal.returns-clause-steps
returns-clause-steps c =
    let net : Net = record { copies = c.self.inside.copies.items; messages = c.self.inside.messages.items } in
    let same : c.as_mut_slice.result.now ≡ net.copies = c.as_mut_slice.ensures.value in
    let there : slice_get net.copies c.args.into ≡ Some c.join.ensures.1.one = subst (λ (xs : List Log). slice_get xs c.args.into ≡ Some c.join.ensures.1.one) same c.join.ensures.1.there in
    let here : slice_get net.copies c.args.from ≡ Some c.join.ensures.1.other = subst (λ (xs : List Log). slice_get xs c.args.from ≡ Some c.join.ensures.1.other) same c.join.ensures.1.other_there in
    let left : c.join.new.copies ≡ slice_set net.copies c.args.into c.join.ensures.1.after = c.join.ensures.1.kept ∙ ap (λ (xs : List Log). slice_set xs c.args.into c.join.ensures.1.after) same in
    let many : length c.join.new.copies ≡ length net.copies = ap length left ∙ length-set net.copies c.args.into c.join.ensures.1.after in
    let whole : (with_items c.self.inside.copies c.join.new.copies).items ≡ c.join.new.copies = with_items_is c.self.inside.copies c.join.new.copies (omega (arith, many, c.self.inside.copies.ok.0)) in
    subst (λ (xs : List Log). Steps c.args.self.now (event.Join c.args.into c.args.from) c.join.result (record { copies = xs; messages = c.self.inside.messages.items })) (sym whole)
    (subst (λ (n : Net). Steps n (event.Join c.args.into c.args.from) c.join.result (record { copies = c.join.new.copies; messages = c.self.inside.messages.items })) c.self.view_is
    (subst (λ (xs : List Log). Steps net (event.Join c.args.into c.args.from) c.join.result (record { copies = xs; messages = c.self.inside.messages.items })) (sym left)
    (join_step net c.args.into c.args.from c.join.ensures.1.one c.join.ensures.1.other c.join.ensures.1.after c.join.result there here c.if-into-from.false (c.join.ensures.0, c.join.ensures.1.takes, c.join.ensures.2))))

pub returns-clause-trusted : goal.returns-clause-trusted
returns-clause-trusted c =
    let net : Net = record { copies = c.self.inside.copies.items; messages = c.self.inside.messages.items } in
    let same : c.as_mut_slice.result.now ≡ net.copies = c.as_mut_slice.ensures.value in
    let there : slice_get net.copies c.args.into ≡ Some c.join.ensures.1.one = subst (λ (xs : List Log). slice_get xs c.args.into ≡ Some c.join.ensures.1.one) same c.join.ensures.1.there in
    let here : slice_get net.copies c.args.from ≡ Some c.join.ensures.1.other = subst (λ (xs : List Log). slice_get xs c.args.from ≡ Some c.join.ensures.1.other) same c.join.ensures.1.other_there in
    (join_left net c.self.invariant c.args.into c.args.from c.join.ensures.1.one c.join.ensures.1.other c.join.ensures.1.after c.join.result there here c.if-into-from.false (c.join.ensures.0, c.join.ensures.1.takes, c.join.ensures.2)).1
