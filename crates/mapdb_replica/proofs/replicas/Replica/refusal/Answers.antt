use Rattle.std.proofs.Common.{◌≡◌, ◌∙◌, ◌+◌, ◌≤◌, ◌<◌, List, Some, refl, ap, arith, length, subst, sym}
use Rattle.std.specs.Prelude.{Option, None}
use Rattle.std.specs.List.{filter}
use Rattle.std.specs.Option.{option_map, option_or}
use Rattle.mapdb_facts.specs.Adding.{is_new}
use Rattle.mapdb_facts.specs.Facts.{state_of_facts}
use Rattle.mapdb_facts.specs.State.{IsSound, state_of}
use Rattle.mapdb_facts.specs.declared.holding.Facts.{Facts}
use Rattle.mapdb_facts.specs.declared.names.RecordId.{RecordId}
use Rattle.mapdb_facts.specs.declared.operations.Op.{Op}
use Rattle.mapdb_replica.specs.Replica.{Log, most_operations}
use Rattle.mapdb_replica.specs.Taking.{least_clash, too_many}
use Rattle.mapdb_replica.specs.declared.faults.TakeFault.TheVariants.{Clash}
use Rattle.mapdb_replica.proofs.News.UnheldClashes.{clash_of_batch, count_of_batch, too_many_where}
use Rattle.mapdb_replica.proofs.replicas.Replica.refusal.Goals as goal

-- the clash of the batch is the one that was found
clash : (facts : Facts) (kept now batch unheld : List Op) (found : Option RecordId) → IsSound kept → state_of_facts facts ≡ state_of kept → kept ≡ now
    → unheld ≡ filter (is_new (state_of now)) batch
    → ((ops : List Op) → IsSound ops → state_of_facts facts ≡ state_of ops → found ≡ least_clash ops unheld)
    → found ≡ least_clash now batch
clash facts kept now batch unheld found sound said same is least =
    clash_of_batch now batch unheld is facts found (subst IsSound same sound) (said ∙ ap state_of same) least

-- what is refused, by the clash that was found
refused : (held batch : List Op) (clash found : Option RecordId) → found ≡ least_clash held batch → found ≡ clash
    → option_or (option_map Clash clash) (too_many held batch) ≡ option_or (option_map Clash (least_clash held batch)) (too_many held batch)
refused held batch clash found is was =
    ap (λ (o : Option RecordId). option_or (option_map Clash o) (too_many held batch)) (sym was ∙ is)

-- none where the match says that it is not some
is_none : (o : Option RecordId) → ((id : RecordId) → o ≡ Some id → ⊥) → o ≡ None
is_none None h = refl
is_none (Some id) h = absurd (h id refl)

pub returns-in-Some-clause-refusal : goal.returns-in-Some-clause-refusal
returns-in-Some-clause-refusal c batch is =
    refused c.args.self.now.ops batch (Some c.in-Some.id) c.in_ok-id.field-0
    (clash c.self.inside.facts c.self.inside.ops.keys c.args.self.now.ops batch c.args.unheld.now c.in_ok-id.field-0
    c.self.invariant.sound c.self.invariant.said (ap (λ (l : Log). l.ops) c.self.view_is) is c.in_ok-id.ensures.least)
    c.in-Some.is

pub returns-then-is_full-clause-refusal : goal.returns-then-is_full-clause-refusal
returns-then-is_full-clause-refusal c batch is =
    let same : c.self.inside.ops.keys ≡ c.args.self.now.ops = ap (λ (l : Log). l.ops) c.self.view_is in
    let count = count_of_batch c.args.self.now.ops batch c.args.unheld.now is in
    let kept : length c.self.inside.ops.keys ≡ length c.args.self.now.ops = ap (λ (ops : List Op). length ops) same in
    let many : most_operations < length c.args.self.now.ops + length c.args.unheld.now = omega (arith, c.if-is_full.true, c.len.ensures.len, kept) in
    sym ((too_many_where c.args.self.now.ops batch (length c.args.unheld.now) count).0 many)
    ∙ refused c.args.self.now.ops batch None c.in_ok-id.field-0
    (clash c.self.inside.facts c.self.inside.ops.keys c.args.self.now.ops batch c.args.unheld.now c.in_ok-id.field-0
    c.self.invariant.sound c.self.invariant.said same is c.in_ok-id.ensures.least)
    (is_none c.in_ok-id.field-0 c.in_default.not-Some)

pub returns-else-is_full-clause-refusal : goal.returns-else-is_full-clause-refusal
returns-else-is_full-clause-refusal c batch is =
    let same : c.self.inside.ops.keys ≡ c.args.self.now.ops = ap (λ (l : Log). l.ops) c.self.view_is in
    let count = count_of_batch c.args.self.now.ops batch c.args.unheld.now is in
    let kept : length c.self.inside.ops.keys ≡ length c.args.self.now.ops = ap (λ (ops : List Op). length ops) same in
    let few : length c.args.self.now.ops + length c.args.unheld.now ≤ most_operations = omega (arith, c.if-is_full.false, c.len.ensures.len, kept) in
    sym ((too_many_where c.args.self.now.ops batch (length c.args.unheld.now) count).1 few)
    ∙ refused c.args.self.now.ops batch None c.in_ok-id.field-0
    (clash c.self.inside.facts c.self.inside.ops.keys c.args.self.now.ops batch c.args.unheld.now c.in_ok-id.field-0
    c.self.invariant.sound c.self.invariant.said same is c.in_ok-id.ensures.least)
    (is_none c.in_ok-id.field-0 c.in_default.not-Some)
