use Rattle.std.proofs.Common.{◌≡◌, ◌∙◌, ◌<◌, ℕ, [], Err, List, Ok, Result, ap, length, refl, subst, sym, arith}
use Rattle.std.specs.Prelude.{count_by}
use Rattle.mapdb_facts.specs.Adding.{is_new}
use Rattle.mapdb_facts.specs.State.{state_of}
use Rattle.mapdb_facts.specs.declared.operations.Op.{Op}
use Rattle.mapdb_replica.specs.Replica.{Issues, Log, news}
use Rattle.mapdb_replica.specs.Revoking.{Counts, cuts_of_place}
use Rattle.mapdb_replica.specs.declared.faults.IssueFault.{IssueFault}
use Rattle.mapdb_replica.specs.declared.faults.IssueFault.TheVariants.{Full, Memory}
use Rattle.mapdb_replica.proofs.Unmaps.CutIssues.{limited-few, limited-many, no-news, some-news}
use Rattle.mapdb_replica.proofs.Calls.Issuing.{stands-start}
use Rattle.mapdb_replica.proofs.replicas.Replica.unmap_unlisted.Goals as goal

pub returns-then-is_full-clause-issues : goal.returns-then-is_full-clause-issues
returns-then-is_full-clause-issues c =
    let same : length c.self.inside.ops.keys ≡ length c.args.self.now.ops = ap (λ (log : Log). length log.ops) c.self.view_is in
    subst (λ (o : Result (List Op) IssueFault). Issues {A = ℕ} o (Err Full) c.args.self.now c.args.self.now)
    (sym (limited-many c.args.self.now.ops (cuts_of_place c.args.self.now c.args.space c.args.page.now c.args.rights c.args.flush) c.new_cuts-count.result c.new_cuts-count.ensures.formed c.new_cuts-count.ensures.count
    (omega (arith, c.if-is_full.true, c.len.ensures.len, same))))
    (refl, refl, tt)

pub returns-then-count-eq0-clause-issues : goal.returns-then-count-eq0-clause-issues
returns-then-count-eq0-clause-issues c =
    let same : length c.self.inside.ops.keys ≡ length c.args.self.now.ops = ap (λ (log : Log). length log.ops) c.self.view_is in
    let cuts : List Op = cuts_of_place c.args.self.now c.args.space c.args.page.now c.args.rights c.args.flush in
    let none : news (state_of c.args.self.now.ops) cuts ≡ [] = no-news (state_of c.args.self.now.ops) cuts (sym c.new_cuts-count.ensures.count ∙ c.if-count-eq0.true) in
    subst (λ (o : Result (List Op) IssueFault). Issues {A = ℕ} o (Ok 0) c.args.self.now c.args.self.now)
    (sym (limited-few c.args.self.now.ops cuts c.new_cuts-count.result c.new_cuts-count.ensures.formed c.new_cuts-count.ensures.count (omega (arith, c.if-is_full.false, c.len.ensures.len, same))
    ∙ ap (λ (ops : List Op). Ok ops) none))
    (refl, stands-start c.args.self.now [], tt)

pub returns-then-count-eq0-clause-count : goal.returns-then-count-eq0-clause-count
returns-then-count-eq0-clause-count c =
    let same : length c.self.inside.ops.keys ≡ length c.args.self.now.ops = ap (λ (log : Log). length log.ops) c.self.view_is in
    let cuts : List Op = cuts_of_place c.args.self.now c.args.space c.args.page.now c.args.rights c.args.flush in
    let none : news (state_of c.args.self.now.ops) cuts ≡ [] = no-news (state_of c.args.self.now.ops) cuts (sym c.new_cuts-count.ensures.count ∙ c.if-count-eq0.true) in
    subst (λ (o : Result (List Op) IssueFault). Counts o 0)
    (sym (limited-few c.args.self.now.ops cuts c.new_cuts-count.result c.new_cuts-count.ensures.formed c.new_cuts-count.ensures.count (omega (arith, c.if-is_full.false, c.len.ensures.len, same))
    ∙ ap (λ (ops : List Op). Ok ops) none))
    refl

pub returns-else-count-eq0-clause-issues : goal.returns-else-count-eq0-clause-issues
returns-else-count-eq0-clause-issues c =
    let same : length c.self.inside.ops.keys ≡ length c.args.self.now.ops = ap (λ (log : Log). length log.ops) c.self.view_is in
    let cuts : List Op = cuts_of_place c.args.self.now c.args.space c.args.page.now c.args.rights c.args.flush in
    let some : 0 < count_by (is_new (state_of c.args.self.now.ops)) cuts = omega (arith, c.if-count-eq0.false, c.new_cuts-count.ensures.count) in
    subst (λ (o : Result (List Op) IssueFault). Issues {A = ℕ} o (Err (Memory 0)) c.args.self.now c.args.self.now)
    (sym (limited-few c.args.self.now.ops cuts c.new_cuts-count.result c.new_cuts-count.ensures.formed c.new_cuts-count.ensures.count (omega (arith, c.if-is_full.false, c.len.ensures.len, same))))
    (refl, stands-start c.args.self.now (news (state_of c.args.self.now.ops) cuts), some-news (state_of c.args.self.now.ops) cuts some)
