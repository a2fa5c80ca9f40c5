use Rattle.std.proofs.Common.{◌≡◌, ◌++◌, ◌∙◌, [], List, ap, append-nil, length, sym}
use Rattle.mapdb_facts.specs.State.{state_of}
use Rattle.mapdb_facts.specs.declared.operations.Op.{Op}
use Rattle.mapdb_replica.specs.Replica.{news}
use Rattle.mapdb_replica.proofs.News.UnheldTurns.{news_none}
use Rattle.mapdb_replica.proofs.replicas.Replica.hold_unheld.Goals as goal

pub returns-then-unheld-eq0-clause-count : goal.returns-then-unheld-eq0-clause-count
returns-then-unheld-eq0-clause-count c =
    sym (ap (λ (ops : List Op). length ops) (news_none (state_of c.args.self.now.ops) c.args.batch.now (sym c.if-unheld-eq0.true ∙ c.requires.unheld)))

pub returns-then-unheld-eq0-clause-held : goal.returns-then-unheld-eq0-clause-held
returns-then-unheld-eq0-clause-held c =
    let ops : List Op = c.args.self.now.ops in
    let none : news (state_of ops) c.args.batch.now ≡ [] = news_none (state_of ops) c.args.batch.now (sym c.if-unheld-eq0.true ∙ c.requires.unheld) in
    let same : ops ≡ ops ++ news (state_of ops) c.args.batch.now = sym (append-nil ops) ∙ ap (λ (xs : List Op). ops ++ xs) (sym none) in
    λ i. record { processor = c.args.self.now.processor; ops = same i; own = c.args.self.now.own }
