use Rattle.std.proofs.Common.{List, subst, sym}
use Rattle.std.specs.Prelude.{All}
use Rattle.mapdb_facts.specs.Facts.{records_of_facts}
use Rattle.mapdb_facts.specs.Records.{IsAmong}
use Rattle.mapdb_facts.specs.WellFormed.{IsFormedRecord}
use Rattle.mapdb_facts.specs.declared.operations.Record.{Record}
use Rattle.mapdb_facts.proofs.RecordLemmas.AllRecords.{all_from, among_held, behind_none}
use Rattle.mapdb_facts.proofs.RecordLemmas.HeldRecords.{all_held_formed, all_named}
use Rattle.mapdb_facts.proofs.holding.Facts.records.Goals as goal

pub returns-clause-listed : goal.returns-clause-listed
returns-clause-listed c = behind_none (records_of_facts c.args.self.now)

pub returns-clause-held : goal.returns-clause-held
returns-clause-held c = λ r.
    let named = all_named _ c.args.self.now c.self.view_is c.self.invariant in
    let here = among_held c.args.self.now named r in
    let all = behind_none (records_of_facts c.args.self.now) in
    ((λ k. here.0 (subst (λ (rs : List Record). IsAmong r rs) all k)), λ h. subst (λ (rs : List Record). IsAmong r rs) (sym all) (here.1 h))

pub returns-clause-formed : goal.returns-clause-formed
returns-clause-formed c =
    let named = all_named _ c.args.self.now c.self.view_is c.self.invariant in
    let formed = all_held_formed _ c.args.self.now c.self.view_is c.self.invariant in
    let records = records_of_facts c.args.self.now in
    subst (λ (rs : List Record). All IsFormedRecord rs) (sym (behind_none records))
    (all_from IsFormedRecord records (λ r k. formed r ((among_held c.args.self.now named r).0 k)))

pub returns-clause-held_named : goal.returns-clause-held_named
returns-clause-held_named c = all_named _ c.args.self.now c.self.view_is c.self.invariant

pub returns-clause-held_formed : goal.returns-clause-held_formed
returns-clause-held_formed c = all_held_formed _ c.args.self.now c.self.view_is c.self.invariant
