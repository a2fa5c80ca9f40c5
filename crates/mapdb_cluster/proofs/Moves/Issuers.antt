-- What was issued by copies of a net: each issuer still holds it, so it is well-formed, and no two different records have one name.
use Rattle.std.proofs.Common.{◌≡◌, ℕ, ◌≤◌, true, Some, sym, subst, List, length}
use Rattle.std.specs.Prelude.{slice_get}
use Rattle.mapdb_facts.specs.Names.{processor_limit}
use Rattle.mapdb_facts.specs.Records.{IsAmong}
use Rattle.mapdb_facts.specs.State.{IsSound}
use Rattle.mapdb_facts.specs.WellFormed.{all_formed}
use Rattle.mapdb_facts.specs.declared.names.RecordId.{RecordId}
use Rattle.mapdb_facts.specs.declared.operations.Op.{Op}
use Rattle.mapdb_facts.specs.declared.operations.Op.TheVariants.{Born, Closed, Cut}
use Rattle.mapdb_facts.specs.declared.operations.Record.{Record}
use Rattle.mapdb_replica.specs.Replica.{Log}
use Rattle.mapdb_cluster.specs.Honest.{IsIssued}
use Rattle.mapdb_cluster.specs.Kept.{IsCopyOf, IsKeptNet}
use Rattle.mapdb_cluster.specs.Net.{Net}
use Rattle.mapdb_cluster.proofs.Moves.Among.{among_atom, atom_among, formed_among, formed_each}
use Rattle.mapdb_cluster.proofs.Steps.Slots.{one_there}

abbrev pub AreCopies : Net → Type 0
AreCopies net = (at : ℕ) (copy : Log) → slice_get net.copies at ≡ Some copy → IsCopyOf at copy

abbrev pub AllIssued : Net → List Op → Type 0
AllIssued net ops = (op : Op) → IsAmong op ops → IsIssued net op

-- a copy that holds the operation
pub record IsHeld (net : Net) (op : Op) : Type 0 where
  pub at : ℕ
  pub copy : Log
  pub there : slice_get net.copies at ≡ Some copy
  pub among : IsAmong op copy.ops

module _ (net : Net) (copies : AreCopies net) where
  pub issued_held : (op : Op) → IsIssued net op → IsHeld net op
  issued_held (Born r) by = record { at = r.id.processor; copy = by.0; there = by.1; among = (copies r.id.processor by.0 by.1).held (Born r) by.2 }
  issued_held (Cut cut) by = record { at = by.0; copy = by.1; there = by.2; among = (copies by.0 by.1 by.2).held (Cut cut) by.3 }
  issued_held (Closed space) by = record { at = by.0; copy = by.1; there = by.2; among = (copies by.0 by.1 by.2).held (Closed space) by.3 }

  pub issued_formed : (ops : List Op) → AllIssued net ops → all_formed ops ≡ true
  issued_formed ops all = formed_each ops (λ op among.
      (let held = issued_held op (all op among) in
      formed_among held.copy.ops op (copies held.at held.copy held.there).formed held.among))

  -- records of one name were issued by one copy
  pub issued_one : (r s : Record) → IsIssued net (Born r) → IsIssued net (Born s) → r.id ≡ s.id → r ≡ s
  issued_one r s by_r by_s same =
      let there : slice_get net.copies r.id.processor ≡ Some by_s.0 = subst (λ (id : RecordId). slice_get net.copies id.processor ≡ Some by_s.0) (sym same) by_s.1 in
      let one : by_s.0 ≡ by_r.0 = one_there net.copies r.id.processor by_s.0 by_r.0 there by_r.1 in
      let copy = copies r.id.processor by_r.0 by_r.1 in
      let own : IsAmong (Born s) by_r.0.own = subst (λ (log : Log). IsAmong (Born s) log.own) one by_s.2 in
      copy.sound r s (among_atom by_r.0.ops r (copy.held (Born r) by_r.2)) (among_atom by_r.0.ops s (copy.held (Born s) own)) same

  pub issued_sound : (ops : List Op) → AllIssued net ops → IsSound ops
  issued_sound ops all r s in_r in_s same = issued_one r s (all (Born r) (atom_among ops r in_r)) (all (Born s) (atom_among ops s in_s)) same

  -- what is held and sent was issued, so the net is honest
  pub kept_from : length net.copies ≤ processor_limit → ((at : ℕ) (copy : Log) → slice_get net.copies at ≡ Some copy → AllIssued net copy.ops)
      → ((message : ℕ) (batch : List Op) → slice_get net.messages message ≡ Some batch → AllIssued net batch) → IsKeptNet net
  kept_from few held sent = record {
    few = few;
    copies = copies;
    honest = record {
      held = λ at copy op there among. held at copy there op among;
      sent = λ message batch op there among. sent message batch there op among;
      one_each = λ at other copy another there here r s in_r in_s same.
          issued_one r s (held at copy there (Born r) (atom_among copy.ops r in_r)) (held other another here (Born s) (atom_among another.ops s in_s)) same;
    };
  }
