-- A Map issues records alone.
use Rattle.std.proofs.Common.{◌≡◌, ◌+◌, ℕ, refl, Bool, true, false, List, [], ◌∷◌, length, subst, arith}
use Rattle.std.specs.Prelude.{Option, Some, None, if◌then◌else◌}
use Rattle.mapdb_fpage.specs.Transfer.{transfer_of}
use Rattle.mapdb_fpage.specs.declared.items.Transfer.{Transfer}
use Rattle.mapdb_facts.specs.Adding.{is_new}
use Rattle.mapdb_facts.specs.State.{State, join, said, state_of}
use Rattle.mapdb_facts.specs.declared.names.Space.{Space}
use Rattle.mapdb_facts.specs.declared.operations.Op.{Op}
use Rattle.mapdb_facts.specs.declared.operations.Op.TheVariants.{Born, Closed, Cut}
use Rattle.mapdb_facts.specs.Records.{greatest_number, records_of}
use Rattle.mapdb_replica.specs.Forms.{MapsIssueRecords}
use Rattle.mapdb_replica.specs.Issue.{map_candidates, numbered_records, pieces}
use Rattle.mapdb_replica.specs.Replica.{limit_refusal, news, record_names, spaces_refusal}
use Rattle.mapdb_replica.specs.declared.pieces.Piece.{Piece}
use Rattle.mapdb_replica.proofs.Calls.FormedIssues.{issued_parts}

-- all are records
abbrev AreRecords : List Op → Type 0
AreRecords [] = Unit {0}
AreRecords (Born r ∷ ops) = AreRecords ops
AreRecords (Cut cut ∷ ops) = ⊥
AreRecords (Closed space ∷ ops) = ⊥

all_named : (ops : List Op) → AreRecords ops → length (record_names ops) ≡ length ops
all_named [] h = refl
all_named (Born r ∷ ops) h = let rest : length (record_names ops) ≡ length ops = all_named ops h in omega (arith, rest)
all_named (Cut cut ∷ ops) h = absurd h
all_named (Closed space ∷ ops) h = absurd h

numbered_are_records : (number processor : ℕ) (receiver : Space) (transfer : Transfer) (found : List Piece)
    → AreRecords (numbered_records number processor receiver transfer found)
numbered_are_records number processor receiver transfer [] = tt
numbered_are_records number processor receiver transfer (piece ∷ rest) = numbered_are_records (number + 1) processor receiver transfer rest

news_are_records : (S : State) (ops : List Op) → AreRecords ops → AreRecords (news S ops)
news_are_records S [] h = tt
news_are_records S (Born r ∷ ops) h = step (is_new S (Born r)) (news_are_records (join S (said (Born r))) ops h) (news_are_records S ops h)
  where
    step : (b : Bool) → AreRecords (news (join S (said (Born r))) ops) → AreRecords (news S ops)
        → AreRecords (if b then Born r ∷ news (join S (said (Born r))) ops else news S ops)
    step true new old = new
    step false new old = old
news_are_records S (Cut cut ∷ ops) h = absurd h
news_are_records S (Closed space ∷ ops) h = absurd h

candidates_are_records : (ops : List Op) (processor : ℕ) (sender : Space) (carried : Option Transfer) (receiver : Space)
    → AreRecords (map_candidates ops processor sender carried receiver)
candidates_are_records ops processor sender None receiver = tt
candidates_are_records ops processor sender (Some transfer) receiver =
    numbered_are_records (greatest_number (records_of ops) + 1) processor receiver transfer
    (pieces (state_of ops) (records_of ops) sender transfer.source transfer.rights)

pub maps_issue_records : MapsIssueRecords
maps_issue_records log sender receiver item window ops is =
    let candidates : List Op = map_candidates log.ops log.processor sender (transfer_of item window) receiver in
    let parts = issued_parts (spaces_refusal (state_of log.ops) sender receiver) (limit_refusal log.ops candidates) (news (state_of log.ops) candidates) ops is in
    all_named ops (subst AreRecords parts.2 (news_are_records (state_of log.ops) candidates
    (candidates_are_records log.ops log.processor sender (transfer_of item window) receiver)))
