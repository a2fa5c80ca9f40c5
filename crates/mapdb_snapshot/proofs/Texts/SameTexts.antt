-- The text follows from the state, and so from the atoms.
use Rattle.std.proofs.Common.{◌≡◌, ap, ◌∙◌, List}
use Rattle.mapdb_facts.specs.Records.{records_of}
use Rattle.mapdb_facts.specs.State.{IsSound, SameAtoms, State, state_of}
use Rattle.mapdb_facts.specs.declared.names.RecordId.{RecordId}
use Rattle.mapdb_facts.specs.declared.names.Space.{Space}
use Rattle.mapdb_facts.specs.declared.operations.Op.{Op}
use Rattle.mapdb_facts.specs.declared.operations.Record.{Record}
use Rattle.mapdb_facts.specs.declared.operations.Revocation.{Revocation}
use Rattle.mapdb_facts.proofs.RecordLemmas.Ascending.{records_of-state}
use Rattle.mapdb_facts.proofs.Maps.Atoms.{state_of_same_atoms}
use Rattle.mapdb_snapshot.specs.Cutting.{cut_names, cuts_of, cuts_of_names}
use Rattle.mapdb_snapshot.specs.Snapshot.{ended_of, snapshot_data, snapshot_object, snapshot_text}
use Rattle.mapdb_snapshot.proofs.Names.CutNames.{cut_names-state}
use Rattle.mapdb_snapshot.proofs.Names.EndedSpaces.{ended_of-state}
use Rattle.serde_json.specs.Written.{compact_text}

cuts_of-state : (xs ys : List Op) → state_of xs ≡ state_of ys → cuts_of xs ≡ cuts_of ys
cuts_of-state xs ys same =
    ap (λ (S : State). cuts_of_names S (cut_names xs)) same
    ∙ ap (λ (names : List RecordId). cuts_of_names (state_of ys) names) (cut_names-state xs ys same)

data-state : (xs ys : List Op) → state_of xs ≡ state_of ys → snapshot_data xs ≡ snapshot_data ys
data-state xs ys same =
    ap (λ (cuts : List Revocation). snapshot_object cuts (ended_of xs) (records_of xs)) (cuts_of-state xs ys same)
    ∙ ap (λ (ended : List Space). snapshot_object (cuts_of ys) ended (records_of xs)) (ended_of-state xs ys same)
    ∙ ap (λ (records : List Record). snapshot_object (cuts_of ys) (ended_of ys) records) (records_of-state xs ys same)

pub texts_are_of_atoms : (xs ys : List Op) → IsSound xs → IsSound ys → SameAtoms xs ys → snapshot_text xs ≡ snapshot_text ys
texts_are_of_atoms xs ys sound sound' same = ap compact_text (data-state xs ys (state_of_same_atoms xs ys sound same))
