-- Pictures and explanations follow from the state, and so from the atoms.
use Rattle.std.proofs.Common.{◌≡◌, ℕ, ap, ◌∙◌, List}
use Rattle.mapdb_facts.specs.Records.{records_of}
use Rattle.mapdb_facts.specs.State.{IsSound, SameAtoms, State, state_of}
use Rattle.mapdb_facts.specs.declared.names.RecordId.{RecordId}
use Rattle.mapdb_facts.specs.declared.names.Space.{Space}
use Rattle.mapdb_facts.specs.declared.operations.Op.{Op}
use Rattle.mapdb_facts.specs.declared.operations.Record.{Record}
use Rattle.mapdb_facts.proofs.RecordLemmas.Ascending.{records_of-state}
use Rattle.mapdb_facts.proofs.Maps.Atoms.{state_of_same_atoms}
use Rattle.mapdb_snapshot.specs.Cutting.{cut_names}
use Rattle.mapdb_snapshot.specs.Snapshot.{ended_of}
use Rattle.mapdb_snapshot.proofs.Names.CutNames.{cut_names-state}
use Rattle.mapdb_snapshot.proofs.Names.EndedSpaces.{ended_of-state}
use Rattle.mapdb_picture.specs.Explanation.{explanation_of, explanation_text}
use Rattle.mapdb_picture.specs.Picture.{picture_of, picture_text}

picture_state : (xs ys : List Op) → state_of xs ≡ state_of ys → picture_text xs ≡ picture_text ys
picture_state xs ys same =
    ap (λ (S : State). picture_of S (records_of xs) (cut_names xs) (ended_of xs)) same
    ∙ ap (λ (rs : List Record). picture_of (state_of ys) rs (cut_names xs) (ended_of xs)) (records_of-state xs ys same)
    ∙ ap (λ (ids : List RecordId). picture_of (state_of ys) (records_of ys) ids (ended_of xs)) (cut_names-state xs ys same)
    ∙ ap (λ (spaces : List Space). picture_of (state_of ys) (records_of ys) (cut_names ys) spaces) (ended_of-state xs ys same)

pub pictures_are_of_atoms : (xs ys : List Op) → IsSound xs → SameAtoms xs ys → picture_text xs ≡ picture_text ys
pictures_are_of_atoms xs ys sound same = picture_state xs ys (state_of_same_atoms xs ys sound same)

explanation_state : (xs ys : List Op) (space : Space) (page : ℕ) → state_of xs ≡ state_of ys
    → explanation_text xs space page ≡ explanation_text ys space page
explanation_state xs ys space page same =
    ap (λ (S : State). explanation_of S (records_of xs) space page) same
    ∙ ap (λ (rs : List Record). explanation_of (state_of ys) rs space page) (records_of-state xs ys same)

pub explanations_are_of_atoms : (xs ys : List Op) (space : Space) (page : ℕ) → IsSound xs → SameAtoms xs ys
    → explanation_text xs space page ≡ explanation_text ys space page
explanations_are_of_atoms xs ys space page sound same = explanation_state xs ys space page (state_of_same_atoms xs ys sound same)
