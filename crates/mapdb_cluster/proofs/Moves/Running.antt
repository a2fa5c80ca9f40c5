-- Whatever a run does, each copy holds what it held and what it took; so copies that took the same look alike.
use Rattle.std.proofs.Common.{◌≡◌, ℕ, zero, suc, ◌+◌, Some, refl, sym, subst, ap, ◌∙◌, inl, inr, List, [], ◌∷◌, ◌++◌, append_assoc, map}
use Rattle.std.specs.Prelude.{◌⊎◌, Option, None, slice_get}
use Rattle.std.specs.List.{range_with_len}
use Rattle.std.proofs.lemmas.Bool.{and_from}
use Rattle.mapdb_facts.specs.State.{HasAtom, IsSound, Rec, SameAtoms, state_of}
use Rattle.mapdb_facts.specs.declared.operations.Op.{Op}
use Rattle.mapdb_facts.proofs.Maps.Atoms.{record_held}
use Rattle.mapdb_facts.proofs.States.Joins.{atom_append, atom_left, atom_right}
use Rattle.mapdb_rights.specs.Right.{source_page}
use Rattle.mapdb_rights.proofs.Rights.Backed.{backing, lies_in-right}
use Rattle.mapdb_replica.specs.Agreement.{knows_all}
use Rattle.mapdb_replica.specs.Replica.{Log, empty}
use Rattle.mapdb_replica.proofs.Copies.Agreeing.{covers_known, look_alike}
use Rattle.mapdb_replica.proofs.Copies.Bounding.{merge_is_least}
use Rattle.mapdb_cluster.specs.Laws.{AreSound, CopiesAgree, CopyJoinIsLeast, NoEscalation, SchedulesAreExact}
use Rattle.mapdb_cluster.specs.Net.{Done, Net, new_net}
use Rattle.mapdb_cluster.specs.Run.{Move, after, move_done, took, took_by, took_in}
use Rattle.mapdb_cluster.proofs.Steps.Holding.{same_trans, same_turned}
use Rattle.mapdb_cluster.proofs.Steps.Slots.{none_some, one_there}
use Rattle.mapdb_cluster.proofs.Steps.Stepping.{move_hold}

same_behind : (xs ys zs : List Op) → SameAtoms xs ys → SameAtoms (xs ++ zs) (ys ++ zs)
same_behind xs ys zs same atom = (λ has. forth xs ys (λ h. (same atom).0 h) (atom_append xs zs atom has), λ has. forth ys xs (λ h. (same atom).1 h) (atom_append ys zs atom has))
  where
    forth : (us bs : List Op) → (HasAtom us atom → HasAtom bs atom) → HasAtom us atom ⊎ HasAtom zs atom → HasAtom (bs ++ zs) atom
    forth us bs to (inl before) = atom_left bs zs atom (to before)
    forth us bs to (inr later) = atom_right bs zs atom later

nothing_more : (xs : List Op) → SameAtoms xs (xs ++ [])
nothing_more xs atom = (λ has. atom_left xs [] atom has, λ has. first (atom_append xs [] atom has))
  where
    first : HasAtom xs atom ⊎ HasAtom [] atom → HasAtom xs atom
    first (inl before) = before
    first (inr later) = absurd later

pub schedules_are_exact : SchedulesAreExact
schedules_are_exact net [] sound at before there = record { copy = before; there = there; atoms = nothing_more before.ops; sound = sound at before there }
schedules_are_exact net (move ∷ moves) sound at before there =
    let done : Done = move_done net move in
    let one = move_hold net sound move in
    let held = one.hold at before there in
    let rest = schedules_are_exact done.net moves one.sound at held.copy held.there in
    let assoc : (before.ops ++ took_by done at) ++ took done.net moves at ≡ before.ops ++ (took_by done at ++ took done.net moves at) = append_assoc before.ops (took_by done at) (took done.net moves at) in
    record {
      copy = rest.copy;
      there = rest.there;
      atoms = subst (λ (xs : List Op). SameAtoms rest.copy.ops xs) assoc
          (same_trans rest.copy.ops (held.copy.ops ++ took done.net moves at) ((before.ops ++ took_by done at) ++ took done.net moves at) rest.atoms
          (same_behind held.copy.ops (before.ops ++ took_by done at) (took done.net moves at) held.atoms));
      sound = rest.sound;
    }

-- there are no more copies than there were
absent_after : (net : Net) (moves : List Move) (at : ℕ) → AreSound net → slice_get net.copies at ≡ None → slice_get (after net moves).copies at ≡ None
absent_after net [] at sound gone = gone
absent_after net (move ∷ moves) at sound gone = let one = move_hold net sound move in absent_after (move_done net move).net moves at one.sound (one.absent at gone)

-- at the start no copy holds anything
empty_at : (first count at : ℕ) (copy : Log) → slice_get (map empty (range_with_len first count)) at ≡ Some copy → copy.ops ≡ []
empty_at first zero at copy there = absurd (none_some copy there)
empty_at first (suc count) zero copy there = same there
  where
    same : Some (empty first) ≡ Some copy → copy.ops ≡ []
    same e = ap (λ (c : Log). c.ops) (sym (one e))
      where
        one : Some (empty first) ≡ Some copy → empty first ≡ copy
        one h = cc
empty_at first (suc count) (suc at) copy there = empty_at (first + 1) count at copy there

new_sound : (count : ℕ) → AreSound (new_net count)
new_sound count at copy there r s in_r in_s same = absurd (subst (λ (xs : List Op). HasAtom xs (Rec r)) (empty_at 0 count at copy there) in_r)

-- a copy of a run holds what it took
pub record HoldsRun (ops taken : List Op) : Type 0 where
  pub atoms : SameAtoms ops taken
  pub sound : IsSound ops

pub run_holds : (count : ℕ) (moves : List Move) (at : ℕ) (copy : Log) → slice_get (after (new_net count) moves).copies at ≡ Some copy → HoldsRun copy.ops (took (new_net count) moves at)
run_holds count moves at copy there = by_start (slice_get (new_net count).copies at) refl
  where
    by_start : (o : Option Log) → slice_get (new_net count).copies at ≡ o → HoldsRun copy.ops (took (new_net count) moves at)
    by_start None gone = absurd (none_some copy (sym (absent_after (new_net count) moves at (new_sound count) gone) ∙ there))
    by_start (Some before) start =
        let held = schedules_are_exact (new_net count) moves (new_sound count) at before start in
        let one : held.copy ≡ copy = one_there (after (new_net count) moves).copies at held.copy copy held.there there in
        let nothing : before.ops ≡ [] = empty_at 0 count at before start in
        record {
          atoms = subst (λ (c : Log). SameAtoms c.ops (took (new_net count) moves at)) one (subst (λ (xs : List Op). SameAtoms held.copy.ops (xs ++ took (new_net count) moves at)) nothing held.atoms);
          sound = subst (λ (c : Log). IsSound c.ops) one held.sound;
        }

pub copies_agree : CopiesAgree
copies_agree run another at other copy other_copy there other_there same_took =
    let mine = run_holds run.count run.moves at copy there in
    let yours = run_holds another.count another.moves other other_copy other_there in
    let same : SameAtoms copy.ops other_copy.ops =
    same_trans copy.ops (took_in run at) other_copy.ops mine.atoms
    (same_trans (took_in run at) (took_in another other) other_copy.ops same_took
    (same_turned other_copy.ops (took_in another other) yours.atoms)) in
    record {
      atoms = same;
      alike = look_alike copy.ops other_copy.ops mine.sound same;
      told =
          and_from (knows_all copy.ops other_copy.ops) (knows_all other_copy.ops copy.ops)
          (covers_known copy.ops other_copy.ops mine.sound (λ atom has. (same atom).1 has))
          (covers_known other_copy.ops copy.ops yours.sound (λ atom has. (same atom).0 has));
    }

pub join_is_least : CopyJoinIsLeast
join_is_least copy ops run formed = merge_is_least copy.ops ops (run_holds run.0.count run.0.moves run.1 copy run.2).sound formed

pub no_escalation : NoEscalation
no_escalation copy id page right run has other =
    let b = backing (state_of copy.ops) id page right other has in
    let held = record_held copy.ops id b.r b.held in
    (b.r, held.0, held.1, record { in_place = lies_in-right (state_of copy.ops) b.r.parent (source_page b.r page) right b.parent_has; parent_has = b.parent_has })
