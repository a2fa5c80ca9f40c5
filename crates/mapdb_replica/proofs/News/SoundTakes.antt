-- A batch clashes exactly where it is not sound with what is held.
use Rattle.std.proofs.Common.{◌≡◌, Err, Ok, Result, Some, refl, sym, ◌∙◌, inl, inr, List, ◌++◌}
use Rattle.std.specs.Prelude.{◌≢◌, ◌⊎◌, Option, None}
use Rattle.std.specs.Option.{option_map, option_or}
use Rattle.mapdb_facts.specs.State.{HasAtom, IsSound, Rec, state_of}
use Rattle.mapdb_facts.specs.declared.names.RecordId.{RecordId}
use Rattle.mapdb_facts.specs.declared.operations.Op.{Op}
use Rattle.mapdb_facts.specs.declared.operations.Record.{Record}
use Rattle.mapdb_facts.proofs.States.Joins.{atom_append, atom_right}
use Rattle.mapdb_replica.specs.Clashing.{ClashesAt, IsLeastPassing}
use Rattle.mapdb_replica.specs.Replica.{news}
use Rattle.mapdb_replica.specs.Sound.{NoClashIsSound, TakesAreSound}
use Rattle.mapdb_replica.specs.Taking.{first_bad, least_clash, taken_unless, too_many}
use Rattle.mapdb_replica.specs.declared.faults.TakeFault.{TakeFault}
use Rattle.mapdb_replica.specs.declared.faults.TakeFault.TheVariants.{Clash}
use Rattle.mapdb_replica.proofs.News.BatchClashes.{least_clash-is}
use Rattle.mapdb_facts.proofs.RecordLemmas.SameRecords.{same_or_other}

-- without a clash all together are sound
sound_where : (held batch : List Op) → IsSound held → ((id : RecordId) → ClashesAt (held ++ batch) batch id → ⊥) → IsSound (held ++ batch)
sound_where held batch sound none r s in_r in_s same = by_same (same_or_other r s)
  where
    apart_in : (x y : Record) → HasAtom batch (Rec x) → HasAtom (held ++ batch) (Rec y) → x.id ≡ y.id → x ≢ y → ⊥
    apart_in x y here there e apart = none x.id (record { one = x; other = y; in_batch = here; in_all = there; one_named = refl; other_named = sym e; apart = apart })

    by_part : HasAtom held (Rec r) ⊎ HasAtom batch (Rec r) → HasAtom held (Rec s) ⊎ HasAtom batch (Rec s) → r ≢ s → r ≡ s
    by_part (inl a) (inl b) apart = sound r s a b same
    by_part (inr a) b apart = absurd (apart_in r s a in_s same apart)
    by_part (inl a) (inr b) apart = absurd (apart_in s r b in_r (sym same) (λ e. apart (sym e)))

    by_same : (r ≡ s) ⊎ (r ≢ s) → r ≡ s
    by_same (inl e) = e
    by_same (inr apart) = by_part (atom_append held batch (Rec r) in_r) (atom_append held batch (Rec s) in_s) apart

-- a clash is between two records of what is there
clash_differs : (held batch : List Op) (id : RecordId) → IsSound (held ++ batch) → ClashesAt (held ++ batch) batch id → ⊥
clash_differs held batch id sound clash = clash.apart (sound clash.one clash.other (atom_right held batch (Rec clash.one) clash.in_batch) clash.in_all (clash.one_named ∙ sym clash.other_named))

pub no_clash_is_sound : NoClashIsSound
no_clash_is_sound held batch sound = by_clash (least_clash held batch) refl (least_clash-is held batch)
  where
    no_name : (id : RecordId) → Some id ≡ None → ⊥
    no_name id e = cc

    by_clash : (o : Option RecordId) → least_clash held batch ≡ o → IsLeastPassing (ClashesAt (held ++ batch) batch) o → (o ≡ None → IsSound (held ++ batch)) × (IsSound (held ++ batch) → o ≡ None)
    by_clash None e none = (λ h. sound_where held batch sound none, λ h. refl)
    by_clash (Some id) e least = (λ h. absurd (no_name id h), λ all. absurd (clash_differs held batch id all least.0))

same_ok : (r : Result (List Op) TakeFault) (a b : List Op) → r ≡ Ok a → r ≡ Ok b → a ≡ b
same_ok r a b e f = cc

err_not_ok : (fault : TakeFault) (ops : List Op) → Err fault ≡ Ok ops → ⊥
err_not_ok fault ops e = cc

-- what a batch that was taken was not refused for
pub taken_parts : (bad : Option TakeFault) (clash : Option RecordId) (full : Option TakeFault) (fresh ops : List Op) → taken_unless (option_or bad (option_or (option_map Clash clash) full)) fresh ≡ Ok ops
    → (bad ≡ None) × (clash ≡ None) × (full ≡ None) × (fresh ≡ ops)
taken_parts None None None fresh ops is = (refl, refl, refl, same_ok (Ok fresh) fresh ops refl is)
taken_parts None None (Some fault) fresh ops is = absurd (err_not_ok fault ops is)
taken_parts None (Some id) full fresh ops is = absurd (err_not_ok (Clash id) ops is)
taken_parts (Some fault) clash full fresh ops is = absurd (err_not_ok fault ops is)

pub takes_are_sound : TakesAreSound
takes_are_sound held batch ops sound is =
    (no_clash_is_sound held batch sound).0 (taken_parts (first_bad 0 batch) (least_clash held batch) (too_many held batch) (news (state_of held) batch) ops is).1
