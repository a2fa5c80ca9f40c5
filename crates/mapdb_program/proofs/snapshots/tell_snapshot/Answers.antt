use Rattle.std.proofs.Common.{◌≡◌, ◌⊎◌, ◌∙◌, List, ℕ, [], Ok, Err, ap, subst, sym}
use Rattle.std.specs.Prelude.{Option}
use Rattle.std.specs.Io.KnownBytes.{Consumes}
use Rattle.std.proofs.KnownBytes.{Appends-nil}
use Rattle.mapdb_picture.specs.declared.faults.LoadFault.TheVariants.{Memory}
use Rattle.mapdb_program.specs.Snapshots.{answer_told}
use Rattle.mapdb_program.proofs.SnapshotLemmas.{fault_told, front_told}
use Rattle.mapdb_program.proofs.snapshots.tell_snapshot.Goals as goal

-- what was read is the input
read_input : (old new : Option (List ℕ)) (x input : List ℕ) → Consumes old new x → input ≡ x → Consumes old new input
read_input old new x input h is = subst (λ (bs : List ℕ). Consumes old new bs) (sym is) h

pub returns-in_err-text-clause-told : goal.returns-in_err-text-clause-told
returns-in_err-text-clause-told g c =
    let read = c.in_ok-input.ensures.read in
    let fault = c.in_err-text.field-0.0 in (
      c.in_ok-input.input.items,
      [],
      read_input (g.R.Source.left c.args.reader.now) (g.R.Source.left c.read_all.new.reader) read.0 c.in_ok-input.input.items read.1 read.2,
      Appends-nil (g.W.Sink.written c.args.writer.now),
      fault_told c.args.asked c.from_residual-in_err-text.result c.in_ok-input.input.items fault _ c.from_residual-in_err-text.ensures.0 c.from_residual-in_err-text.ensures.1
          (c.in_ok-input.ensures.over, c.in_ok-input.ensures.short)
          (subst (λ (bs : List ℕ). (fault ≡ Memory) ⊎ (answer_told c.args.asked bs ≡ Err fault)) c.as_slice.ensures.value c.in_err-text.ensures.err),
    )

pub returns-clause-told : goal.returns-clause-told
returns-clause-told g c =
    let read = c.in_ok-input.ensures.read in
    let written = c.write_text.ensures.told in
    let told : answer_told c.args.asked c.in_ok-input.input.items ≡ Ok c.as_str.result.now =
    sym (ap (answer_told c.args.asked) c.as_slice.ensures.value) ∙ c.in_ok-text.ensures.text ∙ sym (ap (λ (bs : List ℕ). Ok bs) c.as_str.ensures.value) in (
      c.in_ok-input.input.items,
      written.0,
      read_input (g.R.Source.left c.args.reader.now) (g.R.Source.left c.read_all.new.reader) read.0 c.in_ok-input.input.items read.1 read.2,
      written.1,
      front_told c.args.asked c.write_text.result c.in_ok-input.input.items c.as_str.result.now written.0 _ (c.in_ok-input.ensures.over, c.in_ok-input.ensures.short) told written.2,
    )
