use Rattle.std.proofs.Common.{rules, ◌≡◌, ℕ, List, [], Err, refl, subst, sym}
use Rattle.std.specs.Prelude.{◌↔◌}
use Rattle.std.proofs.lemmas.List.{length-map}
use Rattle.std.proofs.lemmas.Result.{err_from_is_err_and}
use Rattle.std.proofs.KnownBytes.{Appends-nil}
use Rattle.mapdb_exchange.specs.Counts.{IsCount}
use Rattle.mapdb_exchange.specs.declared.faults.RunFault.TheVariants.{BadCount}
use Rattle.mapdb_exchange.specs.declared.reports.Part.{Part}
use Rattle.mapdb_script.specs.declared.faults.ScriptFault.{ScriptFault}
use Rattle.mapdb_script.specs.declared.faults.ScriptFault.TheVariants.{Line}
use Rattle.mapdb_lines.specs.Streams.{HasEnded}
use Rattle.mapdb_script.specs.Threading.{TellsScripts}
use Rattle.mapdb_program.specs.Threaded.{IsTextWritten, report_text}
use Rattle.mapdb_program.proofs.ReportLemmas.{fault_told, report_told}
use Rattle.mapdb_program.proofs.threaded.run_threads.Goals as goal

pub returns-in_err-write_fault-in-Err-Line-clause-told :
    goal.returns-in_err-write_fault-in-Err-Line-clause-told
returns-in_err-write_fault-in-Err-Line-clause-told g c =
    let p = err_from_is_err_and c.from_residual.result c.from_residual.ensures.1 in
    let read = c.in-Err-Line.ensures.told in
    let over = HasEnded (g.R.Source.has_ended c.thread_scripts.new.reader) (g.R.Source.left c.thread_scripts.new.reader) in
    let is_line : c.in-Err-Line.field-0 ≡ Line c.in-Err-Line.number c.in-Err-Line.fault = search rules in
    let line = subst (λ (f : ScriptFault). TellsScripts (Err f) read.0 over) is_line read.2 in
    let wrote = c.in_err-write_fault-in-Err-Line.ensures.told in (
      read.0,
      wrote.0,
      read.1,
      wrote.1,
      rw (p.1, p.2) (fault_told c.in_err-write_fault-in-Err-Line.field-0.0 read.0 wrote.0 c.in-Err-Line.number c.in-Err-Line.fault c.args.capacity over line.0 wrote.2, line.1),
    )

pub returns-clause-told : goal.returns-clause-told
returns-clause-told g c =
    let read = c.in-Ok.ensures.told in
    let wrote = c.write_report.ensures.told in
    let few = subst (λ (n : ℕ). IsCount n c.args.capacity) (sym (length-map _ _)) c.in_ok-report.ensures.count in
    let written = subst (λ (parts : List Part). IsTextWritten c.write_report.result (report_text parts) wrote.0) c.as_slice.ensures.value wrote.2 in (
      read.0,
      wrote.0,
      read.1,
      wrote.1,
      (report_told c.write_report.result read.0 wrote.0 _ c.in_ok-report.report.parts.items c.args.capacity _ read.2.0.0 read.2.0.1 few c.in_ok-report.ensures.parts c.in_ok-report.ensures.same written, read.2.1),
    )

pub returns-in_err-report-clause-told : goal.returns-in_err-report-clause-told
returns-in_err-report-clause-told g c =
    let p = err_from_is_err_and c.from_residual-in_err-report.result c.from_residual-in_err-report.ensures.1 in
    let read = c.in-Ok.ensures.told in
    let why = c.in_err-report.field-0.0 in
    let exactly = subst (λ (n : ℕ). why ≡ BadCount ↔ (IsCount n c.args.capacity → ⊥)) (sym (length-map _ _)) c.in_err-report.ensures.bad in
    rw (p.1, p.2) (read.0, [], read.1, Appends-nil _, ((read.2.0.1, (_, read.2.0.0, exactly), refl), read.2.1))

pub returns-in-Err-Line-clause-told : goal.returns-in-Err-Line-clause-told
returns-in-Err-Line-clause-told c = search rules
