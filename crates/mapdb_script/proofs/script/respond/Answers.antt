use Rattle.std.proofs.Common.{[], ◌+◌, ◌∙◌, ap, refl, string_bytes}
use Rattle.std.proofs.lemmas.Result.{err_from_is_err_and}
use Rattle.mapdb_lines.specs.Blocks.{Passes, waiting}
use Rattle.mapdb_lines.proofs.BlockLemmas.{passes-none}
use Rattle.mapdb_script.specs.Script.{turn}
use Rattle.mapdb_script.specs.States.{script_state}
use Rattle.mapdb_script.proofs.TurnLemmas.{replied}
use Rattle.mapdb_script.proofs.script.respond.Goals as goal

pub returns-in-Ok-clause-told : goal.returns-in-Ok-clause-told
returns-in-Ok-clause-told g c accepted stands =
    replied c.turn.new.self (c.args.engine.now.lines + 1) (turn (script_state c.args.engine.now accepted) c.args.line.now) (string_bytes c.turn.new.text) c.put.result
    (Passes (g.W.Sink.written c.args.writer.now) (g.W.Sink.written c.put.new.writer) (waiting c.args.block.now) (waiting c.put.new.block)) _
    (rw c.in-Ok.is at (c.turn.ensures accepted stands)) (rw c.as_bytes.ensures.value at c.put.ensures.ok) (rw c.as_bytes.ensures.value at c.put.ensures.part)
    c.put.ensures.write

pub returns-in-Err-Memory-clause-told : goal.returns-in-Err-Memory-clause-told
returns-in-Err-Memory-clause-told g c accepted stands = ([], passes-none _ _ _ refl, accepted, refl, tt)

pub returns-in_err-told-in-Err-Line-clause-told : goal.returns-in_err-told-in-Err-Line-clause-told
returns-in_err-told-in-Err-Line-clause-told g c accepted stands =
    let p = err_from_is_err_and c.from_residual.result c.from_residual.ensures.1 in
    ([], passes-none _ _ _ refl, accepted, rw (p.1, p.2) refl, rw p.1 tt)

pub returns-in_err-put-in-Err-Line-clause-told : goal.returns-in_err-put-in-Err-Line-clause-told
returns-in_err-put-in-Err-Line-clause-told g c accepted stands =
    let p = err_from_is_err_and c.from_residual-in_err-put-in-Err-Line.result c.from_residual-in_err-put-in-Err-Line.ensures.1 in
    let part = c.in_err-put-in-Err-Line.ensures.part in
    let turned = rw (c.in-Err-Line.is, c.in-Err-Line.field-0-is) at (c.turn.ensures accepted stands) in
    let begins = rw (c.as_bytes-in-Err-Line.ensures.value, c.in_ok-told-in-Err-Line.ensures, c.lines-number.ensures.lines) at part.1 in
    (part.0, part.2, accepted, rw (p.1, p.2, c.in_err-put-in-Err-Line.ensures.write.0, turned) begins, rw p.1 tt)

pub returns-in_ok-put-in-Err-Line-clause-told : goal.returns-in_ok-put-in-Err-Line-clause-told
returns-in_ok-put-in-Err-Line-clause-told g c accepted stands =
    let turned = rw (c.in-Err-Line.is, c.in-Err-Line.field-0-is) at (c.turn.ensures accepted stands) in
    let lines = c.lines-number.ensures.lines in
    let bytes = rw lines at (c.as_bytes-in-Err-Line.ensures.value ∙ c.in_ok-told-in-Err-Line.ensures) in
    (c.as_bytes-in-Err-Line.result.now, c.in_ok-put-in-Err-Line.ensures.ok, accepted, (turned, ap (λ n. n + 1) lines, bytes), tt)
