use Rattle.std.proofs.Common.{◌≡◌, ◌∙◌, ap, arith, sym}
use Rattle.std.specs.Prelude.{slice_get}
use Rattle.std.specs.Option.{option_and_then}
use Rattle.std.proofs.lemmas.Option.{gets}
use Rattle.mapdb_replica.proofs.Copies.PlacedOps.{get-ops_at}
use Rattle.mapdb_replica.proofs.giving.at_place.Goals as goal

pub returns-in_err-at : goal.returns-in_err-at
returns-in_err-at c =
    let at : c.copied.result ≡ slice_get c.args.places.now c.args.place = grind (arith, gets) in
    c.from_residual.ensures
    ∙ sym (get-ops_at c.args.ops.now c.args.places.now c.args.place c.requires ∙ ap (option_and_then (slice_get c.args.ops.now)) (sym at ∙ c.in_err-at.was))

pub returns : goal.returns
returns c =
    let at : c.copied.result ≡ slice_get c.args.places.now c.args.place = grind (arith, gets) in
    let op : c.copied-2.result ≡ slice_get c.args.ops.now c.in_ok-at.at = grind (arith, gets) in
    op
    ∙ sym (get-ops_at c.args.ops.now c.args.places.now c.args.place c.requires ∙ ap (option_and_then (slice_get c.args.ops.now)) (sym at ∙ c.in_ok-at.was))
