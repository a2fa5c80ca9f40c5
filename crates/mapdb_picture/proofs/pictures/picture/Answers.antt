use Rattle.std.proofs.Common.{◌∙◌}
use Rattle.std.specs.Prelude.{string_bytes}
use Rattle.std.proofs.lemmas.Result.{IfOk-weaker}
use Rattle.mapdb_picture.proofs.Telling.{picture_is}
use Rattle.mapdb_picture.proofs.pictures.picture.Goals as goal

pub returns : goal.returns
returns c =
    IfOk-weaker c.graph_of.result _ _
    (λ s h. picture_is c.facts-facts.result.now c.args.copy.now.ops c.ops-ops.result.now _ _ _ _ (string_bytes s)
    c.facts-facts.ensures c.ops-ops.ensures.ops (c.as_str.ensures.value ∙ c.in_ok-first.ensures)
    (c.as_str-2.ensures.value ∙ c.in_ok-records.ensures) (c.as_str-3.ensures.value ∙ c.in_ok-absent.ensures)
    (c.as_str-4.ensures.value ∙ c.in_ok-ended.ensures) h) c.graph_of.ensures
