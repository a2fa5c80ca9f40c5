use Rattle.std.proofs.Common.{rules, ◌≡◌, ◌++◌}
use Rattle.std.specs.Prelude.{string_bytes}
use Rattle.std.proofs.lemmas.Result.{IfOk-weaker}
use Rattle.mapdb_picture.proofs.Telling.{explanation_is}
use Rattle.mapdb_picture.proofs.explanations.explanation.Goals as goal

pub returns : goal.returns
returns c =
    let whole : string_bytes c.push_str.new.self ≡ string_bytes c.in_ok-text.text ++ string_bytes c.in_ok-record_blocks.field-0 = search rules in
    IfOk-weaker c.or_nothing.result _ _
    (λ s h. explanation_is c.facts-facts.result.now c.args.copy.now.ops c.args.space c.args.page (string_bytes c.in_ok-text.text)
    (string_bytes c.in_ok-record_blocks.field-0) (string_bytes c.push_str.new.self) (string_bytes s)
    c.facts-facts.ensures c.in_ok-text.ensures c.in_ok-record_blocks.ensures whole h) c.or_nothing.ensures
