use Rattle.std.proofs.Common.{ℕ, ◌++◌, ◌∙◌, List, ap, append_assoc}
use Rattle.std.specs.Prelude.{codes, decimal, string_bytes}
use Rattle.std.proofs.lemmas.Result.{on_ok_weaker}
use Rattle.mapdb_script.proofs.replies.push_revocations.Goals as goal

pub returns : goal.returns
returns c =
    on_ok_weaker c.push_number.result
    (λ told. told ∙ ap (λ (bytes : List ℕ). bytes ++ decimal c.args.count) c.in_ok-push_str.ensures.bytes ∙ append_assoc (string_bytes c.args.text.now) (codes "revocations ") (decimal c.args.count))
    c.push_number.ensures
