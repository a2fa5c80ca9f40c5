-- a value has itself
use Rattle.std.proofs.Common.{sym, ◌∙◌}
use Rattle.std.proofs.lemmas.Bool.{true≢false}
use Rattle.mapdb_join.proofs.flat.FlatMerge.is_none.Goals as goal

pub returns : goal.returns
returns g c =
    let a = c.args.self.now in (λ h. absurd (true≢false (sym h)), λ none. absurd (true≢false (sym (g.met.T.Eq.laws.refl a) ∙ none a)))
