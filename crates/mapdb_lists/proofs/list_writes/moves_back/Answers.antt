use Rattle.std.proofs.Common.{◌≡◌, rules, sym, ◌∙◌}
use Rattle.std.specs.Prelude.{Some, None}
use Rattle.std.proofs.lemmas.Bool.{true≢false}
use Rattle.mapdb_fpage.specs.declared.right_sets.Rights.{Rights}
use Rattle.mapdb_lists.proofs.ChangeLemmas.MovedChanges.{none_there}
use Rattle.mapdb_lists.proofs.list_writes.moves_back.Goals as goal

pub returns-in-None-clause-back : goal.returns-in-None-clause-back
returns-in-None-clause-back c first gap some one = (
  (λ no. absurd (true≢false (sym no))),
  (λ back. absurd (some_none (sym back.same ∙ none_there c.args.list.now c.requires.rise first c.args.end c.args.index some one gap c.in-None.ensures.none))),
)
  where
    some_none : {rights : Rights} → Some rights ≡ None → ⊥
    some_none e = search rules
