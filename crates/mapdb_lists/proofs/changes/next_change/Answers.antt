use Rattle.std.proofs.Common.{ℕ, ap, sym, subst, ◌∙◌}
use Rattle.std.specs.Prelude.{Option}
use Rattle.std.specs.Option.{option_copied}
use Rattle.mapdb_lists.specs.declared.changes.Change.{Change}
use Rattle.mapdb_lists.specs.OwnChanges.{IsNoneUntil}
use Rattle.mapdb_lists.proofs.ChangeLemmas.RecordChanges.{own_absent, own_found}
use Rattle.mapdb_lists.proofs.changes.next_change.Goals as goal

pub returns-in-Some-clause-none : goal.returns-in-Some-clause-none
returns-in-Some-clause-none c =
    subst (λ (at : ℕ → Option Change). IsNoneUntil at c.args.page c.next.result)
    (own_found c.args.changes.now.own.entries c.args.id c.in-Some.own.now (sym (ap option_copied c.in-Some.is) ∙ c.get.ensures)) c.next.ensures.none

pub returns-in-None-clause-none : goal.returns-in-None-clause-none
returns-in-None-clause-none c q above before =
    own_absent c.args.changes.now.own.entries c.args.id q (sym (ap option_copied c.in-None.is) ∙ c.get.ensures)
