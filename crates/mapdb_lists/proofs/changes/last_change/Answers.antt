use Rattle.std.proofs.Common.{ℕ, ap, sym, subst, ◌∙◌}
use Rattle.std.specs.Prelude.{Option}
use Rattle.std.specs.Option.{option_copied}
use Rattle.mapdb_lists.specs.declared.changes.Change.{Change}
use Rattle.mapdb_lists.specs.OwnChanges.{IsLastUpTo}
use Rattle.mapdb_lists.proofs.ChangeLemmas.RecordChanges.{own_absent, own_found}
use Rattle.mapdb_lists.proofs.changes.last_change.Goals as goal

pub returns-in-Some : goal.returns-in-Some
returns-in-Some c =
    subst (λ (at : ℕ → Option Change). IsLastUpTo at c.args.page c.last.result)
    (own_found c.args.changes.now.own.entries c.args.id c.in-Some.own.now (sym (ap option_copied c.in-Some.is) ∙ c.get.ensures)) c.last.ensures

pub returns-in-None : goal.returns-in-None
returns-in-None c q up_to = own_absent c.args.changes.now.own.entries c.args.id q (sym (ap option_copied c.in-None.is) ∙ c.get.ensures)
