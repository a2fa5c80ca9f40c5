use Rattle.std.proofs.Common.{ℕ, ap, sym, subst, ◌∙◌}
use Rattle.std.specs.Prelude.{Option}
use Rattle.std.specs.Option.{option_copied}
use Rattle.mapdb_lists.specs.declared.changes.Change.{Change}
use Rattle.mapdb_lists.specs.Changes.{IsStretch, at_first, change_at}
use Rattle.mapdb_lists.proofs.ChangeLemmas.LastChanges.{changed-none}
use Rattle.mapdb_lists.proofs.ChangeLemmas.RecordChanges.{own_absent, own_found}
use Rattle.mapdb_lists.proofs.changes.stretch_at.Goals as goal

pub returns-in-Some : goal.returns-in-Some
returns-in-Some c =
    subst (λ (first : Change). IsStretch (change_at c.args.changes.now.own.entries c.args.id) first c.args.page c.stretch.result) c.first_change-first.ensures
    (subst (λ (at : ℕ → Option Change). IsStretch at c.first_change-first.result c.args.page c.stretch.result)
    (own_found c.args.changes.now.own.entries c.args.id c.in-Some.own.now (sym (ap option_copied c.in-Some.is) ∙ c.get.ensures)) c.stretch.ensures)

pub returns-in-None : goal.returns-in-None
returns-in-None c =
    let none = λ (q : ℕ). own_absent c.args.changes.now.own.entries c.args.id q (sym (ap option_copied c.in-None.is) ∙ c.get.ensures) in
    record {
      seen = c.first_change-first.ensures ∙ sym (changed-none (change_at c.args.changes.now.own.entries c.args.id) (at_first c.args.id) c.args.page (λ q up_to. none q));
      above = c.requires;
      limit = search Rattle.std.proofs.Common.rules;
      none = λ q above before. none q;
    }
