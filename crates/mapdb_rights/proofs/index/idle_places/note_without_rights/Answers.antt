use Rattle.std.proofs.Common.{◌≡◌, List, inl, inr, refl, subst, sym, true}
use Rattle.std.proofs.lemmas.Result.{on_ok_weaker}
use Rattle.mapdb_facts.specs.declared.names.RecordId.{RecordId}
use Rattle.mapdb_rights.specs.Meeting.{is_named}
use Rattle.mapdb_rights.proofs.Lists.NamedRecords.{named_front, named_last}
use Rattle.mapdb_rights.proofs.index.idle_places.note_without_rights.Goals as goal

pub returns-then-has_rights-clause-noted : goal.returns-then-has_rights-clause-noted
returns-then-has_rights-clause-noted c = inl (c.has_rights.ensures.some c.if-has_rights.true)

pub returns-clause-noted : goal.returns-clause-noted
returns-clause-noted c =
    on_ok_weaker c.add_item.result
    (λ more. inr (subst (λ (names : List RecordId). is_named names c.args.mapping.now.id ≡ true) (sym more) (named_last c.args.mapping.now.id c.args.idle.now.items c.args.mapping.now.id refl)))
    c.add_item.ensures

pub returns-clause-kept : goal.returns-clause-kept
returns-clause-kept c =
    on_ok_weaker c.add_item.result
    (λ more id has. subst (λ (names : List RecordId). is_named names id ≡ true) (sym more) (named_front id c.args.idle.now.items _ has))
    c.add_item.ensures
