use Rattle.std.proofs.Common.{sym, ◌∙◌}
use Rattle.std.specs.Prelude.{◌&&◌, nat_le, nat_lt}
use Rattle.std.proofs.lemmas.Bool.{and_from}
use Rattle.mapdb_fpage.specs.Place.{holds}
use Rattle.mapdb_facts.specs.Names.{same_id}
use Rattle.mapdb_facts.proofs.Lists.SameNames.{same_id_itself, some_same}
use Rattle.mapdb_rights.proofs.Settling.Pendings.{pending_front, pending_last}
use Rattle.mapdb_rights.proofs.index.children.push_place.Goals as goal

pub returns-in_ok-push-clause-kept : goal.returns-in_ok-push-clause-kept
returns-in_ok-push-clause-kept c id page h = rw c.in_ok-push.ensures.ok (pending_front _ _ id page h)

pub returns-in_ok-push-clause-stale : goal.returns-in_ok-push-clause-stale
returns-in_ok-push-clause-stale c r held page inside =
    let one = some_same c.in-Some.mapping r (sym c.in-Some.is ∙ c.record.ensures.held ∙ held) in
    rw c.in_ok-push.ensures.ok (pending_last _ _ c.args.id page
    ((λ i. same_id c.args.id c.args.id && (nat_le (c.first_page.ensures.page i) page && nat_lt page (c.end.ensures.end i)))
    ∙ (λ i. same_id c.args.id c.args.id && holds (one i).place page)
    ∙ and_from (same_id c.args.id c.args.id) (holds r.place page) (same_id_itself c.args.id) inside))
