use Rattle.std.proofs.Common.{Some, ap, arith, refl, sym, ◌∙◌}
use Rattle.mapdb_facts.specs.declared.names.RecordId.{RecordId}
use Rattle.std.proofs.lemmas.Bool.{true≢false}
use Rattle.std.proofs.lemmas.Option.{slice_get-get_or}
use Rattle.mapdb_facts.proofs.Maps.NamedCuts.{but_all, but_next, but_none}
use Rattle.mapdb_facts.proofs.cuts_by_record.covers_all.Goals as goal

pub loop-id-init : goal.loop-id-init
loop-id-init c =
    rw (c.as_slice-id-items.ensures, ← c.other.view_is) (but_all c.args.cuts.now.entries c.other.inside.names c.other.inside.values.items)

pub returns-then-not-covers_under : goal.returns-then-not-covers_under
returns-then-not-covers_under c = (
  λ t. absurd (true≢false (sym t)),
  λ all. absurd (true≢false (sym (c.covers_under.ensures.1 (λ x h. all (_, x) h)) ∙ c.if-not-covers_under.true)),
)

pub loop-id-preserved : goal.loop-id-preserved
loop-id-preserved c =
    let cuts = c.args.cuts.now.entries in
    but_next cuts cuts c.args.other.now.entries c.as_slice-id-items.result.now c.loop-id.id-index _
    (slice_get-get_or c.as_slice-id-items.result.now c.loop-id.id-index c.id-item.result c.loop-id-test.true ∙ ap (λ (id : RecordId). Some id) (sym c.id-item.is)) (λ p h. h)
    (c.covers_under.ensures.0 c.if-not-covers_under.false) c.loop-id.invariant

pub returns : goal.returns
returns c = (
  λ t. but_none c.args.cuts.now.entries c.args.other.now.entries c.as_slice-id-items.result.now c.loop-id.id-index (omega arith) c.loop-id.invariant,
  λ all. refl,
)
