use Rattle.std.proofs.Common.{◌≡◌, List, subst, sym}
use Rattle.std.proofs.lemmas.List.{at_drop_all}
use Rattle.mapdb_replica.specs.Pairs.{Pair, with_pair}
use Rattle.mapdb_replica.proofs.Pages.PairSets.{IsPart, part_end, part_on, part_start}
use Rattle.mapdb_replica.proofs.page_rights.joined.Goals as goal

pub loop-pair-init : goal.loop-pair-init
loop-pair-init c = subst (λ (xs : List Pair). IsPart c.args.pairs.now xs c.args.pairs.now) (sym c.new-listed.ensures.items) (part_start c.args.pairs.now c.requires)

pub loop-pair-preserved : goal.loop-pair-preserved
loop-pair-preserved c =
    part_on c.args.pairs.now c.loop-pair.listed.items c.add_pair.new.pairs.items c.loop-pair.pair-index _ c.loop-pair-test.true
    (subst (λ (pair : Pair). c.add_pair.new.pairs.items ≡ with_pair pair c.loop-pair.listed.items) c.pair-item.is c.in_ok-add_pair.ensures)
    c.loop-pair.invariant

pub returns : goal.returns
returns c = part_end c.args.pairs.now c.loop-pair.listed.items _ (at_drop_all (λ (xs : List Pair). xs) c.args.pairs.now c.loop-pair.pair-index c.loop-pair-test.false) c.loop-pair.invariant
