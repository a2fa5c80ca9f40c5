use Rattle.std.proofs.Common.{◌+◌, ◌≡◌, ◌∙◌, ◌∷◌, List, ap, drop, drop_of_length-le, inl, inr, refl, subst, sym}
use Rattle.std.proofs.lemmas.List.{drop_more}
use Rattle.mapdb_facts.specs.Names.{first_space}
use Rattle.mapdb_facts.specs.Records.{IsAmong}
use Rattle.mapdb_facts.specs.State.{Gives, HasAtom, Rec}
use Rattle.mapdb_facts.specs.declared.names.Space.{Space}
use Rattle.mapdb_facts.specs.declared.operations.Op.{Op}
use Rattle.mapdb_facts.proofs.Maps.Spaces.{placed_among}
use Rattle.mapdb_table.proofs.SpaceRows.{Gathered, first_stays, gathered-first, gathered-last, gathered-next}
use Rattle.mapdb_table.proofs.spaces.gathered.Goals as goal

pub loop-op-init : goal.loop-op-init
loop-op-init c = record {
  so_far = gathered-first c.args.ops.now c.new-spaces.result.keys c.add_space.new.spaces.keys c.new-spaces.ensures.empty c.in_ok-add_space.ensures;
  left = λ r has. has;
  first = subst (λ (xs : List Space). IsAmong first_space xs) (sym c.in_ok-add_space.ensures) (placed_among first_space c.new-spaces.result.keys);
}

pub loop-op-preserved : goal.loop-op-preserved
loop-op-preserved c =
    let ops = c.args.ops.now in
    let i = c.loop-op.op-index in
    let rest = drop (i + 1) ops in
    let op = c.op-item.result in
    let split : drop i ops ≡ op ∷ rest = drop_more ops i op c.loop-op-test.true ∙ ap (λ (x : Op). x ∷ rest) (sym c.op-item.is) in
    record {
      so_far = subst (λ (xs : List Space). Gathered ops rest xs) (sym c.in_ok-add_space_of.ensures)
          (gathered-next ops rest op c.loop-op.spaces.keys c.requires
          (λ r is. c.loop-op.invariant.left r (subst (λ (l : List Op). HasAtom l (Rec r)) (sym split) (inl (subst (λ (o : Op). Gives o (Rec r)) (sym is) refl))))
          (subst (λ (l : List Op). Gathered ops l c.loop-op.spaces.keys) split c.loop-op.invariant.so_far));
      left = λ r has. c.loop-op.invariant.left r (subst (λ (l : List Op). HasAtom l (Rec r)) (sym split) (inr has));
      first = subst (λ (xs : List Space). IsAmong first_space xs) (sym c.in_ok-add_space_of.ensures) (first_stays op first_space c.loop-op.spaces.keys c.loop-op.invariant.first);
    }

pub returns : goal.returns
returns c =
    gathered-last c.args.ops.now (drop c.loop-op.op-index c.args.ops.now) c.loop-op.spaces.keys (drop_of_length-le c.args.ops.now c.loop-op-test.false)
    c.loop-op.invariant.first c.loop-op.invariant.so_far
