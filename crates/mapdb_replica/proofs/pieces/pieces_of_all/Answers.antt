use Rattle.std.proofs.Common.{◌≡◌, ◌∙◌, ◌++◌, List, arith, sym, subst, ap}
use Rattle.std.specs.Prelude.{IfSome, Option}
use Rattle.mapdb_facts.specs.Facts.{records_of_facts, state_of_facts}
use Rattle.mapdb_facts.specs.Records.{greatest_number}
use Rattle.mapdb_facts.specs.declared.operations.Record.{Record}
use Rattle.mapdb_replica.specs.Fitting.{AllFitting, IsFitting}
use Rattle.mapdb_replica.specs.Issue.{first_piece, pieces}
use Rattle.mapdb_replica.specs.declared.pieces.Piece.{Piece}
use Rattle.mapdb_replica.proofs.Maps.Gathering.{fitting-option, found-next, found-start, list-fitting, list_of, number-next, pieces_of}
use Rattle.mapdb_replica.proofs.pieces.pieces_of_all.Goals as goal

pub loop-mapping-init : goal.loop-mapping-init
loop-mapping-init c =
    let S = state_of_facts c.args.facts.now in
    let records = records_of_facts c.args.facts.now in
    let all : c.into_iter-mapping-iterator.result ≡ records = c.into_iter-mapping-iterator.ensures.into_iter_gives ∙ c.records-mapping-items.ensures.listed in
    let greatest : greatest_number c.into_iter-mapping-iterator.result ≡ greatest_number records = ap greatest_number all in
    let first : c.add_piece.new.found.items ≡ list_of (first_piece S c.args.sender c.args.source.now c.args.rights) =
    c.in_ok-add_piece.ensures ∙ ap (λ (xs : List Piece). xs ++ list_of c.first_piece.result) c.new-found.ensures.items
    ∙ ap (λ (o : Option Piece). list_of o) c.first_piece.ensures.piece in
    record {
      found = ap (λ (rs : List Record). c.add_piece.new.found.items ++ pieces_of S c.args.sender c.args.source.now c.args.rights rs) all
          ∙ found-start S c.args.sender c.args.source.now c.args.rights records c.add_piece.new.found.items first;
      left = omega (arith, greatest);
      fitting = subst (λ (xs : List Piece). AllFitting c.args.source.now (greatest_number records) xs) (sym first)
          (list-fitting c.args.source.now (greatest_number records) (first_piece S c.args.sender c.args.source.now c.args.rights)
          (subst (λ (o : Option Piece). IfSome o (IsFitting c.args.source.now (greatest_number records))) c.first_piece.ensures.piece (c.first_piece.ensures.fitting (greatest_number records))));
    }

pub loop-mapping-preserved : goal.loop-mapping-preserved
loop-mapping-preserved c =
    let S = state_of_facts c.args.facts.now in
    let records = records_of_facts c.args.facts.now in
    let rest = c.loop-mapping.mapping-iterator in
    let numbers = number-next (greatest_number records) rest c.next.new.self c.in-Some.mapping c.in-Some.ensures.steps c.loop-mapping.invariant.left in
    let more : c.add_piece-in-loop-mapping.new.found.items ≡ c.loop-mapping.found.items ++ list_of c.record_piece-piece.result = c.in_ok-add_piece-2.ensures in
    record {
      found = found-next S c.args.sender c.args.source.now c.args.rights rest c.next.new.self c.in-Some.mapping
          c.record_piece-piece.result c.loop-mapping.found.items c.add_piece-in-loop-mapping.new.found.items (pieces S records c.args.sender c.args.source.now c.args.rights)
          c.in-Some.ensures.steps (sym c.record_piece-piece.ensures.piece) more c.loop-mapping.invariant.found;
      left = numbers.1;
      fitting = subst (λ (xs : List Piece). AllFitting c.args.source.now (greatest_number records) xs) (sym more)
          (fitting-option c.args.source.now (greatest_number records) c.loop-mapping.found.items c.record_piece-piece.result c.loop-mapping.invariant.fitting
          (c.record_piece-piece.ensures.fitting (greatest_number records) numbers.0));
    }
