use Rattle.std.proofs.Common.{◌≡◌, ◌∙◌, ◌++◌, ◌≤◌, List, ap, append-nil, subst, sym}
use Rattle.std.specs.Prelude.{IfSome, Option}
use Rattle.std.proofs.lemmas.List.{take_all}
use Rattle.mapdb_facts.specs.Facts.{records_of_facts, state_of_facts}
use Rattle.mapdb_facts.specs.Records.{greatest_number}
use Rattle.mapdb_facts.specs.declared.operations.Record.{Record}
use Rattle.mapdb_facts.proofs.RecordLemmas.Ascending.{most_of}
use Rattle.mapdb_rights.specs.LivePlaces.{IsPowerless}
use Rattle.mapdb_rights.specs.Meeting.{holders_of, holds_part}
use Rattle.mapdb_replica.specs.Fitting.{AllFitting, IsFitting}
use Rattle.mapdb_replica.specs.Issue.{first_piece}
use Rattle.mapdb_replica.specs.declared.pieces.Piece.{Piece}
use Rattle.mapdb_replica.proofs.Calls.AllBut.{among_at, among_filter, left_among}
use Rattle.mapdb_replica.proofs.Maps.Gathering.{fitting-option, list-fitting, list_of, pieces-parts, pieces_of}
use Rattle.mapdb_replica.proofs.Maps.Powerless.{pieces_left}
use Rattle.mapdb_replica.proofs.Unmaps.MeetingRecords.{pieces_more}
use Rattle.mapdb_replica.proofs.pieces.pieces_among.Goals as goal

pub loop-mapping-init : goal.loop-mapping-init
loop-mapping-init c =
    let S = state_of_facts c.args.facts.now in
    let records = records_of_facts c.args.facts.now in
    let first : c.add_piece.new.found.items ≡ list_of (first_piece S c.args.sender c.args.source.now c.args.rights) =
    c.in_ok-add_piece.ensures ∙ ap (λ (xs : List Piece). xs ++ list_of c.first_piece.result) c.new-found.ensures.items
    ∙ ap (λ (o : Option Piece). list_of o) c.first_piece.ensures.piece in
    record {
      found = first ∙ sym (append-nil (list_of (first_piece S c.args.sender c.args.source.now c.args.rights)));
      fitting = subst (λ (xs : List Piece). AllFitting c.args.source.now (greatest_number records) xs) (sym first)
          (list-fitting c.args.source.now (greatest_number records) (first_piece S c.args.sender c.args.source.now c.args.rights)
          (subst (λ (o : Option Piece). IfSome o (IsFitting c.args.source.now (greatest_number records))) c.first_piece.ensures.piece (c.first_piece.ensures.fitting (greatest_number records))));
    }

pub loop-mapping-preserved : goal.loop-mapping-preserved
loop-mapping-preserved c =
    let records = records_of_facts c.args.facts.now in
    let more : c.add_piece-in-loop-mapping.new.found.items ≡ c.loop-mapping.found.items ++ list_of c.record_piece-piece.result = c.in_ok-add_piece-2.ensures in
    let low : c.mapping-item.result.id.number ≤ greatest_number records =
    most_of records c.mapping-item.result (among_filter (holds_part c.args.sender c.args.source.now) records c.mapping-item.result
    (left_among (IsPowerless (state_of_facts c.args.facts.now)) (holders_of records c.args.sender c.args.source.now) c.args.held.now c.mapping-item.result c.requires.held
    (among_at c.args.held.now c.loop-mapping.mapping-index c.mapping-item.result c.loop-mapping-test.true c.mapping-item.is))) in
    record {
      found = pieces_more (state_of_facts c.args.facts.now) c.args.sender c.args.source.now c.args.rights c.args.held.now c.loop-mapping.mapping-index c.mapping-item.result
          c.record_piece-piece.result (list_of (first_piece (state_of_facts c.args.facts.now) c.args.sender c.args.source.now c.args.rights))
          c.loop-mapping.found.items c.add_piece-in-loop-mapping.new.found.items c.loop-mapping-test.true c.mapping-item.is c.record_piece-piece.ensures.piece
          more c.loop-mapping.invariant.found;
      fitting = subst (λ (xs : List Piece). AllFitting c.args.source.now (greatest_number records) xs) (sym more)
          (fitting-option c.args.source.now (greatest_number records) c.loop-mapping.found.items c.record_piece-piece.result c.loop-mapping.invariant.fitting
          (c.record_piece-piece.ensures.fitting (greatest_number records) low));
    }

pub returns-clause-found : goal.returns-clause-found
returns-clause-found c =
    let S = state_of_facts c.args.facts.now in
    let records = records_of_facts c.args.facts.now in
    let first : List Piece = list_of (first_piece S c.args.sender c.args.source.now c.args.rights) in
    c.loop-mapping.invariant.found
    ∙ ap (λ (rs : List Record). first ++ pieces_of S c.args.sender c.args.source.now c.args.rights rs)
    (take_all c.loop-mapping.mapping-index c.args.held.now c.loop-mapping-test.false)
    ∙ ap (λ (xs : List Piece). first ++ xs)
    (pieces_left S c.args.sender c.args.source.now c.args.rights records c.args.held.now c.requires.held)
    ∙ sym (pieces-parts S c.args.sender c.args.source.now c.args.rights records)
