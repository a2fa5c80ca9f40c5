use Rattle.std.proofs.Common.{◌≡◌, ℕ, ◌∙◌, List, [], ◌∷◌, ◌++◌, ap, drop, length, map, rules, arith}
use Rattle.std.specs.Prelude.{codes, decimal}
use Rattle.std.proofs.lemmas.List.{drop_all}
use Rattle.mapdb_snapshot.specs.Snapshot.{cut_row, ended_row, list_of, record_row}
use Rattle.mapdb_snapshot.specs.declared.faults.TheConstants.{SNAPSHOT_VERSION}
use Rattle.mapdb_snapshot.proofs.Texts.WrittenTexts.{before, of_scanned_pieces}
use Rattle.serde_json.specs.Written.{compact_text}
use Rattle.mapdb_snapshot.proofs.written_form.lists_scanned.Goals as goal

pub returns-clause-text : goal.returns-clause-text
returns-clause-text c =
    let text = c.args.text.now in
    let cuts = list_of (map cut_row c.in_ok-cuts.cuts.items) in
    let ended = list_of (map ended_row c.in_ok-ended.ended.items) in
    let records = list_of (map record_row c.in_ok-records.records.items) in
    let first : text ≡ codes "{\"cuts\":" ++ drop c.bytes.new.at text = search rules in
    let second : drop c.cuts_scanned.new.at text ≡ codes ",\"ended\":" ++ drop c.bytes-2.new.at text = search rules in
    let third : drop c.ended_scanned.new.at text ≡ codes ",\"records\":" ++ drop c.bytes-3.new.at text = search rules in
    let fourth : drop c.records_scanned.new.at text ≡ codes ",\"version\":" ++ drop c.bytes-4.new.at text = search rules in
    let number : drop c.bytes-4.new.at text ≡ decimal c.in_ok-version.version ++ (125 ∷ drop c.number_before.new.at text) = search rules in
    let version : c.in_ok-version.version ≡ SNAPSHOT_VERSION = search rules in
    let length_is : c.number_before.new.at ≡ length text = search rules in
    let none : drop c.number_before.new.at text ≡ [] = drop_all c.number_before.new.at text (omega (arith, length_is)) in
    let last : drop c.bytes-4.new.at text ≡ decimal SNAPSHOT_VERSION ++ (125 ∷ []) =
    number ∙ ap (λ n. decimal n ++ (125 ∷ drop c.number_before.new.at text)) version
    ∙ ap (λ (t : List ℕ). decimal SNAPSHOT_VERSION ++ (125 ∷ t)) none in
    before text (codes "{\"cuts\":") (compact_text cuts) (codes ",\"ended\":") (compact_text ended) (codes ",\"records\":") (compact_text records)
    (codes ",\"version\":") (decimal SNAPSHOT_VERSION ++ (125 ∷ [])) _ _ _ _ _ _ _
    first c.in_ok-cuts.ensures.list second c.in_ok-ended.ensures.list third c.in_ok-records.ensures.list fourth last
    ∙ of_scanned_pieces cuts ended records
