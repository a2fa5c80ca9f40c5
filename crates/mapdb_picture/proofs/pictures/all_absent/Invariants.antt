use Rattle.std.proofs.Common.{◌≡◌, ◌++◌}
use Rattle.std.specs.Prelude.{flat_map, string_bytes}
use Rattle.mapdb_facts.specs.Facts.{records_of_facts, state_of_facts}
use Rattle.mapdb_snapshot.specs.Cutting.{cut_names}
use Rattle.mapdb_picture.specs.Picture.{if_absent, referred_names}
use Rattle.mapdb_picture.proofs.pictures.all_absent.Given as goal

-- the text with that of the names that are left
abbrev pub invariant-loop-id : goal.invariant-loop-id
invariant-loop-id l =
    string_bytes l.text ++ flat_map (if_absent (state_of_facts l.facts)) l.id-iterator
    ≡ flat_map (if_absent (state_of_facts l.facts)) (referred_names (records_of_facts l.facts) (cut_names l.ops))
