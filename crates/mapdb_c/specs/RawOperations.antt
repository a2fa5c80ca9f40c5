-- Operations as C has them: what such a one says, and how one is written.
use Rattle.std.specs.Prelude.{ℕ, ◌<◌, ◌*◌, ◌==◌, nat_lt, Result, Ok, Err, if◌then◌else◌}
use Rattle.mapdb_fpage.specs.Bounds.{page_bytes}
use Rattle.mapdb_fpage.specs.RightSets.{bits_of}
use Rattle.mapdb_facts.specs.NameWords.{saturated_name}
use Rattle.mapdb_facts.specs.Names.{processor_limit}
use Rattle.mapdb_facts.specs.declared.names.RecordId.{RecordId}
use Rattle.mapdb_facts.specs.declared.names.Space.{Space}
use Rattle.mapdb_facts.specs.declared.operations.Op.{Op}
use Rattle.mapdb_facts.specs.declared.operations.Op.TheVariants.{Born, Closed, Cut}
use Rattle.mapdb_facts.specs.declared.operations.Record.{Record}
use Rattle.mapdb_facts.specs.declared.operations.Revocation.{Revocation}
use Rattle.mapdb_c.specs.RawPlaces.{◌>>=◌, place_given, raw_space, rights_of, space_given}
use Rattle.mapdb_c.specs.declared.operations.RawOperation.{RawOperation}
use Rattle.mapdb_c.specs.declared.raw_places.RawSpace.{RawSpace}
use Rattle.mapdb_c.specs.declared.statuses.Status.{Status}
use Rattle.mapdb_c.specs.declared.statuses.Status.TheVariants as status

-- the name of a record, whose processor is one; a number that is too great for a name counts as the
-- greatest, which is none of a record either
abbrev pub name_given : ℕ → ℕ → Result RecordId Status
name_given number processor =
    if nat_lt processor processor_limit then Ok (saturated_name number processor)
    else Err status.BadProcessor

-- what an operation of the kind of records says
abbrev pub record_given : RawOperation → Result Op Status
record_given raw = do
  id ← name_given raw.number raw.processor
  space ← space_given raw.space
  place ← place_given raw.address raw.order
  parent ← name_given raw.parent_number raw.parent_processor
  rights ← rights_of raw.rights
  Ok (Born (record {
    id = id;
    space = space;
    place = place;
    parent = parent;
    source = raw.source;
    rights = rights;
  }))

-- what an operation of the kind of revocations says
abbrev pub revocation_of : RawOperation → Result Op Status
revocation_of raw = do
  target ← name_given raw.number raw.processor
  part ← place_given raw.address raw.order
  rights ← rights_of raw.rights
  Ok (Cut (record { target = target; part = part; rights = rights }))

-- what an operation of the kind of ends says
abbrev pub end_given : RawOperation → Result Op Status
end_given raw = do
  space ← space_given raw.space
  Ok (Closed space)

-- The operation: of kind 1 a record, of 2 a revocation, of 3 the end of a space.
abbrev pub operation_of : RawOperation → Result Op Status
operation_of raw =
    if raw.kind == 1 then record_given raw
    else (if raw.kind == 2 then revocation_of raw
    else (if raw.kind == 3 then end_given raw
    else Err status.BadKind))

abbrev pub written_record : Record → RawOperation
written_record r = record {
  kind = 1;
  rights = bits_of r.rights;
  number = r.id.number;
  parent_number = r.parent.number;
  address = r.place.first_page * page_bytes;
  source = r.source;
  space = raw_space r.space;
  processor = r.id.processor;
  parent_processor = r.parent.processor;
  order = r.place.order;
  reserved = 0;
}

-- what a revocation has no use for is 0
abbrev pub written_revocation : Revocation → RawOperation
written_revocation cut = record {
  kind = 2;
  rights = bits_of cut.rights;
  number = cut.target.number;
  parent_number = 0;
  address = cut.part.first_page * page_bytes;
  source = 0;
  space = record { number = 0; version = 0 };
  processor = cut.target.processor;
  parent_processor = 0;
  order = cut.part.order;
  reserved = 0;
}

-- what an end has no use for is 0
abbrev pub written_end : Space → RawOperation
written_end space = record {
  kind = 3;
  rights = 0;
  number = 0;
  parent_number = 0;
  address = 0;
  source = 0;
  space = raw_space space;
  processor = 0;
  parent_processor = 0;
  order = 0;
  reserved = 0;
}

-- the operation as C has it
abbrev pub written_operation : Op → RawOperation
written_operation (Born r) = written_record r
written_operation (Cut cut) = written_revocation cut
written_operation (Closed space) = written_end space

-- the processors that an operation names are below 64, as those of each well-formed operation are
abbrev pub HasProcessors : Op → Type 0
HasProcessors (Born r) = (r.id.processor < processor_limit) × (r.parent.processor < processor_limit)
HasProcessors (Cut cut) = cut.target.processor < processor_limit
HasProcessors (Closed space) = Unit {0}
