-- What names, spaces and operations feed a hasher: few words, which tell most of them apart.
use Rattle.std.specs.Prelude.{◌≡◌, ℕ, true, Some, ◌+◌, ◌*◌, ◌%◌, ◌^◌, ◌++◌}
use Rattle.std.specs.Hash.{HashWrites, u64}
use Rattle.std.proofs.Common.{ap}
use Rattle.mapdb_fpage.specs.Words.{word_of}
use Rattle.mapdb_facts.specs.declared.names.RecordId.{RecordId}
use Rattle.mapdb_facts.specs.declared.names.Space.{Space}
use Rattle.mapdb_facts.specs.declared.operations.Op.{Op}
use Rattle.mapdb_facts.specs.declared.operations.Op.TheVariants.{Born, Closed, Cut}
use Rattle.mapdb_facts.specs.Exact.{exact_id, exact_space}
use Rattle.mapdb_facts.specs.ExactOps.{exact_op, same_op}
use Rattle.mapdb_facts.specs.NameWords.{name_word}
use Rattle.mapdb_facts.specs.Names.{same_id, same_space}

-- a name as the one word that it is kept as
abbrev pub id_word : RecordId → ℕ
id_word id = name_word id.number id.processor

-- a space as one word
abbrev pub space_word : Space → ℕ
space_word space = space.number * 2 ^ 32 + space.version

abbrev pub id_writes : RecordId → HashWrites
id_writes id = u64 (id_word id)

abbrev pub space_writes : Space → HashWrites
space_writes space = u64 (space_word space)

-- the name of a record or of a space that ends: the rest is seldom all that two differ in; and all
-- of a revocation: its part and its rights are one word
abbrev pub op_writes : Op → HashWrites
op_writes (Born r) = id_writes r.id
op_writes (Cut cut) = u64 (word_of (Some cut.part) cut.rights) ++ id_writes cut.target
op_writes (Closed space) = space_writes space

-- what compares equal feeds alike
pub ids_alike : (a b : RecordId) → same_id a b ≡ true → id_writes a ≡ id_writes b
ids_alike a b same = ap id_writes (exact_id a b same)

pub spaces_alike : (a b : Space) → same_space a b ≡ true → space_writes a ≡ space_writes b
spaces_alike a b same = ap space_writes (exact_space a b same)

pub ops_alike : (a b : Op) → same_op a b ≡ true → op_writes a ≡ op_writes b
ops_alike a b same = ap op_writes (exact_op a b same)
