-- The messages of a link.
use Rattle.std.specs.Prelude.{ℕ, ◌+◌, Bool, true, false, ◌≡◌, ◌==◌, ◌&&◌, List, [], ◌∷◌}
use Rattle.std.specs.List.{list_any}
use Rattle.mapdb_facts.specs.declared.operations.Op.{Op}
use Rattle.mapdb_exchange.specs.declared.messages.Message.{Message}
use Rattle.mapdb_exchange.specs.declared.messages.Message.TheVariants.{Batch, Fin}

abbrev pub is_fin : Message → Bool
is_fin (Batch batch) = false
is_fin Fin = true

-- whether Fin is among them
abbrev pub has_fin : List Message → Bool
has_fin messages = list_any is_fin messages

-- the message is Fin, or a batch from one processor to another with this index
abbrev pub is_expected : ℕ → ℕ → ℕ → Message → Bool
is_expected from to index (Batch batch) = (batch.from == from)
    && ((batch.to == to) && (batch.index == index))
is_expected from to index Fin = true

-- nothing stands after Fin
abbrev pub IsFinLast : List Message → Type 0
IsFinLast [] = Unit {0}
IsFinLast (m ∷ ms) = (is_fin m ≡ true → ms ≡ []) × IsFinLast ms

-- batches from one processor to another, numbered from this index on, and then Fin
abbrev pub AreNumbered : ℕ → ℕ → ℕ → List Message → Type 0
AreNumbered from to index [] = ⊥
AreNumbered from to index (Fin ∷ rest) = rest ≡ []
AreNumbered from to index (Batch batch ∷ rest) = (batch.from ≡ from) × (batch.to ≡ to)
    × (batch.index ≡ index) × AreNumbered from to (index + 1) rest

-- batches from one processor to another, numbered from this index on, that lead to the next index
abbrev pub AreBatches : ℕ → ℕ → ℕ → ℕ → List Message → Type 0
AreBatches from to index next [] = next ≡ index
AreBatches from to index next (Fin ∷ rest) = ⊥
AreBatches from to index next (Batch batch ∷ rest) = (batch.from ≡ from) × (batch.to ≡ to)
    × (batch.index ≡ index) × AreBatches from to (index + 1) next rest

abbrev pub batch : ℕ → ℕ → ℕ → List Op → Message
batch from to index ops = Batch (record { from = from; to = to; index = index; ops = ops })
