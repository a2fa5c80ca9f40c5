-- What the ends of a link are.
use Rattle.std.specs.Prelude.{ℕ, List}
use Rattle.atomic_table.specs.Seated.{TableId}
use Rattle.atomic_table.specs.declared.badge.Badge.{Badge}
use Rattle.crossbeam_channel.specs.declared.flavors.array.Key.{Key}
use Rattle.mapdb_exchange.specs.declared.messages.Message.{Message}

-- which link it is
pub record Link : Type 0 where
  pub table : TableId
  pub key : Badge (Key Message)

-- the end that puts: its link, and what was put
pub record Outlet : Type 0 where
  pub link : Link
  pub put : List Message

-- the end that receives: its link, and what was received
pub record Inlet : Type 0 where
  pub link : Link
  pub received : List Message

-- an end that puts the batches of one processor for another, with the index of the next batch
pub record Sending : Type 0 where
  pub from : ℕ
  pub to : ℕ
  pub next : ℕ
  pub end : Outlet
