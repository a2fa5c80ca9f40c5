-- The rule of a link's channel.
use Rattle.std.specs.Prelude.{◌≡◌, ℕ, Bool, true, List, ◌++◌}
use mathlib.Core.Option.{some}
use lib.ListN.{get_elem?}
use Rattle.mapdb_exchange.specs.declared.messages.Message.{Message}
use Rattle.mapdb_exchange.specs.declared.rules.PassView.{PassView}

abbrev pub pass_view : Bool → Bool → List Message → List Message → PassView
pass_view sends receives put received = record {
  sends = sends;
  receives = receives;
  put = put;
  received = received;
}

-- only the pass of the sender may put, and it has all that was put; the same of the receiver and
-- what was received
abbrev pub FitsPasses : ℕ → ℕ → List Message → List Message → ℕ → PassView → Type 0
FitsPasses sender receiver put received pass v =
    (v.sends ≡ true → (pass ≡ sender) × (v.put ≡ put))
    × (v.receives ≡ true → (pass ≡ receiver) × (v.received ≡ received))

-- what was put is what was received, followed by what the channel holds; each pass fits
abbrev pub Carries : List Message → List PassView → Type 0
Carries items views =
    (sender : ℕ) × (receiver : ℕ) × (put : List Message) × (received : List Message)
    × (put ≡ received ++ items)
    × ((pass : ℕ) (v : PassView) → get_elem? views pass ≡ some v
    → FitsPasses sender receiver put received pass v)
