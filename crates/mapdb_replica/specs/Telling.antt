-- A reply tells the result of a call, and nothing else.
use Rattle.std.specs.Prelude.{◌≡◌}

-- there is a result that the call may have, and the reply is the one to it
abbrev pub TellsResult : {A R : Type 0} → (A → R) → R → (A → Type 0) → Type 0
TellsResult {A} reply_to reply IsResult = (result : A) × IsResult result × (reply ≡ reply_to result)
