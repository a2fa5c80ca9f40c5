-- A list that is being written: its values stand in the text one behind the other, and its closing
-- bracket does not yet.
use Rattle.std.specs.Prelude.{ℕ, List, ◌++◌, Bool}
use Rattle.serde_json.specs.Data.{Data}
use Rattle.serde_json.specs.View.{items_of}
use Rattle.serde_json.specs.Written.{items_text}

-- The text, once these values stand in the open list at its end, and the list is closed. The first
-- of them comes behind a comma, where the list has values before.
abbrev pub closed_with : List ℕ → Bool → List Data → List ℕ
closed_with text later values = text ++ items_text later (items_of values)
