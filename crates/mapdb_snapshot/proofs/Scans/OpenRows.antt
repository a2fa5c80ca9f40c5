-- A list of rows that is scanned: rows stand before the place, and the list is not closed yet.
use Rattle.std.proofs.Common.{◌≡◌, ℕ, ◌∙◌, refl, sym, ap, Bool, true, List, [], ◌∷◌, ◌++◌, map, append_assoc, append-nil}
use Rattle.serde_json.specs.Data.{Data}
use Rattle.serde_json.specs.View.{items_of}
use Rattle.serde_json.specs.Written.{comma_if, compact_text, items_text}
use Rattle.mapdb_snapshot.specs.Snapshot.{list_of}

-- Of a text that starts with a list, these rows are scanned, and the rest is here. Whatever rows
-- and closing bracket stand here, the list has them behind these rows.
abbrev pub OpensWith : {X : Type 0} → (X → Data) → List X → Bool → List ℕ → List ℕ → Type 0
OpensWith write xs later start here =
    (rows : List Data) (rest : List ℕ) → here ≡ items_text later (items_of rows) ++ rest → start ≡ compact_text (list_of (map write xs ++ rows)) ++ rest

rows_with : {X : Type 0} (write : X → Data) (xs : List X) (x : X) (rows : List Data) → map write xs ++ (write x ∷ rows) ≡ map write (xs ++ (x ∷ [])) ++ rows
rows_with write [] x rows = refl
rows_with write (y ∷ ys) x rows = ap (λ ds. write y ∷ ds) (rows_with write ys x rows)

-- one row more is scanned
pub row_scanned : {X : Type 0} (write : X → Data) (xs : List X) (x : X) (later : Bool) (start before between behind : List ℕ)
    → OpensWith write xs later start before → before ≡ comma_if later ++ between → between ≡ compact_text (write x) ++ behind
    → OpensWith write (xs ++ (x ∷ [])) true start behind
row_scanned write xs x later start before between behind opens comma row rows rest closes =
    let tail : behind ≡ items_text true (items_of rows) ++ rest = closes in
    let text : before ≡ (comma_if later ++ (compact_text (write x) ++ items_text true (items_of rows))) ++ rest =
    comma ∙ ap (λ t. comma_if later ++ t) (row ∙ ap (λ t. compact_text (write x) ++ t) tail ∙ sym (append_assoc (compact_text (write x)) (items_text true (items_of rows)) rest))
    ∙ sym (append_assoc (comma_if later) (compact_text (write x) ++ items_text true (items_of rows)) rest) in
    opens (write x ∷ rows) rest text ∙ ap (λ (ds : List Data). compact_text (list_of ds) ++ rest) (rows_with write xs x rows)

-- the list is closed
pub rows_closed : {X : Type 0} (write : X → Data) (xs : List X) (later : Bool) (start before behind : List ℕ)
    → OpensWith write xs later start before → before ≡ 93 ∷ behind → start ≡ compact_text (list_of (map write xs)) ++ behind
rows_closed write xs later start before behind opens closes =
    opens [] behind closes ∙ ap (λ (ds : List Data). compact_text (list_of ds) ++ behind) (append-nil (map write xs))
