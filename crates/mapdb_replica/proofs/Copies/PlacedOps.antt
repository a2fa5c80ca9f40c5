-- Operations by their places: a place stands for the same one when more are added, and a part of
-- the places stands for that part of the operations.
use Rattle.std.proofs.Common.{◌≡◌, ℕ, zero, suc, ◌<◌, ◌∙◌, refl, sym, ap, List, [], ◌∷◌, ◌++◌, length, length-append, take, drop, arith}
use Rattle.std.specs.Prelude.{Option, Some, slice_get}
use Rattle.std.specs.List.{cons_option}
use Rattle.std.specs.Option.{option_and_then}
use Rattle.std.proofs.lemmas.List.Elements.{All-head, All-push, All-tail, All-weaker, filter_map-append}
use Rattle.mapdb_facts.specs.declared.operations.Op.{Op}
use Rattle.mapdb_replica.specs.Keeping.{ArePlaces, ops_at}
use Rattle.mapdb_replica.specs.Replica.{Log, with_issued}
use Rattle.mapdb_replica.specs.Taking.{with_taken}

-- an operation stands at a place within the list
stands_at : (ops : List Op) (p : ℕ) → p < length ops → (op : Op) × (slice_get ops p ≡ Some op)
stands_at [] p h = absurd (omega arith)
stands_at (op ∷ ops) zero h = (op, refl)
stands_at (op ∷ ops) (suc p) h = stands_at ops p (omega arith)

place_kept : (ops more : List Op) (p : ℕ) → p < length ops → slice_get (ops ++ more) p ≡ slice_get ops p
place_kept [] more p h = absurd (omega arith)
place_kept (op ∷ ops) more zero h = refl
place_kept (op ∷ ops) more (suc p) h = place_kept ops more p (omega arith)

last_place : (ops : List Op) (op : Op) → slice_get (ops ++ op ∷ []) (length ops) ≡ Some op
last_place [] op = refl
last_place (x ∷ ops) op = last_place ops op

first_within : (ops : List Op) (p : ℕ) (ps : List ℕ) → ArePlaces ops (p ∷ ps) → p < length ops
first_within ops p ps within = All-head (λ (q : ℕ). q < length ops) p ps within

rest_within : (ops : List Op) (p : ℕ) (ps : List ℕ) → ArePlaces ops (p ∷ ps) → ArePlaces ops ps
rest_within ops p ps within = All-tail (λ (q : ℕ). q < length ops) p ps within

-- the first place stands for an operation, before those of the other places
first_at : (ops : List Op) (p : ℕ) (ps : List ℕ) → ArePlaces ops (p ∷ ps) → (op : Op) × (slice_get ops p ≡ Some op) × (ops_at ops (p ∷ ps) ≡ op ∷ ops_at ops ps)
unfolding ops_at
first_at ops p ps within =
    let (op, is) = stands_at ops p (first_within ops p ps within) in
    (op, is, ap (λ (o : Option Op). cons_option o (ops_at ops ps)) is)

-- later operations change no place
pub ops_at-grown : (ops more : List Op) (ps : List ℕ) → ArePlaces ops ps → ops_at (ops ++ more) ps ≡ ops_at ops ps
unfolding ops_at
ops_at-grown ops more [] within = refl
ops_at-grown ops more (p ∷ ps) within =
    ap (λ (o : Option Op). cons_option o (ops_at (ops ++ more) ps)) (place_kept ops more p (first_within ops p ps within))
    ∙ ap (cons_option (slice_get ops p)) (ops_at-grown ops more ps (rest_within ops p ps within))

-- with the place of the operation that is added, it stands behind the others
pub ops_at-put : (ops : List Op) (op : Op) (ps : List ℕ) → ArePlaces ops ps → ops_at (ops ++ op ∷ []) (ps ++ length ops ∷ []) ≡ ops_at ops ps ++ op ∷ []
unfolding ops_at
ops_at-put ops op ps within =
    filter_map-append (slice_get (ops ++ op ∷ [])) ps (length ops ∷ [])
    ∙ ap (λ (xs : List Op). xs ++ ops_at (ops ++ op ∷ []) (length ops ∷ [])) (ops_at-grown ops (op ∷ []) ps within)
    ∙ ap (λ (o : Option Op). ops_at ops ps ++ cons_option o []) (last_place ops op)

-- each place stands for one operation
pub length-ops_at : (ops : List Op) (ps : List ℕ) → ArePlaces ops ps → length (ops_at ops ps) ≡ length ps
unfolding ops_at
length-ops_at ops [] within = refl
length-ops_at ops (p ∷ ps) within =
    ap length (first_at ops p ps within).2 ∙ ap suc (length-ops_at ops ps (rest_within ops p ps within))

pub get-ops_at : (ops : List Op) (ps : List ℕ) (k : ℕ) → ArePlaces ops ps → slice_get (ops_at ops ps) k ≡ option_and_then (slice_get ops) (slice_get ps k)
unfolding ops_at
get-ops_at ops [] k within = refl
get-ops_at ops (p ∷ ps) zero within =
    let (op, is, all) = first_at ops p ps within in
    ap (λ (xs : List Op). slice_get xs 0) all ∙ sym is
get-ops_at ops (p ∷ ps) (suc k) within =
    ap (λ (xs : List Op). slice_get xs (suc k)) (first_at ops p ps within).2 ∙ get-ops_at ops ps k (rest_within ops p ps within)

pub take-ops_at : (ops : List Op) (ps : List ℕ) (n : ℕ) → ArePlaces ops ps → take n (ops_at ops ps) ≡ ops_at ops (take n ps)
unfolding ops_at
take-ops_at ops ps zero within = refl
take-ops_at ops [] (suc n) within = refl
take-ops_at ops (p ∷ ps) (suc n) within =
    let (op, is, all) = first_at ops p ps within in
    ap (take (suc n)) all ∙ ap (λ (xs : List Op). op ∷ xs) (take-ops_at ops ps n (rest_within ops p ps within))
    ∙ sym (ap (λ (o : Option Op). cons_option o (ops_at ops (take n ps))) is)

pub drop-ops_at : (ops : List Op) (ps : List ℕ) (n : ℕ) → ArePlaces ops ps → drop n (ops_at ops ps) ≡ ops_at ops (drop n ps)
unfolding ops_at
drop-ops_at ops ps zero within = refl
drop-ops_at ops [] (suc n) within = refl
drop-ops_at ops (p ∷ ps) (suc n) within =
    ap (drop (suc n)) (first_at ops p ps within).2 ∙ drop-ops_at ops ps n (rest_within ops p ps within)

-- places stay places, and that of the operation that is added is one
pub places-grown : (ops : List Op) (op : Op) (ps : List ℕ) → ArePlaces ops ps → ArePlaces (ops ++ op ∷ []) ps
places-grown ops op ps within =
    let more = length-append ops (op ∷ []) in
    All-weaker (λ (q : ℕ). q < length ops) (λ (q : ℕ). q < length (ops ++ op ∷ [])) (λ q h. omega arith) ps within

pub places-put : (ops : List Op) (op : Op) (ps : List ℕ) → ArePlaces ops ps → ArePlaces (ops ++ op ∷ []) (ps ++ length ops ∷ [])
places-put ops op ps within =
    let more = length-append ops (op ∷ []) in
    All-push (λ (q : ℕ). q < length (ops ++ op ∷ [])) ps (length ops) (places-grown ops op ps within) (omega arith)

-- the copy that keeps these operations, with its own by their places
abbrev log_at : ℕ → List Op → List ℕ → Log
log_at processor ops own = record { processor = processor; ops = ops; own = ops_at ops own }

-- an operation that is taken changes none of its own
pub taken-kept : (processor : ℕ) (ops ops' : List Op) (own : List ℕ) (op : Op) (now : Log)
    → ArePlaces ops own → log_at processor ops own ≡ now → ops' ≡ ops ++ op ∷ [] → log_at processor ops' own ≡ with_taken now (op ∷ [])
taken-kept processor ops ops' own op now within is listed =
    let log : List Op → List Op → Log = λ xs ys. record { processor = processor; ops = xs; own = ys } in
    ap (λ (xs : List Op). log xs (ops_at xs own)) listed
    ∙ ap (log (ops ++ op ∷ [])) (ops_at-grown ops (op ∷ []) own within)
    ∙ ap (λ (l : Log). with_taken l (op ∷ [])) is

-- one that is issued stands behind its own
pub issued-kept : (processor : ℕ) (ops ops' : List Op) (own own' : List ℕ) (op : Op) (now : Log)
    → ArePlaces ops own → log_at processor ops own ≡ now → ops' ≡ ops ++ op ∷ [] → own' ≡ own ++ length ops ∷ [] → log_at processor ops' own' ≡ with_issued now (op ∷ [])
issued-kept processor ops ops' own own' op now within is listed placed =
    let log : List Op → List Op → Log = λ xs ys. record { processor = processor; ops = xs; own = ys } in
    ap (λ (xs : List Op). log xs (ops_at xs own')) listed
    ∙ ap (λ (ps : List ℕ). log (ops ++ op ∷ []) (ops_at (ops ++ op ∷ []) ps)) placed
    ∙ ap (log (ops ++ op ∷ [])) (ops_at-put ops op own within)
    ∙ ap (λ (l : Log). with_issued l (op ∷ [])) is
