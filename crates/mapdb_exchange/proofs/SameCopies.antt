-- Where each processor took what the others issued, each copy holds what all issued.
use Rattle.std.proofs.Common.{◌≡◌, ◌≢◌, ◌<◌, ◌≤◌, ◌+◌, ℕ, zero, suc, Bool, true, false, ◌==◌, List, [], ◌∷◌, ◌⊎◌, ⊎_elim, inl, inr, length, drop, get_or, refl, sym, ap, ◌∙◌, subst, arith, length-drop}
use Rattle.std.specs.Prelude.{slice_index, nat_lt, eqb}
use Rattle.std.specs.List.{list_any, list_all}
use Rattle.std.proofs.lemmas.List.{get_or-drop, get_or_default}
use Rattle.std.proofs.lemmas.List.Folds.{Any-from_list_any}
use Rattle.std.proofs.lemmas.Bool.{and_parts, eqb-true, eq-eqb}
use Rattle.std.proofs.lemmas.Bool.Decides.{nat_tests, eqb_tells}
use Rattle.mapdb_facts.specs.State.{Atom, HasAtom}
use Rattle.mapdb_facts.specs.declared.operations.Op.{Op}
use Rattle.mapdb_replica.specs.Replica.{empty}
use Rattle.mapdb_replica.specs.declared.commands.Command.{Command}
use Rattle.mapdb_node.specs.declared.events.Entry.{Entry}
use Rattle.mapdb_node.specs.declared.events.NodeEvent.{NodeEvent}
use Rattle.mapdb_node.specs.declared.events.NodeEvent.TheVariants.{Issue, OwnAt, Served, Take}
use Rattle.mapdb_node.specs.declared.events.NodeReply.{NodeReply}
use Rattle.mapdb_exchange.specs.declared.reports.Part.{Part}
use Rattle.mapdb_exchange.specs.Reports.{with_take, takes_of, is_heard, was_taken, hearer_place, IsPartOfReport, AreParts, IsIssuedByOne, HoldSame}
use Rattle.mapdb_exchange.proofs.Replaying.{taken_of, Gathers, replay_gathers}

-- an operation with the atom was taken at one of the seats
abbrev Took : List ℕ → List Entry → Atom → Type 0
Took seats es atom = (s : ℕ) × (list_any (λ z. z == s) seats ≡ true) × HasAtom (takes_of s es) atom

-- an entry more at the front takes nothing away
more_takes : (atom : Atom) (b : Bool) (e : NodeEvent) (ys : List Op) → HasAtom ys atom → HasAtom (with_take b e ys) atom
more_takes atom true (Take op) ys h = inr h
more_takes atom true (Issue command) ys h = h
more_takes atom true (Served space page) ys h = h
more_takes atom true (OwnAt place) ys h = h
more_takes atom false e ys h = h

-- what one entry puts before others
first_takes : (atom : Atom) (e : NodeEvent) (xs : List Op) → HasAtom (with_take true e xs) atom → HasAtom xs atom ⊎ HasAtom (with_take true e []) atom
first_takes atom (Take op) xs (inl gives) = inr (inl gives)
first_takes atom (Take op) xs (inr h) = inl h
first_takes atom (Issue command) xs h = inl h
first_takes atom (Served space page) xs h = inl h
first_takes atom (OwnAt place) xs h = inl h

only_take : (atom : Atom) (e : NodeEvent) (ys : List Op) → HasAtom (with_take true e []) atom → HasAtom (with_take true e ys) atom
only_take atom (Take op) ys (inl gives) = inl gives
only_take atom (Take op) ys (inr none) = absurd none
only_take atom (Issue command) ys h = absurd h
only_take atom (Served space page) ys h = absurd h
only_take atom (OwnAt place) ys h = absurd h

heard_seat : (seats : List ℕ) (seat : ℕ) (e : NodeEvent) (r : NodeReply) (atom : Atom) → is_heard seats seat e r ≡ true → HasAtom (with_take true e []) atom → list_any (λ z. z == seat) seats ≡ true
heard_seat seats seat (Take op) r atom heard h = (and_parts (was_taken r) (list_any (λ z. z == seat) seats) heard).1
heard_seat seats seat (Issue command) r atom heard h = absurd h
heard_seat seats seat (Served space page) r atom heard h = absurd h
heard_seat seats seat (OwnAt place) r atom heard h = absurd h

-- what was taken in all was taken at a seat
taken_by : (seats : List ℕ) (es : List Entry) (xs : List Op) (atom : Atom) → list_all (λ (e : Entry). is_heard seats e.seat e.event e.reply) es ≡ true → HasAtom (taken_of es xs) atom → HasAtom xs atom ⊎ Took seats es atom
taken_by seats [] xs atom heard h = inl h
taken_by seats (e ∷ es) xs atom heard h =
    let p = and_parts (is_heard seats e.seat e.event e.reply) (list_all (λ (f : Entry). is_heard seats f.seat f.event f.reply) es) heard in
    let Goal : Type 0 = HasAtom xs atom ⊎ Took seats (e ∷ es) atom in
    let here : HasAtom (with_take true e.event []) atom → Goal = λ q.
    inr (
      e.seat,
      heard_seat seats e.seat e.event e.reply atom p.0 q,
      subst (λ (b : Bool). HasAtom (with_take b e.event (takes_of e.seat es)) atom) (sym (eq-eqb e.seat e.seat refl)) (only_take atom e.event (takes_of e.seat es) q),
    ) in
    let later : Took seats es atom → Goal = λ t. inr (t.0, t.1, more_takes atom (e.seat == t.0) e.event (takes_of t.0 es) t.2) in
    ⊎_elim (λ q. ⊎_elim (λ (r : HasAtom xs atom). inl r) here (first_takes atom e.event xs q)) later (taken_by seats es (with_take true e.event xs) atom p.1 h)

old_taken : (es : List Entry) (xs : List Op) (atom : Atom) → HasAtom xs atom → HasAtom (taken_of es xs) atom
old_taken [] xs atom h = h
old_taken (e ∷ es) xs atom h = old_taken es (with_take true e.event xs) atom (more_takes atom true e.event xs h)

take_split : (atom : Atom) (b : Bool) (e : NodeEvent) (xs ys : List Op) → HasAtom (with_take b e ys) atom → HasAtom (with_take true e xs) atom ⊎ HasAtom ys atom
take_split atom true e xs ys h = ⊎_elim inr (λ q. inl (only_take atom e xs q)) (first_takes atom e ys h)
take_split atom false e xs ys h = inr h

-- what was taken at a seat was taken in all
taken_whole : (s : ℕ) (es : List Entry) (xs : List Op) (atom : Atom) → HasAtom (takes_of s es) atom → HasAtom (taken_of es xs) atom
taken_whole s [] xs atom h = absurd h
taken_whole s (e ∷ es) xs atom h =
    ⊎_elim (λ q. old_taken es (with_take true e.event xs) atom q) (λ q. taken_whole s es (with_take true e.event xs) atom q) (take_split atom (e.seat == s) e.event xs (takes_of s es) h)

-- the processor that the seat at a place hears
heard_at : (k j n : ℕ) → k < n → j + 1 < n → (q : ℕ) × (q < n) × (q ≢ k) × (hearer_place k q ≡ j + 1)
heard_at k j n within inside = by_test (nat_lt j k) refl
  where
    by_test : (b : Bool) → nat_lt j k ≡ b → (q : ℕ) × (q < n) × (q ≢ k) × (hearer_place k q ≡ j + 1)
    by_test true is = (j, omega arith, (let l : j < k = grind (arith, nat_tests) in λ e. omega arith), (rw is refl))
    by_test false is =
        let l : k ≤ j = grind (arith, nat_tests) in
        let no : nat_lt (j + 1) k ≡ false = grind (arith, nat_tests) in
        (j + 1, inside, (λ e. omega arith), rw no refl)

seat_same : (xs : List ℕ) (i j d s : ℕ) → i ≡ j → j < length xs → get_or xs j d ≡ s → slice_index xs i ≡ s
seat_same xs i j d s same inside e = ap (slice_index xs) same ∙ get_or_default xs j 0 d inside ∙ e

-- what the processor at a place issued was issued
issued_at : (parts : List Part) (k : ℕ) (d : Part) (atom : Atom) → k < length parts → HasAtom (get_or parts k d).history.copy.own atom → IsIssuedByOne atom parts
issued_at [] k d atom within h = absurd (omega arith)
issued_at (p ∷ ps) zero d atom within h = inl h
issued_at (p ∷ ps) (suc k) d atom within h = inr (issued_at ps k d atom (omega arith) h)

-- who issued it
issuer_of : (parts : List Part) (d : Part) (atom : Atom) → IsIssuedByOne atom parts → (k : ℕ) × (k < length parts) × HasAtom (get_or parts k d).history.copy.own atom
issuer_of [] d atom none = absurd none
issuer_of (p ∷ ps) d atom (inl h) = (0, omega arith, h)
issuer_of (p ∷ ps) d atom (inr later) = let at = issuer_of ps d atom later in (suc at.0, omega (arith, at.1), at.2)

-- what a processor took of another stands in what the other issued
forth : (scripts : List (List Command)) (parts : List Part) → AreParts scripts parts → (k : ℕ) (d : Part) → k < length parts → (atom : Atom)
    → Took (drop 1 (get_or parts k d).seats.items) (get_or parts k d).history.entries atom → IsIssuedByOne atom parts
forth scripts parts all k d within atom t =
    let p : Part = get_or parts k d in
    let is : IsPartOfReport parts k (get_or scripts k []) p = all.each k d within in
    let at = Any-from_list_any (λ z. z == t.0) (drop 1 p.seats.items) t.1 in
    let here : get_or (drop 1 p.seats.items) at.0 at.1 ≡ t.0 = at.3 ∙ eqb-true at.1 t.0 at.4 in
    let n : length p.seats.items ≡ length parts = is.seats in
    let inside : at.0 + 1 < length parts = omega (arith, n, at.2, length-drop 1 p.seats.items) in
    let heard = heard_at k at.0 (length parts) within inside in
    let moved : get_or p.seats.items (1 + at.0) at.1 ≡ t.0 = sym (get_or-drop 1 p.seats.items at.0 at.1) ∙ here in
    let seat : slice_index p.seats.items (hearer_place k heard.0) ≡ t.0 = seat_same p.seats.items (hearer_place k heard.0) (1 + at.0) at.1 t.0 (heard.3 ∙ omega arith) (omega (arith, n, inside)) moved in
    let own : takes_of t.0 p.history.entries ≡ (get_or parts heard.0 d).history.copy.own = ap (λ s. takes_of s p.history.entries) (sym seat) ∙ is.takes heard.0 d heard.1 heard.2 in
    issued_at parts heard.0 d atom heard.1 (subst (λ (l : List Op). HasAtom l atom) own t.2)

-- what was issued was issued here or taken here
back : (scripts : List (List Command)) (parts : List Part) → AreParts scripts parts → (k : ℕ) (d : Part) → k < length parts → (atom : Atom)
    → IsIssuedByOne atom parts → HasAtom (get_or parts k d).history.copy.own atom ⊎ HasAtom (taken_of (get_or parts k d).history.entries []) atom
back scripts parts all k d within atom h =
    let p : Part = get_or parts k d in
    let is : IsPartOfReport parts k (get_or scripts k []) p = all.each k d within in
    let at = issuer_of parts d atom h in
    ⊎_elim
    (λ (same : (eqb at.0 k ≡ true) × (at.0 ≡ k)). inl (subst (λ (j : ℕ). HasAtom (get_or parts j d).history.copy.own atom) same.1 at.2))
    (λ (other : (eqb at.0 k ≡ false) × (at.0 ≢ k)). inr (taken_whole _ p.history.entries [] atom (subst (λ (l : List Op). HasAtom l atom) (sym (is.takes at.0 d at.1 other.1)) at.2)))
    (eqb_tells at.0 k)

nothing_yet : (processor : ℕ) → Gathers (empty processor) []
nothing_yet processor atom = (λ h. absurd h, λ h. ⊎_elim (λ own. own) (λ taken. taken) h)

pub same_copies : (scripts : List (List Command)) (parts : List Part) → AreParts scripts parts → HoldSame parts
same_copies scripts parts all k d within atom =
    let p : Part = get_or parts k d in
    let is : IsPartOfReport parts k (get_or scripts k []) p = all.each k d within in
    let gathers : Gathers p.history.copy (taken_of p.history.entries []) = replay_gathers (drop 1 p.seats.items) (empty p.history.copy.processor) p.history.entries p.history.copy [] is.replays is.only (nothing_yet p.history.copy.processor) in (
      (λ h. ⊎_elim
          (λ (mine : HasAtom p.history.copy.own atom). issued_at parts k d atom within mine)
          (λ (taken : HasAtom (taken_of p.history.entries []) atom). ⊎_elim (λ (none : HasAtom [] atom). absurd none) (forth scripts parts all k d within atom) (taken_by (drop 1 p.seats.items) p.history.entries [] atom is.only taken))
          ((gathers atom).0 h)),
      λ h. (gathers atom).1 (back scripts parts all k d within atom h),
    )
