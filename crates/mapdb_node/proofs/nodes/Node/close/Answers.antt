use Rattle.std.proofs.Common.{◌≡◌, ℕ, List, subst, sym}
use Rattle.std.specs.Prelude.{All, IfOk, IsTrue, Result, Ok, Err}
use Rattle.mapdb_node.specs.Closing.{Closes}
use Rattle.mapdb_replica.specs.Replica.{empty}
use Rattle.mapdb_node.specs.Histories.{AreApart, calls_of, is_seat}
use Rattle.mapdb_node.specs.Journals.{IsBooked, Replays}
use Rattle.mapdb_node.specs.Ledger.{Ledger}
use Rattle.mapdb_node.specs.Seated.{Seated}
use Rattle.mapdb_node.specs.Sharing.{Sharing}
use Rattle.mapdb_node.specs.declared.closing.CloseFault.{CloseFault}
use Rattle.mapdb_node.proofs.nodes.Node.close.Goals as goal

-- the history replays from the empty copy of the processor
replays : (processor : ℕ) (shared : Sharing) (seats : List Seated) (result : Result Ledger CloseFault) → Closes processor shared seats result → IsBooked shared.book
    → IfOk result (λ (history : Ledger). Replays (empty processor) history.entries history.copy)
replays processor shared seats (Ok history) closes booked =
    subst (λ (book : Ledger). Replays (empty processor) book.entries book.copy) (sym closes.0)
    (subst (λ (p : ℕ). Replays (empty p) shared.book.entries shared.book.copy) closes.2.1 booked.0)
replays processor shared seats (Err fault) closes booked = tt

-- no two seats have one number
apart : (processor : ℕ) (shared : Sharing) (seats : List Seated) (result : Result Ledger CloseFault) → Closes processor shared seats result
    → IfOk result (λ (history : Ledger). AreApart seats)
apart processor shared seats (Ok history) closes = closes.1.apart
apart processor shared seats (Err fault) closes = tt

-- each seat's calls stand in the history
calls : (processor : ℕ) (shared : Sharing) (seats : List Seated) (result : Result Ledger CloseFault) → Closes processor shared seats result
    → IfOk result (λ (history : Ledger). All (λ (s : Seated). calls_of s.number 0 history.entries ≡ s.calls) seats)
calls processor shared seats (Ok history) closes =
    subst (λ (book : Ledger). All (λ (s : Seated). calls_of s.number 0 book.entries ≡ s.calls) seats) (sym closes.0) closes.2.0.calls
calls processor shared seats (Err fault) closes = tt

-- each entry of the history is of one of the seats
told : (processor : ℕ) (shared : Sharing) (seats : List Seated) (result : Result Ledger CloseFault) → Closes processor shared seats result
    → IfOk result (λ (history : Ledger). All (λ e. IsTrue (is_seat seats e.seat)) history.entries)
told processor shared seats (Ok history) closes =
    subst (λ (book : Ledger). All (λ e. IsTrue (is_seat seats e.seat)) book.entries) (sym closes.0) closes.2.0.told
told processor shared seats (Err fault) closes = tt

pub returns-clause-replays : goal.returns-clause-replays
returns-clause-replays c =
    subst (λ (p : ℕ). IfOk c.closed.result (λ (history : Ledger). Replays (empty p) history.entries history.copy)) c.self.view_is
    (replays c.self.inside.processor c.into_inner.result c.args.seats.items c.closed.result
    (subst (λ (seats : List Seated). Closes c.self.inside.processor c.into_inner.result seats c.closed.result) c.as_slice.ensures.value c.closed.ensures.closes) c.closed.ensures.booked)

pub returns-clause-apart : goal.returns-clause-apart
returns-clause-apart c =
    apart c.self.inside.processor c.into_inner.result c.args.seats.items c.closed.result
    (subst (λ (seats : List Seated). Closes c.self.inside.processor c.into_inner.result seats c.closed.result) c.as_slice.ensures.value c.closed.ensures.closes)

pub returns-clause-calls : goal.returns-clause-calls
returns-clause-calls c =
    calls c.self.inside.processor c.into_inner.result c.args.seats.items c.closed.result
    (subst (λ (seats : List Seated). Closes c.self.inside.processor c.into_inner.result seats c.closed.result) c.as_slice.ensures.value c.closed.ensures.closes)

pub returns-clause-told : goal.returns-clause-told
returns-clause-told c =
    told c.self.inside.processor c.into_inner.result c.args.seats.items c.closed.result
    (subst (λ (seats : List Seated). Closes c.self.inside.processor c.into_inner.result seats c.closed.result) c.as_slice.ensures.value c.closed.ensures.closes)
