use Rattle.std.proofs.Common.{◌≡◌, ◌∙◌, ℕ, List, Bool, false, ap, sym, subst}
use Rattle.std.specs.Prelude.{◌↔◌, IsTrue}
use Rattle.std.proofs.lemmas.Bool.{true≢false}
use Rattle.mapdb_replica.specs.Replica.{Log}
use Rattle.mapdb_node.specs.Histories.{AreSeats, AreTold}
use Rattle.mapdb_node.specs.Ledger.{Ledger}
use Rattle.mapdb_node.specs.declared.events.Entry.{Entry}
use Rattle.mapdb_node.proofs.closing.closed.Goals as goal
use Rattle.mapdb_node.proofs.closing.closed.Goals.{then-processor-via-then-processor, then-processor-via-else-processor+then-not-are_told}

-- a test that says no leaves nothing that it tests for
refuted : (P : Type 0) (b : Bool) → (IsTrue b ↔ P) → b ≡ false → P → ⊥
refuted P b is off holds = true≢false (sym (is.1 holds) ∙ off)

-- a copy and entries as a book
abbrev ledger : Log → List Entry → Ledger
ledger copy entries = record { copy = copy; entries = entries }

-- books with the same copies and entries are the same
ledgers_alike : (copy other : Log) (entries more : List Entry) → copy ≡ other → entries ≡ more → ledger copy entries ≡ ledger other more
ledgers_alike copy other entries more alike same =
    ap (λ (l : Log). ledger l entries) alike ∙ ap (λ (es : List Entry). ledger other es) same

pub returns-then-not-are_given-clause-closes : goal.returns-then-not-are_given-clause-closes
returns-then-not-are_given-clause-closes c = (
  c.into_parts-entries.ensures.copy ∙ ap (λ (b : Ledger). b.copy) c.into_parts-book.ensures.book,
  λ seats. refuted _ c.are_given.result c.are_given.ensures c.if-not-are_given.true
      (subst (λ (n : ℕ). AreSeats n c.args.seats.now) (sym c.into_parts-book.ensures.seats) seats),
)

pub returns-then-processor-clause-closes : goal.returns-then-processor-clause-closes
returns-then-processor-clause-closes c =
    let copy = c.into_parts-entries.ensures.copy ∙ ap (λ (b : Ledger). b.copy) c.into_parts-book.ensures.book in
    let entries = c.into_parts-entries.ensures.journal ∙ ap (λ (b : Ledger). b.entries) c.into_parts-book.ensures.book in (
      copy,
      subst (λ (n : ℕ). AreSeats n c.args.seats.now) c.into_parts-book.ensures.seats (c.are_given.ensures.0 c.if-not-are_given.false),
      λ history. elim c.then-processor.branch [
        | then-processor-via-then-processor w ↦
            w.if-processor.true (c.processor.ensures.processor ∙ ap (λ (l : Log). l.processor) copy ∙ history.1)
        | then-processor-via-else-processor+then-not-are_told w ↦
            refuted _ w.are_told.result w.are_told.ensures w.if-not-are_told.true
            (subst (λ (es : List Entry). AreTold es c.args.seats.now) (sym (w.as_slice.ensures.value ∙ entries)) history.0)
      ],
    )

pub returns-clause-closes : goal.returns-clause-closes
returns-clause-closes c =
    let copy = c.into_parts-entries.ensures.copy ∙ ap (λ (b : Ledger). b.copy) c.into_parts-book.ensures.book in
    let entries = c.into_parts-entries.ensures.journal ∙ ap (λ (b : Ledger). b.entries) c.into_parts-book.ensures.book in (
      ledgers_alike _ _ _ _ copy entries,
      subst (λ (n : ℕ). AreSeats n c.args.seats.now) c.into_parts-book.ensures.seats (c.are_given.ensures.0 c.if-not-are_given.false),
      (
        subst (λ (es : List Entry). AreTold es c.args.seats.now) (c.as_slice.ensures.value ∙ entries) (c.are_told.ensures.0 c.if-not-are_told.false),
        sym (ap (λ (l : Log). l.processor) copy) ∙ sym c.processor.ensures.processor ∙ c.if-processor.false,
      ),
    )
