-- Batches of a link, with one message more.
use Rattle.std.proofs.Common.{◌≡◌, ◌+◌, ◌∙◌, ℕ, List, [], ◌∷◌, ◌++◌, refl, ap}
use Rattle.mapdb_exchange.specs.Links.{AreBatches, AreNumbered}
use Rattle.mapdb_exchange.specs.declared.messages.Batch.{Batch as BatchOf}
use Rattle.mapdb_exchange.specs.declared.messages.Message.{Message}
use Rattle.mapdb_exchange.specs.declared.messages.Message.TheVariants.{Batch, Fin}

-- a batch of the next index
pub batches_put : (from to index next : ℕ) (ms : List Message) (b : BatchOf) → AreBatches from to index next ms → b.from ≡ from → b.to ≡ to → b.index ≡ next
    → AreBatches from to index (next + 1) (ms ++ Batch b ∷ [])
batches_put from to index next [] b h f t i = (f, t, i ∙ h, ap (λ (n : ℕ). n + 1) h)
batches_put from to index next (Fin ∷ ms) b h f t i = absurd h
batches_put from to index next (Batch c ∷ ms) b h f t i = (h.0, h.1, h.2, batches_put from to (index + 1) next ms b h.3 f t i)

-- Fin
pub fin_put : (from to index next : ℕ) (ms : List Message) → AreBatches from to index next ms → AreNumbered from to index (ms ++ Fin ∷ [])
fin_put from to index next [] h = refl
fin_put from to index next (Fin ∷ ms) h = absurd h
fin_put from to index next (Batch c ∷ ms) h = (h.0, h.1, h.2, fin_put from to (index + 1) next ms h.3)
