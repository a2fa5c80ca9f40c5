-- Links that are finished one after the other, and links that carry one batch more.
use Rattle.std.proofs.Common.{◌≡◌, ◌<◌, ℕ, zero, suc, List, [], ◌∷◌, ◌++◌, length, map, set, get_or, ap, arith}
use Rattle.mapdb_exchange.specs.Ends.{Outlet, Sending}
use Rattle.mapdb_exchange.specs.Finishing.{AreFinished, Sent, sent_on}
use Rattle.mapdb_exchange.specs.Links.{AreNumbered}

-- one link more
pub finished_put : (ss : List Sent) (os : List Outlet) (s : Sent) (o : Outlet) → AreFinished ss os → o.link ≡ s.link → AreNumbered s.from s.to 0 o.put
    → AreFinished (ss ++ s ∷ []) (os ++ o ∷ [])
finished_put [] [] s o h link put = (link, put, tt)
finished_put [] (p ∷ os) s o h link put = absurd h
finished_put (r ∷ ss) [] s o h link put = absurd h
finished_put (r ∷ ss) (p ∷ os) s o h link put = (h.0, h.1, finished_put ss os s o h.2 link put)

-- the parts of a link tell which it is
pub same_sent : (a b : Sending) → a.from ≡ b.from → a.to ≡ b.to → a.end.link ≡ b.end.link → sent_on a ≡ sent_on b
same_sent a b from to link = λ i. record { from = from i; to = to i; link = link i }

-- a link that carries one batch more is of the same processors
pub same_links : (xs : List Sending) (at : ℕ) (x d : Sending) → at < length xs → sent_on x ≡ sent_on (get_or xs at d) → map sent_on (set xs at x) ≡ map sent_on xs
same_links [] at x d within same = absurd (omega arith)
same_links (y ∷ xs) zero x d within same = ap (λ (s : Sent). s ∷ map sent_on xs) same
same_links (y ∷ xs) (suc at) x d within same = ap (λ (ss : List Sent). sent_on y ∷ ss) (same_links xs at x d (omega arith) same)
