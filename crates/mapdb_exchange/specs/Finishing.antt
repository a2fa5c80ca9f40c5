-- Which ends an issuing worker leaves.
use Rattle.std.specs.Prelude.{ℕ, ◌≡◌, List, [], ◌∷◌}
use Rattle.mapdb_exchange.specs.Ends.{Link, Outlet, Sending}
use Rattle.mapdb_exchange.specs.Links.{AreNumbered}

-- a link, and the processors between which it carries batches
pub record Sent : Type 0 where
  pub from : ℕ
  pub to : ℕ
  pub link : Link

abbrev pub sent_on : Sending → Sent
sent_on sending = record { from = sending.from; to = sending.to; link = sending.end.link }

-- the ends are those of these links, in order, and each has put the batches of its link, numbered
-- from 0 on, and then Fin
abbrev pub AreFinished : List Sent → List Outlet → Type 0
AreFinished [] [] = Unit {0}
AreFinished [] (o ∷ os) = ⊥
AreFinished (s ∷ ss) [] = ⊥
AreFinished (s ∷ ss) (o ∷ os) = (o.link ≡ s.link) × AreNumbered s.from s.to 0 o.put
    × AreFinished ss os
