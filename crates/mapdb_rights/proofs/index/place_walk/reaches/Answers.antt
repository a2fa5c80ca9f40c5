use Rattle.std.proofs.Common.{◌+◌, ◌-◌, ◌<◌, ◌^◌, ◌≡◌, ◌≤◌, ◌∙◌, ap, arith, sym, ℕ}
use Rattle.std.proofs.Math.Pow.{pow_mono}
use Rattle.std.proofs.lemmas.Bool.{lt-ltb}
use Rattle.mapdb_lists.specs.OwnPlaces.{own_pages}
use Rattle.mapdb_rights.proofs.index.place_walk.reaches.Goals as goal

at_least : (n m : ℕ) → n ≡ m → (n < 64 → ⊥) → 64 ≤ m
at_least n m same not_below = grind arith

pub returns-in-None : goal.returns-in-None
returns-in-None c =
    let more : 64 ≤ c.args.place.now.order - 12 = at_least c.from-order.result _ (c.from-order.ensures ∙ c.saturating_sub.ensures ∙ ap (λ (o : ℕ). o - 12) c.order.ensures) c.in-None.ensures in
    let all : 2 ^ 64 ≤ 2 ^ (c.args.place.now.order - 12) = pow_mono more in
    sym (lt-ltb c.args.page (c.args.place.now.first + own_pages c.args.place.now) (omega (arith, c.ranges.page.fits)))
