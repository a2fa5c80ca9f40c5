use Rattle.std.proofs.Common.{◌-◌, length}
use Rattle.mapdb_rights.specs.PlaceWalks.{HasCome}
use Rattle.mapdb_rights.proofs.index.place_walk.PlaceWalk.enter.Given as goal

abbrev pub invariant-places : goal.invariant-places
invariant-places l = HasCome l.places l.page l.self

abbrev pub decreases-places : goal.decreases-places
decreases-places l = length l.places - l.self.begun
