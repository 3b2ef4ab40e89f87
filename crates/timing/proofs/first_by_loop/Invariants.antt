-- What is left of the search gives the register that the whole search gives. Left is the number of places.
-- Assumes nothing.
use Rattle.rules.specs.Readback.{seek, chosen}
use Rattle.std.proofs.Common.{◌≡◌}
use Rattle.timing.proofs.first_by_loop.Given as goal

abbrev pub invariant-loop-left : goal.invariant-loop-left
invariant-loop-left l = seek l.left l.mask l.k ≡ chosen l.mask l.position

abbrev pub decreases-loop-left : goal.decreases-loop-left
decreases-loop-left l = l.left
