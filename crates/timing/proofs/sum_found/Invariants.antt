-- The sum so far is that of the pairs gone over.
-- Assumes nothing.
use Rattle.std.proofs.Common.{◌≡◌, ◌%◌, ◌^◌, take}
use Rattle.timing.specs.Sums.{sum}
use Rattle.timing.proofs.sum_found.Given as goal

abbrev pub invariant-loop-pair : goal.invariant-loop-pair
invariant-loop-pair g l = l.sum ≡ sum (take l.pair-index l.pairs) % 2 ^ 64
