-- The bytes copied to the front are those not taken.
-- Assumes nothing.
use Rattle.bench.proofs.Buffered.{keeping}
use Rattle.bench.proofs.keep.Goals as goal

pub returns : goal.returns
returns c =
    keeping _ _ _ c.requires _ _ c.min-start.ensures c.copy_within.ensures.after
