-- The answer is the one that the method promises.
-- Assumes nothing.
use Rattle.host.proofs.zxndma_read.Goals as goal

pub returns : goal.returns
returns c =
    c.read.ensures
