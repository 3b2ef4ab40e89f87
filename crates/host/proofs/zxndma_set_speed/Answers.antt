-- The answer is the one that the method promises.
-- Assumes nothing.
use Rattle.host.proofs.zxndma_set_speed.Goals as goal

pub returns : goal.returns
returns c =
    c.set_speed.ensures
