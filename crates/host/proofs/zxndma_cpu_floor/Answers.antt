-- The answer is the one that the wrapped method promises.
-- Assumes nothing.
use Rattle.host.proofs.zxndma_cpu_floor.Goals as goal

pub returns : goal.returns
returns c =
    c.cpu_floor.ensures
