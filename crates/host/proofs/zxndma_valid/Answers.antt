-- The answer is the one that the wrapped test promises.
-- Assumes nothing.
use Rattle.host.proofs.zxndma_valid.Goals as goal

pub returns : goal.returns
returns c =
    c.is_valid.ensures
