-- The answer and both buffers are those that the method promises.
-- Assumes nothing.
use Rattle.host.proofs.zxndma_grant.Goals as goal

pub returns : goal.returns
returns c =
    c.grant.ensures
