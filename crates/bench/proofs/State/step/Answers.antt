-- The step is the session's, over the part of the output buffer that is not filled.
-- Assumes nothing.
use Rattle.bench.proofs.Working.{behind_lines}
use Rattle.bench.proofs.State.step.Goals as goal

pub returns : goal.returns
returns c =
    behind_lines _ _ _ _ _ _ _ _ c.requires.1 c.step.ensures
