-- A disabled device's clocks, and those of a wait, are as many clocks of the definition; all others are `run`'s.
-- Assumes nothing.
use borrow.Author.Tests.{not-true, not-false}
use Rattle.zxndma.proofs.Turns.{idle_spent, wait_spent}
use Rattle.zxndma.proofs.Device.spend.Goals as goal

pub returns-then-not-self-clause-passed : goal.returns-then-not-self-clause-passed
returns-then-not-self-clause-passed c =
    idle_spent _ _ _ _ _ c.requires (not-true _ c.if-not-self.true) c.idle.ensures

pub returns-in-Some-clause-passed : goal.returns-in-Some-clause-passed
returns-in-Some-clause-passed c =
    wait_spent _ _ _ _ _ c.requires (not-false _ c.if-not-self.false) c.in-Some.ensures c.wait.ensures
