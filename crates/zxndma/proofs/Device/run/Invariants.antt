-- What has passed is as many clocks of the definition as are no longer left, and the rest has room; the buffers are behind the
-- references that came. Left are the clocks.
-- Assumes nothing.
use Rattle.rules.specs.Buffers.{flat}
use Rattle.rules.proofs.Turns.{Going}
use Rattle.clocking.specs.Lent.{SameLent}
use Rattle.zxndma.specs.Answers.{lent_system}
use Rattle.zxndma.proofs.Device.run.Given as goal

abbrev pub invariant-loop-progress : goal.invariant-loop-progress
invariant-loop-progress l =
    record {
      going : Going flat (lent_system l.initial.progress.0 l.initial.lent) l.clocks (lent_system l.progress.0 l.lent) l.progress.1.0;
      same : SameLent l.initial.lent l.lent;
    }

abbrev pub decreases-loop-progress : goal.decreases-loop-progress
decreases-loop-progress l = l.progress.1.0
