-- Turn follows turn from the start.
-- Assumes nothing.
use Rattle.std.proofs.Common.{arith}
use Rattle.bench.proofs.Turning.{running_start, running_more, running_stop, running_end}
use Rattle.bench.proofs.run.Goals as goal

pub loop-init : goal.loop-init
loop-init g c =
    running_start _ _ c.start-state.ensures

pub returns-in_err-next : goal.returns-in_err-next
returns-in_err-next g c =
    running_stop c.loop.invariant c.turn.ensures.turned (rw c.in_err-next.was at c.turn.ensures.answered)

pub returns-in_default : goal.returns-in_default
returns-in_default g c =
    running_stop c.loop.invariant c.turn.ensures.turned (rw (c.in_ok-next.was, c.in_default.is) at c.turn.ensures.answered)

pub loop-preserved : goal.loop-preserved
loop-preserved g c =
    running_more c.loop.invariant c.turn.ensures.turned (rw (c.in_ok-next.was, c.in-Some.is) at c.turn.ensures.answered)

pub returns : goal.returns
returns g c =
    running_end c.loop.invariant (omega (arith, c.loop-test.false))
