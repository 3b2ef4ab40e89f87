-- As many turns from the start as were counted led here.
-- Assumes nothing.
use Rattle.clocking.specs.Answers.{borrowed}
use Rattle.bench.proofs.Turning.{Running}
use Rattle.bench.proofs.run.Given as goal

abbrev pub invariant-loop : goal.invariant-loop
invariant-loop g l =
    Running (borrowed l.initial.memory l.initial.latches) l.input l.output l.memory l.latches l.state l.counter
