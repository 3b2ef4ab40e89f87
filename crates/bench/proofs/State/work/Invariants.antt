-- The steps so far and those to come are all the steps over the bytes at hand. Left are the bytes that are not taken.
-- Assumes nothing.
use Prim.Native.Nat.{◌-◌, ◌≤◌}
use mathlib.Core.Path.{◌≡◌}
use lib.ListN.{length, take}
use Rattle.session.specs.Numbers.{in_numbers}
use Rattle.bench.proofs.Working.{Going}
use Rattle.bench.proofs.State.work.Given as goal

abbrev pub invariant-loop-state : goal.invariant-loop-state
invariant-loop-state l =
    record {
      fits : l.state.have ≤ length l.input;
      have : l.state.have ≡ l.fn.self.have;
      ended : l.state.ended ≡ l.fn.self.ended;
      going : Going (take l.state.have l.input) l.state.ended (in_numbers l.fn.self.session) l.fn.self.at l.initial.output l.initial.memory l.initial.latches l.output l.memory l.latches (in_numbers l.state.session) l.state.at l.filled 0;
    }

abbrev pub decreases-loop-state : goal.decreases-loop-state
decreases-loop-state l = length (take l.state.have l.input) - l.state.at
