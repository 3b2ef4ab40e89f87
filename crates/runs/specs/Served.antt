-- A session never answers 1, 4, 5 or 7: its device is valid, its buffers have their length, and it sets no speed.
-- Assumes nothing.
use Rattle.std.specs.Prelude.{ℕ, List}
use Rattle.rules.specs.Bytes.{AreBytes}
use Rattle.rules.specs.Reached.{NoneIs}
use Rattle.runs.specs.Sessions.{run_of}

-- of a session's calls: none is refused for the device, none for the memory, none for the latches, none for a speed
pub record Served (xs : List ℕ) : Type 0 where
  pub device : NoneIs 1 (run_of xs).answers
  pub memory : NoneIs 4 (run_of xs).answers
  pub latches : NoneIs 5 (run_of xs).answers
  pub speed : NoneIs 7 (run_of xs).answers

-- of every list of bytes
abbrev pub EverySessionServed : Type 0
EverySessionServed = (xs : List ℕ) → AreBytes xs → Served xs
