-- Where the program is, as the theorems see it, in the numbers of the definitions: a program that has stopped is somewhere too,
-- and the code has no state of it.
-- Assumes nothing.
use Rattle.std.specs.Prelude.{ℕ, Bool, false}
use Rattle.session.specs.Steps.{Session, session_at_start}
use Rattle.session.specs.Numbers.{in_numbers, progress_number}
use Rattle.bench.specs.declared.State as code
use Rattle.bench.specs.declared.Worked as code_worked

pub record State : Type 0 where
  pub session : Session
  pub at : ℕ
  pub have : ℕ
  pub ended : Bool
  pub stopped : Bool

-- a session before its first byte, and no byte at hand
abbrev pub state_at_start : State
state_at_start = record { session = session_at_start; at = 0; have = 0; ended = false; stopped = false }

-- the state in code: of a program that goes on
abbrev pub state_of : code.State → State
state_of s = record { session = in_numbers s.session; at = s.at; have = s.have; ended = s.ended; stopped = false }

-- where it is when the bytes at hand are worked through, and the progress of the last step
pub record Worked : Type 0 where
  pub session : Session
  pub at : ℕ
  pub filled : ℕ
  pub progress : ℕ

abbrev pub worked_of : code_worked.Worked → Worked
worked_of w =
    record { session = in_numbers w.session; at = w.at; filled = w.filled; progress = progress_number w.progress }
