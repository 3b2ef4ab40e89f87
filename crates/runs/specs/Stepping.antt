-- A session read by steps, with all of its bytes at hand.
-- Assumes nothing.
use Rattle.std.specs.Prelude.{ℕ, zero, suc, ◌≤◌, ◌≡◌, true, List, [], ◌++◌, eqb, length, take}
use Rattle.rules.specs.Choice.{pick}
use Rattle.rules.specs.Buffers.{Buffers}
use Rattle.rules.specs.World.{System}
use Rattle.lines.specs.Lines.{room}
use Rattle.session.specs.Steps.{Session, is_over, Outcome, session_at_start, system_with, step_of}
use Rattle.runs.specs.Sessions.{Ended, start, session}

-- what a session comes to with these lines; and with a line in front
abbrev pub ended_by : List ℕ → ℕ → System (List ℕ) → Ended
ended_by line fault s = record { lines = line; fault = fault; system = s }

abbrev pub line_before : List ℕ → Ended → Ended
line_before line e = record { lines = line ++ e.lines; fault = e.fault; system = e.system }

-- the line that a step wrote
abbrev pub line_in : Outcome → List ℕ
line_in o = take o.said.step.length o.said.line

-- device and buffers after a step
abbrev pub system_in : Outcome → System (List ℕ)
system_in o = system_with o.said.step.session.device o.buffers

-- steps with all bytes at hand, at most so many, until the session is over; `out` is the slice for the lines
unfoldable pub steps_from : ℕ → Session → List ℕ → ℕ → List ℕ → Buffers (List ℕ) → Ended
steps_from zero s xs p out b = ended_by [] 0 (system_with s.device b)
steps_from (suc most) s xs p out b =
    let o : Outcome = step_of s xs p true out b in
    pick (eqb o.said.step.progress is_over) (ended_by (line_in o) o.said.step.fault (system_in o))
    (line_before (line_in o)
    (steps_from most o.said.step.session xs o.said.step.next o.said.line o.buffers))

-- a session read by steps, with any slice that has room for a line, is the session: its lines, its fault, device and
-- buffers
abbrev pub StepsRead : List ℕ → Type 0
StepsRead xs =
    (out : List ℕ)
    → room ≤ length out
    → steps_from (suc (suc (suc (length xs)))) session_at_start xs 0 out start.world.buffers ≡ session xs
