-- The steps over the bytes at hand, one after the other, and the lines that they write.
-- Assumes nothing.
use Rattle.std.specs.Prelude.{ℕ, zero, suc, ◌+◌, ◌≡◌, Bool, List, ◌++◌, eqb, length, take, drop}
use Rattle.rules.specs.Choice.{pick}
use Rattle.rules.specs.Buffers.{Buffers}
use Rattle.session.specs.Steps.{Session, goes_on, Outcome, step_of}
use Rattle.runs.specs.Stepping.{line_in}
use Rattle.bench.specs.Buffered.{at_hand}
use Rattle.bench.specs.State.{State, Worked}

-- a step whose line goes behind the lines that have gathered: what lies before stays
unfoldable pub step_behind : ℕ → Session → List ℕ → ℕ → Bool → List ℕ → Buffers (List ℕ) → Outcome
step_behind filled s xs p ended out b =
    let o : Outcome = step_of s xs p ended (drop filled out) b in
    record { said = record { step = o.said.step; line = take filled out ++ o.said.line }; buffers = o.buffers }

-- what steps come to: the last one's progress, session and next place; the lines of all, in order; what of the slice for
-- them is left; both buffers
pub record Gathered : Type 0 where
  pub progress : ℕ
  pub session : Session
  pub next : ℕ
  pub lines : List ℕ
  pub unused : List ℕ
  pub buffers : Buffers (List ℕ)

-- the slice behind a step's line
abbrev pub behind_line : Outcome → List ℕ
behind_line o = drop o.said.step.length o.said.line

-- one step, and no more
abbrev pub gathered_once : Outcome → Gathered
gathered_once o =
    record {
      progress = o.said.step.progress;
      session = o.said.step.session;
      next = o.said.step.next;
      lines = line_in o;
      unused = behind_line o;
      buffers = o.buffers;
    }

-- what steps come to, with lines before theirs
abbrev pub lines_before : List ℕ → Gathered → Gathered
lines_before line g =
    record {
      progress = g.progress;
      session = g.session;
      next = g.next;
      lines = line ++ g.lines;
      unused = g.unused;
      buffers = g.buffers;
    }

-- steps from place p of the bytes at hand, each with the slice behind the line of the one before, up to the first that does
-- not go on: it needs more bytes, the session is over, or the slice is too short for a line. One step, and at most so many
-- after it
unfoldable pub gathered_from : ℕ → Session → List ℕ → ℕ → Bool → List ℕ → Buffers (List ℕ) → Gathered
gathered_from zero s xs p ended out b = gathered_once (step_of s xs p ended out b)
gathered_from (suc most) s xs p ended out b =
    let o : Outcome = step_of s xs p ended out b in
    pick (eqb o.said.step.progress goes_on)
    (lines_before (line_in o) (gathered_from most o.said.step.session xs o.said.step.next ended (behind_line o) o.buffers))
    (gathered_once o)

-- a step that goes on takes bytes, so that none is left out where as many are allowed as there are bytes
abbrev pub gathered : Session → List ℕ → ℕ → Bool → List ℕ → Buffers (List ℕ) → Gathered
gathered s xs p ended out b = gathered_from (length xs) s xs p ended out b

-- no step is left out: the last one does not go on, and to allow for more changes nothing
pub record AllGathered (s : Session) (xs : List ℕ) (p : ℕ) (ended : Bool) (out : List ℕ) (b : Buffers (List ℕ)) : Type 0 where
  pub stops : (gathered s xs p ended out b).progress ≡ goes_on → ⊥
  pub more : (n : ℕ) → gathered_from (n + length xs) s xs p ended out b ≡ gathered s xs p ended out b

-- from where the program is, with its input and its output buffer
abbrev pub gathered_in : State → List ℕ → List ℕ → Buffers (List ℕ) → Gathered
gathered_in s input output b = gathered s.session (at_hand s.have input) s.at s.ended output b

-- where it is, in the numbers of the definitions, with the slices as they are left
pub record Left : Type 0 where
  pub worked : Worked
  pub output : List ℕ
  pub buffers : Buffers (List ℕ)

abbrev pub left : Worked → List ℕ → List ℕ → List ℕ → Left
left worked output memory latches =
    record { worked = worked; output = output; buffers = record { memory = memory; latches = latches } }

-- what is left when these lines have gathered: they lie at the front of the output buffer
abbrev pub left_by : Gathered → Left
left_by g =
    record {
      worked = record { session = g.session; at = g.next; filled = length g.lines; progress = g.progress };
      output = g.lines ++ g.unused;
      buffers = g.buffers;
    }
