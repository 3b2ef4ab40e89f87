-- A session whose bytes are dropped once they are done: what a step does does not depend on where its place is counted from.
-- Assumes nothing.
use Rattle.std.specs.Prelude.{ℕ, ◌+◌, ◌≡◌, Bool, List, drop}
use Rattle.rules.specs.Buffers.{Buffers}
use Rattle.session.specs.Steps.{Session, Outcome, step_of}

-- an outcome whose next place lies so much farther on
abbrev pub farther : ℕ → Outcome → Outcome
farther k o =
    record {
      said =
          record {
            step =
                record {
                  progress = o.said.step.progress;
                  fault = o.said.step.fault;
                  next = k + o.said.step.next;
                  length = o.said.step.length;
                  session = o.said.step.session;
                };
            line = o.said.line;
          };
      buffers = o.buffers;
    }

-- the bytes before a step's place can be dropped: the step does the same, and its next place is counted from there
abbrev pub StepMoves : Session → List ℕ → ℕ → List ℕ → Buffers (List ℕ) → Bool → ℕ → Type 0
StepMoves s xs p out b ended k = step_of s xs (k + p) ended out b ≡ farther k (step_of s (drop k xs) p ended out b)
