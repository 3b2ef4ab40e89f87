-- A session that comes in pieces: what a step does before the input has ended stands, whatever comes.
-- Assumes nothing.
use Rattle.std.specs.Prelude.{ℕ, ◌≡◌, Bool, false, List, ◌++◌}
use Rattle.rules.specs.Buffers.{Buffers}
use Rattle.session.specs.Steps.{Session, needs_bytes, Outcome, step_of}

-- the step that goes on from an outcome, with these bytes at hand
abbrev pub next : Outcome → List ℕ → Bool → Outcome
next o xs ended = step_of o.said.step.session xs o.said.step.next ended o.said.line o.buffers

-- of a step over the bytes xs, with more to come: where it does not wait, it is the step over xs and any further bytes ys;
-- where it waits, the step that goes on from it over xs and ys is the step over them from where it began
pub record StepStands (s : Session) (xs : List ℕ) (p : ℕ) (out : List ℕ) (b : Buffers (List ℕ)) (ys : List ℕ) (ended : Bool) : Type 0 where
  pub stands : ((step_of s xs p false out b).said.step.progress ≡ needs_bytes → ⊥) → step_of s (xs ++ ys) p ended out b ≡ step_of s xs p false out b
  pub waits : (step_of s xs p false out b).said.step.progress ≡ needs_bytes → next (step_of s xs p false out b) (xs ++ ys) ended ≡ step_of s (xs ++ ys) p ended out b
