-- Sessions of every phase number: one above 3 is over, as 3 is, and only within a record that is too long do bytes still to come
-- matter. So each is met by a phase in code.
-- Assumes nothing.
use Rattle.std.specs.Prelude.{ℕ, ◌≡◌, Bool, List, ◌==◌, nat_le}
use Rattle.rules.specs.Choice.{pick}
use Rattle.rules.specs.Buffers.{Buffers}
use Rattle.session.specs.Steps.{Session, Outcome, in_long, over, step_of}

-- the phase with its number
abbrev pub numbered : Session → Session
numbered s =
    record { phase = pick (nat_le s.phase in_long) s.phase over; left = pick (s.phase == in_long) s.left 0; device = s.device }

-- the session of a step's answer so
abbrev pub outcome_numbered : Outcome → Outcome
outcome_numbered o =
    record {
      said =
          record {
            step =
                record {
                  progress = o.said.step.progress;
                  fault = o.said.step.fault;
                  next = o.said.step.next;
                  length = o.said.step.length;
                  session = numbered o.said.step.session;
                };
            line = o.said.line;
          };
      buffers = o.buffers;
    }

-- a step does the same for the session with its number
abbrev pub EveryPhaseMet : Type 0
EveryPhaseMet =
    (s : Session) (xs : List ℕ) (p : ℕ) (ended : Bool) (out : List ℕ) (b : Buffers (List ℕ))
    → step_of (numbered s) xs p ended out b ≡ outcome_numbered (step_of s xs p ended out b)
