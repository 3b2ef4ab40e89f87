-- What code answers of a read and of a turn: the state in which the program goes on, or that it stops.
-- Assumes nothing.
use Rattle.std.specs.Prelude.{ℕ, ◌≡◌, true, List, Option, Some, None, Result, Ok, Err}
use Rattle.rules.specs.Buffers.{Buffers}
use Rattle.bench.specs.State.{State, state_of}
use Rattle.bench.specs.Turning.{Refilled, Turned}
use Rattle.bench.specs.Working.{Gathered}
use Rattle.bench.specs.declared.State as code

-- a state that code answers is that of a program that goes on; where it answers none, or a failure, the program stops
abbrev pub ReadTo : {E : Type 0} → Result code.State E → State → Type 0
ReadTo (Ok s) r = r ≡ state_of s
ReadTo (Err _) r = r.stopped ≡ true

abbrev pub TurnedTo : {E : Type 0} → Result (Option code.State) E → State → Type 0
TurnedTo (Ok (Some s)) r = r ≡ state_of s
TurnedTo (Ok None) r = r.stopped ≡ true
TurnedTo (Err _) r = r.stopped ≡ true

-- more bytes were read, or the read failed
pub record RefillAnswered {E : Type 0} (s : State) (input : List ℕ) (r : Result code.State E) (input' : List ℕ) : Type 0 where
  pub state : State
  pub refilled : Refilled s input state input'
  pub answered : ReadTo r state

-- a turn
pub record TurnAnswered {E : Type 0} (s : State) (g : Gathered) (input : List ℕ) (r : Result (Option code.State) E) (input' output' : List ℕ) (b' : Buffers (List ℕ)) : Type 0 where
  pub state : State
  pub turned : Turned s g input state input' output' b'
  pub answered : TurnedTo r state
