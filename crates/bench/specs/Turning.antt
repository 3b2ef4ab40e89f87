-- A turn of the program: the steps over the bytes at hand, their lines written, and more bytes read where they are needed.
-- The contracts of the system calls don't say what they do: whether lines could be written and which bytes were read stands
-- here as it came.
-- Assumes nothing.
use Rattle.std.specs.Prelude.{ℕ, ◌+◌, ◌≤◌, ◌<◌, ◌≡◌, Bool, true, false, List, ◌++◌, eqb, length, take, replicate}
use Rattle.rules.specs.Choice.{pick}
use Rattle.rules.specs.Buffers.{Buffers}
use Rattle.session.specs.Steps.{needs_bytes, is_over}
use Rattle.bench.specs.Buffered.{at_hand, not_taken}
use Rattle.bench.specs.Working.{Gathered, gathered_in}
use Rattle.bench.specs.State.{State, state_at_start}

-- the front of the output buffer, up to `filled`, are the lines of all the steps from where the program is, with an output
-- buffer of this length, whatever it held before them, and whatever memory and latches held
pub record AreLines (s : State) (input output : List ℕ) (filled : ℕ) : Type 0 where
  pub before : List ℕ
  pub buffers : Buffers (List ℕ)
  pub size : length before ≡ length output
  pub lines : take filled output ≡ (gathered_in s input before buffers).lines
  pub fits : filled ≤ length output

-- the state behind a read that gave so many bytes, with those at hand that were kept: one that failed stops the program,
-- and one that gave none is the end of the input
abbrev pub state_with : State → Bool → ℕ → ℕ → State
state_with s failed old new =
    record {
      session = s.session;
      at = 0;
      have = old + new;
      ended = pick failed s.ended (pick (eqb new 0) true s.ended);
      stopped = pick failed true s.stopped;
    }

-- more bytes were read: they lie behind those that were not taken
pub record Refilled (s : State) (input : List ℕ) (r : State) (input' : List ℕ) : Type 0 where
  pub failed : Bool
  pub new : List ℕ
  pub state : r ≡ state_with s failed (length (not_taken s.at s.have input)) (length new)
  pub bytes : at_hand r.have input' ≡ not_taken s.at s.have input ++ new

-- the state behind steps
abbrev pub state_behind : State → Gathered → Bool → State
state_behind s g stopped =
    record { session = g.session; at = g.next; have = s.have; ended = s.ended; stopped = stopped }

-- nothing was read
abbrev pub Stays : State → Gathered → Bool → List ℕ → State → List ℕ → Type 0
Stays s g stopped input r input' = (r ≡ state_behind s g stopped) × (input' ≡ input)

-- the program stops where its lines could not be written or the session is over; it reads more bytes where the last step
-- needs them
unfoldable pub NextTurn : Bool → State → Gathered → List ℕ → State → List ℕ → Type 0
NextTurn written s g input r input' =
    pick written
    (pick (eqb g.progress is_over) (Stays s g true input r input')
    (pick (eqb g.progress needs_bytes) (Refilled (state_behind s g s.stopped) input r input') (Stays s g s.stopped input r input')))
    (Stays s g true input r input')

-- a turn: the lines at the front of the output buffer, memory and latches are those of the steps
pub record Turned (s : State) (g : Gathered) (input : List ℕ) (r : State) (input' output' : List ℕ) (b' : Buffers (List ℕ)) : Type 0 where
  pub output : output' ≡ g.lines ++ g.unused
  pub buffers : b' ≡ g.buffers
  pub written : Bool
  pub next : NextTurn written s g input r input'
  pub fits : r.have ≤ length input'

-- ---- the run

-- all that the program holds
pub record Holds : Type 0 where
  pub state : State
  pub input : List ℕ
  pub output : List ℕ
  pub buffers : Buffers (List ℕ)

-- at its start: a session before its first byte, and none at hand
abbrev pub holds_at_start : Buffers (List ℕ) → Holds
holds_at_start b =
    record {
      state = state_at_start;
      input = replicate 65536 0;
      output = replicate 65536 0;
      buffers = b;
    }

abbrev pub Turn : Holds → Holds → Type 0
Turn x y =
    Turned x.state (gathered_in x.state x.input x.output x.buffers) x.input y.state y.input y.output y.buffers

-- so many turns, each from where the one before ended and did not stop
pub data Turns : ℕ → Holds → Holds → Type 0 where
  none : {x : Holds} → Turns 0 x x
  more : {n : ℕ} {x y z : Holds} → Turns n x y → y.state.stopped ≡ false → Turn y z → Turns (n + 1) x z

-- more turns than the program's count has room for are not made
abbrev pub most_turns : ℕ
most_turns = 18446744073709551615

-- turns from the start until the program stops
pub record Ran (b b' : Buffers (List ℕ)) : Type 0 where
  pub count : ℕ
  pub last : Holds
  pub turns : Turns count (holds_at_start b) last
  pub buffers : b' ≡ last.buffers
  pub stops : count < most_turns → last.state.stopped ≡ true
