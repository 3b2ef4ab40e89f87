-- Demand 3, one claim about every list of calls: the clock counts, the bytes moved and the splitting of grants agree with a
-- history counted clock by clock.
-- Assumes nothing.
use Rattle.std.specs.Prelude.{ℕ, ◌+◌, ◌≡◌, List, [], ◌∷◌, eqb}
use Rattle.std.proofs.Math.Option.{Option, none, some}
use Rattle.rules.specs.Choice.{pick}
use Rattle.rules.specs.Bytes.{AreBytes}
use Rattle.rules.specs.Validity.{total}
use Rattle.rules.specs.Clock.{bus_clock, held_clock, cpu_clock}
use Rattle.rules.specs.declared.at_once.Kind.{Kind}
use Rattle.rules.specs.Buffers.{Store}
use Rattle.rules.specs.World.{Move}
use Rattle.rules.specs.Calls.{Answered}
use Rattle.rules.specs.Entries.{Outside, Entry, port_write, port_read, speed_call, clock_grant, other_grant, outside_change, bytes_written, Run, run, system_at_power_on}
use Rattle.rules.specs.History.{Event, clock_noted, counter_zeroed, History, history, past_at_power_on}
use Rattle.rules.specs.Splitting.{SplitsAt}

-- ---- counting the events of a history

-- 1 for a clock of this kind
abbrev pub of_kind : Kind → Kind → ℕ
of_kind bus_clock bus_clock = 1
of_kind bus_clock held_clock = 0
of_kind bus_clock cpu_clock = 0
of_kind held_clock bus_clock = 0
of_kind held_clock held_clock = 1
of_kind held_clock cpu_clock = 0
of_kind cpu_clock bus_clock = 0
of_kind cpu_clock held_clock = 0
of_kind cpu_clock cpu_clock = 1

-- the clocks of a kind that were noted
unfoldable pub clocks_noted : Kind → List Event → ℕ
clocks_noted k [] = 0
clocks_noted k (clock_noted n ∷ es) = of_kind k n.kind + clocks_noted k es
clocks_noted k (counter_zeroed held ∷ es) = clocks_noted k es

-- 1 for a byte that moved
abbrev pub bytes_of : Option Move → ℕ
bytes_of none = 0
bytes_of (some m) = 1

-- the bytes moved, as noted
unfoldable pub bytes_noted : List Event → ℕ
bytes_noted [] = 0
bytes_noted (clock_noted n ∷ es) = bytes_of n.move + bytes_noted es
bytes_noted (counter_zeroed held ∷ es) = bytes_noted es

-- what the counter held, if it was put to zero
abbrev pub held_before : Option ℕ → ℕ
held_before none = 0
held_before (some n) = n

-- what the counter held at each zeroing, added up
unfoldable pub zeroed_noted : List Event → ℕ
zeroed_noted [] = 0
zeroed_noted (clock_noted n ∷ es) = held_before n.zeroed + zeroed_noted es
zeroed_noted (counter_zeroed held ∷ es) = held + zeroed_noted es

-- ---- the clocks of accepted grants, from the entries' arguments and the answers

-- the clocks that an entry asks for
abbrev pub clocks_asked : {M C : Type 0} {σ : Store M} → Entry σ C → ℕ
clocks_asked (port_write port byte) = 0
clocks_asked (port_read port) = 0
clocks_asked (speed_call code) = 0
clocks_asked (clock_grant n) = n
clocks_asked (other_grant n b wrong) = n
clocks_asked (outside_change x) = 0

unfoldable pub clocks_accepted : {M C : Type 0} {σ : Store M} → List (Entry σ C) → List Answered → ℕ
clocks_accepted [] as' = 0
clocks_accepted (e ∷ es) [] = 0
clocks_accepted (e ∷ es) (a ∷ as') = pick (eqb a.number 0) (clocks_asked e) 0 + clocks_accepted es as'

-- the numbers of answers
unfoldable pub numbers_of : List Answered → List ℕ
numbers_of [] = []
numbers_of (a ∷ as') = a.number ∷ numbers_of as'

-- ---- the claim

-- of a list of entries, its run r and its history h
pub record Accounted {M C : Type 0} {σ : Store M} (es : List (Entry σ C)) (r : Run M) (h : History M) : Type 0 where
  -- each clock count is the number of such clocks noted
  pub bus : r.system.clocks.bus ≡ clocks_noted bus_clock h.past.events
  pub held : r.system.clocks.held ≡ clocks_noted held_clock h.past.events
  pub cpu : r.system.clocks.cpu ≡ clocks_noted cpu_clock h.past.events
  -- their sum is the clocks of all accepted grants, and so is the history's sum
  pub sum : total r.system.clocks ≡ clocks_accepted es r.answers
  pub sum_noted : h.past.sum ≡ clocks_accepted es r.answers
  -- the bytes moved are what the counter held at each zeroing, and what it holds now
  pub bytes : bytes_noted h.past.events ≡ zeroed_noted h.past.events + r.system.world.core.block.counter
  -- every grant that is accepted after the list may be split
  pub splits : AreBytes (bytes_written es) → SplitsAt σ r.system
  -- the device but for the counts, memory and latches are the history's, and both refuse alike
  pub world : r.system.world ≡ h.past.world
  pub numbers : numbers_of r.answers ≡ h.numbers

-- from power-on, with every kind of memory, every memory and latches at the start, and every list
abbrev pub Demand3 : Type 1
Demand3 =
    (M C : Type 0) (σ : Store M) (ω : Outside M C) (m : M) (l : List ℕ) (es : List (Entry σ C))
    → Accounted es (run σ ω es (system_at_power_on m l)) (history σ ω es (past_at_power_on m l))
