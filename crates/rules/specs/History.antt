-- The history of a list (document 01): from the start and the entries' arguments alone, over a state without clock counts.
-- It shares with the run the refusals, the effects of accepted writes, reads and speed calls, and the one-clock step; the
-- grant as a whole, the sum and the notes are its own.
-- Assumes nothing.
use Rattle.std.specs.Prelude.{ℕ, zero, suc, ◌+◌, Bool, false, List, [], ◌∷◌, eqb}
use Rattle.std.proofs.Math.Option.{Option, none, some}
use Rattle.rules.specs.Choice.{pick, any}
use Rattle.rules.specs.PowerOn.{power_on}
use Rattle.rules.specs.Pending.{is_pending}
use Rattle.rules.specs.Validity.{valid_core}
use Rattle.rules.specs.Speed.{at_speed}
use Rattle.rules.specs.Registers.{written}
use Rattle.rules.specs.Readback.{read_byte}
use Rattle.rules.specs.Clock.{bus_clock, Clock, clock_of}
use Rattle.rules.specs.declared.at_once.Kind.{Kind}
use Rattle.rules.specs.Buffers.{Store, Buffers}
use Rattle.rules.specs.World.{World, Note, step_by, note_by}
use Rattle.rules.specs.Refusals.{access_refusal_if, speed_refusal_if, grant_refusal_if}
use Rattle.rules.specs.Entries.{Outside, Entry, port_write, port_read, speed_call, clock_grant, other_grant, outside_change}
use Rattle.rules.specs.declared.Core.{Core}

-- what the history notes: a clock, or what the counter held when a Load or a Continue put it to zero
pub data Event : Type 0 where
  clock_noted : Note → Event
  counter_zeroed : ℕ → Event

-- a clock on which nothing moves
abbrev pub still_clock : Kind → Event
still_clock k = clock_noted (record { kind = k; move = none; zeroed = none })

-- a bus clock on which a byte moves between two addresses of memory, and what the counter held if it was put to zero
abbrev pub moving_clock : ℕ → ℕ → ℕ → Option ℕ → Event
moving_clock from to byte held =
    clock_noted
    (record {
      kind = bus_clock;
      move = some (record { from = record { address = from; io = false }; to = record { address = to; io = false }; byte = byte });
      zeroed = held;
    })

-- the history's state: core, memory and latches, the sum of the clocks accepted so far, and the events, the latest first
pub record Past (M : Type 0) : Type 0 where
  pub world : World M
  pub sum : ℕ
  pub events : List Event

-- Load and Continue, where they are carried out: no parameter is pending
unfoldable pub zeroing : ℕ → Core → Bool
zeroing byte c = pick (is_pending c.pending) false (any (eqb byte 0xCF ∷ eqb byte 0xD3 ∷ []))

-- the refusal number of an entry, and the state after it
pub record EntryNoted (M : Type 0) : Type 0 where
  pub number : ℕ
  pub past : Past M

-- the refusal numbers of a list's entries, in order, and the state after them
pub record History (M : Type 0) : Type 0 where
  pub numbers : List ℕ
  pub past : Past M

module _ {M : Type 0} where
  abbrev pub with_core : Core → Past M → Past M
  with_core c p = record { world = record { core = c; buffers = p.world.buffers }; sum = p.sum; events = p.events }

  -- an accepted write, with a note of the counter where it is put to zero
  unfoldable pub write_passed : ℕ → ℕ → Past M → Past M
  write_passed port byte p =
      pick (zeroing byte p.world.core)
      (record {
        world = record { core = written port byte p.world.core; buffers = p.world.buffers };
        sum = p.sum;
        events = counter_zeroed p.world.core.block.counter ∷ p.events;
      })
      (with_core (written port byte p.world.core) p)

  -- a refused call changes and notes nothing
  unfoldable pub noted_unless : ℕ → Past M → Past M → EntryNoted M
  noted_unless number accepted p = record { number = number; past = pick (eqb number 0) accepted p }

-- by a clock κ of the core
module _ {M : Type 0} (κ : Core → Clock) (σ : Store M) where
  -- one clock, noted
  abbrev pub clock_passed_by : Past M → Past M
  clock_passed_by p =
      record { world = step_by κ σ p.world; sum = p.sum; events = clock_noted (note_by κ σ p.world) ∷ p.events }

  -- n clocks, each noted singly
  unfoldable pub clocks_passed_by : ℕ → Past M → Past M
  clocks_passed_by zero p = p
  clocks_passed_by (suc n) p = clock_passed_by (clocks_passed_by n p)

  -- an accepted grant: its clocks are added to the sum, and taken singly
  abbrev pub grant_passed_by : ℕ → Past M → Past M
  grant_passed_by n p = clocks_passed_by n (record { world = p.world; sum = p.sum + n; events = p.events })

-- by which cores are valid, and a clock κ of the core
module _ {M : Type 0} (ν : Core → Bool) (κ : Core → Clock) (σ : Store M) where
  -- a grant that lends these buffers; refusal 6 is judged by the sum
  abbrev pub grant_noted_by : Buffers M → ℕ → Past M → EntryNoted M
  grant_noted_by b n p = noted_unless (grant_refusal_if (ν p.world.core) σ p.sum b n) (grant_passed_by κ σ n p) p

-- an outside change of memory replaces bytes and notes nothing
abbrev pub change_passed : {M C : Type 0} → Outside M C → C → Past M → Past M
change_passed ω x p =
    record {
      world =
          record {
            core = p.world.core;
            buffers = record { memory = ω.change x p.world.buffers.memory; latches = p.world.buffers.latches };
          };
      sum = p.sum;
      events = p.events;
    }

-- by which cores are valid, and a clock κ of the core
module _ {M C : Type 0} (ν : Core → Bool) (κ : Core → Clock) (σ : Store M) (ω : Outside M C) where
  -- the number of a port write or a port read
  abbrev access_number : ℕ → Past M → ℕ
  access_number port p = access_refusal_if (ν p.world.core) p.world.core p.sum port

  -- one entry; an accepted speed call sets the speed and notes nothing
  abbrev pub note_entry_by : Entry σ C → Past M → EntryNoted M
  note_entry_by (port_write port byte) p =
      noted_unless (access_number port p) (write_passed port byte p) p
  note_entry_by (port_read port) p =
      noted_unless (access_number port p) (with_core (read_byte p.world.core).core p) p
  note_entry_by (speed_call code) p =
      noted_unless (speed_refusal_if (ν p.world.core) p.sum code) (with_core (at_speed code p.world.core) p) p
  note_entry_by (clock_grant n) p = grant_noted_by ν κ σ p.world.buffers n p
  note_entry_by (other_grant n b wrong) p = grant_noted_by ν κ σ b n p
  note_entry_by (outside_change x) p = record { number = 0; past = change_passed ω x p }

  -- a list of entries
  unfoldable pub history_by : List (Entry σ C) → Past M → History M
  history_by [] p = record { numbers = []; past = p }
  history_by (e ∷ es) p =
      record {
        numbers = (note_entry_by e p).number ∷ (history_by es (note_entry_by e p).past).numbers;
        past = (history_by es (note_entry_by e p).past).past;
      }

-- by the rules' validity and clock
module _ {M : Type 0} (σ : Store M) where
  abbrev pub clock_passed : Past M → Past M
  clock_passed p = clock_passed_by clock_of σ p

  abbrev pub clocks_passed : ℕ → Past M → Past M
  clocks_passed n p = clocks_passed_by clock_of σ n p

  abbrev pub grant_passed : ℕ → Past M → Past M
  grant_passed n p = grant_passed_by clock_of σ n p

module _ {M C : Type 0} (σ : Store M) (ω : Outside M C) where
  abbrev pub note_entry : Entry σ C → Past M → EntryNoted M
  note_entry e p = note_entry_by valid_core clock_of σ ω e p

  abbrev pub history : List (Entry σ C) → Past M → History M
  history es p = history_by valid_core clock_of σ ω es p

-- the history begins at power-on with nothing noted
abbrev pub past_at_power_on : {M : Type 0} → M → List ℕ → Past M
past_at_power_on m l =
    record { world = record { core = power_on; buffers = record { memory = m; latches = l } }; sum = 0; events = [] }
