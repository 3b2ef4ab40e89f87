-- The rules at 28 MHz alone, as they were before a device had a speed: bus time, slot, clock and validity of then. All else is
-- the rules' own. The speed in the core is not looked at.
-- Assumes nothing.
use Rattle.std.specs.Prelude.{ℕ, ◌+◌, ◌*◌, ◌%◌, Bool, false, [], ◌∷◌, leb, ltb, eqb}
use Rattle.std.proofs.Math.Option.{none}
use Rattle.rules.specs.Choice.{pick, every, any}
use Rattle.rules.specs.Parts.{with_slot}
use Rattle.rules.specs.Pending.{valid_pending}
use Rattle.rules.specs.Validity.{valid_port, valid_readback, resting_slot, valid_progress}
use Rattle.rules.specs.Steering.{Steering, bits_by}
use Rattle.rules.specs.Clock.{cpu_clock, Clock, clock, slot_clock}
use Rattle.rules.specs.declared.Slot.{Slot}
use Rattle.rules.specs.declared.Core.{Core}

-- the slot's length: the bus time, or with a prescaler 32 clocks for each unit of it, which contain the bus time
unfoldable pub slot_length_at28 : ℕ → ℕ → ℕ
slot_length_at28 prescaler bus = pick (eqb prescaler 0) bus (32 * prescaler)

-- the slot that the registers start
abbrev pub new_slot_at28 : Core → Slot
new_slot_at28 c =
    record {
      elapsed = 0;
      bus = c.a.cycle + c.b.cycle;
      length = slot_length_at28 c.control.prescaler (c.a.cycle + c.b.cycle);
      burst = c.control.burst;
    }

-- the slot that runs, or that the next clock of an enabled device begins
unfoldable pub slot_of_at28 : Core → Slot
slot_of_at28 c = pick (eqb c.slot.elapsed 0) (new_slot_at28 c) c.slot

-- one clock
unfoldable pub clock_at28 : Core → Clock
clock_at28 c =
    pick c.enabled (slot_clock (c.slot.elapsed + 1) (with_slot (slot_of_at28 c) c)) (clock cpu_clock false none c)

-- a slot is its bus time, or a multiple of 32 from 32 to 8,160
unfoldable pub valid_length_at28 : Slot → Bool
valid_length_at28 s =
    any (eqb s.length s.bus ∷ every (leb 32 s.length ∷ leb s.length 8160 ∷ eqb (s.length % 32) 0 ∷ []) ∷ [])

-- with clocks elapsed the bus time is 4 to 8, the length is a slot's, and fewer clocks than it have elapsed
unfoldable pub running_slot_at28 : Slot → Bool
running_slot_at28 s =
    every (leb 4 s.bus ∷ leb s.bus 8 ∷ valid_length_at28 s ∷ ltb s.elapsed s.length ∷ [])

unfoldable pub valid_slot_at28 : Bool → Slot → Bool
valid_slot_at28 enabled s = pick (eqb s.elapsed 0) (resting_slot s) (every (enabled ∷ running_slot_at28 s ∷ []))

unfoldable pub valid_core_at28 : Core → Bool
valid_core_at28 c =
    every
    (valid_port c.a
    ∷ valid_port c.b
    ∷ leb c.block.counter 65536
    ∷ valid_readback c.readback
    ∷ valid_pending c.pending
    ∷ valid_slot_at28 c.enabled c.slot
    ∷ valid_progress c.enabled c.block c.slot
    ∷ [])

-- what the calls went by
abbrev pub at28 : Steering Core
at28 = bits_by valid_core_at28
