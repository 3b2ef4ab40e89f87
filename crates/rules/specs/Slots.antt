-- The transfer slot (document 01: slot): the one that begins or runs, at the speed that the device has, waiting in it, and
-- who has the bus.
-- Assumes nothing.
use Rattle.std.specs.Prelude.{ℕ, ◌+◌, ◌*◌, Bool, false, not, [], ◌∷◌, leb, ltb, eqb}
use Rattle.rules.specs.Choice.{pick, every, any}
use Rattle.rules.specs.Speed.{factor}
use Rattle.rules.specs.declared.Slot.{Slot}
use Rattle.rules.specs.declared.Core.{Core}

-- no clock of a slot has elapsed
abbrev pub no_slot : Slot
no_slot = record { elapsed = 0; bus = 0; length = 0; burst = false }

-- the bus time: a cycle of each port, at this speed
unfoldable pub bus_time_of : ℕ → ℕ → ℕ → ℕ
bus_time_of speed a b = factor speed * (a + b)

unfoldable pub larger : ℕ → ℕ → ℕ
larger x y = pick (ltb x y) y x

-- the slot's length: the bus time, or with a prescaler the larger of it and 32 clocks for each unit, which contain it
unfoldable pub slot_length : ℕ → ℕ → ℕ
slot_length prescaler bus = pick (eqb prescaler 0) bus (larger bus (32 * prescaler))

-- the slot that the registers start: its bus time, its length, and whether it is burst
abbrev pub new_slot : Core → Slot
new_slot c =
    record {
      elapsed = 0;
      bus = bus_time_of c.control.speed c.a.cycle c.b.cycle;
      length = slot_length c.control.prescaler (bus_time_of c.control.speed c.a.cycle c.b.cycle);
      burst = c.control.burst;
    }

-- the slot that runs, or that the next clock of an enabled device begins
unfoldable pub slot_of : Core → Slot
slot_of c = pick (eqb c.slot.elapsed 0) (new_slot c) c.slot

-- it waits in a burst slot: the bus time has elapsed and the length has not
unfoldable pub waiting : Slot → Bool
waiting s = every (s.burst ∷ leb s.bus s.elapsed ∷ ltb s.elapsed s.length ∷ [])

-- the device holds the bus from Enable on, except while it waits in a burst slot
unfoldable pub bus_held : Core → Bool
bus_held c = every (c.enabled ∷ not (waiting c.slot) ∷ [])

-- the slot's byte has not moved yet: no clock has elapsed, or fewer than the bus time
unfoldable pub unmoved : Slot → Bool
unmoved s = any (eqb s.elapsed 0 ∷ ltb s.elapsed s.bus ∷ [])
