-- A floor under the processor's time (document 02): a number of clocks in a row of which the processor has one at least.
-- Assumes nothing.
use Rattle.std.specs.Prelude.{ℕ, ◌+◌, Bool, [], ◌∷◌, ltb}
use Rattle.rules.specs.Choice.{pick, every}
use Rattle.rules.specs.Slots.{larger, new_slot, slot_of}
use Rattle.rules.specs.Validity.{valid}
use Rattle.rules.specs.declared.Slot.{Slot}
use Rattle.rules.specs.declared.Core.{Core}

-- the processor has clocks of the slot: it is burst, and longer than its bus time
unfoldable pub shared : Slot → Bool
shared s = every (s.burst ∷ ltb s.bus s.length ∷ [])

-- it has clocks of every slot that runs or is to come: of the one that the present registers start, enabled or not, and of the
-- one that runs, if clocks of it have elapsed
unfoldable pub all_shared : Core → Bool
all_shared c = every (shared (new_slot c) ∷ shared (slot_of c) ∷ [])

-- one clock more than the largest of their bus times
unfoldable pub floor_of : Core → ℕ
floor_of c = larger (new_slot c).bus (slot_of c).bus + 1

-- what is answered for a device with this sum of clock counts; 0, which claims nothing, if it is not valid or one of these slots
-- is not shared
unfoldable pub cpu_floor : Core → ℕ → ℕ
cpu_floor c sum = pick (valid c sum) (pick (all_shared c) (floor_of c) 0) 0
