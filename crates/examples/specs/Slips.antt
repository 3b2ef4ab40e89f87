-- Wrong models that no change of one definition could express, each with the worked example, the short list or the core at
-- which it differs.
-- Assumes nothing.
use Rattle.std.specs.Prelude.{ℕ, zero, suc, ◌+◌, ◌≡◌, true, false, List, [], ◌∷◌, take, drop, get_or, set}
use Rattle.rules.specs.Blocks.{block_count}
use Rattle.rules.specs.Parts.{with_cycle, with_prescaler, with_a, with_b, with_control, with_slot}
use Rattle.rules.specs.Slots.{no_slot, new_slot}
use Rattle.rules.specs.PowerOn.{power_on}
use Rattle.rules.specs.Validity.{valid_core}
use Rattle.rules.specs.Registers.{in_mode}
use Rattle.rules.specs.Readback.{read_byte}
use Rattle.rules.specs.Clock.{clock_of}
use Rattle.rules.specs.Buffers.{flat}
use Rattle.rules.specs.World.{System, clocked_by, clocked}
use Rattle.rules.specs.Calls.{grant}
use Rattle.rules.specs.Entries.{flat_outside, port_write}
use Rattle.rules.specs.History.{Past, grant_passed, history, past_at_power_on}
use Rattle.rules.specs.Accounts.{bytes_noted, zeroed_noted}
use Rattle.rules.specs.Recheck.{clock_with_recheck, enabled_on_empty_block}
use Rattle.rules.specs.At28.{new_slot_at28, valid_core_at28}
use Rattle.examples.specs.Rows.{Row, send, clocks, speed, with_core, start, played}
use Rattle.examples.specs.WorkedExamples.{three_clocks, overlap, mode_by_parameter}
use Rattle.examples.specs.ShortLists.{sent, granting, blocks, zeros}
use Rattle.rules.specs.declared.Core.{Core}

-- n bytes from one address to another, each as it was in the saved memory
unfoldable pub saved_copy : ℕ → ℕ → ℕ → List ℕ → List ℕ → List ℕ
saved_copy zero from to saved m = m
saved_copy (suc n) from to saved m = set (saved_copy n from to saved m) (to + n) (get_or saved (from + n) 0)

-- the memory of a row after so many of its actions
abbrev pub memory_of : ℕ → Row → List ℕ
memory_of n r = (played (take n r.actions) start).world.buffers.memory

-- the block copied as if its source had been saved first: P8, whose bytes stand there after one action, ends otherwise
abbrev pub NotSaved : Type 0
NotSaved = memory_of 6 overlap ≡ saved_copy 4 0x1000 0x1001 (memory_of 1 overlap) (memory_of 1 overlap) → ⊥

-- the whole block moved on the first clock: P3, where two actions have been three clocks, is otherwise
abbrev pub NotWhole : Type 0
NotWhole = memory_of 2 three_clocks ≡ saved_copy 4 0x1000 0x2000 (memory_of 0 three_clocks) (memory_of 0 three_clocks) → ⊥

-- a read that sets the compatibility mode by its port
abbrev pub mode_by_read : ℕ → Core → Core
mode_by_read port c = (read_byte (in_mode port c)).core

-- in Zilog mode, where the row on parameters ends, a read of 6B leaves the block count
abbrev pub mode_at_end : Core
mode_at_end = (played mode_by_parameter.actions start).world.core

abbrev pub NotModeByRead : Type 0
NotModeByRead = block_count (read_byte mode_at_end).core.block ≡ block_count (mode_by_read 0x6B mode_at_end).block → ⊥

-- ---- the recheck

-- that the two clocks are one at every core: at this one, which is not valid, they differ, and so does what a clock would
-- leave of its system; a grant refuses it
pub record NotAtEveryCore : Type 0 where
  pub invalid : valid_core enabled_on_empty_block ≡ false
  pub clocks : clock_with_recheck enabled_on_empty_block ≡ clock_of enabled_on_empty_block → ⊥
  pub systems : clocked_by clock_with_recheck flat 1 (with_core enabled_on_empty_block start) ≡ clocked flat 1 (with_core enabled_on_empty_block start) → ⊥
  pub refused : (grant flat (with_core enabled_on_empty_block start) 1).answered.number ≡ 1

-- ---- the speed

-- not valid: cycles of 200 with prescaler 1, at code 3
abbrev pub long_cycles : Core
long_cycles =
    with_a (with_cycle 200 power_on.a)
    (with_b (with_cycle 200 power_on.b) (with_control (with_prescaler 1 power_on.control) power_on))

-- that code 3 is 28 MHz alone at every core: here it is not, by a slot of 400 clocks and one of 32
pub record NotAtLongCycles : Type 0 where
  pub code : long_cycles.control.speed ≡ 3
  pub invalid : valid_core long_cycles ≡ false
  pub slot : (new_slot long_cycles).length ≡ 400
  pub slot_at28 : (new_slot_at28 long_cycles).length ≡ 32

-- a block of one byte at 14 MHz, back at code 3 in mid slot: valid, in a slot of 16 clocks, and not so at 28 MHz alone
abbrev pub in_slow_slot : Core
in_slow_slot = (played (speed 2 ∷ send 0x0B (0x87 ∷ []) ∷ clocks 1 ∷ speed 3 ∷ []) start).world.core

pub record NotInSlowSlot : Type 0 where
  pub code : in_slow_slot.control.speed ≡ 3
  pub valid : valid_core in_slow_slot ≡ true
  pub valid_at28 : valid_core_at28 in_slow_slot ≡ false

-- ---- the history

-- the history of a block of one byte and a Continue after it, from power-on and zeros: the latest event is the Continue's note
abbrev pub continued : Past (List ℕ)
continued = (history flat flat_outside (sent (blocks 1 0x82) (granting 4 ∷ port_write 0x6B 0xD3 ∷ [])) zeros).past

-- the bytes are accounted for by the counters noted and what the counter holds, and not without this note
abbrev pub NotWithoutContinue : Type 0
NotWithoutContinue =
    bytes_noted continued.events ≡ zeroed_noted (drop 1 continued.events) + continued.world.core.block.counter → ⊥

-- a Load is noted at a counter of 0 too
abbrev pub NotWithoutZero : Type 0
NotWithoutZero = (history flat flat_outside (port_write 0x6B 0xCF ∷ []) (past_at_power_on [] [])).past.events ≡ [] → ⊥

-- a refused grant, here for its memory, passed as if it were accepted
abbrev pub NotPassed : Type 0
NotPassed =
    (history flat flat_outside (granting 5 ∷ []) (past_at_power_on [] [])).past.sum ≡ (grant_passed flat 5 (past_at_power_on [] [])).sum → ⊥

-- a grant that begins its slot anew: cut after three of its four clocks, the byte has moved, and would not have
abbrev pub cut_slot : System (List ℕ)
cut_slot = played (take 2 three_clocks.actions) start

abbrev pub NotAnew : Type 0
NotAnew =
    (grant flat cut_slot 1).system.world.core.block.counter
    ≡ (grant flat (with_core (with_slot no_slot cut_slot.world.core) cut_slot) 1).system.world.core.block.counter
    → ⊥
