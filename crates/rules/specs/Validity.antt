-- Validity (document 01: soundness) as tests, each one of document 01's list, as later requests amend it, and nothing else.
-- Assumes nothing.
use Rattle.std.specs.Prelude.{ℕ, ◌+◌, ◌%◌, Bool, not, [], ◌∷◌, leb, ltb, eqb}
use Rattle.rules.specs.Choice.{pick, every, any, means}
use Rattle.rules.specs.Blocks.{block_count}
use Rattle.rules.specs.Speed.{is_speed}
use Rattle.rules.specs.Slots.{unmoved}
use Rattle.rules.specs.Pending.{valid_pending}
use Rattle.rules.specs.declared.Port.{Port}
use Rattle.rules.specs.declared.Block.{Block}
use Rattle.rules.specs.declared.Readback.{Readback}
use Rattle.rules.specs.declared.Slot.{Slot}
use Rattle.rules.specs.declared.Clocks.{Clocks}
use Rattle.rules.specs.declared.Core.{Core}

-- a cycle takes 2 to 4 clocks at 28 MHz
unfoldable pub valid_port : Port → Bool
valid_port p = every (leb 2 p.cycle ∷ leb p.cycle 4 ∷ [])

-- the mask has seven bits, and the read position is one of seven registers
unfoldable pub valid_readback : Readback → Bool
valid_readback r = every (leb r.mask 127 ∷ leb r.position 6 ∷ [])

-- with no clock elapsed the slot's figures are 0 and continuous
unfoldable pub resting_slot : Slot → Bool
resting_slot s = every (eqb s.bus 0 ∷ eqb s.length 0 ∷ not s.burst ∷ [])

-- the longest bus time, two cycles of 4 at 3.5 MHz, and the longest slot, 255 units of 32 clocks
abbrev pub most_bus : ℕ
most_bus = 64

abbrev pub most_length : ℕ
most_length = 8160

-- a length is one with a prescaler: a multiple of 32 from 32 to 8,160
unfoldable pub prescaled_length : ℕ → Bool
prescaled_length n = every (leb 32 n ∷ leb n most_length ∷ eqb (n % 32) 0 ∷ [])

-- the length equals the bus time, or is one with a prescaler that the bus time fits into
unfoldable pub valid_length : Slot → Bool
valid_length s =
    any (eqb s.length s.bus ∷ every (prescaled_length s.length ∷ leb s.bus s.length ∷ []) ∷ [])

-- with clocks elapsed the bus time is 4 to 64, the length is a slot's, and fewer clocks than it have elapsed
unfoldable pub running_slot : Slot → Bool
running_slot s = every (leb 4 s.bus ∷ leb s.bus most_bus ∷ valid_length s ∷ ltb s.elapsed s.length ∷ [])

-- disabled means that no clock of a slot has elapsed
unfoldable pub valid_slot : Bool → Slot → Bool
valid_slot enabled s = pick (eqb s.elapsed 0) (resting_slot s) (every (enabled ∷ running_slot s ∷ []))

-- enabled with the byte not yet moved means that the counter is below the block count
unfoldable pub valid_progress : Bool → Block → Slot → Bool
valid_progress enabled b s = means (every (enabled ∷ unmoved s ∷ [])) (ltb b.counter (block_count b))

-- by whether what is pending is valid
unfoldable pub valid_core_if : Bool → Core → Bool
valid_core_if pending c =
    every
    (valid_port c.a
    ∷ valid_port c.b
    ∷ leb c.block.counter 65536
    ∷ is_speed c.control.speed
    ∷ valid_readback c.readback
    ∷ pending
    ∷ valid_slot c.enabled c.slot
    ∷ valid_progress c.enabled c.block c.slot
    ∷ [])

-- the clocks counted so far
abbrev pub total : Clocks → ℕ
total k = k.bus + k.held + k.cpu

-- the largest number of 64 bits
abbrev pub most64 : ℕ
most64 = 18446744073709551615

-- by whether the core is valid: and a sum of clock counts that fits 64 bits
unfoldable pub valid_if : Bool → ℕ → Bool
valid_if core sum = every (core ∷ leb sum most64 ∷ [])

-- with the number of the pending parameters in the core
abbrev pub valid_core : Core → Bool
valid_core c = valid_core_if (valid_pending c.pending) c

abbrev pub valid : Core → ℕ → Bool
valid c sum = valid_if (valid_core c) sum
