-- Validity as facts, part by part, and the ranges that the types give anyway.
-- Assumes nothing.
use Rattle.std.specs.Prelude.{◌%◌, ◌≤◌, ◌<◌, ◌≡◌, Bool, true, false}
use Rattle.rules.specs.Validity.{valid_port, valid_readback, valid_slot, valid_progress}
use Rattle.rules.specs.Pending.{valid_pending}
use Rattle.rules.specs.declared.Port.{Port}
use Rattle.rules.specs.declared.Readback.{Readback}
use Rattle.rules.specs.declared.Slot.{Slot}
use Rattle.rules.specs.declared.Core.{Core}

-- a valid core, part by part
pub record ValidParts (c : Core) : Type 0 where
  pub a : valid_port c.a ≡ true
  pub b : valid_port c.b ≡ true
  pub counter : c.block.counter ≤ 65536
  pub speed : c.control.speed ≤ 3
  pub readback : valid_readback c.readback ≡ true
  pub pending : valid_pending c.pending ≡ true
  pub slot : valid_slot c.enabled c.slot ≡ true
  pub progress : valid_progress c.enabled c.block c.slot ≡ true

-- a valid port's cycle
pub record ValidCycle (p : Port) : Type 0 where
  pub least : 2 ≤ p.cycle
  pub most : p.cycle ≤ 4

-- valid read-back state
pub record ValidReading (r : Readback) : Type 0 where
  pub mask : r.mask ≤ 127
  pub position : r.position ≤ 6

-- a slot of which no clock has elapsed
pub record Resting (s : Slot) : Type 0 where
  pub elapsed : s.elapsed ≡ 0
  pub bus : s.bus ≡ 0
  pub length : s.length ≡ 0
  pub burst : s.burst ≡ false

-- a slot's length is its bus time, or a multiple of 32 from 32 to 8,160 that is not below it
pub data SlotLength (s : Slot) : Type 0 where
  bus_time : s.length ≡ s.bus → SlotLength s
  prescaled : 32 ≤ s.length → s.length ≤ 8160 → s.length % 32 ≡ 0 → s.bus ≤ s.length → SlotLength s

-- a slot of which clocks have elapsed
pub record Running (s : Slot) : Type 0 where
  pub elapsed : 0 < s.elapsed
  pub below : s.elapsed < s.length
  pub least : 4 ≤ s.bus
  pub most : s.bus ≤ 64
  pub length : SlotLength s

-- a valid slot; clocks have elapsed only while the device is enabled
pub data ValidSlot (enabled : Bool) (s : Slot) : Type 0 where
  resting : Resting s → ValidSlot enabled s
  running : enabled ≡ true → Running s → ValidSlot enabled s

-- the ranges of a port's fields that validity does not limit
pub record PortInRange (p : Port) : Type 0 where
  pub address : p.address < 65536
  pub pointer : p.pointer < 65536
  pub step : p.step < 256

-- the ranges of a core's fields that validity does not limit
pub record InRange (c : Core) : Type 0 where
  pub a : PortInRange c.a
  pub b : PortInRange c.b
  pub length : c.block.length < 65536
  pub prescaler : c.control.prescaler < 256

-- a core as the calls meet it: valid, and within its types
pub record Kept (c : Core) : Type 0 where
  pub valid : ValidParts c
  pub range : InRange c
