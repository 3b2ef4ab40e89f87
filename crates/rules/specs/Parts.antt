-- A part with one field replaced: antt has no record update, so each is written out here and nowhere else.
-- Assumes nothing.
use Rattle.std.specs.Prelude.{ℕ, Bool}
use Rattle.rules.specs.declared.Port.{Port}
use Rattle.rules.specs.declared.Block.{Block}
use Rattle.rules.specs.declared.Control.{Control}
use Rattle.rules.specs.declared.Status.{Status}
use Rattle.rules.specs.declared.Readback.{Readback}
use Rattle.rules.specs.declared.Slot.{Slot}
use Rattle.rules.specs.declared.Core.{Core}

abbrev pub with_address : ℕ → Port → Port
with_address x p = record { address = x; pointer = p.pointer; io = p.io; step = p.step; cycle = p.cycle }

abbrev pub with_pointer : ℕ → Port → Port
with_pointer x p = record { address = p.address; pointer = x; io = p.io; step = p.step; cycle = p.cycle }

abbrev pub with_cycle : ℕ → Port → Port
with_cycle x p = record { address = p.address; pointer = p.pointer; io = p.io; step = p.step; cycle = x }

abbrev pub with_length : ℕ → Block → Block
with_length x b = record { length = x; counter = b.counter; zilog = b.zilog }

abbrev pub with_counter : ℕ → Block → Block
with_counter x b = record { length = b.length; counter = x; zilog = b.zilog }

abbrev pub with_zilog : Bool → Block → Block
with_zilog x b = record { length = b.length; counter = b.counter; zilog = x }

abbrev pub with_forward : Bool → Control → Control
with_forward x k = record { forward = x; prescaler = k.prescaler; burst = k.burst; restart = k.restart; speed = k.speed }

abbrev pub with_prescaler : ℕ → Control → Control
with_prescaler x k = record { forward = k.forward; prescaler = x; burst = k.burst; restart = k.restart; speed = k.speed }

abbrev pub with_burst : Bool → Control → Control
with_burst x k = record { forward = k.forward; prescaler = k.prescaler; burst = x; restart = k.restart; speed = k.speed }

abbrev pub with_restart : Bool → Control → Control
with_restart x k = record { forward = k.forward; prescaler = k.prescaler; burst = k.burst; restart = x; speed = k.speed }

abbrev pub with_speed : ℕ → Control → Control
with_speed x k = record { forward = k.forward; prescaler = k.prescaler; burst = k.burst; restart = k.restart; speed = x }

abbrev pub with_e : Bool → Status → Status
with_e x s = record { e = x; t = s.t }

abbrev pub with_t : Bool → Status → Status
with_t x s = record { e = s.e; t = x }

abbrev pub with_mask : ℕ → Readback → Readback
with_mask x r = record { mask = x; position = r.position; waiting = r.waiting }

abbrev pub with_position : ℕ → Readback → Readback
with_position x r = record { mask = r.mask; position = x; waiting = r.waiting }

abbrev pub with_waiting : Bool → Readback → Readback
with_waiting x r = record { mask = r.mask; position = r.position; waiting = x }

abbrev pub with_a : Port → Core → Core
with_a x c = record { a = x; b = c.b; block = c.block; control = c.control; status = c.status; readback = c.readback; pending = c.pending; enabled = c.enabled; slot = c.slot }

abbrev pub with_b : Port → Core → Core
with_b x c = record { a = c.a; b = x; block = c.block; control = c.control; status = c.status; readback = c.readback; pending = c.pending; enabled = c.enabled; slot = c.slot }

abbrev pub with_block : Block → Core → Core
with_block x c = record { a = c.a; b = c.b; block = x; control = c.control; status = c.status; readback = c.readback; pending = c.pending; enabled = c.enabled; slot = c.slot }

abbrev pub with_control : Control → Core → Core
with_control x c = record { a = c.a; b = c.b; block = c.block; control = x; status = c.status; readback = c.readback; pending = c.pending; enabled = c.enabled; slot = c.slot }

abbrev pub with_status : Status → Core → Core
with_status x c = record { a = c.a; b = c.b; block = c.block; control = c.control; status = x; readback = c.readback; pending = c.pending; enabled = c.enabled; slot = c.slot }

abbrev pub with_readback : Readback → Core → Core
with_readback x c = record { a = c.a; b = c.b; block = c.block; control = c.control; status = c.status; readback = x; pending = c.pending; enabled = c.enabled; slot = c.slot }

abbrev pub with_pending : ℕ → Core → Core
with_pending x c = record { a = c.a; b = c.b; block = c.block; control = c.control; status = c.status; readback = c.readback; pending = x; enabled = c.enabled; slot = c.slot }

abbrev pub with_enabled : Bool → Core → Core
with_enabled x c = record { a = c.a; b = c.b; block = c.block; control = c.control; status = c.status; readback = c.readback; pending = c.pending; enabled = x; slot = c.slot }

abbrev pub with_slot : Slot → Core → Core
with_slot x c = record { a = c.a; b = c.b; block = c.block; control = c.control; status = c.status; readback = c.readback; pending = c.pending; enabled = c.enabled; slot = x }

-- in a slot of which so many clocks have elapsed, with this bus time and length, burst or not
abbrev pub in_slot : ℕ → ℕ → ℕ → Bool → Core → Core
in_slot n bus length burst c = with_slot (record { elapsed = n; bus = bus; length = length; burst = burst }) c
