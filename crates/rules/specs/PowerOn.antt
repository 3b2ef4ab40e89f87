-- The device as it is when power comes on.
-- Assumes nothing.
use Rattle.std.specs.Prelude.{true, false}
use Rattle.rules.specs.Speed.{full_speed}
use Rattle.rules.specs.Slots.{no_slot}
use Rattle.rules.specs.Pending.{nothing}
use Rattle.rules.specs.declared.Port.{Port}
use Rattle.rules.specs.declared.Status.{Status}
use Rattle.rules.specs.declared.Readback.{Readback}
use Rattle.rules.specs.declared.Clocks.{Clocks}
use Rattle.rules.specs.declared.Core.{Core}

-- memory, increment, cycle 4, address and pointer 0
abbrev pub port_at_power_on : Port
port_at_power_on = record { address = 0; pointer = 0; io = false; step = 1; cycle = 4 }

-- status 3A: E set, T clear
abbrev pub status_at_reset : Status
status_at_reset = record { e = true; t = false }

-- mask 7F, reading from the start, no status read waiting
abbrev pub readback_at_reset : Readback
readback_at_reset = record { mask = 127; position = 0; waiting = false }

-- A to B, prescaler off, continuous, no auto restart, 28 MHz, zxn mode, disabled, nothing pending
abbrev pub power_on : Core
power_on =
    record {
      a = port_at_power_on;
      b = port_at_power_on;
      block = record { length = 0; counter = 0; zilog = false };
      control = record { forward = true; prescaler = 0; burst = false; restart = false; speed = full_speed };
      status = status_at_reset;
      readback = readback_at_reset;
      pending = nothing;
      enabled = false;
      slot = no_slot;
    }

abbrev pub no_clocks : Clocks
no_clocks = record { bus = 0; held = 0; cpu = 0 }
