-- WR6, the commands. A byte that is none of them changes nothing.
-- Assumes nothing.
use Rattle.std.specs.Prelude.{ℕ, true, false, [], ◌∷◌, eqb}
use Rattle.rules.specs.Choice.{pick, ◌⇒◌, first_of}
use Rattle.rules.specs.Parts.{with_counter, with_e, with_waiting, with_position, with_a, with_b, with_block, with_status, with_readback, with_enabled, with_slot}
use Rattle.rules.specs.Ports.{loaded, reset_timing}
use Rattle.rules.specs.Blocks.{finished}
use Rattle.rules.specs.Slots.{no_slot}
use Rattle.rules.specs.PowerOn.{status_at_reset, readback_at_reset}
use Rattle.rules.specs.declared.Control.{Control}
use Rattle.rules.specs.declared.Core.{Core}

-- 83: disabled, and a running wait is dropped
abbrev pub disable : Core → Core
disable c = with_enabled false (with_slot no_slot c)

-- E becomes 0
abbrev pub block_ended : Core → Core
block_ended c = with_status (with_e false c.status) c

-- 87: nothing if already enabled; a finished block clears E and leaves the device disabled, whatever auto restart says
-- (ours); otherwise the device is enabled
unfoldable pub enable : Core → Core
enable c = pick c.enabled c (pick (finished c.block) (block_ended c) (with_enabled true c))

-- prescaler 0 and no auto restart; the speed stays
abbrev pub control_at_reset : Control → Control
control_at_reset k = record { forward = k.forward; prescaler = 0; burst = k.burst; restart = false; speed = k.speed }

-- C3 (ours in detail): disabled, a running wait dropped, both cycles 4, prescaler 0, auto restart off, status 3A, mask 7F,
-- reading from the start, no status read waiting; everything else stays
abbrev pub reset : Core → Core
reset c =
    record {
      a = reset_timing c.a;
      b = reset_timing c.b;
      block = c.block;
      control = control_at_reset c.control;
      status = status_at_reset;
      readback = readback_at_reset;
      pending = c.pending;
      enabled = false;
      slot = no_slot;
    }

-- D3 Continue: counter 0, the pointers stay
abbrev pub continue : Core → Core
continue c = with_block (with_counter 0 c.block) c

-- CF Load: the pointers take the starting addresses; counter 0
abbrev pub load : Core → Core
load c = with_a (loaded c.a) (with_b (loaded c.b) (continue c))

-- A7: reading from the start
abbrev pub restart_reading : Core → Core
restart_reading c = with_readback (with_position 0 c.readback) c

-- BF: the next accepted read gives the status
abbrev pub ask_status : Core → Core
ask_status c = with_readback (with_waiting true c.readback) c

-- the commands on the status and on reading: 8B is E 1 and T 0
unfoldable pub reading_command : ℕ → Core → Core
reading_command byte c =
    first_of
    (eqb byte 0x8B ⇒ with_status status_at_reset c ∷ eqb byte 0xBF ⇒ ask_status c ∷ eqb byte 0xA7 ⇒ restart_reading c ∷ [])
    c

-- all commands: C7 and CB put the cycle of A, or of B, to 4 and leave the prescaler (ours); one that is not listed, and B3,
-- changes nothing; BB asks for the read mask and does nothing else
unfoldable pub command : ℕ → Core → Core
command byte c =
    first_of
    (eqb byte 0xC3 ⇒ reset c
    ∷ eqb byte 0xC7 ⇒ with_a (reset_timing c.a) c
    ∷ eqb byte 0xCB ⇒ with_b (reset_timing c.b) c
    ∷ eqb byte 0xCF ⇒ load c
    ∷ eqb byte 0xD3 ⇒ continue c
    ∷ eqb byte 0x87 ⇒ enable c
    ∷ eqb byte 0x83 ⇒ disable c
    ∷ [])
    (reading_command byte c)
