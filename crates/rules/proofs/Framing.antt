-- What a write, a read and a clock leave alone: the speed, a clock all of the control, the ports' cycles and the pending
-- parameters, and what they make of the slot.
-- Assumes nothing.
use Prim.Native.Nat.{ℕ, ◌+◌}
use mathlib.Core.Path.{◌≡◌}
use Rattle.rules.specs.Slots.{no_slot}
use Rattle.rules.specs.Commands.{enable, reading_command, command}
use Rattle.rules.specs.Registers.{wr3, register, parameter, carried_out, written, carried_out_as, effect_over, in_mode}
use Rattle.rules.specs.Readback.{Byte, read_byte}
use Rattle.rules.specs.Clock.{Clock, Ending, with_elapsed, moves_at, moved_at, slot_end, clock_end, slot_clock, begun, clock_of}
use Rattle.rules.specs.declared.Control.{Control}
use Rattle.rules.specs.declared.Slot.{Slot}
use Rattle.rules.specs.declared.Core.{Core}
use Rattle.rules.proofs.Choice.{pick_both, below, ◌⨾◌, table}

-- ---- a write and a read leave the speed, and the slot unless they drop it

module _ (speed : ℕ) (Q : Slot → Type 0) (rest : Q no_slot) where
  -- this speed, and a slot of which Q holds
  abbrev Framed : Core → Type 0
  Framed c = (c.control.speed ≡ speed) × Q c.slot

  module _ (c : Core) (f : Framed c) where
    enable_framed : Framed (enable c)
    unfolding enable
    enable_framed = pick_both Framed _ _ _ f (pick_both Framed _ _ _ f f)

    command_framed : (byte : ℕ) → Framed (command byte c)
    unfolding command reading_command
    command_framed byte =
        table Framed
        ((f.0, rest) ⨾ f ⨾ f ⨾ f ⨾ f ⨾ enable_framed ⨾ (f.0, rest) ⨾ below (table Framed (f ⨾ f ⨾ f ⨾ below f)))

    register_framed : (number byte : ℕ) → Framed (register number byte c)
    unfolding register wr3
    register_framed number byte =
        table Framed
        (f ⨾ f ⨾ f ⨾ pick_both Framed _ _ _ enable_framed (f.0, rest) ⨾ f ⨾ f ⨾ command_framed byte ⨾ below f)

    parameter_framed : (which byte : ℕ) → Framed (parameter which byte c)
    unfolding parameter
    parameter_framed which byte = table Framed (f ⨾ f ⨾ f ⨾ f ⨾ f ⨾ f ⨾ f ⨾ f ⨾ f ⨾ below f)

    carried_framed : (byte : ℕ) → Framed (carried_out byte c)
    unfolding carried_out_as
    carried_framed byte = pick_both Framed _ _ _ (parameter_framed _ byte) (register_framed _ byte)

    pub read_framed : Framed (read_byte c).core
    unfolding read_byte
    read_framed = table (λ (b : Byte). Framed b.core) (f ⨾ f ⨾ below f)

  pub written_framed : (port byte : ℕ) (c : Core) → Framed c → Framed (written port byte c)
  unfolding effect_over
  written_framed port byte c f = carried_framed (in_mode port c) f byte

-- ---- a clock leaves both cycles, the control and the pending parameters, and the figures of the slot that runs or begins,
-- unless it is the last

module _ (P : ℕ → ℕ → Control → ℕ → Type 0) (Q : Slot → Type 0) (rest : Q no_slot) where
  abbrev Left : Core → Type 0
  Left c = P c.a.cycle c.b.cycle c.control c.pending

  -- of these P holds, and of the slot Q
  abbrev Timed : Core → Type 0
  Timed c = Left c × Q c.slot

  end_timed : (c : Core) → Left c → Timed (slot_end c).core
  unfolding slot_end
  end_timed c p =
      pick_both (λ (x : Ending). Timed x.core) _ _ _
      (pick_both (λ (x : Ending). Timed x.core) _ _ _ (p, rest) (p, rest)) (p, rest)

  clock_end_timed : (n : ℕ) (c : Core) → Left c → Q (with_elapsed n c).slot → Timed (clock_end n c).core
  unfolding clock_end
  clock_end_timed n c p q = pick_both (λ (x : Ending). Timed x.core) _ _ _ (p, q) (end_timed c p)

  pub slot_timed : (n : ℕ) (c : Core) → Left c → Q (with_elapsed n c).slot → Timed (slot_clock n c).next
  unfolding slot_clock moved_at
  slot_timed n c p q =
      pick_both (λ (d : Core). Timed (clock_end n d).core) (moves_at n c) _ _ (clock_end_timed n _ p q) (clock_end_timed n c p q)

  pub clock_timed : (c : Core) → Timed c → Q (with_elapsed (c.slot.elapsed + 1) (begun c)).slot → Timed (clock_of c).next
  unfolding clock_of
  clock_timed c t q =
      pick_both (λ (x : Clock). Timed x.next) _ _ _ (slot_timed (c.slot.elapsed + 1) (begun c) t.0 q) t
