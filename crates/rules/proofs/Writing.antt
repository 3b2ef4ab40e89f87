-- An accepted write keeps a valid core valid. While the bus is free the slot's byte has moved or no slot is running, so a
-- write may change the block as it likes.
-- Assumes nothing.
use Prim.Native.Nat.{ℕ, ◌<◌}
use native.Mathlib.Omega.{arith}
use mathlib.Core.Path.{◌≡◌, refl, sym, ◌∙◌}
use mathlib.Core.Bool.{Bool, true, false}
use Rattle.rules.specs.Parts.{with_pending}
use Rattle.rules.specs.Slots.{no_slot, bus_held, unmoved}
use Rattle.rules.specs.Pending.{valid_pending}
use Rattle.rules.specs.Facts.{Kept, ValidSlot, resting, running}
use Rattle.rules.specs.Commands.{enable, reset, continue, load, restart_reading, ask_status, reading_command, command}
use Rattle.rules.specs.Registers.{wr3, register, parameter, effect, written, carried_out_as, effect_over}
use Rattle.rules.specs.declared.Slot.{Slot}
use Rattle.rules.specs.declared.Core.{Core}
use Rattle.rules.proofs.Choice.{clash, pick_cases, pick_both, below, ◌⨾◌, table}
use Rattle.rules.proofs.Slots.{free_settled}
use Rattle.rules.proofs.Ports.{good_configured, good_timed, good_low, good_high, good_reset, good_loaded, low_fits, high_fits}
use Rattle.rules.proofs.Parameters.{after_valid}
use Rattle.rules.proofs.Steady.{SteadyCore, steady_a, steady_b, steady_block, steady_control, steady_readback, steady_pending, kept_from, kept_steady, kept_slot, kept_progress}

-- a valid slot in which no byte is yet to move
record Settled (t : Bool) (s : Slot) : Type 0 where
  slot : ValidSlot t s
  moved : t ≡ true → unmoved s ≡ true → ⊥

off : Settled false no_slot
off = record { slot = resting (record { elapsed = refl; bus = refl; length = refl; burst = refl }); moved = λ on u. clash on }

kept : (c : Core) → Settled c.enabled c.slot → SteadyCore c → Kept c
kept c f s = kept_from c s f.slot (λ on u. absurd (f.moved on u))

-- ---- commands

-- a disabled device may be enabled as far as its slot goes
enabled_slot : (t : Bool) (s : Slot) → ValidSlot t s → t ≡ false → ValidSlot true s
enabled_slot t s (resting r) e = resting r
enabled_slot t s (running on r) e = clash (sym e ∙ on)

module _ (byte : ℕ) (c : Core) (f : Settled c.enabled c.slot) (s : SteadyCore c) where
  enable_kept : Kept (enable c)
  unfolding enable
  enable_kept =
      pick_cases Kept _ _ _ (λ on. kept c f s)
      (λ e. pick_cases Kept _ _ _ (λ d. kept _ f s) (λ d. kept_from _ s (enabled_slot _ _ f.slot e) (λ on u. d)))

  reset_steady : SteadyCore (reset c)
  reset_steady =
      steady_a
      (steady_b
      (steady_control (steady_readback s (reset c).readback (record { mask = omega arith; position = omega arith })) (reset c).control (omega arith) s.speed)
      (good_reset _ s.b))
      (good_reset _ s.a)

  continue_steady : SteadyCore (continue c)
  continue_steady = steady_block s _ (omega arith) s.length

  load_steady : SteadyCore (load c)
  load_steady = steady_a (steady_b continue_steady (good_loaded _ s.b)) (good_loaded _ s.a)

  asked_steady : SteadyCore (ask_status c)
  asked_steady = steady_readback s _ (record { mask = s.readback.mask; position = s.readback.position })

  reread_steady : SteadyCore (restart_reading c)
  reread_steady = steady_readback s _ (record { mask = s.readback.mask; position = omega arith })

  reading_kept : Kept (reading_command byte c)
  unfolding reading_command
  reading_kept =
      table Kept (kept _ f s ⨾ kept _ f asked_steady ⨾ kept _ f reread_steady ⨾ below (kept c f s))

  command_kept : Kept (command byte c)
  unfolding command
  command_kept =
      table Kept
      (kept _ off reset_steady
      ⨾ kept _ f (steady_a s (good_reset _ s.a))
      ⨾ kept _ f (steady_b s (good_reset _ s.b))
      ⨾ kept _ f load_steady
      ⨾ kept _ f continue_steady
      ⨾ enable_kept
      ⨾ kept _ off s
      ⨾ below reading_kept)

  -- ---- registers

  wr3_kept : Kept (wr3 byte c)
  unfolding wr3
  wr3_kept = pick_both Kept _ _ _ enable_kept (kept _ off s)

  register_kept : (number : ℕ) → Kept (register number byte c)
  unfolding register
  register_kept number =
      table Kept
      (kept _ f (steady_control s _ s.prescaler s.speed)
      ⨾ kept _ f (steady_a s (good_configured _ byte s.a))
      ⨾ kept _ f (steady_b s (good_configured _ byte s.b))
      ⨾ wr3_kept
      ⨾ kept _ f (steady_control s _ s.prescaler s.speed)
      ⨾ kept _ f (steady_control s _ s.prescaler s.speed)
      ⨾ command_kept
      ⨾ below (kept c f s))

  -- ---- parameters

  parameter_kept : (which : ℕ) → byte < 256 → Kept (parameter which byte c)
  unfolding parameter
  parameter_kept which h =
      table Kept
      (kept _ f (steady_a s (good_low _ byte h s.a))
      ⨾ kept _ f (steady_a s (good_high _ byte h s.a))
      ⨾ kept _ f (steady_block s _ s.counter (low_fits byte _ h s.length))
      ⨾ kept _ f (steady_block s _ s.counter (high_fits byte _ h s.length))
      ⨾ kept _ f (steady_a s (good_timed _ byte s.a))
      ⨾ kept _ f (steady_b s (good_timed _ byte s.b))
      ⨾ kept _ f (steady_control s _ h s.speed)
      ⨾ kept _ f (steady_b s (good_low _ byte h s.b))
      ⨾ kept _ f (steady_b s (good_high _ byte h s.b))
      ⨾ below (kept _ f (steady_readback s _ (record { mask = omega arith; position = omega arith }))))

-- ---- an accepted write

-- other parameters may be pending
pending_kept : (c : Core) (p : ℕ) → valid_pending p ≡ true → Kept c → Kept (with_pending p c)
pending_kept c p v k = kept_from _ (steady_pending (kept_steady c k) p v) (kept_slot c k) (kept_progress c k)

effect_kept : (byte : ℕ) (c : Core) → byte < 256 → Settled c.enabled c.slot → SteadyCore c → Kept (effect byte c)
unfolding effect_over carried_out_as
effect_kept byte c h f s =
    pending_kept _ _ (after_valid byte _ s.pending)
    (pick_both Kept _ _ _ (parameter_kept byte c f s _ h) (register_kept byte c f s _))

-- an accepted write keeps a valid core valid
pub write_kept : (port byte : ℕ) (c : Core) → byte < 256 → bus_held c ≡ false → Kept c → Kept (written port byte c)
write_kept port byte c h e k =
    let s = kept_steady c k in
    effect_kept byte _ h (record { slot = kept_slot c k; moved = free_settled c (kept_slot c k) e })
    (steady_block s _ s.counter s.length)
