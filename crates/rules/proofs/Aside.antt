-- The pending number stands aside, and in a slot that runs the speed does: what a byte is carried out as, a read and a clock do
-- the same to a core with another number in it, choice by choice, and validity looks at no more than whether what is pending is valid.
-- Assumes nothing.
use Prim.Native.Nat.{ℕ, zero, suc}
use mathlib.Core.Path.{◌≡◌, refl, sym, ◌∙◌, ap}
use mathlib.Core.Bool.{Bool}
use mathlib.Core.Option.{none, some}
use mathlib.Core.List.{[], ◌∷◌}
use lib.Dec.{ltb}
use Rattle.rules.specs.Choice.{every}
use Rattle.rules.specs.Parts.{with_pending}
use Rattle.rules.specs.Blocks.{block_count, finished}
use Rattle.rules.specs.Speed.{at_speed}
use Rattle.rules.specs.Slots.{bus_held, slot_of}
use Rattle.rules.specs.Validity.{valid_core_if}
use Rattle.rules.specs.Commands.{enable, reading_command, command}
use Rattle.rules.specs.Registers.{wr3, register, parameter, carried_out_as}
use Rattle.rules.specs.Readback.{register_byte, Byte, gives, read_byte}
use Rattle.rules.specs.Clock.{Clock, clock, restarted, stopped, moves_at, moved_at, kind_at, Ending, ending, slot_end, clock_end, begun, slot_clock, clock_of, counted}
use Rattle.rules.specs.Buffers.{Store, source, destination}
use Rattle.rules.specs.World.{System, system, buffers_after, step_counted, clocked_by, clocked}
use Rattle.rules.specs.Refusals.{access_refusal_if}
use Rattle.rules.specs.declared.Core.{Core}
use Rattle.rules.proofs.Choice.{both_picked, ends, ◌∥◌, tables}
use Rattle.rules.proofs.Framing.{slot_timed}

-- ---- validity and refusals

pub valid_aside : (t : Bool) (n : ℕ) (c : Core) → valid_core_if t (with_pending n c) ≡ valid_core_if t c
unfolding valid_core_if
valid_aside t n c = refl

pub access_aside : (t : Bool) (n : ℕ) (c : Core) (sum port : ℕ) → access_refusal_if t (with_pending n c) sum port ≡ access_refusal_if t c sum port
unfolding access_refusal_if bus_held
access_aside t n c sum port = refl

module _ (n : ℕ) where
  -- ---- a byte

  -- the second core is the first with n pending
  abbrev With : Core → Core → Type 0
  With c d = d ≡ with_pending n c

  enable_aside : (c : Core) → With (enable c) (enable (with_pending n c))
  unfolding enable
  enable_aside c =
      both_picked With _ _ _ _ _ (λ e. refl) (λ e. both_picked With _ _ _ _ _ (λ d. refl) (λ d. refl))

  reading_command_aside : (byte : ℕ) (c : Core) → With (reading_command byte c) (reading_command byte (with_pending n c))
  unfolding reading_command
  reading_command_aside byte c = tables With (refl ∥ refl ∥ refl ∥ ends refl)

  command_aside : (byte : ℕ) (c : Core) → With (command byte c) (command byte (with_pending n c))
  unfolding command
  command_aside byte c =
      tables With (refl ∥ refl ∥ refl ∥ refl ∥ refl ∥ enable_aside c ∥ refl ∥ ends (reading_command_aside byte c))

  wr3_aside : (byte : ℕ) (c : Core) → With (wr3 byte c) (wr3 byte (with_pending n c))
  unfolding wr3
  wr3_aside byte c = both_picked With _ _ _ _ _ (λ e. enable_aside c) (λ e. refl)

  register_aside : (number byte : ℕ) (c : Core) → With (register number byte c) (register number byte (with_pending n c))
  unfolding register
  register_aside number byte c =
      tables With (refl ∥ refl ∥ refl ∥ wr3_aside byte c ∥ refl ∥ refl ∥ command_aside byte c ∥ ends refl)

  parameter_aside : (which byte : ℕ) (c : Core) → With (parameter which byte c) (parameter which byte (with_pending n c))
  unfolding parameter
  parameter_aside which byte c =
      tables With (refl ∥ refl ∥ refl ∥ refl ∥ refl ∥ refl ∥ refl ∥ refl ∥ refl ∥ ends refl)

  pub carried_aside : (next byte : ℕ) (c : Core) → carried_out_as next byte (with_pending n c) ≡ with_pending n (carried_out_as next byte c)
  unfolding carried_out_as
  carried_aside next byte c =
      both_picked With _ _ _ _ _ (λ e. parameter_aside next byte c) (λ e. register_aside _ byte c)

  -- ---- a read

  abbrev WithByte : Byte → Byte → Type 0
  WithByte r s = s ≡ gives r.byte (with_pending n r.core)

  pub read_aside : (c : Core) → read_byte (with_pending n c) ≡ gives (read_byte c).byte (with_pending n (read_byte c).core)
  unfolding read_byte register_byte
  read_aside c = tables WithByte (refl ∥ refl ∥ ends refl)

-- ---- a clock of a slot: neither the pending number nor the speed bears on it

module _ (n code : ℕ) where
  -- n pending, at another speed
  abbrev put : Core → Core
  put c = with_pending n (at_speed code c)

  abbrev Put : Core → Core → Type 0
  Put c d = d ≡ put c

  abbrev PutEnding : Ending → Ending → Type 0
  PutEnding e f = f ≡ ending e.zeroed (put e.core)

  moved_aside : (m : ℕ) (c : Core) → Put (moved_at m c) (moved_at m (put c))
  unfolding moved_at
  moved_aside m c = both_picked Put _ _ _ _ _ (λ e. refl) (λ e. refl)

  slot_end_aside : (c : Core) → PutEnding (slot_end c) (slot_end (put c))
  unfolding slot_end
  -- written out, since what stands at the blanks takes long to find
  slot_end_aside c =
      both_picked PutEnding (finished c.block) _ _ _ _
      (λ e.
      both_picked PutEnding (every (c.control.restart ∷ ltb 0 (block_count c.block) ∷ []))
      (ending (some c.block.counter) (restarted c)) (ending none (stopped c))
      (ending (some c.block.counter) (restarted (put c))) (ending none (stopped (put c)))
      (λ d. refl) (λ d. refl))
      (λ e. refl)

  clock_end_aside : (m : ℕ) (c : Core) → PutEnding (clock_end m c) (clock_end m (put c))
  unfolding clock_end
  clock_end_aside m c = both_picked PutEnding _ _ _ _ _ (λ e. refl) (λ e. slot_end_aside c)

  slot_clock_aside : (m : ℕ) (c : Core) → slot_clock m (with_pending n (at_speed code c)) ≡ clock (slot_clock m c).kind (slot_clock m c).moves (slot_clock m c).zeroed (put (slot_clock m c).next)
  unfolding slot_clock kind_at
  slot_clock_aside m c =
      ap (λ (e : Ending). clock (kind_at m c) (moves_at m c) e.zeroed e.core)
      (ap (clock_end m) (moved_aside m c) ∙ clock_end_aside m (moved_at m c))

-- the one by itself, and the other
slot_pending : (n m : ℕ) (c : Core) → slot_clock m (with_pending n c) ≡ clock (slot_clock m c).kind (slot_clock m c).moves (slot_clock m c).zeroed (with_pending n (slot_clock m c).next)
slot_pending n m c =
    slot_clock_aside n c.control.speed m c
    ∙ ap (λ (v : ℕ). clock (slot_clock m c).kind (slot_clock m c).moves (slot_clock m c).zeroed (with_pending n (at_speed v (slot_clock m c).next)))
    (sym (slot_timed (λ a b control pending. control.speed ≡ c.control.speed) (λ s. Unit {0}) tt m c refl tt).0)

pub slot_speed : (code m : ℕ) (c : Core) → slot_clock m (at_speed code c) ≡ clock (slot_clock m c).kind (slot_clock m c).moves (slot_clock m c).zeroed (at_speed code (slot_clock m c).next)
slot_speed code m c =
    slot_clock_aside c.pending code m c
    ∙ ap (λ (v : ℕ). clock (slot_clock m c).kind (slot_clock m c).moves (slot_clock m c).zeroed (with_pending v (at_speed code (slot_clock m c).next)))
    (sym (slot_timed (λ a b control pending. pending ≡ c.pending) (λ s. Unit {0}) tt m c refl tt).0)

module _ (n : ℕ) where
  -- ---- a clock of the core

  abbrev WithClock : Clock → Clock → Type 0
  WithClock k l = l ≡ clock k.kind k.moves k.zeroed (with_pending n k.next)

  pub clock_aside : (c : Core) → clock_of (with_pending n c) ≡ clock (clock_of c).kind (clock_of c).moves (clock_of c).zeroed (with_pending n (clock_of c).next)
  unfolding clock_of slot_of
  clock_aside c = both_picked WithClock _ _ _ _ _ (λ e. slot_pending n _ (begun c)) (λ e. refl)

  -- ---- clocks

  module _ {M : Type 0} (σ : Store M) where
    -- the system with n pending
    abbrev with_number : System M → System M
    with_number s = system (with_pending n s.world.core) s.world.buffers s.clocks

    step_aside : (s : System M) → step_counted σ (with_number s) ≡ with_number (step_counted σ s)
    unfolding source destination
    step_aside s =
        ap
        (λ (k : Clock).
        system k.next (buffers_after σ k.moves (source s.world.core) (destination s.world.core) s.world.buffers) (counted k.kind s.clocks))
        (clock_aside s.world.core)

    pub clocked_aside : (m : ℕ) (s : System M) → clocked σ m (system (with_pending n s.world.core) s.world.buffers s.clocks) ≡ with_number (clocked σ m s)
    unfolding clocked_by
    clocked_aside zero s = refl
    clocked_aside (suc m) s = ap (step_counted σ) (clocked_aside m s) ∙ step_aside (clocked σ m s)
