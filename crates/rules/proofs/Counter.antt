-- What a write, a read and a clock do to the counter: a Load or a Continue that is carried out puts it to zero, a byte that
-- moves adds 1, a reload puts it to zero, and nothing else changes it.
-- Assumes nothing.
use Prim.Native.Nat.{ℕ, ◌+◌}
use native.Mathlib.Omega.{arith}
use native.Mathlib.Nat.{add-zero}
use mathlib.Core.Path.{◌≡◌, refl, sym, ◌∙◌, ap}
use mathlib.Core.Bool.{Bool, true, false}
use mathlib.Core.List.{[], ◌∷◌}
use lib.Dec.{eqb}
use borrow.Author.Tests.{eqb-true}
use Rattle.rules.specs.Choice.{pick, any}
use Rattle.rules.specs.Selection.{selects}
use Rattle.rules.specs.Pending.{is_pending}
use Rattle.rules.specs.Commands.{enable, reading_command, command}
use Rattle.rules.specs.Registers.{wr3, register, parameter, in_mode, effect, written, carried_out_as, effect_over}
use Rattle.rules.specs.Readback.{Byte, read_byte}
use Rattle.rules.specs.Clock.{Clock, moves_at, moved_at, Ending, slot_end, clock_end, slot_clock, begun, clock_of}
use Rattle.rules.specs.History.{zeroing}
use Rattle.rules.specs.Accounts.{held_before}
use Rattle.rules.specs.Opened.{opened}
use Rattle.rules.specs.declared.Core.{Core}
use Rattle.rules.proofs.Choice.{clash, pick_both, below, ◌⨾◌, under, table, pick_true, pick_false, either, any_first, any_more, any_cases, any_none}

-- the counter is as it was
abbrev Same : Core → Core → Type 0
Same c d = d.block.counter ≡ c.block.counter

enable_same : (c : Core) → Same c (enable c)
unfolding enable
enable_same c = pick_both (Same c) _ _ _ refl (pick_both (Same c) _ _ _ refl refl)

reading_same : (byte : ℕ) (c : Core) → Same c (reading_command byte c)
unfolding reading_command
reading_same byte c = table (Same c) (refl ⨾ refl ⨾ refl ⨾ below refl)

-- a byte that is neither Load nor Continue
module _ (byte : ℕ) (c : Core) (load : eqb byte 0xCF ≡ false) (continue : eqb byte 0xD3 ≡ false) where
  command_same : Same c (command byte c)
  unfolding command
  command_same =
      table (Same c)
      (refl
      ⨾ refl
      ⨾ refl
      ⨾ under (λ e. clash (sym load ∙ e))
      (under (λ e. clash (sym continue ∙ e)) (enable_same c ⨾ refl ⨾ below (reading_same byte c))))

  wr3_same : Same c (wr3 byte c)
  unfolding wr3
  wr3_same = pick_both (Same c) _ _ _ (enable_same c) refl

  register_same : (number : ℕ) → Same c (register number byte c)
  unfolding register
  register_same number = table (Same c) (refl ⨾ refl ⨾ refl ⨾ wr3_same ⨾ refl ⨾ refl ⨾ command_same ⨾ below refl)

parameter_same : (which byte : ℕ) (c : Core) → Same c (parameter which byte c)
unfolding parameter
parameter_same which byte c =
    table (Same c) (refl ⨾ refl ⨾ refl ⨾ refl ⨾ refl ⨾ refl ⨾ refl ⨾ refl ⨾ refl ⨾ below refl)

-- Load and Continue
load_zero : (c : Core) → (register (selects 0xCF) 0xCF c).block.counter ≡ 0
unfolding opened
load_zero c = refl

continue_zero : (c : Core) → (register (selects 0xD3) 0xD3 c).block.counter ≡ 0
unfolding opened
continue_zero c = refl

register_zero : (byte : ℕ) (c : Core) → any (eqb byte 0xCF ∷ eqb byte 0xD3 ∷ []) ≡ true → (register (selects byte) byte c).block.counter ≡ 0
register_zero byte c e =
    any_cases _ _ e (λ d. ap (λ (b : ℕ). (register (selects b) b c).block.counter) (eqb-true _ _ d) ∙ load_zero c)
    (λ r. any_cases _ _ r (λ d. ap (λ (b : ℕ). (register (selects b) b c).block.counter) (eqb-true _ _ d) ∙ continue_zero c) any_none)

-- an accepted write
zeroing_effect : (byte : ℕ) (c : Core) → zeroing byte c ≡ true → (effect byte c).block.counter ≡ 0
unfolding effect_over carried_out_as zeroing
zeroing_effect byte c =
    either (is_pending c.pending) (λ p z. clash (sym (pick_true _ _ _ p) ∙ z))
    (λ p z. ap (λ (d : Core). d.block.counter) (pick_false _ _ _ p) ∙ register_zero byte c (sym (pick_false _ _ _ p) ∙ z))

other_effect : (byte : ℕ) (c : Core) → zeroing byte c ≡ false → Same c (effect byte c)
unfolding effect_over carried_out_as zeroing
other_effect byte c =
    either (is_pending c.pending)
    (λ p z. ap (λ (d : Core). d.block.counter) (pick_true _ _ _ p) ∙ parameter_same _ byte _)
    (λ p z.
    let n = sym (pick_false _ _ _ p) ∙ z in
    ap (λ (d : Core). d.block.counter) (pick_false _ _ _ p)
    ∙ register_same byte c (not_first _ _ n) (not_second _ _ n) _)
  where
    not_first : (s t : Bool) → any (s ∷ t ∷ []) ≡ false → s ≡ false
    not_first s t n = either s (λ e. clash (sym n ∙ any_first s (t ∷ []) e)) (λ e. e)

    not_second : (s t : Bool) → any (s ∷ t ∷ []) ≡ false → t ≡ false
    not_second s t n = either t (λ e. clash (sym n ∙ any_more s (t ∷ []) (any_first t [] e))) (λ e. e)

pub write_zero : (port byte : ℕ) (c : Core) → zeroing byte c ≡ true → (written port byte c).block.counter ≡ 0
unfolding zeroing
write_zero port byte c z = zeroing_effect byte (in_mode port c) z

pub write_same : (port byte : ℕ) (c : Core) → zeroing byte c ≡ false → Same c (written port byte c)
unfolding zeroing
write_same port byte c z = other_effect byte (in_mode port c) z

-- an accepted read
pub read_same : (c : Core) → Same c (read_byte c).core
unfolding read_byte
read_same c = table (λ (b : Byte). Same c b.core) (refl ⨾ refl ⨾ below refl)

-- ---- one clock

-- what the counter held, where it was put to zero, and what it holds are what it held before, and the byte moved
abbrev Balanced : ℕ → Clock → Type 0
Balanced before x = held_before x.zeroed + x.next.block.counter ≡ before + pick x.moves 1 0

end_balanced : (c : Core) → held_before (slot_end c).zeroed + (slot_end c).core.block.counter ≡ c.block.counter
unfolding slot_end
end_balanced c =
    pick_both (λ (x : Ending). held_before x.zeroed + x.core.block.counter ≡ c.block.counter) _ _ _
    (pick_both (λ (x : Ending). held_before x.zeroed + x.core.block.counter ≡ c.block.counter) _ _ _ (omega arith) (omega arith))
    (omega arith)

clock_end_balanced : (n : ℕ) (c : Core) → held_before (clock_end n c).zeroed + (clock_end n c).core.block.counter ≡ c.block.counter
unfolding clock_end
clock_end_balanced n c =
    pick_both (λ (x : Ending). held_before x.zeroed + x.core.block.counter ≡ c.block.counter) _ _ _ (omega arith) (end_balanced c)

moved_balanced : (n : ℕ) (c : Core) → (moved_at n c).block.counter ≡ c.block.counter + pick (moves_at n c) 1 0
unfolding moved_at
moved_balanced n c =
    either (moves_at n c)
    (λ e. ap (λ (d : Core). d.block.counter) (pick_true _ _ _ e) ∙ ap (λ (k : ℕ). c.block.counter + k) (sym (pick_true _ _ _ e)))
    (λ e.
    ap (λ (d : Core). d.block.counter) (pick_false _ _ _ e)
    ∙ sym (add-zero _)
    ∙ ap (λ (k : ℕ). c.block.counter + k) (sym (pick_false _ _ _ e)))

slot_balanced : (n : ℕ) (c : Core) → Balanced c.block.counter (slot_clock n c)
unfolding slot_clock
slot_balanced n c = clock_end_balanced n (moved_at n c) ∙ moved_balanced n c

still : (c : ℕ) → 0 + c ≡ c + pick false 1 0
unfolding pick
still c = omega arith

pub clock_balanced : (c : Core) → Balanced c.block.counter (clock_of c)
unfolding clock_of
clock_balanced c =
    pick_both (Balanced c.block.counter) _ _ _ (slot_balanced _ (begun c)) (still _)
