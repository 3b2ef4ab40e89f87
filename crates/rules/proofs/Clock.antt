-- One clock keeps a valid core valid. What is needed of a slot's n-th clock: the slot's figures are valid, n is within the
-- length, and up to the bus time the block is not finished, so the counter has room for one more.
-- Assumes nothing.
use Prim.Native.Nat.{ℕ, ◌+◌, ◌*◌, ◌≤◌, ◌<◌}
use native.Mathlib.Omega.{arith}
use mathlib.Core.Path.{◌≡◌, refl, sym, subst}
use mathlib.Core.Bool.{Bool, true, false}
use mathlib.Core.List.{[], ◌∷◌}
use lib.Dec.{ltb, eqb}
use native.Mathlib.Nat.{le_of_eq, le_of_lt}
use borrow.Author.Tests.{ltb-true, eqb-true, eqb-false}
use Rattle.rules.specs.Choice.{every}
use Rattle.rules.specs.Parts.{with_slot}
use Rattle.rules.specs.Blocks.{block_count, finished}
use Rattle.rules.specs.Slots.{no_slot, unmoved, larger, slot_length, new_slot}
use Rattle.rules.specs.Validity.{most_bus}
use Rattle.rules.specs.Facts.{Kept, SlotLength, bus_time, prescaled, ValidSlot, resting, running}
use Rattle.rules.specs.Clock.{Clock, moved, with_elapsed, moves_at, moved_at, Ending, slot_end, clock_end, slot_clock, begun, clock_of}
use Rattle.rules.specs.declared.Slot.{Slot}
use Rattle.rules.specs.declared.Core.{Core}
use Rattle.rules.proofs.Choice.{clash, pick_cases, all_true}
use Rattle.rules.proofs.Speed.{BusTime, bus_range}
use Rattle.rules.proofs.Blocks.{unfinished_room, reloaded_unfinished}
use Rattle.rules.proofs.Slots.{slot_cases, unmoved_cases, unmoved_first, unmoved_below}
use Rattle.rules.proofs.Ports.{good_advanced, good_loaded}
use Rattle.rules.proofs.Steady.{SteadyCore, steady_a, steady_b, steady_block, kept_from, kept_steady, kept_slot, kept_progress}

-- ---- a slot's n-th clock

record Turn (n : ℕ) (c : Core) : Type 0 where
  on : c.enabled ≡ true
  first : 0 < n
  last : n ≤ c.slot.length
  least : 4 ≤ c.slot.bus
  most : c.slot.bus ≤ most_bus
  length : SlotLength c.slot
  unfinished : n ≤ c.slot.bus → finished c.block ≡ false

-- the slot of which n clocks have elapsed
turn_running : (n : ℕ) (c : Core) → Turn n c → n < c.slot.length → ValidSlot c.enabled (with_elapsed n c).slot
turn_running n c t h = running t.on (record { elapsed = t.first; below = h; least = t.least; most = t.most; length = same t.length })
  where
    same : SlotLength c.slot → SlotLength (with_elapsed n c).slot
    same (bus_time e) = bus_time e
    same (prescaled l m e b) = prescaled l m e b

moved_steady : (c : Core) → SteadyCore c → finished c.block ≡ false → SteadyCore (moved c)
moved_steady c s e =
    steady_a
    (steady_b (steady_block s _ (unfinished_room c.block s.length e) s.length) (good_advanced _ s.b))
    (good_advanced _ s.a)

rest_slot : (t : Bool) → ValidSlot t no_slot
rest_slot t = resting (record { elapsed = refl; bus = refl; length = refl; burst = refl })

-- the end of a slot
end_kept : (c : Core) → c.enabled ≡ true → SteadyCore c → Kept (slot_end c).core
unfolding slot_end
end_kept c on s =
    pick_cases (λ (x : Ending). Kept x.core) _ _ _
    (λ e.
    pick_cases (λ (x : Ending). Kept x.core) _ _ _
    (λ (d : every (c.control.restart ∷ ltb 0 (block_count c.block) ∷ []) ≡ true).
    kept_from _
    (steady_a (steady_b (steady_block s _ (omega arith) s.length) (good_loaded _ s.b)) (good_loaded _ s.a))
    (rest_slot _) (λ o u. reloaded_unfinished c.block (ltb-true _ _ (all_true _ d).1.0)))
    (λ d. kept_from _ s (rest_slot _) (λ o u. clash o)))
    (λ e. kept_from _ s (rest_slot _) (λ o u. e))

-- the end of a clock, where up to the bus time the block is not finished but for the byte just moved
clock_end_kept : (n : ℕ) (c : Core) → c.enabled ≡ true → SteadyCore c → (n < c.slot.length → ValidSlot c.enabled (with_elapsed n c).slot) → (unmoved (with_elapsed n c).slot ≡ true → finished c.block ≡ false) → Kept (clock_end n c).core
unfolding clock_end
clock_end_kept n c on s v u =
    pick_cases (λ (x : Ending). Kept x.core) _ _ _
    (λ (h : ltb n c.slot.length ≡ true). kept_from _ s (v (ltb-true _ _ h)) (λ o m. u m))
    (λ h. end_kept c on s)

slot_kept : (n : ℕ) (c : Core) → SteadyCore c → Turn n c → Kept (slot_clock n c).next
unfolding slot_clock moved_at
slot_kept n c s t =
    pick_cases (λ d. Kept (clock_end n d).core) (moves_at n c) (moved c) c
    (λ e.
    clock_end_kept n (moved c) t.on (moved_steady c s (t.unfinished (le_of_eq (eqb-true _ _ e)))) (turn_running n c t)
    (λ u. absurd (unmoved_cases _ u (λ z. omega (arith, t.first)) (λ z. omega (arith, eqb-true n c.slot.bus e)))))
    (λ e.
    clock_end_kept n c t.on s (turn_running n c t)
    (λ u. unmoved_cases _ u (λ z. absurd (omega (arith, t.first))) (λ z. t.unfinished (le_of_lt z))))

-- ---- one clock

-- the slot that the registers start
pub new_length : (c : Core) → c.control.prescaler < 256 → SlotLength (new_slot c)
unfolding slot_length larger
new_length c h =
    pick_cases
    (λ n. SlotLength (record { elapsed = 0; bus = (new_slot c).bus; length = n; burst = c.control.burst }))
    _ _ _ (λ e. bus_time refl)
    (λ (e : eqb c.control.prescaler 0 ≡ false).
    let n = eqb-false c.control.prescaler 0 e in
    pick_cases
    (λ n. SlotLength (record { elapsed = 0; bus = (new_slot c).bus; length = n; burst = c.control.burst }))
    (ltb (new_slot c).bus (32 * c.control.prescaler)) _ _
    (λ l. prescaled (omega (arith, n)) (omega (arith, h)) (omega arith) (le_of_lt (ltb-true _ _ l))) (λ l. bus_time refl))

-- and its bus time
pub new_bus : (c : Core) → SteadyCore c → BusTime (new_slot c).bus
new_bus c s =
    bus_range c.control.speed _ _ s.a.cycle.least s.a.cycle.most s.b.cycle.least s.b.cycle.most

-- a slot is not empty
length_some : (s : Slot) → 4 ≤ s.bus → SlotLength s → 1 ≤ s.length
length_some s h (bus_time e) = omega arith
length_some s h (prescaled l m e b) = omega arith

first_turn : (c : Core) → SteadyCore c → c.enabled ≡ true → finished c.block ≡ false → Turn 1 (with_slot (new_slot c) c)
first_turn c s on e =
    record {
      on = on;
      first = omega arith;
      last = length_some (new_slot c) (new_bus c s).least (new_length c s.prescaler);
      least = (new_bus c s).least;
      most = (new_bus c s).most;
      length = new_length c s.prescaler;
      unfinished = λ h. e;
    }

next_turn : (c : Core) → Kept c → ValidSlot c.enabled c.slot → c.enabled ≡ true → (c.slot.elapsed ≡ 0 → ⊥) → Turn (c.slot.elapsed + 1) c
next_turn c k (resting r) on e = absurd (e r.elapsed)
next_turn c k (running o r) on e =
    record {
      on = on;
      first = omega arith;
      last = omega (arith, r.below);
      least = r.least;
      most = r.most;
      length = r.length;
      unfinished = λ h. kept_progress c k on (unmoved_below c.slot (omega arith));
    }

-- the next clock of the slot that runs or begins
begun_turn : (c : Core) → Kept c → c.enabled ≡ true → Turn (c.slot.elapsed + 1) (begun c)
begun_turn c k on =
    slot_cases (λ (s : Slot). Turn (c.slot.elapsed + 1) (with_slot s c)) c
    (λ e.
    subst (λ n. Turn (n + 1) (with_slot (new_slot c) c)) (sym e)
    (first_turn c (kept_steady c k) on (kept_progress c k on (unmoved_first c.slot e))))
    (λ n. next_turn c k (kept_slot c k) on n)

-- one clock keeps a valid core valid
pub clock_kept : (c : Core) → Kept c → Kept (clock_of c).next
unfolding clock_of
clock_kept c k =
    pick_cases (λ (x : Clock). Kept x.next) _ _ _
    (λ on. slot_kept _ (begun c) (kept_steady c k) (begun_turn c k on))
    (λ e. k)
