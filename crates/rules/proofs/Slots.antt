-- The slot that begins or runs, the larger of two numbers, the slot's tests as facts, and what a free bus says of the slot.
-- Assumes nothing.
use Prim.Native.Nat.{ℕ, ◌≤◌, ◌<◌}
use native.Mathlib.Omega.{arith}
use native.Mathlib.Nat.{le_refl, le_of_lt}
use mathlib.Core.Path.{◌≡◌, sym, ◌∙◌}
use mathlib.Core.Bool.{Bool, true, false, not}
use mathlib.Core.List.{[], ◌∷◌}
use lib.Dec.{ltb, eqb}
use borrow.Author.Tests.{ltb-true, ltb-false, leb-true, eqb-true, eqb-false, eq-eqb, ne_eqb, lt-ltb}
use Rattle.rules.specs.Slots.{larger, new_slot, slot_of, waiting, bus_held, unmoved}
use Rattle.rules.specs.Facts.{ValidSlot, resting, running}
use Rattle.rules.specs.declared.Slot.{Slot}
use Rattle.rules.specs.declared.Core.{Core}
use Rattle.rules.proofs.Choice.{clash, pick_true, pick_false, pick_cases, pick_both, not_of_false, either, all_true, true_all, any_first, any_more, any_cases, any_none}

-- the next clock begins a slot, or is one of the slot that runs
pub slot_begins : (c : Core) → c.slot.elapsed ≡ 0 → slot_of c ≡ new_slot c
unfolding slot_of
slot_begins c e = pick_true _ _ _ (eq-eqb _ _ e)

pub slot_runs : (c : Core) → (c.slot.elapsed ≡ 0 → ⊥) → slot_of c ≡ c.slot
unfolding slot_of
slot_runs c e = pick_false _ _ _ (ne_eqb _ _ e)

-- what holds of the slot that begins, where none runs, and of the one that runs, holds of the one that runs, or else begins
pub slot_cases : (P : Slot → Type 0) (c : Core) → (c.slot.elapsed ≡ 0 → P (new_slot c)) → ((c.slot.elapsed ≡ 0 → ⊥) → P c.slot) → P (slot_of c)
unfolding slot_of
slot_cases P c f g =
    pick_cases P (eqb c.slot.elapsed 0) _ _ (λ e. f (eqb-true _ _ e)) (λ e. g (eqb-false _ _ e))

-- ---- the larger of two numbers

pub larger_left : (x y : ℕ) → x ≤ larger x y
unfolding larger
larger_left x y = pick_cases (λ n. x ≤ n) (ltb x y) y x (λ e. le_of_lt (ltb-true _ _ e)) (λ e. le_refl x)

pub larger_right : (x y : ℕ) → y ≤ larger x y
unfolding larger
larger_right x y = pick_cases (λ n. y ≤ n) (ltb x y) y x (λ e. le_refl y) (λ e. ltb-false _ _ e)

-- is one of them
pub larger_cases : (P : ℕ → Type 0) (x y : ℕ) → P x → P y → P (larger x y)
unfolding larger
larger_cases P x y p q = pick_both P (ltb x y) y x q p

-- ---- waiting

-- waiting in a burst slot
pub record Waiting (s : Slot) : Type 0 where
  pub burst : s.burst ≡ true
  pub past : s.bus ≤ s.elapsed
  pub below : s.elapsed < s.length

waiting_facts : (s : Slot) → waiting s ≡ true → Waiting s
unfolding waiting
waiting_facts s e =
    let h = all_true _ e in
    record {
      burst = h.0;
      past = leb-true s.bus s.elapsed h.1.0;
      below = ltb-true s.elapsed s.length h.1.1.0;
    }

pub unmoved_cases {ℓ} : {X : Type ℓ} (s : Slot) → unmoved s ≡ true → (s.elapsed ≡ 0 → X) → (s.elapsed < s.bus → X) → X
unfolding unmoved
unmoved_cases s e f g = any_cases _ _ e (λ d. f (eqb-true _ _ d)) (λ r. any_cases _ _ r (λ d. g (ltb-true _ _ d)) any_none)

pub unmoved_first : (s : Slot) → s.elapsed ≡ 0 → unmoved s ≡ true
unfolding unmoved
unmoved_first s e = any_first _ _ (eq-eqb _ _ e)

pub unmoved_below : (s : Slot) → s.elapsed < s.bus → unmoved s ≡ true
unfolding unmoved
unmoved_below s h = any_more _ _ (any_first _ _ (lt-ltb _ _ h))

-- a device that waits in a burst slot has moved the slot's byte
waiting_moved : (t : Bool) (s : Slot) → ValidSlot t s → Waiting s → unmoved s ≡ true → ⊥
waiting_moved t s (resting r) w u = omega arith
waiting_moved t s (running on r) w u = unmoved_cases s u (λ z. omega arith) (λ z. omega arith)

-- while the bus is free, an enabled device has moved its slot's byte
pub free_settled : (c : Core) → ValidSlot c.enabled c.slot → bus_held c ≡ false → c.enabled ≡ true → unmoved c.slot ≡ true → ⊥
unfolding bus_held
free_settled c v e on u =
    either (waiting c.slot) (λ w. waiting_moved _ _ v (waiting_facts _ w) u)
    (λ w. clash (sym e ∙ true_all (c.enabled ∷ not (waiting c.slot) ∷ []) (on, (not_of_false _ w, tt))))
