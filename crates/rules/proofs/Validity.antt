-- Validity: the tests are true exactly where the facts hold. Each test is taken apart by the laws of `&&`, `||` and `pick`.
-- Assumes nothing.
use Prim.Native.Nat.{ℕ, ◌%◌, ◌≤◌, ◌<◌}
use native.Mathlib.Omega.{arith}
use mathlib.Core.Path.{◌≡◌, sym, ◌∙◌, ap}
use mathlib.Core.Bool.{Bool, true, false, not}
use mathlib.Core.List.{[], ◌∷◌}
use lib.Dec.{leb, ltb, eqb}
use borrow.Author.Tests.{ltb-true, leb-true, leb-false, eqb-true, eqb-false, lt-ltb, le-ltb, le-leb, eq-eqb, ne_eqb, not-true}
use Rattle.rules.specs.Blocks.{block_count, finished}
use Rattle.rules.specs.Slots.{unmoved, new_slot}
use Rattle.rules.specs.Validity.{valid_port, valid_readback, resting_slot, most_length, prescaled_length, valid_length, running_slot, valid_slot, valid_progress, valid_core, valid_core_if}
use Rattle.rules.specs.Facts.{ValidParts, ValidCycle, ValidReading, Resting, SlotLength, bus_time, prescaled, Running, ValidSlot, resting, running}
use Rattle.rules.specs.declared.Port.{Port}
use Rattle.rules.specs.declared.Block.{Block}
use Rattle.rules.specs.declared.Readback.{Readback}
use Rattle.rules.specs.declared.Slot.{Slot}
use Rattle.rules.specs.declared.Core.{Core}
use Rattle.rules.proofs.Speed.{BusTime, bus_range}
use Rattle.rules.proofs.Choice.{pick_true, pick_false, not_of_false, either, all_true, true_all, means_so, so_means, any_first, any_more, any_cases, any_none}

-- ---- the core, part by part

pub core_parts : (c : Core) → valid_core c ≡ true → ValidParts c
unfolding valid_core_if
core_parts c e =
    let h = all_true _ e in
    record {
      a = h.0;
      b = h.1.0;
      counter = leb-true _ _ h.1.1.0;
      speed = leb-true _ _ h.1.1.1.0;
      readback = h.1.1.1.1.0;
      pending = h.1.1.1.1.1.0;
      slot = h.1.1.1.1.1.1.0;
      progress = h.1.1.1.1.1.1.1.0;
    }

pub parts_core : (c : Core) → ValidParts c → valid_core c ≡ true
unfolding valid_core_if
parts_core c v =
    true_all _
    (v.a, (v.b, (le-leb _ _ v.counter, (le-leb _ _ v.speed, (v.readback, (v.pending, (v.slot, (v.progress, tt))))))))

-- ---- a port's cycle

pub port_cycle : (p : Port) → valid_port p ≡ true → ValidCycle p
unfolding valid_port
port_cycle p e = let h = all_true _ e in record { least = leb-true _ _ h.0; most = leb-true _ _ h.1.0 }

pub cycle_port : (p : Port) → ValidCycle p → valid_port p ≡ true
unfolding valid_port
cycle_port p v = true_all _ (le-leb _ _ v.least, (le-leb _ _ v.most, tt))

-- ---- read-back

pub readback_reading : (r : Readback) → valid_readback r ≡ true → ValidReading r
unfolding valid_readback
readback_reading r e = let h = all_true _ e in record { mask = leb-true _ _ h.0; position = leb-true _ _ h.1.0 }

pub reading_readback : (r : Readback) → ValidReading r → valid_readback r ≡ true
unfolding valid_readback
reading_readback r v = true_all _ (le-leb _ _ v.mask, (le-leb _ _ v.position, tt))

-- ---- the slot

pub prescaled_facts : (n : ℕ) → prescaled_length n ≡ true → (32 ≤ n) × (n ≤ most_length) × (n % 32 ≡ 0)
unfolding prescaled_length
prescaled_facts n e = let h = all_true _ e in (leb-true _ _ h.0, leb-true _ _ h.1.0, eqb-true _ _ h.1.1.0)

facts_prescaled : (n : ℕ) → 32 ≤ n → n ≤ most_length → n % 32 ≡ 0 → prescaled_length n ≡ true
unfolding prescaled_length
facts_prescaled n l m d = true_all _ (le-leb _ _ l, (le-leb _ _ m, (eq-eqb _ _ d, tt)))

length_facts : (s : Slot) → valid_length s ≡ true → SlotLength s
unfolding valid_length
length_facts s e =
    any_cases _ _ e (λ d. bus_time (eqb-true _ _ d))
    (λ r.
    any_cases _ _ r
    (λ d.
    let h = all_true _ d in
    let p = prescaled_facts _ h.0 in
    prescaled p.0 p.1 p.2 (leb-true _ _ h.1.0))
    any_none)

facts_length : (s : Slot) → SlotLength s → valid_length s ≡ true
unfolding valid_length
facts_length s (bus_time e) = any_first _ _ (eq-eqb _ _ e)
facts_length s (prescaled l m d b) =
    any_more _ _ (any_first _ _ (true_all _ (facts_prescaled _ l m d, (le-leb _ _ b, tt))))

resting_facts : (s : Slot) → s.elapsed ≡ 0 → resting_slot s ≡ true → Resting s
unfolding resting_slot
resting_facts s z e =
    let h = all_true _ e in
    record { elapsed = z; bus = eqb-true _ _ h.0; length = eqb-true _ _ h.1.0; burst = not-true _ h.1.1.0 }

running_facts : (s : Slot) → (s.elapsed ≡ 0 → ⊥) → running_slot s ≡ true → Running s
unfolding running_slot
running_facts s n e =
    let h = all_true _ e in
    record {
      elapsed = omega (arith, n);
      below = ltb-true _ _ h.1.1.1.0;
      least = leb-true _ _ h.0;
      most = leb-true _ _ h.1.0;
      length = length_facts s h.1.1.0;
    }

pub slot_facts : (t : Bool) (s : Slot) → valid_slot t s ≡ true → ValidSlot t s
unfolding valid_slot
slot_facts t s e =
    either (eqb s.elapsed 0)
    (λ z. resting (resting_facts s (eqb-true _ _ z) (sym (pick_true _ _ _ z) ∙ e)))
    (λ n. let h = all_true _ (sym (pick_false _ _ _ n) ∙ e) in running h.0 (running_facts s (eqb-false _ _ n) h.1.0))

pub facts_slot : (t : Bool) (s : Slot) → ValidSlot t s → valid_slot t s ≡ true
unfolding valid_slot resting_slot running_slot
facts_slot t s (resting r) =
    pick_true _ _ _ (eq-eqb _ _ r.elapsed)
    ∙ true_all _ (eq-eqb _ _ r.bus, (eq-eqb _ _ r.length, (not_of_false _ r.burst, tt)))
facts_slot t s (running on r) =
    pick_false _ _ _ (ne_eqb s.elapsed 0 (λ z. omega (arith, r.elapsed)))
    ∙ true_all _ (on, (true_all _ (le-leb _ _ r.least, (le-leb _ _ r.most, (facts_length s r.length, (lt-ltb _ _ r.below, tt)))), tt))

-- ---- progress

-- below the block count is not at or above it
pub unfinished_below : (b : Block) → ltb b.counter (block_count b) ≡ not (finished b)
unfolding finished
unfinished_below b =
    either (leb (block_count b) b.counter)
    (λ e. le-ltb _ _ (leb-true (block_count b) b.counter e) ∙ sym (ap not e))
    (λ e. lt-ltb _ _ (leb-false (block_count b) b.counter e) ∙ sym (ap not e))

pub progress_facts : (t : Bool) (b : Block) (s : Slot) → valid_progress t b s ≡ true → t ≡ true → unmoved s ≡ true → finished b ≡ false
unfolding valid_progress
progress_facts t b s e on u =
    not-true _ (sym (unfinished_below b) ∙ means_so _ _ e (true_all (t ∷ unmoved s ∷ []) (on, (u, tt))))

pub facts_progress : (t : Bool) (b : Block) (s : Slot) → (t ≡ true → unmoved s ≡ true → finished b ≡ false) → valid_progress t b s ≡ true
unfolding valid_progress
facts_progress t b s f =
    so_means _ _ (λ e. let h = all_true _ e in unfinished_below b ∙ not_of_false _ (f h.0 h.1.0))

-- ---- bounds that code relies on

slot_elapsed : (t : Bool) (s : Slot) → ValidSlot t s → s.elapsed < most_length
slot_elapsed t s (resting r) = omega arith
slot_elapsed t s (running on r) = length_most r.length
  where
    length_most : SlotLength s → s.elapsed < most_length
    length_most (bus_time e) = omega arith
    length_most (prescaled l m e b) = omega arith

pub record Bounded (c : Core) : Type 0 where
  pub counter : c.block.counter ≤ 65536
  pub elapsed : c.slot.elapsed < most_length

pub valid_bounded : (c : Core) → valid_core c ≡ true → Bounded c
valid_bounded c e =
    let v = core_parts c e in record { counter = v.counter; elapsed = slot_elapsed _ _ (slot_facts _ _ v.slot) }

-- the bus time of the slot that the registers of a valid core start
pub valid_bus : (c : Core) → valid_core c ≡ true → BusTime (new_slot c).bus
valid_bus c v =
    let p = core_parts c v in
    let a = port_cycle _ p.a in
    let b = port_cycle _ p.b in
    bus_range c.control.speed _ _ a.least a.most b.least b.most
