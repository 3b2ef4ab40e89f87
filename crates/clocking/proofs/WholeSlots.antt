-- Whole slots: what their number and their clocks are, and bytes on the way. After i of k bytes the ports are as many steps
-- further, and the buffers are as after i bytes one by one; a stride is a step, since pointers stay below 65,536.
-- Assumes nothing.
use Prim.Native.Nat.{ℕ, ◌+◌, ◌*◌, ◌/◌, ◌%◌, ◌≤◌, ◌<◌}
use native.Mathlib.Omega.{arith}
use native.Mathlib.Numerals.{add-one}
use native.Mathlib.Nat.{mul-le-mul}
use mathlib.Core.Path.{◌≡◌, refl, sym, ◌∙◌, ap}
use mathlib.Core.Bool.{Bool, true}
use mathlib.Core.List.{List}
use Rattle.rules.specs.Choice.{pick}
use Rattle.rules.specs.Parts.{with_pointer}
use Rattle.rules.specs.Ports.{advanced, stride, stepped_by, advanced_by}
use Rattle.rules.specs.Blocks.{bytes_left}
use Rattle.rules.specs.Slots.{new_slot}
use Rattle.rules.specs.Buffers.{Buffers, flat, place_of, source, destination, transfer}
use Rattle.rules.specs.Stretches.{least}
use Rattle.rules.specs.WholeSlots.{at_slot_start, slots_within, moved_by, transferred}
use Rattle.rules.specs.declared.Place.{Place}
use Rattle.rules.specs.declared.Port.{Port}
use Rattle.rules.specs.declared.Slot.{Slot}
use Rattle.rules.specs.declared.Core.{Core}
use Rattle.rules.proofs.Choice.{pick_true}
use Rattle.rules.proofs.Ports.{stepped_by_below, stepped_stride}
use Rattle.rules.proofs.WholeSlots.{AtSlotStart, at_slot_start_lem}
use Rattle.clocking.specs.Answers.{BytesMoved}

-- ---- how many, and of how many clocks

module _ (c : Core) {starts : Bool} (e : starts ≡ at_slot_start c) (t : starts ≡ true) where
  start : AtSlotStart c
  start = at_slot_start_lem c (sym e ∙ t)

  -- the length is not 0
  pub length_some : {slot : Slot} → slot ≡ new_slot c → 0 < slot.length
  length_some s = rw s start.length

  pub slots_at_start : (budget : ℕ) {slot : Slot} {left r : ℕ} → slot ≡ new_slot c → left ≡ bytes_left c.block → r ≡ least (budget / slot.length) left → r ≡ slots_within c budget
  unfolding slots_within
  slots_at_start budget s n x =
      x ∙ (λ i. least (budget / (s i).length) (n i)) ∙ sym (pick_true _ _ _ (sym e ∙ t))

-- a product fits 64 bits
pub times_fit : (k n : ℕ) → k < 4294967296 → n < 65536 → k * n < 18446744073709551616
times_fit k n h l =
    let x : k ≤ 4294967295 = omega arith in
    let y : n ≤ 65535 = omega arith in
    let z : k * n ≤ 4294967295 * 65535 = mul-le-mul x y in omega arith

-- ---- bytes on the way

pub record Carrying (c : Core) (k : ℕ) (before now : Buffers (List ℕ)) (a b : Port) (i : ℕ) : Type 0 where
  pub within : i ≤ k
  pub most : k < 4294967296
  pub in_a : c.a.pointer < 65536
  pub in_b : c.b.pointer < 65536
  pub port_a : a ≡ advanced_by i c.a
  pub port_b : b ≡ advanced_by i c.b
  pub buffers : now ≡ transferred flat i c before

pub carrying_start : (c : Core) (x : Buffers (List ℕ)) (k : ℕ) → k < 4294967296 → c.a.pointer < 65536 → c.b.pointer < 65536 → Carrying c k x x c.a c.b 0
unfolding transferred stepped_by
carrying_start c x k h f g = record { within = omega arith; most = h; in_a = f; in_b = g; port_a = refl; port_b = refl; buffers = refl }

port_more : (i : ℕ) (p : Port) → advanced (advanced_by i p) ≡ advanced_by (i + 1) p
unfolding stepped_by
port_more i p = ap (λ (n : ℕ). advanced_by n p) (sym (add-one i))

-- a port that has gone on by its stride once more
port_gone : (i : ℕ) (p : Port) {q r : Port} {by : ℕ} → p.pointer < 65536 → q ≡ advanced_by i p → by ≡ stride p.step → r ≡ with_pointer ((q.pointer + by) % 65536) q → r ≡ advanced_by (i + 1) p
port_gone i p h e s x =
    x
    ∙ (λ j. with_pointer (((e j).pointer + s j) % 65536) (e j))
    ∙ ap (λ (n : ℕ). with_pointer n p) (stepped_stride p.step (stepped_by i p.step p.pointer) (stepped_by_below i p.step p.pointer h))
    ∙ port_more i p

transferred_more : (i : ℕ) (c : Core) (b : Buffers (List ℕ)) → transfer flat (source (moved_by i c)) (destination (moved_by i c)) (transferred flat i c b) ≡ transferred flat (i + 1) c b
unfolding transferred
transferred_more i c b = ap (λ (n : ℕ). transferred flat n c b) (sym (add-one i))

-- the place in one of two ports
places : (first : Bool) {p q p' q' : Port} → p ≡ p' → q ≡ q' → pick first (place_of p) (place_of q) ≡ pick first (place_of p') (place_of q')
places first f g = λ n. pick first (place_of (f n)) (place_of (g n))

pub carrying_more :
    {c : Core} {before now later : Buffers (List ℕ)} {k i : ℕ} {a b a' b' : Port} {from to : Place} {x y : ℕ}
    → Carrying c k before now a b i → i < k → x ≡ stride c.a.step → y ≡ stride c.b.step
    → from ≡ pick c.control.forward (place_of a) (place_of b)
    → to ≡ pick c.control.forward (place_of b) (place_of a) → later ≡ transfer flat from to now
    → a' ≡ with_pointer ((a.pointer + x) % 65536) a → b' ≡ with_pointer ((b.pointer + y) % 65536) b
    → Carrying c k before later a' b' (i + 1)
unfolding source destination
carrying_more {c} {before} {i = i} g h u v f t e p q =
    record {
      within = omega arith;
      most = g.most;
      in_a = g.in_a;
      in_b = g.in_b;
      port_a = port_gone i c.a g.in_a g.port_a u p;
      port_b = port_gone i c.b g.in_b g.port_b v q;
      buffers =
          e
          ∙ (λ j. transfer flat ((f ∙ places c.control.forward g.port_a g.port_b) j) ((t ∙ places c.control.forward g.port_b g.port_a) j) (g.buffers j))
          ∙ transferred_more i c before;
    }

-- all k bytes have moved
pub carrying_end : {c : Core} {before now : Buffers (List ℕ)} {k i : ℕ} {a b : Port} → Carrying c k before now a b i → k ≤ i → BytesMoved c k before now a b
carrying_end {c} {before} {k = k} {i} g h =
    let z : i ≡ k = omega (arith, g.within) in
    record {
      a = g.port_a ∙ ap (λ (n : ℕ). advanced_by n c.a) z;
      b = g.port_b ∙ ap (λ (n : ℕ). advanced_by n c.b) z;
      buffers = g.buffers ∙ ap (λ (n : ℕ). transferred flat n c before) z;
    }
