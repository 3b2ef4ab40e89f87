-- Of counts whose sum has room all clocks are counted.
-- Assumes nothing.
use Prim.Native.Nat.{ℕ, ◌+◌, ◌*◌, ◌-◌, ◌≤◌, ◌<◌}
use native.Mathlib.Omega.{arith}
use native.Mathlib.Nat.{mul-add}
use mathlib.Core.Path.{◌≡◌, ap, ◌∙◌}
use Rattle.std.specs.Prelude.{Option, Some, None, SomeIff, unwrap_or}
use borrow.Author.Tests.{lt-leb, le-leb}
use Rattle.rules.specs.Choice.{pick}
use Rattle.rules.specs.Validity.{total, most64}
use Rattle.rules.specs.Clock.{bus_clock, held_clock, cpu_clock, counted_by, wait_kind}
use Rattle.rules.specs.declared.at_once.Kind.{Kind}
use Rattle.rules.specs.WholeSlots.{slots_counted}
use Rattle.rules.specs.declared.Slot.{Slot}
use Rattle.rules.specs.declared.Clocks.{Clocks}
use Rattle.rules.proofs.Choice.{pick_true}
use Rattle.rules.proofs.World.{total_counted}
use Rattle.clocking.specs.Answers.{added, counted_within, slots_counted_within}

added_all : (count n : ℕ) → count + n ≤ most64 → added count n ≡ count + n
unfolding added
added_all count n h = pick_true _ _ _ (le-leb count (most64 - n) (omega arith))

pub counted_all : (kind : Kind) (n : ℕ) (k : Clocks) → total k + n ≤ most64 → counted_within kind n k ≡ counted_by kind n k
unfolding counted_within
counted_all bus_clock n k h = λ i. record { bus = added_all k.bus n (omega arith) i; held = k.held; cpu = k.cpu }
counted_all held_clock n k h = λ i. record { bus = k.bus; held = added_all k.held n (omega arith) i; cpu = k.cpu }
counted_all cpu_clock n k h = λ i. record { bus = k.bus; held = k.held; cpu = added_all k.cpu n (omega arith) i }

-- the clocks of k slots, in two parts
slots_split : (k : ℕ) (s : Slot) → s.bus ≤ s.length → k * s.length ≡ k * s.bus + k * (s.length - s.bus)
slots_split k s h =
    ap (λ (n : ℕ). k * n) (let z : s.length ≡ s.bus + (s.length - s.bus) = omega arith in z)
    ∙ mul-add k s.bus (s.length - s.bus)

-- so are all clocks of k slots
pub slots_counted_all : (k : ℕ) (s : Slot) (x : Clocks) → s.bus ≤ s.length → total x + k * s.length ≤ most64 → slots_counted_within k s x ≡ slots_counted k s x
slots_counted_all k s x f h =
    let z = slots_split k s f in
    let b : counted_within bus_clock (k * s.bus) x ≡ counted_by bus_clock (k * s.bus) x = counted_all bus_clock (k * s.bus) x (omega arith) in
    ap (counted_within (wait_kind s.burst) (k * (s.length - s.bus))) b
    ∙ counted_all (wait_kind s.burst) (k * (s.length - s.bus)) (counted_by bus_clock (k * s.bus) x) (omega (arith, total_counted bus_clock (k * s.bus) x))

-- the sum where it fits 64 bits, else the count
pub sum_or_count : (count n : ℕ) (r : Option ℕ) → n < 18446744073709551616 → SomeIff r (count + n < 18446744073709551616) (count + n) → unwrap_or r count ≡ added count n
unfolding added pick
sum_or_count count n None f g = simp (lt-leb count (most64 - n) (omega (arith, f, g)))
sum_or_count count n (Some x) f g = g.1 ∙ simp (le-leb count (most64 - n) (omega (arith, g.0)))
