-- The next span, by what the tests on the way say: none without room, all clocks of a disabled device, else the clocks of the
-- present stretch that the budget has.
-- Assumes nothing.
use Prim.Native.Nat.{ℕ, ◌+◌, ◌<◌}
use native.Mathlib.Omega.{arith}
use mathlib.Core.Path.{◌≡◌, refl, sym, ◌∙◌, ap, subst}
use mathlib.Core.Bool.{true, false}
use lib.Dec.{ltb}
use borrow.Author.Tests.{lt-ltb, ltb-true}
use Rattle.rules.specs.Parts.{with_slot}
use Rattle.rules.specs.Validity.{valid_core}
use Rattle.rules.specs.Clock.{cpu_clock, slot_clock}
use Rattle.rules.specs.Buffers.{source, destination}
use Rattle.rules.specs.Spans.{span, IsSpan, IsLongestSpan}
use Rattle.rules.specs.Slots.{slot_of}
use Rattle.rules.specs.Stretches.{least, stretch_rest}
use Rattle.rules.specs.declared.Place.{Place}
use Rattle.rules.specs.declared.Slot.{Slot}
use Rattle.rules.specs.declared.Core.{Core}
use Rattle.rules.specs.declared.at_once.Span.{Span}
use Rattle.rules.proofs.Choice.{pick_true, pick_cases}
use Rattle.rules.proofs.Validity.{valid_bounded}
use Rattle.rules.proofs.Spans.{span_none}
use Rattle.rules.proofs.Stretches.{Least, least_facts, slot_elapsed, rest_facts, next_span, next_longest, idle_span, idle_longest}
use Rattle.clocking.specs.Answers.{tick, room_for, MayRun}
use Rattle.clocking.specs.declared.clock.Tick.{Tick}

-- ---- room

-- counter and slot can take one more clock
abbrev pub Roomy : Core → Type 0
Roomy c = (c.block.counter < 4294967295) × (c.slot.elapsed < 65535)

-- where a span takes a clock they can
roomy : (c : Core) (budget : ℕ) → (room_for c budget ≡ 0 → ⊥) → Roomy c
unfolding room_for
roomy c budget =
    pick_cases (λ (n : ℕ). (n ≡ 0 → ⊥) → Roomy c) (ltb c.block.counter 4294967295) _ _
    (λ e.
    pick_cases (λ (n : ℕ). (n ≡ 0 → ⊥) → Roomy c) (ltb c.slot.elapsed 65535) _ _
    (λ f g. (ltb-true c.block.counter 4294967295 e, ltb-true c.slot.elapsed 65535 f))
    (λ f g. absurd (g refl)))
    (λ e g. absurd (g refl))

valid_room : (c : Core) (budget : ℕ) → valid_core c ≡ true → room_for c budget ≡ budget
unfolding room_for
valid_room c budget v =
    pick_true _ _ _ (lt-ltb c.block.counter 4294967295 (omega (arith, valid_bounded c v)))
    ∙ pick_true _ _ _ (lt-ltb c.slot.elapsed 65535 (omega (arith, valid_bounded c v)))

-- of a valid core the whole budget may be taken
pub valid_span : (c : Core) (budget : ℕ) {x : Span} → valid_core c ≡ true → IsSpan c (room_for c budget) x → IsSpan c budget x
valid_span c budget {x} v p = subst (λ (m : ℕ). IsSpan c m x) (valid_room c budget v) p

-- ---- what each test says of the answer

positive : {n : ℕ} → (n ≡ 0 → ⊥) → 0 < n
positive h = omega (arith, h)

pub none_answers : (c : Core) (budget : ℕ) {r : Span} → budget ≡ 0 → r ≡ span cpu_clock 0 false c c → IsLongestSpan c budget r
none_answers c budget e x =
    rw x (
      span_none c budget cpu_clock e,
      record { inside = λ i l. absurd (omega arith); reached = λ i o l. absurd (omega arith); idle = λ off. sym e },
    )

pub idle_answers : (c : Core) (budget : ℕ) {r : Span} → c.enabled ≡ false → r ≡ span cpu_clock budget false c c → IsLongestSpan c budget r
idle_answers c budget off x = rw x (idle_span c budget off, idle_longest c budget off)

-- a core that runs: its budget is what it has room for
pub may_run : (c : Core) (budget room : ℕ) → room ≡ room_for c budget → (room ≡ 0 → ⊥) → c.enabled ≡ true → MayRun c room
may_run c budget room e n on =
    let h = roomy c budget (λ z. n (e ∙ z)) in
    record { on = on; counter = h.0; elapsed = h.1; some = positive n }

module _ {c : Core} {budget rest clocks : ℕ} {s : Slot} (m : MayRun c budget) (a : s ≡ slot_of c) (b : rest ≡ stretch_rest s) (n : clocks ≡ least budget rest) where
  fewest : Least budget (stretch_rest (slot_of c)) clocks
  fewest = subst (Least budget (stretch_rest (slot_of c))) (ap (λ (x : Slot). least budget (stretch_rest x)) (sym a) ∙ ap (least budget) (sym b) ∙ sym n) (least_facts budget (stretch_rest (slot_of c)))

  -- the number of the span's last clock fits its type
  pub last_fits : s.length < 65536 → c.slot.elapsed + clocks < 65536
  last_fits h =
      omega (
        arith,
        fewest.second,
        m.elapsed,
        slot_elapsed c,
        (rest_facts (slot_of c)).fits (rw (slot_elapsed c) m.elapsed) (subst (λ (x : Slot). x.length < 65536) a h),
      )

  pub slot_answers :
      {last : ℕ} {t : Tick} {from to : Place} → last ≡ c.slot.elapsed + clocks
      → t ≡ tick (slot_clock last (with_slot s c)) → from ≡ source c → to ≡ destination c
      → IsLongestSpan c budget (record { kind = t.kind; clocks = clocks; moves = t.moves; from = from; to = to; next = t.next })
  unfolding slot_clock
  slot_answers e x f g =
      rw (x, e, a, f, g)
      (next_span c m.on fewest m.some, next_longest c m.on fewest m.some)
