-- A span is as many clocks of the definition: the kinds are counted together, the buffers stay until the last clock, and the
-- byte moves on that one.
-- Assumes nothing.
use Prim.Native.Nat.{ℕ, zero, suc, ◌+◌, ◌≤◌, ◌<◌}
use native.Mathlib.Omega.{arith}
use native.Mathlib.Nat.{add-zero, add_assoc, le_refl}
use native.Mathlib.Numerals.{add-one}
use mathlib.Core.Path.{◌≡◌, refl, sym, ◌∙◌, ap}
use mathlib.Core.Bool.{false}
use Rattle.rules.specs.Choice.{pick}
use Rattle.rules.specs.Clock.{bus_clock, held_clock, cpu_clock, counted_by, counted, clock_of}
use Rattle.rules.specs.declared.at_once.Kind.{Kind}
use Rattle.rules.specs.Buffers.{Store, Buffers, source, destination}
use Rattle.rules.specs.World.{System, system, buffers_after, clocked}
use Rattle.rules.specs.Spans.{kind_code, kind_of, ticks, span, IsSpan, IsLongestSpan, span_passed, SpansAreClocks, SpansSettled}
use Rattle.rules.specs.declared.Clocks.{Clocks}
use Rattle.rules.specs.declared.Core.{Core}
use Rattle.rules.specs.declared.at_once.Span.{Span}
use Rattle.rules.proofs.Choice.{clash, pick_false, any_cases, any_none}
use Rattle.rules.proofs.World.{clocked_zero, clocked_suc}

-- a kind's number is the kind's
pub kind_of_code : (k : Kind) → kind_of (kind_code k) ≡ k
unfolding kind_of pick
kind_of_code bus_clock = refl
kind_of_code held_clock = refl
kind_of_code cpu_clock = refl

-- one clock counted, after n of its kind
counted_more : (k : Kind) (n : ℕ) (x : Clocks) → counted k (counted_by k n x) ≡ counted_by k (suc n) x
counted_more bus_clock n x = simp (add_assoc, add-one)
counted_more held_clock n x = simp (add_assoc, add-one)
counted_more cpu_clock n x = simp (add_assoc, add-one)

pub counted_none : (k : Kind) (x : Clocks) → counted_by k 0 x ≡ x
counted_none bus_clock x = simp add-zero
counted_none held_clock x = simp add-zero
counted_none cpu_clock x = simp add-zero

pub ticks_zero : (c : Core) → ticks 0 c ≡ c
unfolding ticks
ticks_zero c = refl

pub ticks_suc : (n : ℕ) (c : Core) → ticks (suc n) c ≡ (clock_of (ticks n c)).next
unfolding ticks
ticks_suc n c = refl

module _ {M : Type 0} (σ : Store M) (s : System M) where
  -- the core of n clocks
  clocked_core : (n : ℕ) → (clocked σ n s).world.core ≡ ticks n s.world.core
  clocked_core zero = ap (λ (t : System M). t.world.core) (clocked_zero σ s) ∙ sym (ticks_zero _)
  clocked_core (suc n) =
      ap (λ (t : System M). t.world.core) (clocked_suc σ n s)
      ∙ ap (λ (c : Core). (clock_of c).next) (clocked_core n)
      ∙ sym (ticks_suc n _)

  -- the buffers after one clock of a core
  abbrev after : Core → Buffers M → Buffers M
  after c b = buffers_after σ (clock_of c).moves (source c) (destination c) b

  -- the buffers after one more clock
  clocked_buffers : (n : ℕ) → (clocked σ (suc n) s).world.buffers ≡ after (ticks n s.world.core) (clocked σ n s).world.buffers
  clocked_buffers n =
      ap (λ (t : System M). t.world.buffers) (clocked_suc σ n s)
      ∙ ap (λ (c : Core). after c (clocked σ n s).world.buffers) (clocked_core n)

  -- the counts after one more clock
  clocked_clocks : (n : ℕ) → (clocked σ (suc n) s).clocks ≡ counted (clock_of (ticks n s.world.core)).kind (clocked σ n s).clocks
  clocked_clocks n =
      ap (λ (t : System M). t.clocks) (clocked_suc σ n s)
      ∙ ap (λ (c : Core). counted (clock_of c).kind (clocked σ n s).clocks) (clocked_core n)

  module _ {budget : ℕ} {x : Span} (p : IsSpan s.world.core budget x) where
    -- before the last clock the buffers are as they were
    still_buffers : (i : ℕ) → i < x.clocks → (clocked σ i s).world.buffers ≡ s.world.buffers
    unfolding buffers_after
    still_buffers zero h = ap (λ (t : System M). t.world.buffers) (clocked_zero σ s)
    still_buffers (suc i) h =
        clocked_buffers i ∙ pick_false _ _ _ (p.quiet i (omega arith)) ∙ still_buffers i (omega arith)

    -- all clocks are counted by the one kind
    still_clocks : (i : ℕ) → i ≤ x.clocks → (clocked σ i s).clocks ≡ counted_by x.kind i s.clocks
    still_clocks zero h = ap (λ (t : System M). t.clocks) (clocked_zero σ s) ∙ sym (counted_none x.kind s.clocks)
    still_clocks (suc i) h =
        clocked_clocks i
        ∙ (λ j. counted (p.kinds i h j) (still_clocks i (omega arith) j))
        ∙ counted_more x.kind i s.clocks

    -- the byte moves on the last clock
    last_buffers : (i : ℕ) → i ≡ x.clocks → (clocked σ i s).world.buffers ≡ buffers_after σ x.moves x.from x.to s.world.buffers
    unfolding buffers_after
    last_buffers zero e =
        ap (λ (t : System M). t.world.buffers) (clocked_zero σ s) ∙ sym (pick_false _ _ _ (p.none (sym e)))
    last_buffers (suc i) e =
        clocked_buffers i
        ∙ ap (after (ticks i s.world.core)) (still_buffers i (omega arith))
        ∙ (let z : i + 1 ≡ x.clocks = omega arith in simp (p.last i z, p.source i z, p.destination i z))

    -- a span is its clocks
    pub span_clocked : clocked σ x.clocks s ≡ span_passed σ x s
    span_clocked =
        let c : (clocked σ x.clocks s).world.core ≡ x.next = clocked_core x.clocks ∙ p.core in
        let b = last_buffers x.clocks refl in
        let k = still_clocks x.clocks (le_refl x.clocks) in λ i. system (c i) (b i) (k i)

pub spans_are_clocks : {M : Type 0} (σ : Store M) → SpansAreClocks σ
spans_are_clocks σ = record { spans = λ s budget x p. span_clocked σ s p }

-- ---- spans of no clock and of one

pub span_none : (c : Core) (budget : ℕ) (kind : Kind) → budget ≡ 0 → IsSpan c budget (span kind 0 false c c)
span_none c budget kind e =
    record {
      within = omega arith;
      some = λ h. omega arith;
      kinds = λ i h. absurd (omega arith);
      quiet = λ i h. absurd (omega arith);
      last = λ i h. absurd (omega arith);
      source = λ i h. absurd (omega arith);
      destination = λ i h. absurd (omega arith);
      none = λ h. refl;
      core = ticks_zero c;
    }

-- ---- a span's promise settles its answer

-- a longest span is not shorter than a span within the same budget that stays within the slot
longest_least : {c : Core} {budget : ℕ} {x y : Span} → IsLongestSpan c budget x → IsLongestSpan c budget y → (n : ℕ) → n ≡ x.clocks → n < y.clocks → ⊥
longest_least p q zero e h = omega (arith, p.0.some (omega (arith, q.0.within)))
longest_least p q (suc i) e h =
    any_cases _ _ (p.1.reached i (omega arith) (omega (arith, q.0.within)))
    (λ d. clash (sym (q.0.quiet i (omega arith)) ∙ p.0.last i (omega arith) ∙ d))
    (λ d. any_cases _ _ d (λ f. clash (sym (q.1.inside i (omega arith)) ∙ f)) any_none)

-- spans of as many clocks, n of them, agree in all but the number of the clocks
settle :
    {c : Core} {budget : ℕ} {x y : Span} → IsSpan c budget x → IsSpan c budget y → (n : ℕ) → n ≡ x.clocks → n ≡ y.clocks
    → (x.next ≡ y.next) × (x.moves ≡ y.moves) × (0 < n → (x.kind ≡ y.kind) × (x.from ≡ y.from) × (x.to ≡ y.to))
settle {c} p q zero d e = (
  sym p.core ∙ ap (λ (k : ℕ). ticks k c) (sym d ∙ e) ∙ q.core,
  p.none (sym d) ∙ sym (q.none (sym e)),
  λ h. absurd (omega arith),
)
settle {c} p q (suc i) d e = (
  sym p.core ∙ ap (λ (k : ℕ). ticks k c) (sym d ∙ e) ∙ q.core,
  sym (p.last i (omega arith)) ∙ q.last i (omega arith),
  λ h. (
    sym (p.kinds i (omega arith)) ∙ q.kinds i (omega arith),
    sym (p.source i (omega arith)) ∙ q.source i (omega arith),
    sym (p.destination i (omega arith)) ∙ q.destination i (omega arith),
  ),
)

same : {n m : ℕ} → (n < m → ⊥) → (m < n → ⊥) → n ≡ m
same f g = omega (arith, f, g)

settled :
    {c : Core} {budget : ℕ} {x y : Span} → IsLongestSpan c budget x → IsLongestSpan c budget y
    → (x.clocks ≡ y.clocks) × (x.next ≡ y.next) × (x.moves ≡ y.moves)
    × (0 < x.clocks → (x.kind ≡ y.kind) × (x.from ≡ y.from) × (x.to ≡ y.to))
settled {x = x} {y} p q =
    let e = same (longest_least p q x.clocks refl) (longest_least q p y.clocks refl) in
    let s = settle p.0 q.0 x.clocks refl e in (e, s.0, s.1, s.2)

pub spans_settled : SpansSettled
spans_settled = record { settled = settled }
