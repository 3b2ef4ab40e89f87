-- A span: some clocks of one kind, on whose last clock a byte may move. What code answers of a core in place of single
-- clocks.
-- Assumes nothing.
use Rattle.std.specs.Prelude.{ℕ, zero, suc, ◌+◌, ◌≤◌, ◌<◌, ◌≡◌, Bool, true, false, [], ◌∷◌, eqb}
use Rattle.rules.specs.Choice.{pick, every, any}
use Rattle.rules.specs.Clock.{bus_clock, held_clock, cpu_clock, counted_by, clock_of}
use Rattle.rules.specs.declared.at_once.Kind.{Kind}
use Rattle.rules.specs.Buffers.{Store, source, destination}
use Rattle.rules.specs.World.{System, system, buffers_after, clocked}
use Rattle.rules.specs.declared.Core.{Core}
use Rattle.rules.specs.declared.at_once.Span.{Span}

-- a kind's number in code
abbrev pub kind_code : Kind → ℕ
kind_code bus_clock = 0
kind_code held_clock = 1
kind_code cpu_clock = 2

-- the kind of a number in code: of one that is no kind's, the processor
unfoldable pub kind_of : ℕ → Kind
kind_of n = pick (eqb n (kind_code bus_clock)) bus_clock (pick (eqb n (kind_code held_clock)) held_clock cpu_clock)

-- n clocks of the core alone
unfoldable pub ticks : ℕ → Core → Core
ticks zero c = c
ticks (suc n) c = (clock_of (ticks n c)).next

-- n clocks from c on, after which the core is next: of one kind, with the places of c
abbrev pub span : Kind → ℕ → Bool → Core → Core → Span
span kind n moves c next =
    record { kind = kind; clocks = n; moves = moves; from = source c; to = destination c; next = next }

-- a span of a core within a budget: its clocks are of one kind, and one at least if there is a budget; none but the last
-- moves a byte; its places are the source and the destination of the last, whether or not it does; next is the core after
-- them
pub record IsSpan (c : Core) (budget : ℕ) (x : Span) : Type 0 where
  pub within : x.clocks ≤ budget
  pub some : 0 < budget → 0 < x.clocks
  pub kinds : (i : ℕ) → i < x.clocks → (clock_of (ticks i c)).kind ≡ x.kind
  pub quiet : (i : ℕ) → i + 1 < x.clocks → (clock_of (ticks i c)).moves ≡ false
  pub last : (i : ℕ) → i + 1 ≡ x.clocks → (clock_of (ticks i c)).moves ≡ x.moves
  pub source : (i : ℕ) → i + 1 ≡ x.clocks → source (ticks i c) ≡ x.from
  pub destination : (i : ℕ) → i + 1 ≡ x.clocks → destination (ticks i c) ≡ x.to
  pub none : x.clocks ≡ 0 → x.moves ≡ false
  pub core : ticks x.clocks c ≡ x.next

-- the next clock ends its slot: of an enabled device it leaves no clock of a slot elapsed
abbrev pub ends_slot : Core → Bool
ends_slot c = every (c.enabled ∷ eqb (clock_of c).next.slot.elapsed 0 ∷ [])

-- of a span within a budget, that it is the longest within one slot: no clock but its last ends the slot; where it is
-- shorter than the budget, its last clock moves a byte or ends the slot; of a disabled device it is the whole budget
pub record IsLongest (c : Core) (budget : ℕ) (x : Span) : Type 0 where
  pub inside : (i : ℕ) → i + 1 < x.clocks → ends_slot (ticks i c) ≡ false
  pub reached : (i : ℕ) → i + 1 ≡ x.clocks → x.clocks < budget → any (x.moves ∷ ends_slot (ticks i c) ∷ []) ≡ true
  pub idle : c.enabled ≡ false → x.clocks ≡ budget

-- the longest span within one slot
abbrev pub IsLongestSpan : Core → ℕ → Span → Type 0
IsLongestSpan c budget x = IsSpan c budget x × IsLongest c budget x

-- the system after a span: its core, the byte moved if one moves, the clocks counted
abbrev pub span_passed : {M : Type 0} → Store M → Span → System M → System M
span_passed σ x s =
    system x.next
    (buffers_after σ x.moves x.from x.to s.world.buffers)
    (counted_by x.kind x.clocks s.clocks)

-- a span is as many single clocks, over any memory
pub record SpansAreClocks {M : Type 0} (σ : Store M) : Type 0 where
  pub spans :
      (s : System M) (budget : ℕ) (x : Span)
      → IsSpan s.world.core budget x → clocked σ x.clocks s ≡ span_passed σ x s

-- two longest spans of a core within the same budget have the same clocks, the same core behind them, and both move a byte
-- or both do not; where there are clocks, they have the same kind and places
pub record SpansSettled : Type 0 where
  pub settled :
      {c : Core} {budget : ℕ} {x y : Span} → IsLongestSpan c budget x → IsLongestSpan c budget y
      → (x.clocks ≡ y.clocks) × (x.next ≡ y.next) × (x.moves ≡ y.moves)
      × (0 < x.clocks → (x.kind ≡ y.kind) × (x.from ≡ y.from) × (x.to ≡ y.to))
