-- Spans with their kind by number: they are single clocks, settled, and turns of a grant, as those with the kind itself are.
-- Assumes nothing.
use Rattle.std.specs.Prelude.{ℕ, ◌+◌, ◌-◌, ◌≤◌, ◌<◌, ◌≡◌, Bool, false, true, [], ◌∷◌}
use Rattle.rules.specs.Choice.{any}
use Rattle.rules.specs.Clock.{counted_by, clock_of}
use Rattle.rules.specs.Buffers.{Store, source, destination}
use Rattle.rules.specs.World.{System, system, buffers_after, clocked}
use Rattle.rules.specs.Spans.{kind_code, kind_of, ticks, ends_slot}
use Rattle.rules.specs.Turns.{Ready, Passed}
use Rattle.rules.specs.declared.Place.{Place}
use Rattle.rules.specs.declared.Core.{Core}

-- a span with its kind by number
pub record CodedSpan : Type 0 where
  pub kind : ℕ
  pub clocks : ℕ
  pub moves : Bool
  pub from : Place
  pub to : Place
  pub next : Core

-- a span of a core within a budget, as `IsSpan` says it of the kind itself
pub record IsCodedSpan (c : Core) (budget : ℕ) (x : CodedSpan) : Type 0 where
  pub within : x.clocks ≤ budget
  pub some : 0 < budget → 0 < x.clocks
  pub kinds : (i : ℕ) → i < x.clocks → kind_code (clock_of (ticks i c)).kind ≡ x.kind
  pub quiet : (i : ℕ) → i + 1 < x.clocks → (clock_of (ticks i c)).moves ≡ false
  pub last : (i : ℕ) → i + 1 ≡ x.clocks → (clock_of (ticks i c)).moves ≡ x.moves
  pub source : (i : ℕ) → i + 1 ≡ x.clocks → source (ticks i c) ≡ x.from
  pub destination : (i : ℕ) → i + 1 ≡ x.clocks → destination (ticks i c) ≡ x.to
  pub none : x.clocks ≡ 0 → x.moves ≡ false
  pub core : ticks x.clocks c ≡ x.next

-- of a span within a budget, that it is the longest within one slot, as `IsLongest` says it
pub record IsLongestCoded (c : Core) (budget : ℕ) (x : CodedSpan) : Type 0 where
  pub inside : (i : ℕ) → i + 1 < x.clocks → ends_slot (ticks i c) ≡ false
  pub reached : (i : ℕ) → i + 1 ≡ x.clocks → x.clocks < budget → any (x.moves ∷ ends_slot (ticks i c) ∷ []) ≡ true
  pub idle : c.enabled ≡ false → x.clocks ≡ budget

-- the system after a span
abbrev pub coded_passed : {M : Type 0} → Store M → CodedSpan → System M → System M
coded_passed σ x s =
    system x.next
    (buffers_after σ x.moves x.from x.to s.world.buffers)
    (counted_by (kind_of x.kind) x.clocks s.clocks)

-- a span is as many single clocks, and a turn of a grant, over any memory
pub record CodedAreClocks {M : Type 0} (σ : Store M) : Type 0 where
  pub spans :
      (s : System M) (budget : ℕ) (x : CodedSpan)
      → IsCodedSpan s.world.core budget x → clocked σ x.clocks s ≡ coded_passed σ x s
  pub turn :
      (s : System M) (left : ℕ) (x : CodedSpan)
      → Ready s.world.core s.clocks left → IsCodedSpan s.world.core left x
      → Passed σ s (coded_passed σ x s) left (left - x.clocks)

-- two longest spans of a core within the same budget are alike, as `SpansSettled` says it
pub record CodedSettled : Type 0 where
  pub settled :
      {c : Core} {budget : ℕ} {x y : CodedSpan}
      → IsCodedSpan c budget x → IsLongestCoded c budget x → IsCodedSpan c budget y → IsLongestCoded c budget y
      → (x.clocks ≡ y.clocks) × (x.next ≡ y.next) × (x.moves ≡ y.moves)
      × (0 < x.clocks → (x.kind ≡ y.kind) × (x.from ≡ y.from) × (x.to ≡ y.to))
