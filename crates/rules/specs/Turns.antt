-- A turn of a grant: some of the clocks left pass at once. Over any memory.
-- Assumes nothing.
use Rattle.std.specs.Prelude.{ℕ, ◌+◌, ◌*◌, ◌-◌, ◌≤◌, ◌<◌, ◌≡◌}
use Rattle.rules.specs.Validity.{total, most64}
use Rattle.rules.specs.Facts.{Kept}
use Rattle.rules.specs.Slots.{new_slot}
use Rattle.rules.specs.Buffers.{Store}
use Rattle.rules.specs.World.{System, clocked}
use Rattle.rules.specs.Spans.{IsSpan, span_passed}
use Rattle.rules.specs.WholeSlots.{slots_within, slots_passed}
use Rattle.rules.specs.declared.Clocks.{Clocks}
use Rattle.rules.specs.declared.Core.{Core}
use Rattle.rules.specs.declared.at_once.Span.{Span}

-- a valid core with clocks left, for which the counts have room
pub record Ready (c : Core) (k : Clocks) (left : ℕ) : Type 0 where
  pub kept : Kept c
  pub some : 0 < left
  pub room : total k + left ≤ most64

module _ {M : Type 0} (σ : Store M) where
  -- of the clocks left some have passed, one at least: t is s after as many single clocks
  pub record Passed (s t : System M) (before left : ℕ) : Type 0 where
    pub fewer : left < before
    pub here : t ≡ clocked σ (before - left) s

  -- a span of the clocks left is a turn, and so are all the whole slots that they have room for, if there are any
  pub record TurnsAreClocks : Type 0 where
    pub span :
        (s : System M) (left : ℕ) (x : Span)
        → Ready s.world.core s.clocks left → IsSpan s.world.core left x
        → Passed s (span_passed σ x s) left (left - x.clocks)
    pub slots :
        (s : System M) (left k : ℕ)
        → Ready s.world.core s.clocks left → k ≡ slots_within s.world.core left → 0 < k
        → Passed s (slots_passed σ k s) left (left - k * (new_slot s.world.core).length)
