-- A stretch of a slot: the rest of its bus time, which ends with the byte's move, or the rest of its wait, which ends with
-- the slot. Code takes a stretch at once.
-- Assumes nothing.
use Rattle.std.specs.Prelude.{ℕ, ◌+◌, ◌-◌, ◌≡◌, Bool, true, false, [], ◌∷◌, ltb}
use Rattle.rules.specs.Choice.{pick, every}
use Rattle.rules.specs.Parts.{with_slot}
use Rattle.rules.specs.Slots.{slot_of}
use Rattle.rules.specs.Clock.{cpu_clock, counted_by, kind_at}
use Rattle.rules.specs.Buffers.{Store, Buffers}
use Rattle.rules.specs.World.{system, clocked}
use Rattle.rules.specs.declared.Slot.{Slot}
use Rattle.rules.specs.declared.Clocks.{Clocks}
use Rattle.rules.specs.declared.Core.{Core}

unfoldable pub least : ℕ → ℕ → ℕ
least x y = pick (ltb x y) x y

-- the clocks left of the slot, the last one included; one where its length has gone by
unfoldable pub slot_rest : Slot → ℕ
slot_rest s = pick (ltb s.elapsed s.length) (s.length - s.elapsed) 1

-- the clocks left of the present stretch, the one that moves the byte or ends the slot included
unfoldable pub stretch_rest : Slot → ℕ
stretch_rest s = pick (ltb s.elapsed s.bus) (least (s.bus - s.elapsed) (slot_rest s)) (slot_rest s)

-- n clocks of a slot, one at least, end before its present stretch does: on none of them a byte moves or the slot ends
unfoldable pub quiet : ℕ → Slot → Bool
quiet n s = every (ltb 0 n ∷ ltb n (stretch_rest s) ∷ [])

-- the slot with n more clocks elapsed
abbrev pub elapsed_by : ℕ → Slot → Slot
elapsed_by n s = record { elapsed = s.elapsed + n; bus = s.bus; length = s.length; burst = s.burst }

-- clocks on which nothing happens, as single clocks: of an enabled core, those that end before the stretch does change the
-- slot, whose figures are fixed if it begins, and the count of their kind; those of a disabled core change the processor's
-- count alone
pub record WaitsAreClocks {M : Type 0} (σ : Store M) : Type 0 where
  pub waits :
      (n : ℕ) (c : Core) (b : Buffers M) (k : Clocks)
      → c.enabled ≡ true → quiet n (slot_of c) ≡ true
      → clocked σ n (system c b k) ≡ system (with_slot (elapsed_by n (slot_of c)) c) b (counted_by (kind_at ((slot_of c).elapsed + n) (with_slot (elapsed_by n (slot_of c)) c)) n k)
  pub idle :
      (n : ℕ) (c : Core) (b : Buffers M) (k : Clocks)
      → c.enabled ≡ false → clocked σ n (system c b k) ≡ system c b (counted_by cpu_clock n k)
