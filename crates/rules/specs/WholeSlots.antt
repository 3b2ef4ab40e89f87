-- Whole slots at once: k of them, up to the block's end, move k bytes.
-- Assumes nothing.
use Rattle.std.specs.Prelude.{ℕ, zero, suc, ◌+◌, ◌*◌, ◌-◌, ◌/◌, ◌≤◌, ◌<◌, ◌≡◌, Bool, true, [], ◌∷◌, eqb, ltb}
use Rattle.rules.specs.Choice.{pick, every}
use Rattle.rules.specs.Ports.{advanced_by}
use Rattle.rules.specs.Blocks.{block_count, bytes_left}
use Rattle.rules.specs.Facts.{Kept}
use Rattle.rules.specs.Slots.{new_slot}
use Rattle.rules.specs.Clock.{bus_clock, counted_by, after_bytes, wait_kind, slot_end}
use Rattle.rules.specs.Buffers.{Store, Buffers, source, destination, transfer}
use Rattle.rules.specs.World.{System, system, clocked}
use Rattle.rules.specs.Stretches.{least}
use Rattle.rules.specs.declared.Slot.{Slot}
use Rattle.rules.specs.declared.Clocks.{Clocks}
use Rattle.rules.specs.declared.Core.{Core}

-- at the start of a slot of some clocks: enabled, no clock elapsed
unfoldable pub at_slot_start : Core → Bool
at_slot_start c = every (c.enabled ∷ eqb c.slot.elapsed 0 ∷ ltb 0 (new_slot c).length ∷ [])

-- the whole slots for which a budget has the clocks and the block the bytes; none but at the start of one
unfoldable pub slots_within : Core → ℕ → ℕ
slots_within c budget = pick (at_slot_start c) (least (budget / (new_slot c).length) (bytes_left c.block)) 0

-- the core after k bytes, one at least
abbrev pub moved_by : ℕ → Core → Core
moved_by k c = after_bytes k (advanced_by k c.a) (advanced_by k c.b) c

-- the clocks of k slots counted
abbrev pub slots_counted : ℕ → Slot → Clocks → Clocks
slots_counted k s x = counted_by (wait_kind s.burst) (k * (s.length - s.bus)) (counted_by bus_clock (k * s.bus) x)

module _ {M : Type 0} (σ : Store M) where
  -- the buffers after k bytes, one after the other
  unfoldable pub transferred : ℕ → Core → Buffers M → Buffers M
  transferred zero c b = b
  transferred (suc k) c b = transfer σ (source (moved_by k c)) (destination (moved_by k c)) (transferred k c b)

  -- k whole slots, one at least, of a core at the start of a slot whose block has as many bytes left: the bytes moved, the
  -- clocks counted, and one slot's end
  abbrev pub slots_passed : ℕ → System M → System M
  slots_passed k s =
      system (slot_end (moved_by k s.world.core)).core
      (transferred k s.world.core s.world.buffers)
      (slots_counted k (new_slot s.world.core) s.clocks)

  -- k whole slots, one at least, are k times their length of single clocks: of a core as the calls meet it, valid and
  -- within its types, at the start of a slot, up to the block's end
  pub record SlotsAreClocks : Type 0 where
    pub slots :
        (s : System M) (k : ℕ)
        → Kept s.world.core → s.world.core.enabled ≡ true → s.world.core.slot.elapsed ≡ 0
        → 0 < k → s.world.core.block.counter + k ≤ block_count s.world.core.block
        → clocked σ (k * (new_slot s.world.core).length) s ≡ slots_passed k s
