-- The parts of a kept core that neither the slot nor being enabled bears on, and a kept core put together from its parts.
-- Assumes nothing.
use Prim.Native.Nat.{ℕ, ◌≤◌, ◌<◌}
use mathlib.Core.Path.{◌≡◌}
use mathlib.Core.Bool.{true, false}
use Rattle.rules.specs.Blocks.{finished}
use Rattle.rules.specs.Speed.{full_speed}
use Rattle.rules.specs.Slots.{unmoved}
use Rattle.rules.specs.Pending.{valid_pending}
use Rattle.rules.specs.Facts.{Kept, ValidReading, ValidSlot}
use Rattle.rules.specs.declared.Port.{Port}
use Rattle.rules.specs.declared.Block.{Block}
use Rattle.rules.specs.declared.Control.{Control}
use Rattle.rules.specs.declared.Readback.{Readback}
use Rattle.rules.specs.declared.Core.{Core}
use Rattle.rules.proofs.Validity.{cycle_port, readback_reading, reading_readback, slot_facts, facts_slot, progress_facts, facts_progress}
use Rattle.rules.proofs.Ports.{GoodPort, good_port}

-- both ports, the block, the control, the read-back state and the pending parameters, valid and within their types
pub record Steady (x y : Port) (k : Block) (t : Control) (r : Readback) (p : ℕ) : Type 0 where
  pub a : GoodPort x
  pub b : GoodPort y
  pub counter : k.counter ≤ 65536
  pub length : k.length < 65536
  pub prescaler : t.prescaler < 256
  pub speed : t.speed ≤ full_speed
  pub readback : ValidReading r
  pub pending : valid_pending p ≡ true

-- those of a core
abbrev pub SteadyCore : Core → Type 0
SteadyCore c = Steady c.a c.b c.block c.control c.readback c.pending

-- each part may be replaced by one that is as good
module _ {a b : Port} {k : Block} {t : Control} {r : Readback} {p : ℕ} (s : Steady a b k t r p) where
  pub steady_a : {x : Port} → GoodPort x → Steady x b k t r p
  steady_a g =
      record { a = g; b = s.b; counter = s.counter; length = s.length; prescaler = s.prescaler; speed = s.speed; readback = s.readback; pending = s.pending }

  pub steady_b : {x : Port} → GoodPort x → Steady a x k t r p
  steady_b g =
      record { a = s.a; b = g; counter = s.counter; length = s.length; prescaler = s.prescaler; speed = s.speed; readback = s.readback; pending = s.pending }

  pub steady_block : (x : Block) → x.counter ≤ 65536 → x.length < 65536 → Steady a b x t r p
  steady_block x h l =
      record { a = s.a; b = s.b; counter = h; length = l; prescaler = s.prescaler; speed = s.speed; readback = s.readback; pending = s.pending }

  pub steady_control : (x : Control) → x.prescaler < 256 → x.speed ≤ full_speed → Steady a b k x r p
  steady_control x h v =
      record { a = s.a; b = s.b; counter = s.counter; length = s.length; prescaler = h; speed = v; readback = s.readback; pending = s.pending }

  pub steady_readback : (x : Readback) → ValidReading x → Steady a b k t x p
  steady_readback x v =
      record { a = s.a; b = s.b; counter = s.counter; length = s.length; prescaler = s.prescaler; speed = s.speed; readback = v; pending = s.pending }

  pub steady_pending : (x : ℕ) → valid_pending x ≡ true → Steady a b k t r x
  steady_pending x v =
      record { a = s.a; b = s.b; counter = s.counter; length = s.length; prescaler = s.prescaler; speed = s.speed; readback = s.readback; pending = v }

-- a kept core from its parts
pub kept_from : (c : Core) → SteadyCore c → ValidSlot c.enabled c.slot → (c.enabled ≡ true → unmoved c.slot ≡ true → finished c.block ≡ false) → Kept c
kept_from c s v h =
    record {
      valid =
          record {
            a = cycle_port _ s.a.cycle;
            b = cycle_port _ s.b.cycle;
            counter = s.counter;
            speed = s.speed;
            readback = reading_readback _ s.readback;
            pending = s.pending;
            slot = facts_slot _ _ v;
            progress = facts_progress _ _ _ h;
          };
      range = record { a = s.a.range; b = s.b.range; length = s.length; prescaler = s.prescaler };
    }

-- and its parts from a kept core
pub kept_steady : (c : Core) → Kept c → SteadyCore c
kept_steady c k =
    record {
      a = good_port _ k.valid.a k.range.a;
      b = good_port _ k.valid.b k.range.b;
      counter = k.valid.counter;
      length = k.range.length;
      prescaler = k.range.prescaler;
      speed = k.valid.speed;
      readback = readback_reading _ k.valid.readback;
      pending = k.valid.pending;
    }

pub kept_slot : (c : Core) → Kept c → ValidSlot c.enabled c.slot
kept_slot c k = slot_facts _ _ k.valid.slot

pub kept_progress : (c : Core) → Kept c → c.enabled ≡ true → unmoved c.slot ≡ true → finished c.block ≡ false
kept_progress c k on u = progress_facts _ _ _ k.valid.progress on u
