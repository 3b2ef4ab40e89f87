-- The tests of a core as code puts them together, and the block's progress by whether it is finished.
-- Assumes nothing.
use Rattle.std.proofs.Common.{◌≡◌, Bool, true, false, not, ◌&&◌, leb, [], ◌∷◌, refl}
use Rattle.rules.specs.Choice.{pick, every, means}
use Rattle.rules.specs.Blocks.{finished}
use Rattle.rules.specs.Speed.{is_speed}
use Rattle.rules.specs.Slots.{unmoved}
use Rattle.rules.specs.Pending.{valid_pending}
use Rattle.rules.specs.Validity.{valid_port, valid_readback, valid_slot, valid_progress, valid_core_if, valid_core}
use Rattle.rules.specs.declared.Block.{Block}
use Rattle.rules.specs.declared.Slot.{Slot}
use Rattle.rules.specs.declared.Core.{Core}
use Rattle.rules.proofs.Choice.{strict}
use Rattle.rules.proofs.Validity.{unfinished_below}

-- the tests one after the other
pub in_order : (c : Core) → valid_core c ≡ (valid_port c.a && (valid_port c.b && (leb c.block.counter 65536 && (is_speed c.control.speed && (valid_readback c.readback && (valid_pending c.pending && (valid_slot c.enabled c.slot && valid_progress c.enabled c.block c.slot)))))))
unfolding valid_core_if
in_order c = simp strict

-- not all of three tests hold: where the first two do, the third does not
not_all : (s t u : Bool) → not (s && (t && u)) ≡ means (every (s ∷ t ∷ [])) (not u)
unfolding means every pick
not_all false t u = refl
not_all true false u = refl
not_all true true u = refl

pub progress : (enabled : Bool) (b : Block) (s : Slot) → valid_progress enabled b s ≡ not (enabled && (unmoved s && finished b))
unfolding valid_progress
progress enabled b s = simp (unfinished_below, not_all)
