-- At the start of a slot the length is not 0.
-- Assumes nothing.
use Rattle.rules.specs.Choice.{pick}
use Rattle.rules.specs.WholeSlots.{slots_within}
use Rattle.clocking.proofs.Stretches.{least_min}
use Rattle.clocking.proofs.WholeSlots.{length_some, slots_at_start}
use Rattle.clocking.proofs.slots.slots_within.Goals as goal

pub nonzero_div-fitting : goal.nonzero_div-fitting
nonzero_div-fitting c =
    rw c.from.ensures (length_some _ c.at_slot_start.ensures c.if-at_slot_start.true c.new_slot-slot.ensures)

pub returns-then-at_slot_start : goal.returns-then-at_slot_start
returns-then-at_slot_start c =
    slots_at_start _
    c.at_slot_start.ensures
    c.if-at_slot_start.true
    _
    c.new_slot-slot.ensures
    c.bytes_left-left.ensures
    (simp (c.min.ensures, c.from.ensures, least_min))

pub returns-else-at_slot_start : goal.returns-else-at_slot_start
unfolding pick slots_within
returns-else-at_slot_start c =
    simp (c.if-at_slot_start.false, ← c.at_slot_start.ensures)
