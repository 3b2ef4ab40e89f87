-- The span is the clocks of the present stretch that the budget has.
-- Assumes nothing.
use native.Mathlib.Omega.{arith}
use mathlib.Core.Path.{refl, sym, ◌∙◌}
use Rattle.clocking.proofs.Stretches.{least_min}
use Rattle.clocking.proofs.Spans.{last_fits, slot_answers}
use borrow.Author.Rules.{rules}
use Rattle.rules.specs.Buffers.{source, destination}
use Rattle.clocking.proofs.span.slot_span.Goals as goal

pub overflow_cast-last : goal.overflow_cast-last
overflow_cast-last c =
    omega (arith, last_fits c.requires c.slot_of-slot.ensures c.stretch_rest-rest.ensures (c.min-clocks.ensures ∙ sym (least_min _ _)) (search rules))

pub overflow_add-last : goal.overflow_add-last
overflow_add-last c =
    omega (arith, last_fits c.requires c.slot_of-slot.ensures c.stretch_rest-rest.ensures (c.min-clocks.ensures ∙ sym (least_min _ _)) (search rules))

pub returns : goal.returns
unfolding source destination
returns c =
    slot_answers
    c.requires
    c.slot_of-slot.ensures
    c.stretch_rest-rest.ensures
    (c.min-clocks.ensures ∙ sym (least_min _ _))
    refl
    c.slot_clock-tick.ensures
    c.source_of.ensures
    c.destination_of.ensures
