-- The test is that of a quiet wait, which ends within the slot's length.
-- Assumes nothing.
use native.Mathlib.Omega.{arith}
use borrow.Author.Rules.{rules}
use Rattle.clocking.proofs.Stretches.{wait_fits, waits, waits_not}
use Rattle.clocking.proofs.stretch.wait_within.Goals as goal

pub overflow_cast-slot : goal.overflow_cast-slot
overflow_cast-slot c =
    omega (arith, wait_fits _ _ c.slot_of-slot.ensures c.stretch_rest-rest.ensures c.if-n-rest.true (search rules))

pub overflow_add-slot : goal.overflow_add-slot
overflow_add-slot c =
    omega (arith, wait_fits _ _ c.slot_of-slot.ensures c.stretch_rest-rest.ensures c.if-n-rest.true (search rules))

pub returns-then-n-rest : goal.returns-then-n-rest
returns-then-n-rest c =
    waits _ _ c.slot_of-slot.ensures c.stretch_rest-rest.ensures c.if-n-rest.true

pub returns-else-n-rest : goal.returns-else-n-rest
returns-else-n-rest c =
    waits_not _ _ c.slot_of-slot.ensures c.stretch_rest-rest.ensures c.if-n-rest.false
