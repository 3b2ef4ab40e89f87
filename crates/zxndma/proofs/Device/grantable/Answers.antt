-- Each test that hits gives its number; behind the others the counts are those of a valid device, so that no sum wraps.
-- Assumes nothing.
use native.Mathlib.Omega.{arith}
use borrow.Author.Tests.{eq-eqb, ne_eqb}
use Rattle.rules.specs.Choice.{first_hit, pick}
use Rattle.rules.specs.Refusals.{lent_refusal_if}
use Rattle.rules.proofs.Calls.{valid_fits}
use Rattle.rules.proofs.Choice.{holds}
use Rattle.zxndma.proofs.Refusing.{sum_refused, sum_accepted}
use Rattle.zxndma.proofs.Device.grantable.Goals as goal

pub returns-then-not-is_valid : goal.returns-then-not-is_valid
unfolding lent_refusal_if first_hit pick
returns-then-not-is_valid c =
    simp (c.if-not-is_valid.true, ← c.is_valid.ensures)

pub returns-then-memory-ne65536 : goal.returns-then-memory-ne65536
unfolding lent_refusal_if first_hit pick
returns-then-memory-ne65536 c =
    simp (c.if-not-is_valid.false, ne_eqb _ _ c.if-memory-ne65536.true, ← c.is_valid.ensures)

pub returns-then-latches-ne65536 : goal.returns-then-latches-ne65536
unfolding lent_refusal_if first_hit pick
returns-then-latches-ne65536 c =
    simp (c.if-not-is_valid.false, eq-eqb _ _ c.if-memory-ne65536.false, ne_eqb _ _ c.if-latches-ne65536.true, ← c.is_valid.ensures)

pub overflow_add-sum : goal.overflow_add-sum
overflow_add-sum c =
    omega (arith, valid_fits _ _ (holds c.is_valid.ensures c.if-not-is_valid.false))

pub overflow_add-sum-2 : goal.overflow_add-sum-2
overflow_add-sum-2 c =
    omega (arith, valid_fits _ _ (holds c.is_valid.ensures c.if-not-is_valid.false))

pub overflow_sub-sum : goal.overflow_sub-sum
overflow_sub-sum c =
    omega (arith, valid_fits _ _ (holds c.is_valid.ensures c.if-not-is_valid.false))

pub returns-then-sum-from : goal.returns-then-sum-from
returns-then-sum-from c =
    let v = holds c.is_valid.ensures c.if-not-is_valid.false in
    sum_refused _ _ _ _ _ v c.if-memory-ne65536.false c.if-latches-ne65536.false (omega (arith, valid_fits _ _ v, c.from.ensures, c.if-sum-from.true))

pub returns : goal.returns
returns c =
    let v = holds c.is_valid.ensures c.if-not-is_valid.false in
    sum_accepted _ _ _ _ _ v c.if-memory-ne65536.false c.if-latches-ne65536.false (omega (arith, valid_fits _ _ v, c.from.ensures, c.if-sum-from.false))
