-- A test that fails settles the others; the last one settles it where they hold.
-- Assumes nothing.
use Rattle.std.proofs.Common.{arith}
use Rattle.rules.specs.Validity.{valid_port, valid_readback}
use Rattle.parts.proofs.Validity.{in_order, progress}
use Rattle.parts.proofs.valid.valid_core.Goals as goal
use Rattle.parts.proofs.valid.valid_core.Goals.{then-is_valid, else-is_valid, then-fields, else-fields}

pub returns-else-valid_slot : goal.returns-else-valid_slot
unfolding valid_port valid_readback
returns-else-valid_slot c =
    elim c.if-is_valid.branch [
      | then-is_valid w ↦ grind (arith, in_order c.args.c)
      | else-is_valid w ↦ grind (arith, in_order c.args.c)
    ]

pub returns-then-valid_slot : goal.returns-then-valid_slot
unfolding valid_port valid_readback
returns-then-valid_slot c =
    elim c.if-is_valid.branch [
      | then-is_valid w ↦ grind (arith, in_order c.args.c, progress c.args.c.enabled c.args.c.block c.args.c.slot)
      | else-is_valid w ↦ grind arith
    ]
