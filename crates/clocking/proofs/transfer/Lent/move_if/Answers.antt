-- A byte that is put keeps the lengths.
-- Assumes nothing.
use Rattle.clocking.proofs.Buffers.{transfer_lengths}
use Rattle.clocking.proofs.transfer.Lent.move_if.Goals as goal

pub returns-then-moves-clause-long : goal.returns-then-moves-clause-long
returns-then-moves-clause-long c =
    transfer_lengths c.args.from c.args.to c.move_byte.ensures.moved
