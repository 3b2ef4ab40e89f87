-- After some of the k bytes the ports and the buffers are those of as many bytes, and the strides are those of the ports' steps.
-- Assumes nothing.
use borrow.Author.Rules.{rules}
use Rattle.clocking.proofs.Buffers.{moved_lengths}
use Rattle.clocking.proofs.WholeSlots.{carrying_start, carrying_more, carrying_end}
use Rattle.clocking.proofs.slots.move_bytes.Goals as goal

pub loop-init : goal.loop-init
loop-init c =
    record {
      carrying = carrying_start _ _ _ (search rules) (search rules) (search rules);
      same = search rules;
    }

pub loop-preserved : goal.loop-preserved
loop-preserved c =
    record {
      carrying =
          carrying_more
          c.loop.invariant.carrying
          c.loop-test.true
          c.stride-a_stride.ensures
          c.stride-b_stride.ensures
          c.place_in-from.ensures
          c.place_in-to.ensures
          c.move_byte.ensures.moved
          c.go_on-a.ensures
          c.go_on-b.ensures;
      same = search rules;
    }

pub returns-clause-moved : goal.returns-clause-moved
returns-clause-moved c =
    carrying_end c.loop.invariant.carrying c.loop-test.false

pub returns-clause-long : goal.returns-clause-long
returns-clause-long c =
    moved_lengths (carrying_end c.loop.invariant.carrying c.loop-test.false)
