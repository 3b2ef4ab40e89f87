-- After each turn what has passed is as many clocks of the definition, and the rest has room.
-- Assumes nothing.
use borrow.Author.Rules.{rules}
use Rattle.rules.specs.Buffers.{flat}
use Rattle.rules.proofs.Turns.{going_more, going_end}
use Rattle.zxndma.proofs.Turns.{grant_starts}
use Rattle.zxndma.proofs.Device.run.Goals as goal

pub loop-progress-init : goal.loop-progress-init
loop-progress-init c =
    record {
      going = grant_starts _ _ _ _ _ (record { a = record { address = search rules; pointer = search rules; step = search rules }; b = record { address = search rules; pointer = search rules; step = search rules }; length = search rules; prescaler = search rules }) c.requires;
      same = search rules;
    }

pub turn-progress-requires : goal.turn-progress-requires
turn-progress-requires c =
    c.loop-progress-test.true

pub loop-progress-smaller : goal.loop-progress-smaller
loop-progress-smaller c =
    c.turn-progress.ensures.passed.fewer

pub loop-progress-preserved : goal.loop-progress-preserved
loop-progress-preserved c =
    record {
      going = going_more flat c.loop-progress.invariant.going c.turn-progress.ensures.passed;
      same = search rules;
    }

pub returns-clause-passed : goal.returns-clause-passed
returns-clause-passed c =
    going_end flat c.loop-progress.invariant.going c.loop-progress-test.false
