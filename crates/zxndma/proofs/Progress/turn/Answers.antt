-- Whole slots are as many clocks of the definition, and so is a span.
-- Assumes nothing.
use Rattle.zxndma.proofs.Turns.{ready, slots_passed_lem}
use Rattle.zxndma.proofs.Progress.turn.Goals as goal

pub returns-then-slots-gt0-clause-passed : goal.returns-then-slots-gt0-clause-passed
returns-then-slots-gt0-clause-passed c =
    slots_passed_lem
    (ready c.args.self.kept c.args.self.room c.requires)
    c.slots_within-slots.ensures
    c.if-slots-gt0.true
    c.pass_slots.ensures.passed
    c.pass_slots.ensures.left
