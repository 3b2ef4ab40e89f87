-- A span is its clocks.
-- Assumes nothing.
use Rattle.zxndma.proofs.Turns.{ready, passed_on, span_left, span_passed_lem}
use Rattle.zxndma.proofs.Progress.pass_span.Goals as goal

pub overflow_sub-result : goal.overflow_sub-result
overflow_sub-result c =
    span_left (ready c.args.self.kept c.args.self.room c.requires) c.next_span-span.ensures.0

pub returns-clause-passed : goal.returns-clause-passed
returns-clause-passed c =
    span_passed_lem
    (ready c.args.self.kept c.args.self.room c.requires)
    c.next_span-span.ensures.0
    c.move_if.ensures.moved
    (simp (c.add.ensures, c.from.ensures))

pub invariant_of-result : goal.invariant_of-result
invariant_of-result c =
    let on = passed_on c.args.self.kept c.args.self.room (span_passed_lem (ready c.args.self.kept c.args.self.room c.requires) c.next_span-span.ensures.0 c.move_if.ensures.moved (simp (c.add.ensures, c.from.ensures))) in
    record { kept = on.0; room = on.1 }
