-- The lines are those of the work; the state is the work's, or what reading makes of it.
-- Assumes nothing.
use Rattle.std.proofs.Common.{refl, ap}
use Rattle.std.proofs.lemmas.Result.{err_from_is_err_and}
use Rattle.session.specs.Numbers.{progress_number}
use Rattle.bench.proofs.Turning.{turned_unwritten, turned_over, turned_on, turned_more, goes_or_full}
use Rattle.bench.proofs.State.turn.Goals as goal

pub returns-in_err-flush : goal.returns-in_err-flush
returns-in_err-flush g c =
    let p = err_from_is_err_and c.from_residual.result c.from_residual.ensures.1 in
    rw p.1 (record { state = _; turned = turned_unwritten _ _ _ _ c.requires c.work-worked.ensures; answered = refl })

pub returns-in-IsOver : goal.returns-in-IsOver
returns-in-IsOver g c =
    record { state = _; turned = turned_over _ _ _ _ c.requires c.work-worked.ensures (ap progress_number c.in-IsOver.is); answered = refl }

pub returns-in_err-refill-in-Waits : goal.returns-in_err-refill-in-Waits
returns-in_err-refill-in-Waits g c =
    let read = c.refill.ensures in
    let last = c.from_residual-in_err-refill-in-Waits in
    let p = err_from_is_err_and last.result last.ensures.1 in
    rw p.1
    (record { state = read.state; turned = turned_more _ _ _ _ c.requires c.work-worked.ensures (ap progress_number c.in-Waits.is) read.refilled; answered = rw c.in_err-refill-in-Waits.was at read.answered })

pub returns-in_ok-refill-in-Waits : goal.returns-in_ok-refill-in-Waits
returns-in_ok-refill-in-Waits g c =
    let read = c.refill.ensures in
    record { state = read.state; turned = turned_more _ _ _ _ c.requires c.work-worked.ensures (ap progress_number c.in-Waits.is) read.refilled; answered = rw c.in_ok-refill-in-Waits.was at read.answered }

pub returns-in-GoesOn : goal.returns-in-GoesOn
returns-in-GoesOn g c =
    let goes = goes_or_full c.in-GoesOn.is in
    record { state = _; turned = turned_on _ _ _ _ c.requires c.work-worked.ensures goes.0 goes.1; answered = refl }
