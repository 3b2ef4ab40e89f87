-- Each answer is the law of its case: no room, a disabled device, a slot.
-- Assumes nothing.
use mathlib.Core.Path.{sym, ◌∙◌}
use borrow.Author.Tests.{not-true, not-false}
use Rattle.clocking.proofs.Spans.{none_answers, idle_answers, may_run}
use Rattle.clocking.proofs.span.next_span.Goals as goal

pub returns-then-room-eq0 : goal.returns-then-room-eq0
returns-then-room-eq0 c =
    none_answers _ _ (sym c.room_for-room.ensures ∙ c.if-room-eq0.true) c.cpu_span.ensures

pub returns-then-not-c : goal.returns-then-not-c
returns-then-not-c c =
    rw (← c.room_for-room.ensures) (idle_answers _ _ (not-true _ c.if-not-c.true) c.cpu_span-then-not-c.ensures)

pub slot_span-requires : goal.slot_span-requires
slot_span-requires c =
    may_run _ _ _ c.room_for-room.ensures c.if-room-eq0.false (not-false _ c.if-not-c.false)

pub returns : goal.returns
returns c =
    rw (← c.room_for-room.ensures) c.slot_span.ensures
