-- By the room for a line, as the definition has it; every line fits into the room.
-- Assumes nothing.
use Rattle.std.proofs.Common.{ap, ◌∙◌}
use Rattle.clocking.specs.Answers.{borrowed}
use Rattle.session.specs.Steps.{buffers_kept}
use Rattle.session.proofs.Steps.{with_room}
use Rattle.session.proofs.step.Session.step.Goals as goal

pub returns : goal.returns
returns c =
    let b = borrowed c.advance.new.memory c.advance.new.latches in
    with_room _ _ _ _ _ _ (ap (buffers_kept b) c.write.ensures ∙ c.advance.ensures _ c.if-out-lt-ROOM.false)
