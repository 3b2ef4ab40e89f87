-- A record is carried out, and its line is the one of what it was answered.
-- Assumes nothing.
use Rattle.std.proofs.Common.{◌∙◌}
use Rattle.session.proofs.Steps.{record_met, record_carried}
use Rattle.session.proofs.step.Session.record_step.Goals as goal

pub returns-in-Ok-Whole : goal.returns-in-Ok-Whole
returns-in-Ok-Whole c =
    let stands = rw c.in-Ok-Whole.field-0-is at c.in-Ok-Whole.ensures.stands in
    let lends = rw c.in-Ok-Whole.field-0-is at c.in-Ok-Whole.ensures.lends in
    λ out. record_carried _ _ _ _ c.in-Ok-Whole.found _ lends c.carry_out-done.ensures.line c.carry_out-done.ensures.system
    ∙ record_met _ _ _ _ _ _ c.in_default.ensures.number stands
