-- Answer and device, put together, are the answer of the call by value.
-- Assumes nothing.
use Rattle.std.proofs.Common.{◌∙◌}
use Rattle.zxndma.specs.Answers.{grant_answer}
use Rattle.in_place.proofs.zxndma_grant_in_place.Goals as goal

pub returns : goal.returns
returns c =
    (λ i. grant_answer (record { number = c.grant-answer.result.number; device = c.put_back.ensures i }) c.grant-answer.new.memory c.grant-answer.new.latches)
    ∙ c.grant-answer.ensures
