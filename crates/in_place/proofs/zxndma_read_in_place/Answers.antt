-- Answer and device, put together, are the answer of the call by value.
-- Assumes nothing.
use Rattle.std.proofs.Common.{◌∙◌}
use Rattle.in_place.proofs.zxndma_read_in_place.Goals as goal

pub returns : goal.returns
returns c =
    (λ i. record { number = c.read-answer.result.number; byte = c.read-answer.result.byte; device = c.put_back.ensures i })
    ∙ c.read-answer.ensures
