-- Answer and device, put together, are the answer of the call by value.
-- Assumes nothing.
use Rattle.std.proofs.Common.{◌∙◌}
use Rattle.in_place.proofs.zxndma_write_in_place.Goals as goal

pub returns : goal.returns
returns c =
    (λ i. record { number = c.write-answer.result.number; warning = c.write-answer.result.warning; device = c.put_back.ensures i })
    ∙ c.write-answer.ensures
