-- Answer and device, put together, are the answer of the call by value.
-- Assumes nothing.
use Rattle.std.proofs.Common.{◌∙◌}
use Rattle.in_place.proofs.zxndma_set_speed_in_place.Goals as goal

pub returns : goal.returns
returns c =
    (λ i. record { number = c.set_speed-answer.result.number; device = c.put_back.ensures i })
    ∙ c.set_speed-answer.ensures
