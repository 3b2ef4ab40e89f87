-- An accepted grant is its clocks; a refused one hands back what it was given.
-- Assumes nothing.
use mathlib.Core.Path.{sym, ◌∙◌}
use borrow.Author.Rules.{rules}
use Rattle.rules.specs.Buffers.{flat}
use Rattle.rules.specs.Refusals.{grant_refusal_if}
use Rattle.rules.proofs.Calls.{grant_accepts, grant_refuses}
use Rattle.zxndma.proofs.Refusing.{reason_some}
use Rattle.zxndma.proofs.Device.grant.Goals as goal

pub spend-device-requires : goal.spend-device-requires
unfolding grant_refusal_if
spend-device-requires c =
    sym c.in_default.ensures

pub returns : goal.returns
unfolding grant_refusal_if
returns c =
    grant_accepts flat _ _ _ (sym c.in_default.ensures) (search (rules, c.spend-device.ensures.passed))

pub returns-in-Err : goal.returns-in-Err
unfolding grant_refusal_if
returns-in-Err c =
    grant_refuses flat _ _ _ (sym c.in-Err.ensures ∙ sym c.into.ensures) (λ z. reason_some c.in-Err.refusal (sym c.into.ensures ∙ z))
