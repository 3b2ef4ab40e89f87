-- The command that asks for the mask is one of WR6's.
-- Assumes nothing.
use Rattle.std.proofs.Common.{◌≡◌, ℕ, false, eqb, refl, eqb-true}
use Rattle.rules.specs.Choice.{pick, first_of, every}
use Rattle.rules.specs.Selection.{selects}
use Rattle.rules.proofs.Choice.{either}

wr6 : selects 0xBB ≡ 6
unfolding selects first_of every pick
wr6 = refl

pub no_mask : (byte : ℕ) → (selects byte ≡ 6 → ⊥) → eqb byte 0xBB ≡ false
no_mask byte f = either (eqb byte 0xBB) (λ e. absurd (f (rw (eqb-true byte 0xBB e) wr6))) (λ e. e)
