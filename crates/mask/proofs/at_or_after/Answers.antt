-- The table's rule is a test of each of its entries, which antt computes.
-- Assumes nothing.
use mathlib.Core.Path.{refl}
use borrow.Author.Rules.{rules}
use Rattle.rules.specs.Choice.{pick, every}
use Rattle.rules.proofs.Trying.{all_below}
use Rattle.mask.specs.Ahead.{at_or_after}
use Rattle.mask.proofs.Ahead.{ruled, entry}
use Rattle.mask.proofs.at_or_after.Goals as goal

pub returns : goal.returns
unfolding ruled all_below every pick at_or_after
returns c =
    entry _ refl _ (search rules)
