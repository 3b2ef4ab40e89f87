-- The sum is taken where it fits.
-- Assumes nothing.
use borrow.Author.Rules.{rules}
use mathlib.Core.Path.{◌∙◌}
use Rattle.clocking.proofs.Counts.{sum_or_count}
use Rattle.clocking.proofs.count.more.Goals as goal

pub returns : goal.returns
returns c =
    c.unwrap_or.ensures ∙ sum_or_count _ _ _ (search rules) c.checked_add.ensures
