-- The short lists of calls hold as they were worked out, by computation.
-- Assumes nothing.
use mathlib.Core.Path.{refl}
use Rattle.rules.specs.Opened.{opened}
use Rattle.rules.proofs.Entries.{empty_wrong}
use Rattle.examples.specs.ShortLists.{sent, found, must, ListsShown}

pub lists_shown : ListsShown empty_wrong
unfolding opened sent found must
lists_shown = refl
