-- What a row is played and judged by, opened at once with the definitions of the rules.
-- Assumes nothing.
use Rattle.rules.specs.Opened.{opened}
use Rattle.examples.specs.Rows.{same, in_turn, moves_so, perform, played, row_failures, failures}

unfoldable pub rows_opened : Unit {0}
unfolding opened same in_turn moves_so perform played row_failures failures
rows_opened = tt
