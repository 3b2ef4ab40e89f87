-- The worked examples hold of the definitions, by computation.
-- Assumes nothing.
use mathlib.Core.Path.{refl}
use Rattle.examples.specs.RowsOpened.{rows_opened}
use Rattle.examples.specs.WorkedExamples.{Right}

pub right : Right
unfolding rows_opened
right = refl
