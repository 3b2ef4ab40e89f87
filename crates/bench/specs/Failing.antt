-- Why the program stops before the session is over.
-- Assumes nothing.
use Rattle.std.specs.Prelude.{◌≡◌}
use Rattle.std.specs.IoError.{error_kind}
use Rattle.std.specs.declared.io.ErrorKind.TheVariants.{BrokenPipe}
use Rattle.bench.specs.declared.Failure.{Failure}
use Rattle.bench.specs.declared.Failure.TheVariants.{Read, Write}

-- nobody reads the lines any more: a write failed, and for that reason
abbrev pub PipeClosed : Failure → Type 0
PipeClosed (Read why) = ⊥
PipeClosed (Write why) = error_kind why ≡ BrokenPipe
