-- The reply without its warning is the one of before, and so is the answer made of it.
-- Assumes nothing.
use mathlib.Core.Path.{ap}
use Rattle.rules.specs.Steering.{bits}
use Rattle.rules.proofs.Warned.{warnings_aside}
use Rattle.zxndma.specs.Unwarned.{bare_write_answer, WriteAsBefore}

pub write_as_before : WriteAsBefore
write_as_before d port byte = ap bare_write_answer (warnings_aside.write bits d.core d.clocks port byte)
