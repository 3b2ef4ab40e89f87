-- The character stands behind the digits.
-- Assumes nothing.
use Rattle.std.proofs.Common.{append_assoc}
use Rattle.lines.proofs.push_number.Goals as goal

pub returns-clause-bytes : goal.returns-clause-bytes
returns-clause-bytes c =
    simp (c.push.ensures.ascii c.requires.ascii, c.push_decimal.ensures.bytes, append_assoc)
