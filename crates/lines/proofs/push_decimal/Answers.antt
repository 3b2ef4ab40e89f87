-- A digit alone is one character; of others the digits that the library writes are those of the definition.
-- Assumes nothing.
use Rattle.std.proofs.Common.{arith, ℕ, ◌+◌, ◌++◌, ◌∷◌, [], List, ap, sym, ◌∙◌}
use Rattle.lines.proofs.Lines.{decimal_printed, decimal_digit}
use Rattle.lines.proofs.push_decimal.Goals as goal

pub returns-then-number-lt10-clause-bytes : goal.returns-then-number-lt10-clause-bytes
returns-then-number-lt10-clause-bytes c =
    c.push.ensures.ascii (omega (arith, c.from.ensures, c.if-number-lt10.true))
    ∙ ap (λ (n : ℕ). c.args.text.now.bytes ++ (n ∷ [])) c.from.ensures
    ∙ ap (λ (l : List ℕ). c.args.text.now.bytes ++ l) (sym (decimal_digit c.args.number c.if-number-lt10.true))

pub returns-else-number-lt10-clause-bytes : goal.returns-else-number-lt10-clause-bytes
returns-else-number-lt10-clause-bytes c =
    simp (c.push_str.ensures.bytes, c.format.ensures.text, decimal_printed c.args.number c.ranges.number.fits)
