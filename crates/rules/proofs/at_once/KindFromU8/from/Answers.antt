-- Each arm is its number's kind.
-- Assumes nothing.
use native.Mathlib.Omega.{arith}
use borrow.Author.Tests.{ne_eqb}
use Rattle.rules.specs.Choice.{pick}
use Rattle.rules.specs.Spans.{kind_of}
use Rattle.rules.proofs.at_once.KindFromU8.from.Goals as goal

pub returns-in-0 : goal.returns-in-0
unfolding kind_of pick
returns-in-0 c =
    simp c.in-0.is

pub returns-in-1 : goal.returns-in-1
unfolding kind_of pick
returns-in-1 c =
    simp c.in-1.is

pub returns-in_default : goal.returns-in_default
unfolding kind_of pick
returns-in_default c =
    simp (ne_eqb c.args.number 0 (λ e. omega (arith, e)), ne_eqb c.args.number 1 (λ e. omega (arith, e)))
