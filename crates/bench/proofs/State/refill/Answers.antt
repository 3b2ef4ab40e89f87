-- What is read goes behind the bytes kept; the count of it says whether the input has ended.
-- Assumes nothing.
use Rattle.std.proofs.Common.{◌≡◌, ◌≤◌, ◌∙◌, refl, sym, true, false, arith, eqb, length, rules}
use Rattle.std.proofs.lemmas.Result.{err_from_is_err_and}
use borrow.Author.Tests.{eq-eqb, ne_eqb}
use Rattle.rules.specs.Choice.{pick}
use Rattle.rules.proofs.Choice.{pick_true, pick_false}
use Rattle.bench.proofs.Turning.{refilled}
use Rattle.bench.proofs.State.refill.Goals as goal
use Rattle.bench.proofs.State.refill.Goals.{then-more-eq0, else-more-eq0}

pub returns-in_err-more : goal.returns-in_err-more
unfolding pick
returns-in_err-more g c =
    let p = err_from_is_err_and c.from_residual.result c.from_residual.ensures.1 in
    let kept = c.keep-kept in
    rw p.1
    (record { state = _; refilled = refilled _ _ c.requires _ kept.ensures kept.auto.input true {more = 0} (omega arith) refl; answered = refl })

pub returns : goal.returns
unfolding pick
returns g c =
    let more = c.in_ok-more.more in
    let kept = c.keep-kept in
    let fits : more ≤ length c.read.new.buf = search rules in
    let ended : pick (eqb more 0) true c.args.self.ended ≡ c.if-more-eq0.result =
    elim c.if-more-eq0.branch [
      | then-more-eq0 w ↦ let none = eq-eqb more 0 w.if-more-eq0.true in pick_true _ _ _ none ∙ sym (w.result-is ∙ none)
      | else-more-eq0 w ↦ pick_false _ _ _ (ne_eqb _ _ w.if-more-eq0.false) ∙ sym w.result-is
    ] in
    record { state = _; refilled = refilled _ _ c.requires _ kept.ensures kept.auto.input false fits ended; answered = refl }
