-- A record's answer has a warning only where it is a write that was accepted, by the kinds of records; its line goes by that,
-- and the lines one by one.
-- Assumes nothing.
use Prim.Native.Nat.{ℕ}
use mathlib.Core.Path.{◌≡◌, refl, ap, ◌∙◌}
use mathlib.Core.List.{List, [], ◌∷◌, ◌++◌}
use lib.Dec.{eqb}
use borrow.Author.Tests.{eqb-true, eqb-false}
use Rattle.rules.specs.Choice.{pick}
use Rattle.rules.specs.Buffers.{flat}
use Rattle.rules.specs.World.{System}
use Rattle.rules.specs.Calls.{Answered}
use Rattle.rules.specs.Entries.{Poke, flat_outside, Entry, enter, run_over, run}
use Rattle.rules.proofs.Choice.{pick_cases}
use Rattle.rules.proofs.Warned.{warning_answered}
use Rattle.records.specs.Records.{Record}
use Rattle.lines.specs.Lines.{record_line, marked_line, plain_line}
use Rattle.lines.proofs.Lines.{lines_marked}
use Rattle.session.specs.Effects.{entry_of, effect}
use Rattle.session.specs.Steps.{answer_line}
use Rattle.runs.specs.Sessions.{decoded, entries_of, start, run_of, lines_of, last_line}
use Rattle.runs.specs.Marked.{LineOf, EachLine, marked_lines, SessionMarked}

module _ (xs : List ℕ) (r : Record) (s : System (List ℕ)) where
  -- an entry of this record that has a warning
  abbrev WriteAccepted : Entry flat (List Poke) → Type 0
  WriteAccepted e =
      ((enter flat flat_outside e s).answered.warning ≡ 0 → ⊥)
      → (r.number ≡ 1) × ((enter flat flat_outside e s).answered.number ≡ 0)

  write_accepted : WriteAccepted (entry_of xs r)
  unfolding entry_of
  write_accepted =
      pick_cases WriteAccepted _ _ _
      (λ t f. (eqb-true _ _ t, ((warning_answered.exact s.world.core s.clocks r.word r.byte _ f).to refl).0))
      (λ t. pick_cases WriteAccepted _ _ _
      (λ t f. absurd (f (warning_answered.read s.world.core s.clocks r.word)))
      (λ t. pick_cases WriteAccepted _ _ _
      (λ t f. absurd (f (warning_answered.granted flat s r.clocks)))
      (λ t. pick_cases WriteAccepted _ _ _ (λ t f. absurd (f refl)) (λ t f. absurd (f refl)))))

  line_of : LineOf r (effect xs r s).answered
  line_of =
      let a = (effect xs r s).answered in
      record {
        plain = λ e. ap (record_line r.number a.number a.byte) e ∙ lines_marked.unmarked r.number a.number a.byte;
        marked =
            λ f.
            let h = write_accepted f in
            (h.0, h.1, (λ i. record_line (h.0 i) (h.1 i) a.byte a.warning) ∙ lines_marked.marked a.byte a.warning f);
      }

each_line : (xs : List ℕ) (rs : List Record) (s : System (List ℕ)) → EachLine rs (run flat flat_outside (entries_of xs rs) s).answers
unfolding EachLine entries_of run_over
each_line xs [] s = tt
each_line xs (r ∷ rs) s = (line_of xs r s, each_line xs rs (effect xs r s).system)

-- a line written out
line_as : (r : Record) (a : Answered) → LineOf r a → answer_line r a ≡ pick (eqb a.warning 0) (plain_line r.number a.number a.byte) marked_line
line_as r a l =
    pick_cases (λ (xs : List ℕ). answer_line r a ≡ xs) _ _ _
    (λ t. l.plain (eqb-true _ _ t))
    (λ t. (l.marked (eqb-false _ _ t)).2)

lines_as : (rs : List Record) (as' : List Answered) → EachLine rs as' → lines_of rs as' ≡ marked_lines rs as'
unfolding EachLine lines_of marked_lines
lines_as [] as' e = refl
lines_as (r ∷ rs) [] e = refl
lines_as (r ∷ rs) (a ∷ as') e =
    let h = line_as r a e.0 in
    let t = lines_as rs as' e.1 in
    λ i. h i ++ t i

pub session_marked : (xs : List ℕ) → SessionMarked xs
session_marked xs =
    let e = each_line xs (decoded xs).records start in
    record {
      each = e;
      lines = ap (λ (l : List ℕ). l ++ last_line (decoded xs).fault (run_of xs).system) (lines_as (decoded xs).records (run_of xs).answers e);
    }
