-- Which lines of a session have the mark of a warning.
-- Assumes nothing.
use Rattle.std.specs.Prelude.{ℕ, ◌≡◌, List, [], ◌∷◌, ◌++◌, eqb}
use Rattle.rules.specs.Choice.{pick}
use Rattle.rules.specs.Calls.{Answered}
use Rattle.records.specs.Records.{Record, write_kind}
use Rattle.lines.specs.Lines.{marked_line, plain_line}
use Rattle.session.specs.Steps.{answer_line}
use Rattle.runs.specs.Sessions.{decoded, run_of, last_line, session}

-- the line of a record by its answer: without a warning the one of before; where there is a warning the record is a port write
-- that was accepted, and the line is the marked one
pub record LineOf (r : Record) (a : Answered) : Type 0 where
  pub plain : a.warning ≡ 0 → answer_line r a ≡ plain_line r.number a.number a.byte
  pub marked : (a.warning ≡ 0 → ⊥) → (r.number ≡ write_kind) × (a.number ≡ 0) × (answer_line r a ≡ marked_line)

-- of records and their answers, one by one, and of no more of the one than of the other
unfoldable pub EachLine : List Record → List Answered → Type 0
EachLine [] [] = Unit {0}
EachLine [] (a ∷ as') = ⊥
EachLine (r ∷ rs) [] = ⊥
EachLine (r ∷ rs) (a ∷ as') = LineOf r a × EachLine rs as'

-- the lines of records by their answers, written out: the marked one where there is a warning, and else the one of before
unfoldable pub marked_lines : List Record → List Answered → List ℕ
marked_lines [] as' = []
marked_lines (r ∷ rs) [] = []
marked_lines (r ∷ rs) (a ∷ as') =
    pick (eqb a.warning 0) (plain_line r.number a.number a.byte) marked_line ++ marked_lines rs as'

-- so it is in every session, and these are the lines that it writes, with the last one behind them
pub record SessionMarked (xs : List ℕ) : Type 0 where
  pub each : EachLine (decoded xs).records (run_of xs).answers
  pub lines : (session xs).lines ≡ marked_lines (decoded xs).records (run_of xs).answers ++ last_line (decoded xs).fault (run_of xs).system
