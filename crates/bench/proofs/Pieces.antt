-- A step that goes on is the same with more bytes at hand; one that waits has written nothing, and what goes on from it is
-- the step from where it began. Bytes before the place can be dropped.
-- Assumes nothing.
use Prim.Native.Nat.{ℕ, zero, suc, ◌+◌}
use native.Mathlib.Omega.{arith}
use mathlib.Core.Path.{◌≡◌, refl, sym, ap, ◌∙◌}
use mathlib.Core.Bool.{Bool, false}
use mathlib.Core.List.{List, ◌++◌, append_assoc}
use borrow.Author.Tests.{eqb-true, eq-eqb}
use lib.Dec.{eqb}
use lib.ListN.{length, take, drop, length-drop}
use Rattle.rules.specs.Choice.{pick}
use Rattle.rules.specs.Buffers.{Buffers}
use Rattle.rules.proofs.Choice.{pick_both, pick_ap, pick_cases, pick_true}
use Rattle.session.specs.Steps.{Session, Said, Outcome, version_step, long_step, by_record, record_step, step_of}
use Rattle.runs.specs.Stepping.{line_in}
use Rattle.runs.specs.Moving.{farther}
use Rattle.runs.proofs.Pieces.{step_stands}
use Rattle.runs.proofs.Moving.{step_moves}
use Rattle.bench.specs.Working.{Gathered, behind_line, gathered_once, lines_before, gathered_from, gathered}
use Rattle.bench.specs.Pieces.{place_farther, PiecesGathered}
use Rattle.bench.proofs.Working.{with_lines, enough}

-- ---- a step that waits writes no line

Bare : Outcome → Type 0
Bare o = o.said.step.progress ≡ 1 → o.said.step.length ≡ 0

module _ (s : Session) (xs : List ℕ) (p : ℕ) (ended : Bool) (out : List ℕ) (b : Buffers (List ℕ)) where
  bare_version : Bare (record { said = version_step s xs p ended out; buffers = b })
  unfolding version_step Bare
  bare_version = let
      P : Said → Type 0 = λ (x : Said). Bare (record { said = x; buffers = b })
      in
      pick_both P _ _ _ (pick_both P ended _ _ (λ e. absurd (omega (arith, e))) (λ e. refl))
      (pick_both P _ _ _ (λ e. refl) (λ e. absurd (omega (arith, e))))

  bare_long : Bare (record { said = long_step s xs p ended out; buffers = b })
  unfolding long_step Bare
  bare_long = let
      P : Said → Type 0 = λ (x : Said). Bare (record { said = x; buffers = b })
      in
      pick_both P _ _ _ (λ e. absurd (omega (arith, e))) (pick_both P ended _ _ (λ e. absurd (omega (arith, e))) (λ e. refl))

  bare_record : Bare (record_step s xs p ended out b)
  unfolding record_step by_record Bare
  bare_record =
      pick_both Bare _ _ _
      (pick_both Bare _ _ _ (λ e. refl)
      (pick_both Bare _ _ _ (λ e. absurd (omega (arith, e)))
      (pick_both Bare _ _ _ (λ e. absurd (omega (arith, e))) (λ e. absurd (omega (arith, e))))))
      (λ e. refl)

  step_bare : (step_of s xs p ended out b).said.step.progress ≡ 1 → (step_of s xs p ended out b).said.step.length ≡ 0
  unfolding step_of Bare
  step_bare =
      pick_both Bare _ _ _ (λ e. refl)
      (pick_both Bare _ _ _ bare_version
      (pick_both Bare _ _ _ bare_record (pick_both Bare _ _ _ bare_long (λ e. refl))))

-- ---- the bytes before the place

-- what is gathered follows from the first step
from_step : (n : ℕ) (xs : List ℕ) (ended : Bool) → Outcome → Gathered
from_step zero xs ended o = gathered_once o
from_step (suc n) xs ended o =
    pick (eqb o.said.step.progress 0)
    (lines_before (line_in o) (gathered_from n o.said.step.session xs o.said.step.next ended (behind_line o) o.buffers))
    (gathered_once o)

by_step : (n : ℕ) (s : Session) (xs : List ℕ) (p : ℕ) (ended : Bool) (out : List ℕ) (b : Buffers (List ℕ)) → gathered_from n s xs p ended out b ≡ from_step n xs ended (step_of s xs p ended out b)
unfolding gathered_from from_step
by_step zero s xs p ended out b = refl
by_step (suc n) s xs p ended out b = refl

moves : (n : ℕ) (s : Session) (xs : List ℕ) (k p : ℕ) (ended : Bool) (out : List ℕ) (b : Buffers (List ℕ)) → gathered_from n s xs (k + p) ended out b ≡ place_farther k (gathered_from n s (drop k xs) p ended out b)
unfolding gathered_from from_step
moves zero s xs k p ended out b = ap gathered_once (step_moves s xs p out b ended k)
moves (suc n) s xs k p ended out b = let
    o : Outcome = step_of s (drop k xs) p ended out b
    in
    ap (from_step (suc n) xs ended) (step_moves s xs p out b ended k)
    ∙ ap
    (λ (g : Gathered). pick (eqb o.said.step.progress 0) (lines_before (line_in o) g) (gathered_once (farther k o)))
    (moves n o.said.step.session xs k o.said.step.next ended (behind_line o) o.buffers)
    ∙ sym (pick_ap (place_farther k) (eqb o.said.step.progress 0) _ _)

-- ---- more bytes

module _ (xs ys : List ℕ) (ended : Bool) where
  -- with all bytes at hand, the steps are these and those behind them
  Follows : Session → ℕ → List ℕ → Buffers (List ℕ) → Gathered → Type 0
  Follows s p out b g =
      g.progress ≡ 1
      → gathered s (xs ++ ys) p ended out b ≡ lines_before g.lines (gathered g.session (xs ++ ys) g.next ended g.unused g.buffers)

  -- the same behind a step
  abbrev FollowsStep : Outcome → Gathered → Type 0
  FollowsStep o g = Follows o.said.step.session o.said.step.next (behind_line o) o.buffers g

  waiting : (s : Session) (p : ℕ) (out : List ℕ) (b : Buffers (List ℕ)) → Follows s p out b (gathered_once (step_of s xs p false out b))
  unfolding Follows
  waiting s p out b e = let
      o : Outcome = step_of s xs p false out b
      in
      by_step (length (xs ++ ys)) s (xs ++ ys) p ended out b
      ∙ ap (from_step (length (xs ++ ys)) (xs ++ ys) ended) (sym ((step_stands s xs p out b ys ended).waits e))
      ∙ sym (by_step (length (xs ++ ys)) o.said.step.session (xs ++ ys) o.said.step.next ended o.said.line o.buffers)
      ∙ ap
      (λ (n : ℕ). lines_before (take n o.said.line) (gathered o.said.step.session (xs ++ ys) o.said.step.next ended (drop n o.said.line) o.buffers))
      (sym (step_bare s xs p false out b e))

  going :
      (s : Session) (p : ℕ) (out : List ℕ) (b : Buffers (List ℕ)) (g : Gathered)
      → (step_of s xs p false out b).said.step.progress ≡ 0
      → FollowsStep (step_of s xs p false out b) g
      → Follows s p out b (lines_before (line_in (step_of s xs p false out b)) g)
  unfolding Follows from_step
  going s p out b g q f e = let
      o : Outcome = step_of s xs p false out b
      in
      let more : Gathered = gathered g.session (xs ++ ys) g.next ended g.unused g.buffers in
      enough (xs ++ ys) ended (length (xs ++ ys)) (suc (length (xs ++ ys))) s p out b (omega arith) (omega arith)
      ∙ by_step (suc (length (xs ++ ys))) s (xs ++ ys) p ended out b
      ∙ ap (from_step (suc (length (xs ++ ys))) (xs ++ ys) ended) ((step_stands s xs p out b ys ended).stands (λ w. omega (arith, w, q)))
      ∙ pick_true _ _ _ (eq-eqb o.said.step.progress 0 q)
      ∙ ap (lines_before (line_in o)) (f e)
      ∙ ap (with_lines more) (sym (append_assoc (line_in o) g.lines more.lines))

  follows : (n : ℕ) (s : Session) (p : ℕ) (out : List ℕ) (b : Buffers (List ℕ)) → Follows s p out b (gathered_from n s xs p false out b)
  unfolding gathered_from
  follows zero s p out b = waiting s p out b
  follows (suc n) s p out b = let
      o : Outcome = step_of s xs p false out b
      in
      pick_cases (Follows s p out b) (eqb o.said.step.progress 0) _ _
      (λ q. going s p out b _ (eqb-true o.said.step.progress 0 q) (follows n o.said.step.session o.said.step.next (behind_line o) o.buffers))
      (λ q. waiting s p out b)

  -- from the first byte not taken
  kept_on : (s : Session) (k : ℕ) (out : List ℕ) (b : Buffers (List ℕ)) (zs : List ℕ) → gathered s zs k ended out b ≡ place_farther k (gathered s (drop k zs) 0 ended out b)
  kept_on s k out b zs =
      ap (λ (p : ℕ). gathered_from (length zs) s zs p ended out b) (let z : k ≡ k + 0 = omega arith in z)
      ∙ moves (length zs) s zs k 0 ended out b
      ∙ ap (place_farther k) (enough (drop k zs) ended (length zs) (length (drop k zs)) s 0 out b (omega (arith, length-drop k zs)) (omega arith))

  pub pieces_gathered : (s : Session) (p : ℕ) (out : List ℕ) (b : Buffers (List ℕ)) → PiecesGathered s xs p out b ys ended
  unfolding Follows
  pieces_gathered s p out b e = let
      g : Gathered = gathered s xs p false out b
      in
      follows (length xs) s p out b e
      ∙ ap (lines_before g.lines) (kept_on g.session g.next g.unused g.buffers (xs ++ ys))
