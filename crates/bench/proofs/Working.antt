-- What is still to come, behind the lines that have gathered, is the same before and after each step: the steps from the
-- place where the work began.
-- Assumes nothing.
use Prim.Native.Nat.{ℕ, zero, suc, ◌+◌, ◌-◌, ◌≤◌, ◌<◌}
use native.Mathlib.Omega.{arith}
use mathlib.Core.Path.{◌≡◌, refl, sym, ap, subst, ◌∙◌}
use mathlib.Core.Bool.{Bool}
use mathlib.Core.List.{List, [], ◌++◌, append-nil, append_assoc}
use borrow.Author.Tests.{eqb-true, eqb-false, ne_eqb}
use lib.Dec.{eqb}
use lib.ListN.{length, take, drop, length-drop, take-append-drop, drop_of_length-le}
use lib.Seq.{take_all, length-take-le, take-append-add, drop-append-add}
use Rattle.rules.specs.Choice.{pick}
use Rattle.rules.specs.Buffers.{Buffers}
use Rattle.rules.proofs.Choice.{pick_ap, pick_false, pick_cases}
use Rattle.clocking.specs.Answers.{borrowed}
use Rattle.session.specs.Steps.{Session, Step, Outcome, step_of, outcome}
use Rattle.runs.specs.Stepping.{line_in}
use Rattle.records.proofs.Choosing.{same}
use Rattle.bench.specs.Working.{step_behind, Gathered, behind_line, gathered_once, lines_before, gathered_from, gathered, AllGathered, Left, left, left_by}
use Rattle.bench.proofs.Taking.{Taken, step_takes}

-- ---- a step behind the lines that have gathered

-- the part of a list from a place on, as code lends it, and what lies behind that part
tail_whole : (n : ℕ) (l : List ℕ) → take (length l - n) (drop n l) ≡ drop n l
tail_whole n l = take_all (length l - n) (drop n l) (omega (arith, length-drop n l))

pub tail_behind : (n : ℕ) (l : List ℕ) → drop (length l - n) (drop n l) ≡ []
tail_behind n l = drop_of_length-le (drop n l) {i = length l - n} (omega (arith, length-drop n l))

module _ (filled : ℕ) (s : Session) (xs : List ℕ) (have p : ℕ) (ended : Bool) (out : List ℕ) (b : Buffers (List ℕ)) (h : filled ≤ length out) where
  -- the slice for the line, as code lends it
  abbrev pub lent : List ℕ
  lent = take (length out - filled) (drop filled out)

  pub behind_lines :
      {r : Step} {line m l : List ℕ}
      → (outcome r line m l ≡ step_of s (take have xs) p ended lent b) × (r.length ≤ length lent)
      → (outcome r (take filled out ++ (line ++ drop (length out - filled) (drop filled out))) m l ≡ step_behind filled s (take have xs) p ended out b) × (filled + r.length ≤ length out)
  unfolding step_behind
  behind_lines {r} {line} {m} {l} e = (
    ap (λ (x : List ℕ). outcome r (take filled out ++ (line ++ x)) m l) (tail_behind filled out)
        ∙ ap (λ (x : List ℕ). outcome r (take filled out ++ x) m l) (append-nil line)
        ∙ ap
        (λ (o : Outcome). record { said = record { step = o.said.step; line = take filled out ++ o.said.line }; buffers = o.buffers })
        (e.0 ∙ ap (λ (x : List ℕ). step_of s (take have xs) p ended x b) (tail_whole filled out)),
    omega (arith, e.1, length-drop filled out, ap length (tail_whole filled out)),
  )

-- ---- what is still to come

-- the same with other lines
abbrev pub with_lines : Gathered → List ℕ → Gathered
with_lines g lines =
    record { progress = g.progress; session = g.session; next = g.next; lines = lines; unused = g.unused; buffers = g.buffers }

module _ (xs : List ℕ) (ended : Bool) where
  -- where no byte is left, the first step is the last
  once : (n : ℕ) (s : Session) (p : ℕ) (out : List ℕ) (b : Buffers (List ℕ)) → length xs - p ≤ 0 → gathered_from n s xs p ended out b ≡ gathered_once (step_of s xs p ended out b)
  unfolding gathered_from
  once zero s p out b h = refl
  once (suc n) s p out b h =
      pick_false _ _ _
      (ne_eqb _ 0
      (λ e. let t : Taken xs p (step_of s xs p ended out b).said.step.next = step_takes s xs p ended out b e in omega arith))

  -- each step that goes on takes bytes, so that it makes no difference how many more are allowed than there are bytes
  pub enough : (m n : ℕ) (s : Session) (p : ℕ) (out : List ℕ) (b : Buffers (List ℕ)) → length xs - p ≤ m → length xs - p ≤ n → gathered_from m s xs p ended out b ≡ gathered_from n s xs p ended out b
  unfolding gathered_from
  enough zero n s p out b h k = sym (once n s p out b h)
  enough (suc m) zero s p out b h k = once (suc m) s p out b k
  enough (suc m) (suc n) s p out b h k = let
      o : Outcome = step_of s xs p ended out b
      in
      same (eqb o.said.step.progress 0) _ _ _ _
      (λ e. let
      t : Taken xs p o.said.step.next = step_takes s xs p ended out b (eqb-true _ 0 e)
      in
      ap (lines_before (line_in o)) (enough m n o.said.step.session o.said.step.next (behind_line o) o.buffers (omega arith) (omega arith)))
      (λ e. refl)

  stops : (n : ℕ) (s : Session) (p : ℕ) (out : List ℕ) (b : Buffers (List ℕ)) → length xs - p ≤ n → (gathered_from n s xs p ended out b).progress ≡ 0 → ⊥
  unfolding gathered_from
  stops zero s p out b h = λ e. let
      t : Taken xs p (step_of s xs p ended out b).said.step.next = step_takes s xs p ended out b e
      in
      omega arith
  stops (suc n) s p out b h = let
      o : Outcome = step_of s xs p ended out b
      in
      pick_cases (λ (g : Gathered). g.progress ≡ 0 → ⊥) (eqb o.said.step.progress 0) _ _
      (λ q. let
      t : Taken xs p o.said.step.next = step_takes s xs p ended out b (eqb-true _ 0 q)
      in
      stops n o.said.step.session o.said.step.next (behind_line o) o.buffers (omega arith))
      (λ q. eqb-false o.said.step.progress 0 q)

  pub all_gathered : (s : Session) (p : ℕ) (out : List ℕ) (b : Buffers (List ℕ)) → AllGathered s xs p ended out b
  all_gathered s p out b =
      record {
        stops = stops (length xs) s p out b (omega arith);
        more = λ n. enough (n + length xs) (length xs) s p out b (omega arith) (omega arith);
      }

  -- the steps from here on; none where the last one did not go on
  unfoldable pub ahead : ℕ → Session → ℕ → List ℕ → Buffers (List ℕ) → Gathered
  ahead progress s p out b =
      pick (eqb progress 0) (gathered s xs p ended out b)
      (record { progress = progress; session = s; next = p; lines = []; unused = out; buffers = b })

  -- those behind a step, with the slice for their lines
  abbrev pub ahead_of : Outcome → List ℕ → Gathered
  ahead_of o out = ahead o.said.step.progress o.said.step.session o.said.step.next out o.buffers

  step_first : (s : Session) (p : ℕ) (out : List ℕ) (b : Buffers (List ℕ)) → lines_before (line_in (step_of s xs p ended out b)) (ahead_of (step_of s xs p ended out b) (behind_line (step_of s xs p ended out b))) ≡ gathered s xs p ended out b
  unfolding ahead gathered_from
  step_first s p out b = let
      o : Outcome = step_of s xs p ended out b
      in
      let more : Gathered = gathered o.said.step.session xs o.said.step.next ended (behind_line o) o.buffers in
      pick_ap (lines_before (line_in o)) (eqb o.said.step.progress 0) _ _
      ∙ ap
      (λ (x : List ℕ). pick (eqb o.said.step.progress 0) (lines_before (line_in o) more) (with_lines (gathered_once o) x))
      (append-nil (line_in o))
      ∙ enough (suc (length xs)) (length xs) s p out b (omega arith) (omega arith)

  -- the lines in a slice up to behind that of a step, and the steps ahead
  abbrev pub all_of : ℕ → Outcome → Gathered
  all_of place o = lines_before (take place o.said.line) (ahead_of o (drop place o.said.line))

  behind_first :
      (filled : ℕ) (s : Session) (p : ℕ) (out : List ℕ) (b : Buffers (List ℕ)) → filled ≤ length out
      → all_of (filled + (step_of s xs p ended (drop filled out) b).said.step.length) (step_behind filled s xs p ended out b)
      ≡ lines_before (take filled out) (gathered s xs p ended (drop filled out) b)
  unfolding step_behind
  behind_first filled s p out b h = let
      o : Outcome = step_of s xs p ended (drop filled out) b
      in
      let before : List ℕ = take filled out in
      let size : ℕ = o.said.step.length in
      let place : filled + size ≡ length before + size = omega (arith, length-take-le filled out h) in
      ap (λ (n : ℕ). all_of n (step_behind filled s xs p ended out b)) place
      ∙ ap
      (λ (x : List ℕ). lines_before x (ahead_of o (drop (length before + size) (before ++ o.said.line))))
      (take-append-add before o.said.line size)
      ∙ ap (λ (x : List ℕ). lines_before (before ++ line_in o) (ahead_of o x)) (drop-append-add before o.said.line size)
      ∙ ap (with_lines (ahead_of o (behind_line o))) (append_assoc before (line_in o) (ahead_of o (behind_line o)).lines)
      ∙ ap (lines_before before) (step_first s p (drop filled out) b)

  -- ---- the loop

  module _ (s₀ : Session) (p₀ : ℕ) (output₀ memory₀ latches₀ : List ℕ) where
    -- where the loop is: the lines gathered and the steps still to come are all the steps
    pub record Going (output memory latches : List ℕ) (s : Session) (p filled progress : ℕ) : Type 0 where
      pub all : lines_before (take filled output) (ahead progress s p (drop filled output) (borrowed memory latches)) ≡ gathered s₀ xs p₀ ended output₀ (borrowed memory₀ latches₀)
      pub fits : filled ≤ length output
      pub output_size : length output ≡ length output₀
      pub memory_size : length memory ≡ length memory₀
      pub latches_size : length latches ≡ length latches₀

    pub going_start : Going output₀ memory₀ latches₀ s₀ p₀ 0 0
    unfolding ahead pick
    going_start =
        record { all = refl; fits = omega arith; output_size = refl; memory_size = refl; latches_size = refl }

    module _ {output memory latches : List ℕ} {s : Session} {p filled : ℕ} (w : Going output memory latches s p filled 0) where
      module _ {r : Step} {o m l : List ℕ} (e : (outcome r o m l ≡ step_behind filled s xs p ended output (borrowed memory latches)) × (filled + r.length ≤ length output)) where
        pub going_on : length o ≡ length output → length m ≡ length memory → length l ≡ length latches → Going o m l r.session r.next (filled + r.length) r.progress
        unfolding ahead pick step_behind
        going_on h i j =
            record {
              all =
                  ap (λ (x : Outcome). all_of (filled + x.said.step.length) x) e.0
                  ∙ behind_first filled s p output (borrowed memory latches) w.fits
                  ∙ w.all;
              fits = omega (arith, e.1);
              output_size = h ∙ w.output_size;
              memory_size = i ∙ w.memory_size;
              latches_size = j ∙ w.latches_size;
            }

        -- where the steps go on, the place comes nearer to the end of the bytes at hand
        pub going_less : r.progress ≡ 0 → length xs - r.next < length xs - p
        unfolding step_behind
        going_less q = let
            t : Taken xs p r.next =
            subst (λ (x : Outcome). x.said.step.progress ≡ 0 → Taken xs p x.said.step.next) (sym e.0)
            (step_takes s xs p ended (drop filled output) (borrowed memory latches))
            q
            in
            omega arith

    module _ {output memory latches : List ℕ} {s : Session} {p filled progress : ℕ} (w : Going output memory latches s p filled progress) where
      -- the next step is made from there
      pub going_more : progress ≡ 0 → Going output memory latches s p filled 0
      going_more goes = subst (Going output memory latches s p filled) goes w

      -- the answer, with the lines up to a place and the rest of the slice behind them
      abbrev answer : ℕ → List ℕ → Left
      answer k x = left (record { session = s; at = p; filled = k; progress = progress }) x memory latches

      pub going_end : (progress ≡ 0 → ⊥) → answer filled output ≡ left_by (gathered s₀ xs p₀ ended output₀ (borrowed memory₀ latches₀))
      unfolding ahead
      going_end stops = let
          lines : List ℕ = take filled output
          in
          sym
          (sym (ap left_by (ap (lines_before lines) (sym (pick_false _ _ _ (ne_eqb progress 0 stops))) ∙ w.all))
          ∙ ap (λ (x : List ℕ). answer (length x) (x ++ drop filled output)) (append-nil lines)
          ∙ ap (λ (k : ℕ). answer k (lines ++ drop filled output)) (length-take-le filled output w.fits)
          ∙ ap (answer filled) (take-append-drop filled output))
