-- What is read lies behind the bytes that were kept; what is written are the lines that have gathered.
-- Assumes nothing.
use Prim.Native.Nat.{ℕ, ◌+◌, ◌-◌, ◌≤◌}
use native.Mathlib.Omega.{arith}
use mathlib.Core.Path.{◌≡◌, refl, sym, ap, subst, subst⁻¹, ◌∙◌}
use mathlib.Core.Bool.{Bool, true, false}
use mathlib.Core.List.{List, ◌++◌}
use borrow.Author.Tests.{eq-eqb, ne_eqb}
use lib.Dec.{eqb}
use lib.ListN.{length, take, drop, replicate, length-take, length-append}
use lib.Seq.{take_at, take-append-le, take-append-add, length-take-le, length-slice}
use Rattle.rules.specs.Choice.{pick}
use Rattle.rules.specs.Buffers.{Buffers}
use Rattle.rules.proofs.Choice.{pick_true, pick_false}
use Rattle.clocking.specs.Answers.{borrowed}
use Rattle.session.specs.Numbers.{progress_number}
use Rattle.session.specs.declared.step.Progress.{Progress}
use Rattle.session.specs.declared.step.Progress.TheVariants.{GoesOn, Waits, IsOver, NoRoom}
use Rattle.std.proofs.Common.{◌⊎◌, inl, inr}
use Rattle.bench.specs.Buffered.{not_taken, kept}
use Rattle.bench.specs.Working.{Gathered, gathered_in, Left, left, left_by}
use Rattle.bench.specs.Turning.{state_with, Refilled, NextTurn, Turned, holds_at_start, Turns, most_turns, Ran}
use Rattle.bench.specs.Turning.Turns.{none, more}
use Rattle.bench.specs.State.{State, Worked, state_at_start, state_of}
use Rattle.bench.specs.declared.State as code

module _ (s : State) (input : List ℕ) (fits : s.have ≤ length input) where
  kept_front : {count : ℕ} {l : List ℕ} → count ≡ s.have - s.at → l ≡ kept s.at s.have input → take count l ≡ not_taken s.at s.have input
  unfolding kept
  kept_front {count} e f =
      ap (take count) f
      ∙ take_at (not_taken s.at s.have input) _ count (length-slice s.at s.have input fits ∙ sym e)

  -- what the buffer is when its part behind the bytes kept has been read into
  abbrev pub read_into : ℕ → List ℕ → List ℕ → List ℕ
  read_into count l part = take count l ++ (part ++ drop (length l - count) (drop count l))

  -- the state after a read of some bytes behind those kept
  abbrev read_state : Bool → ℕ → Bool → State
  read_state failed have ended =
      record { session = s.session; at = 0; have = have; ended = ended; stopped = pick failed true s.stopped }

  module _ {count : ℕ} {l : List ℕ} (part : List ℕ) (k : (count ≡ s.have - s.at) × (l ≡ kept s.at s.have input)) (size : length l ≡ length input) where
    pub refilled :
        (failed : Bool) {more : ℕ} {ended : Bool}
        → more ≤ length part
        → pick failed s.ended (pick (eqb more 0) true s.ended) ≡ ended
        → Refilled s input (read_state failed (count + more) ended) (read_into count l part)
    refilled failed {more} {ended} h e = let
        old : List ℕ = not_taken s.at s.have input
        in
        let rest : List ℕ = drop (length l - count) (drop count l) in
        let count_old : count ≡ length old = k.0 ∙ sym (length-slice s.at s.have input fits) in
        record {
          failed = failed;
          new = take more part;
          state =
              ap (read_state failed (count + more)) (sym e)
              ∙ ap (λ (m : ℕ). state_with s failed m more) count_old
              ∙ ap (state_with s failed (length old)) (sym (length-take-le more part h));
          bytes =
              ap (λ (x : List ℕ). take (count + more) (x ++ (part ++ rest))) (kept_front k.0 k.1)
              ∙ ap (λ (m : ℕ). take (m + more) (old ++ (part ++ rest))) count_old
              ∙ take-append-add old (part ++ rest) more
              ∙ ap (λ (x : List ℕ). old ++ x) (take-append-le more part rest h);
        }

-- ---- a turn

-- the bytes at hand fit the buffer, since they are in it
refilled_fits : {s : State} {input : List ℕ} {r : State} {input' : List ℕ} → Refilled s input r input' → r.have ≤ length input'
refilled_fits {s} {input} {r} {input'} f =
    omega (
      arith,
      ap (λ (x : State). x.have) f.state,
      ap length f.bytes,
      length-append (not_taken s.at s.have input) f.new,
      length-take r.have input',
    )

-- the state behind steps, as the code has it
abbrev pub behind : State → Bool → Left → State
behind s stopped x =
    record { session = x.worked.session; at = x.worked.at; have = s.have; ended = s.ended; stopped = stopped }

-- what another statement says
shown : {X Y : Type 0} → X ≡ Y → Y → X
shown e y = subst⁻¹ (λ (Z : Type 0). Z) e y

module _ (s : State) (input output : List ℕ) (b : Buffers (List ℕ)) (fits : s.have ≤ length input) {w : Worked} {o m l : List ℕ} (e : left w o m l ≡ left_by (gathered_in s input output b)) where
  last_progress : w.progress ≡ (gathered_in s input output b).progress
  last_progress = ap (λ (x : Left). x.worked.progress) e

  turned :
      (r : Left → State) (written : Bool) {input' : List ℕ}
      → NextTurn written s (gathered_in s input output b) input (r (left_by (gathered_in s input output b))) input'
      → (r (left_by (gathered_in s input output b))).have ≤ length input'
      → Turned s (gathered_in s input output b) input (r (left w o m l)) input' o (borrowed m l)
  turned r written {input'} next h =
      subst (λ (x : Left). Turned s (gathered_in s input output b) input (r x) input' x.output x.buffers) (sym e)
      (record { output = refl; buffers = refl; written = written; next = next; fits = h })

  pub turned_unwritten : Turned s (gathered_in s input output b) input (behind s true (left w o m l)) input o (borrowed m l)
  unfolding NextTurn pick
  turned_unwritten = turned (behind s true) false (refl, refl) fits

  pub turned_over : w.progress ≡ 2 → Turned s (gathered_in s input output b) input (behind s true (left w o m l)) input o (borrowed m l)
  unfolding NextTurn pick
  turned_over n = turned (behind s true) true (shown (pick_true _ _ _ (eq-eqb _ 2 (sym last_progress ∙ n))) (refl, refl)) fits

  other : {k n : ℕ} → w.progress ≡ k → (k ≡ n → ⊥) → eqb (gathered_in s input output b).progress n ≡ false
  other q f = ne_eqb _ _ (λ r. f (sym q ∙ last_progress ∙ r))

  pub turned_on : (w.progress ≡ 2 → ⊥) → (w.progress ≡ 1 → ⊥) → Turned s (gathered_in s input output b) input (behind s s.stopped (left w o m l)) input o (borrowed m l)
  unfolding NextTurn pick
  turned_on n k =
      turned (behind s s.stopped) true (shown (pick_false _ _ _ (other refl n)) (shown (pick_false _ _ _ (other refl k)) (refl, refl))) fits

  pub turned_more : {r : State} {input' : List ℕ} → w.progress ≡ 1 → Refilled (behind s s.stopped (left w o m l)) input r input' → Turned s (gathered_in s input output b) input r input' o (borrowed m l)
  unfolding NextTurn pick
  turned_more {r} {input'} k f = let
      more : Refilled (behind s s.stopped (left_by (gathered_in s input output b))) input r input' =
      subst (λ (x : Left). Refilled (behind s s.stopped x) input r input') e f
      in
      turned (λ x. r) true (shown (pick_false _ _ _ (other k (λ q. omega (arith, q)))) (shown (pick_true _ _ _ (eq-eqb _ 1 (sym last_progress ∙ k))) more)) (refilled_fits f)

-- what a progress is not, in numbers
pub not_going : (p : Progress) → (p ≡ GoesOn → ⊥) → progress_number p ≡ 0 → ⊥
not_going GoesOn f e = f refl
not_going Waits f e = absurd (omega (arith, e))
not_going (IsOver fault) f e = absurd (omega (arith, e))
not_going NoRoom f e = absurd (omega (arith, e))

pub goes_or_full : {p : Progress} → (p ≡ GoesOn) ⊎ (p ≡ NoRoom) → (progress_number p ≡ 2 → ⊥) × (progress_number p ≡ 1 → ⊥)
goes_or_full (inl e) = (λ f. absurd (omega (arith, f, ap progress_number e)), λ f. absurd (omega (arith, f, ap progress_number e)))
goes_or_full (inr e) = (λ f. absurd (omega (arith, f, ap progress_number e)), λ f. absurd (omega (arith, f, ap progress_number e)))

-- ---- the run

-- so many turns led here
pub record Running (b : Buffers (List ℕ)) (input output memory latches : List ℕ) (s : code.State) (count : ℕ) : Type 0 where
  pub turns : Turns count (holds_at_start b) (record { state = state_of s; input = input; output = output; buffers = borrowed memory latches })
  pub fits : s.have ≤ length input

pub running_start : (memory latches : List ℕ) {s : code.State} → state_of s ≡ state_at_start → Running (borrowed memory latches) (replicate 65536 0) (replicate 65536 0) memory latches s 0
running_start memory latches e =
    record {
      turns =
          subst
          (λ (x : State). Turns 0 (holds_at_start (borrowed memory latches)) (record { state = x; input = replicate 65536 0; output = replicate 65536 0; buffers = borrowed memory latches }))
          (sym e)
          none;
      fits = omega (arith, ap (λ (x : State). x.have) e);
    }

module _ {b : Buffers (List ℕ)} {input output memory latches : List ℕ} {s : code.State} {n : ℕ} (w : Running b input output memory latches s n) where
  module _ {r : State} {input' output' memory' latches' : List ℕ} (t : Turned (state_of s) (gathered_in (state_of s) input output (borrowed memory latches)) input r input' output' (borrowed memory' latches')) where
    pub running_more : {next : code.State} → r ≡ state_of next → Running b input' output' memory' latches' next (n + 1)
    running_more e =
        record {
          turns =
              subst (λ (x : State). Turns (n + 1) (holds_at_start b) (record { state = x; input = input'; output = output'; buffers = borrowed memory' latches' }))
              e
              (more w.turns refl t);
          fits = subst (λ (x : State). x.have ≤ length input') e t.fits;
        }

    pub running_stop : r.stopped ≡ true → Ran b (borrowed memory' latches')
    running_stop e =
        record {
          count = n + 1;
          last = record { state = r; input = input'; output = output'; buffers = borrowed memory' latches' };
          turns = more w.turns refl t;
          buffers = refl;
          stops = λ _. e;
        }

  pub running_end : n ≡ most_turns → Ran b (borrowed memory latches)
  running_end e =
      record {
        count = n;
        last = record { state = state_of s; input = input; output = output; buffers = borrowed memory latches };
        turns = w.turns;
        buffers = refl;
        stops = λ k. absurd (omega (arith, e));
      }
