-- A grant within a list and its parts in its place: the run of the parts ends where the grant ends, and the history passes
-- the same clocks one after the other, so all that comes later is the same.
-- Assumes nothing.
use Prim.Native.Nat.{ℕ, zero, suc, ◌+◌}
use native.Mathlib.Nat.{add-zero, add-suc, add_assoc}
use mathlib.Core.Path.{◌≡◌, refl, sym, ◌∙◌, ap}
use mathlib.Core.List.{List, [], ◌∷◌, ◌++◌}
use lib.ListN.{length}
use borrow.Author.Tests.{eq-eqb}
use Rattle.rules.specs.Buffers.{Store}
use Rattle.rules.specs.World.{System}
use Rattle.rules.specs.Calls.{grant}
use Rattle.rules.specs.Entries.{Outside, Entry, clock_grant, Run, enter, run, system_at_power_on, run_over}
use Rattle.rules.specs.History.{Past, noted_unless, clock_passed, clocks_passed, grant_passed, note_entry, history, past_at_power_on, clocks_passed_by, history_by}
use Rattle.rules.specs.Splitting.{sum_of, AcceptedInTurn, grants, accepted_answers, SplitsWithin}
use Rattle.rules.proofs.Choice.{pick_true}
use Rattle.rules.proofs.Calls.{grant_plain}
use Rattle.rules.proofs.Entries.{reached_valid, run_behind}
use Rattle.rules.proofs.Splitting.{grant_splits}
use Rattle.rules.proofs.Accounts.{Agree, entry_step, start_agrees, ends}

module _ {M C : Type 0} (σ : Store M) (ω : Outside M C) where
  -- ---- the run

  -- one answer for each entry
  answers_each : (es : List (Entry σ C)) (s : System M) → length (run σ ω es s).answers ≡ length es
  unfolding run_over
  answers_each [] s = refl
  answers_each (e ∷ es) s = ap suc (answers_each es (enter σ ω e s).system)

  -- grants that are accepted in turn
  grants_run : (ns : List ℕ) (s t : System M) → AcceptedInTurn σ ns s t → run σ ω (grants ns) s ≡ record { answers = accepted_answers ns; system = t }
  unfolding run_over grants AcceptedInTurn accepted_answers
  grants_run [] s t a = λ i. record { answers = []; system = a i }
  grants_run (n ∷ ns) s t a =
      let h = grants_run ns (grant σ s n).system t a.1 in
      let p = grant_plain σ s n in
      λ i. record { answers = record { number = a.0 i; byte = p.0 i; warning = p.1 i } ∷ (h i).answers; system = (h i).system }

  -- grants that are accepted in turn, between other entries
  grants_between :
      (before : List (Entry σ C)) (ns : List ℕ) (after : List (Entry σ C)) (s t : System M)
      → AcceptedInTurn σ ns (run σ ω before s).system t
      → run σ ω (before ++ (grants ns ++ after)) s
      ≡ record { answers = (run σ ω before s).answers ++ (accepted_answers ns ++ (run σ ω after t).answers); system = (run σ ω after t).system }
  grants_between before ns after s t a =
      run_behind σ ω before (grants ns ++ after) s
      ∙ ap
      (λ (r : Run M). record { answers = (run σ ω before s).answers ++ r.answers; system = r.system })
      (run_behind σ ω (grants ns) after (run σ ω before s).system
      ∙ ap
      (λ (r : Run M). record { answers = r.answers ++ (run σ ω after r.system).answers; system = (run σ ω after r.system).system })
      (grants_run ns (run σ ω before s).system t a))

  -- ---- the history

  pub history_behind : (xs ys : List (Entry σ C)) (p : Past M) → (history σ ω (xs ++ ys) p).past ≡ (history σ ω ys (history σ ω xs p).past).past
  unfolding history_by
  history_behind [] ys p = refl
  history_behind (x ∷ xs) ys p = history_behind xs ys (note_entry σ ω x p).past

  -- the sum may be added to before the clocks or after them
  abbrev with_sum : ℕ → Past M → Past M
  with_sum k p = record { world = p.world; sum = k; events = p.events }

  passed_sum : (n k : ℕ) (p : Past M) → clocks_passed σ n (with_sum k p) ≡ with_sum k (clocks_passed σ n p)
  unfolding clocks_passed_by
  passed_sum zero k p = refl
  passed_sum (suc n) k p = ap (clock_passed σ) (passed_sum n k p)

  passed_add : (m n : ℕ) (p : Past M) → clocks_passed σ (m + n) p ≡ clocks_passed σ n (clocks_passed σ m p)
  unfolding clocks_passed_by
  passed_add m zero p = ap (λ (k : ℕ). clocks_passed σ k p) (add-zero m)
  passed_add m (suc n) p = ap (λ (k : ℕ). clocks_passed σ k p) (add-suc m n) ∙ ap (clock_passed σ) (passed_add m n p)

  -- a grant of m + n clocks is one of n after one of m
  granted_add : (m n : ℕ) (p : Past M) → grant_passed σ (m + n) p ≡ grant_passed σ n (grant_passed σ m p)
  granted_add m n p =
      passed_sum (m + n) (p.sum + (m + n)) p
      ∙ (λ i. with_sum (sym (add_assoc p.sum m n) i) (passed_add m n p i))
      ∙ sym (ap (grant_passed σ n) (passed_sum m (p.sum + m) p) ∙ passed_sum n (p.sum + m + n) (clocks_passed σ m p))

  granted_none : (p : Past M) → grant_passed σ 0 p ≡ p
  unfolding clocks_passed_by
  granted_none p = λ i. with_sum (add-zero p.sum i) p

  -- an accepted grant in the history of a run
  grant_noted : (n : ℕ) (s : System M) (p : Past M) → Agree s p → (grant σ s n).answered.number ≡ 0 → (note_entry σ ω (clock_grant n) p).past ≡ grant_passed σ n p
  unfolding noted_unless
  grant_noted n s p a e = pick_true _ _ _ (eq-eqb _ 0 (sym (entry_step σ ω (clock_grant n) s p a).number ∙ e))

  -- grants that are accepted in turn
  grants_noted : (ns : List ℕ) (s t : System M) (p : Past M) → Agree s p → AcceptedInTurn σ ns s t → (history σ ω (grants ns) p).past ≡ grant_passed σ (sum_of ns) p
  unfolding history_by grants AcceptedInTurn sum_of
  grants_noted [] s t p a h = sym (granted_none p)
  grants_noted (n ∷ ns) s t p a h =
      grants_noted ns _ t _ (entry_step σ ω (clock_grant n) s p a).agree h.1
      ∙ ap (grant_passed σ (sum_of ns)) (grant_noted n s p a h.0)
      ∙ sym (granted_add n (sum_of ns) p)

  grants_noted_between :
      (before : List (Entry σ C)) (ns : List ℕ) (after : List (Entry σ C)) (s t : System M) (p : Past M)
      → Agree s p → AcceptedInTurn σ ns (run σ ω before s).system t
      → (history σ ω (before ++ (grants ns ++ after)) p).past
      ≡ (history σ ω after (grant_passed σ (sum_of ns) (history σ ω before p).past)).past
  grants_noted_between before ns after s t p a h =
      history_behind before (grants ns ++ after) p
      ∙ history_behind (grants ns) after (history σ ω before p).past
      ∙ ap (λ (q : Past M). (history σ ω after q).past) (grants_noted ns _ t _ (ends σ ω before s p a).agree h)

sum_one : (k : ℕ) → sum_of (k ∷ []) ≡ k
unfolding sum_of
sum_one k = add-zero k

pub splits_within : SplitsWithin
splits_within M C σ ω m l before after n ns b e q =
    let s = system_at_power_on m l in
    let split = grant_splits σ _ (reached_valid σ ω m l before b).core.range n e in
    let whole = split (n ∷ []) (sum_one n) in
    let parts = split ns q in
    let x = grants_between σ ω before (n ∷ []) after s _ whole in
    let y = grants_between σ ω before ns after s _ parts in
    record {
      first = (run σ ω before s).answers;
      later = (run σ ω after (grant σ (run σ ω before s).system n).system).answers;
      each = answers_each σ ω before s;
      whole = ap (λ (r : Run M). r.answers) x;
      parts = ap (λ (r : Run M). r.answers) y;
      system = ap (λ (r : Run M). r.system) y ∙ sym (ap (λ (r : Run M). r.system) x);
      past =
          grants_noted_between σ ω before ns after s _ _ (start_agrees m l) parts
          ∙ ap (λ (k : ℕ). (history σ ω after (grant_passed σ k (history σ ω before (past_at_power_on m l)).past)).past) (q ∙ sym (sum_one n))
          ∙ sym (grants_noted_between σ ω before (n ∷ []) after s _ _ (start_agrees m l) whole);
    }
