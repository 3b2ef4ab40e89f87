-- A list's run and its history are both what a step makes of a state along the list, with an answer for each entry. What holds
-- along a list is said of the step, once for both.
-- Assumes nothing.
use Prim.Native.Nat.{ℕ}
use mathlib.Core.Path.{◌≡◌, refl, sym, ◌∙◌, ap, subst}
use mathlib.Core.Bool.{Bool, false}
use mathlib.Core.List.{List, [], ◌∷◌}
use Rattle.rules.specs.Choice.{pick}
use Rattle.rules.specs.Steering.{Steering}
use Rattle.rules.specs.Clock.{Clock}
use Rattle.rules.specs.Buffers.{Store}
use Rattle.rules.specs.World.{SystemOf}
use Rattle.rules.specs.Calls.{Answered, AnswerOf}
use Rattle.rules.specs.Entries.{Outside, Entry, port_write, port_read, speed_call, clock_grant, other_grant, outside_change, RunOf, enter_over, run_over}
use Rattle.rules.specs.History.{Past, EntryNoted, History, note_entry_by, history_by}
use Rattle.rules.specs.Unslowed.{is_speed_call, others, to_others, AsksThree, OnlyThree, SameButSpeed}
use Rattle.rules.specs.declared.Core.{Core}
use Rattle.rules.proofs.Choice.{pick_false}

-- the answers along a list, and the state after it
unfoldable pub along : {E A X : Type 0} → (E → X → A × X) → List E → X → List A × X
along f [] x = ([], x)
along f (e ∷ es) x = ((f e x).0 ∷ (along f es (f e x).1).0, (along f es (f e x).1).1)

-- ---- runs and histories

module _ {M C : Type 0} (σ : Store M) (ω : Outside M C) where
  -- the step of a run, and of a history
  abbrev pub enters : {D : Type 0} → Steering D → (Core → Clock) → Entry σ C → SystemOf D M → Answered × SystemOf D M
  enters δ κ e s = ((enter_over δ κ σ ω e s).answered, (enter_over δ κ σ ω e s).system)

  abbrev pub notes : (Core → Bool) → (Core → Clock) → Entry σ C → Past M → ℕ × Past M
  notes ν κ e p = ((note_entry_by ν κ σ ω e p).number, (note_entry_by ν κ σ ω e p).past)

  pub run_along : {D : Type 0} (δ : Steering D) (κ : Core → Clock) (es : List (Entry σ C)) (s : SystemOf D M) → run_over δ κ σ ω es s ≡ record { answers = (along (enters δ κ) es s).0; system = (along (enters δ κ) es s).1 }
  unfolding run_over along
  run_along δ κ [] s = refl
  run_along δ κ (e ∷ es) s =
      ap (λ (r : RunOf _ M). record { answers = (enter_over δ κ σ ω e s).answered ∷ r.answers; system = r.system })
      (run_along δ κ es (enter_over δ κ σ ω e s).system)

  pub history_along : (ν : Core → Bool) (κ : Core → Clock) (es : List (Entry σ C)) (p : Past M) → history_by ν κ σ ω es p ≡ record { numbers = (along (notes ν κ) es p).0; past = (along (notes ν κ) es p).1 }
  unfolding history_by along
  history_along ν κ [] p = refl
  history_along ν κ (e ∷ es) p =
      ap (λ (h : History M). record { numbers = (note_entry_by ν κ σ ω e p).number ∷ h.numbers; past = h.past })
      (history_along ν κ es (note_entry_by ν κ σ ω e p).past)

-- ---- two steps that agree

-- where P holds of the state, and Q of the list, the first entry is answered alike, and both hold of what is left
module _ {E A X : Type 0} (f g : E → X → A × X) (P : X → Type 0) (Q : List E → Type 0) where
  pub along_same :
      ((e : E) (es : List E) (x : X) → Q (e ∷ es) → P x → (g e x ≡ f e x) × P (f e x).1 × Q es)
      → (es : List E) (x : X) → Q es → P x → along g es x ≡ along f es x
  unfolding along
  along_same h [] x q p = refl
  along_same h (e ∷ es) x q p =
      let s = h e es x q p in
      ap (λ (y : A × X). (y.0 ∷ (along g es y.1).0, (along g es y.1).1)) s.0
      ∙ ap (λ (r : List A × X). ((f e x).0 ∷ r.0, r.1)) (along_same h es (f e x).1 s.2 s.1)

-- so are two runs, and two histories
module _ {M C : Type 0} (σ : Store M) (ω : Outside M C) (Q : List (Entry σ C) → Type 0) where
  pub runs_agree :
      {D : Type 0} (δ ε : Steering D) (κ χ : Core → Clock) (P : SystemOf D M → Type 0)
      → ((e : Entry σ C) (es : List (Entry σ C)) (s : SystemOf D M) → Q (e ∷ es) → P s → (enter_over ε χ σ ω e s ≡ enter_over δ κ σ ω e s) × P (enter_over δ κ σ ω e s).system × Q es)
      → (es : List (Entry σ C)) (s : SystemOf D M) → Q es → P s → run_over ε χ σ ω es s ≡ run_over δ κ σ ω es s
  runs_agree δ ε κ χ P h es s q p =
      run_along σ ω ε χ es s
      ∙ ap (λ (r : List Answered × SystemOf _ M). record { answers = r.0; system = r.1 })
      (along_same (enters σ ω δ κ) (enters σ ω ε χ) P Q
      (λ e es s q p. let t = h e es s q p in (ap (λ (a : AnswerOf _ M). (a.answered, a.system)) t.0, t.1, t.2))
      es s q p)
      ∙ sym (run_along σ ω δ κ es s)

  pub histories_agree :
      (ν μ : Core → Bool) (κ χ : Core → Clock) (P : Past M → Type 0)
      → ((e : Entry σ C) (es : List (Entry σ C)) (p : Past M) → Q (e ∷ es) → P p → (note_entry_by μ χ σ ω e p ≡ note_entry_by ν κ σ ω e p) × P (note_entry_by ν κ σ ω e p).past × Q es)
      → (es : List (Entry σ C)) (p : Past M) → Q es → P p → history_by μ χ σ ω es p ≡ history_by ν κ σ ω es p
  histories_agree ν μ κ χ P h es p q g =
      history_along σ ω μ χ es p
      ∙ ap (λ (r : List ℕ × Past M). record { numbers = r.0; past = r.1 })
      (along_same (notes σ ω ν κ) (notes σ ω μ χ) P Q
      (λ e es p q g. let t = h e es p q g in (ap (λ (x : EntryNoted M). (x.number, x.past)) t.0, t.1, t.2))
      es p q g)
      ∙ sym (history_along σ ω ν κ es p)

-- ---- without the speed calls

module _ {M C : Type 0} {σ : Store M} where
  -- a speed call, or another entry
  by_kind : (P : Entry σ C → Type 0) → ((code : ℕ) → P (speed_call code)) → ((e : Entry σ C) → is_speed_call e ≡ false → P e) → (e : Entry σ C) → P e
  by_kind P f g (port_write port byte) = g (port_write port byte) refl
  by_kind P f g (port_read port) = g (port_read port) refl
  by_kind P f g (speed_call code) = f code
  by_kind P f g (clock_grant n) = g (clock_grant n) refl
  by_kind P f g (other_grant n b wrong) = g (other_grant n b wrong) refl
  by_kind P f g (outside_change x) = g (outside_change x) refl

  -- an entry that is no speed call stays in the list, and so does its answer
  other_stays : (e : Entry σ C) (es : List (Entry σ C)) → is_speed_call e ≡ false → others (e ∷ es) ≡ e ∷ others es
  unfolding others
  other_stays e es n = pick_false _ _ _ n

  answer_stays : {A : Type 0} (e : Entry σ C) (es : List (Entry σ C)) (a : A) (as' : List A) → is_speed_call e ≡ false → to_others (e ∷ es) (a ∷ as') ≡ a ∷ to_others es as'
  unfolding to_others
  answer_stays e es a as' n = pick_false _ _ _ n

  -- by f all entries, by g those that are no speed calls
  module _ {A X : Type 0} (f g : Entry σ C → X → A × X) (number : A → ℕ) (P : X → Type 0) where
    abbrev Alike : List (Entry σ C) → X → Type 0
    Alike es x = SameButSpeed es (along f es x).0 (along f es x).1 (along g (others es) x).0 (along g (others es) x).1

    other_alike : (e : Entry σ C) (es : List (Entry σ C)) (x : X) → is_speed_call e ≡ false → g e x ≡ f e x → Alike es (f e x).1 → Alike (e ∷ es) x
    unfolding along
    other_alike e es x n s r =
        rw (other_stays e es n)
        (record {
          state = r.state ∙ ap (λ (y : A × X). (along g (others es) y.1).1) (sym s);
          answers =
              answer_stays e es _ _ n
              ∙ ap (λ l. (f e x).0 ∷ l) r.answers
              ∙ ap (λ (y : A × X). y.0 ∷ (along g (others es) y.1).0) (sym s);
        })

    speed_alike : (code : ℕ) (es : List (Entry σ C)) (x : X) → (f (speed_call code) x).1 ≡ x → Alike es x → Alike (speed_call code ∷ es) x
    unfolding along others to_others pick
    speed_alike code es x e r =
        record {
          state = ap (λ (y : X). (along f es y).1) e ∙ r.state;
          answers = ap (λ (y : X). to_others es (along f es y).0) e ∙ r.answers;
        }

    Only : List (Entry σ C) → X → Type 0
    Only es x = OnlyThree number es (along f es x).0

    first_only : (e : Entry σ C) (es : List (Entry σ C)) (x : X) → Only (e ∷ es) x → (number (f e x).0 ≡ 0 → AsksThree e) × Only es (f e x).1
    unfolding along Only OnlyThree
    first_only e es x o = o

    -- where P holds of the state: other entries are answered alike and keep it, and a speed call leaves the state, if it is of
    -- code 3 or refused
    pub along_others :
        ((e : Entry σ C) (x : X) → is_speed_call e ≡ false → P x → (g e x ≡ f e x) × P (f e x).1)
        → ((code : ℕ) (x : X) → P x → (number (f (speed_call code) x).0 ≡ 0 → code ≡ 3) → (f (speed_call code) x).1 ≡ x)
        → (es : List (Entry σ C)) (x : X) → P x → OnlyThree number es (along f es x).0
        → SameButSpeed es (along f es x).0 (along f es x).1 (along g (others es) x).0 (along g (others es) x).1
    unfolding along others to_others Only
    along_others h k [] x p o = record { state = refl; answers = refl }
    along_others h k (y ∷ es) x p o =
        by_kind (λ (e : Entry σ C). Only (e ∷ es) x → Alike (e ∷ es) x)
        (λ code o.
        let d = first_only (speed_call code) es x o in
        let e = k code x p d.0 in
        speed_alike code es x e (along_others h k es x p (subst (Only es) e d.1)))
        (λ e n o.
        let s = h e x n p in
        other_alike e es x n s.0 (along_others h k es (f e x).1 s.1 (first_only e es x o).1))
        y o
