-- Clocks within a stretch of a slot are a span: before the last of them nothing happens, and the n-th clock of a slot does not
-- depend on how many have elapsed. The whole stretch, or as much of it as a budget allows, is the longest span.
-- Assumes nothing.
use Prim.Native.Nat.{ℕ, zero, suc, ◌+◌, ◌-◌, ◌≤◌, ◌<◌}
use native.Mathlib.Omega.{arith}
use native.Mathlib.Nat.{le_refl}
use mathlib.Core.Path.{◌≡◌, refl, sym, ◌∙◌, ap, subst}
use mathlib.Core.Bool.{Bool, true, false}
use mathlib.Core.List.{[], ◌∷◌}
use mathlib.Core.Option.{none}
use lib.Dec.{eqb, leb, ltb}
use borrow.Author.Tests.{eq-eqb, ne_eqb, le-leb, lt-leb, lt-ltb, le-ltb, ltb-true, ltb-false, leb-true}
use Rattle.rules.specs.Choice.{pick, any}
use Rattle.rules.specs.Parts.{with_slot}
use Rattle.rules.specs.Slots.{new_slot, slot_of}
use Rattle.rules.specs.Clock.{bus_clock, cpu_clock, counted_by, Clock, Ending, clock, moved, with_elapsed, moves_at, moved_at, wait_kind, kind_at, slot_end, clock_end, slot_clock, clock_of, begun}
use Rattle.rules.specs.declared.at_once.Kind.{Kind}
use Rattle.rules.specs.Buffers.{Store, Buffers, source, destination}
use Rattle.rules.specs.World.{system, buffers_after, clocked}
use Rattle.rules.specs.Spans.{ticks, span, IsSpan, ends_slot, IsLongest}
use Rattle.rules.specs.Stretches.{least, slot_rest, stretch_rest, quiet, elapsed_by, WaitsAreClocks}
use Rattle.rules.specs.declared.Place.{Place}
use Rattle.rules.specs.declared.Slot.{Slot}
use Rattle.rules.specs.declared.Clocks.{Clocks}
use Rattle.rules.specs.declared.Core.{Core}
use Rattle.rules.specs.declared.at_once.Span.{Span}
use Rattle.rules.proofs.Choice.{pick_true, pick_false, pick_both, pick_cases, pick_ap, either, all_true, true_all, any_first, any_more, any_cases, any_none, every_stop, every_stop_later, clash}
use Rattle.rules.proofs.Slots.{slot_begins, slot_runs, slot_cases}
use Rattle.rules.proofs.Spans.{ticks_zero, ticks_suc, span_clocked}

-- ---- a slot's n-th clock

-- how many clocks of the slot have elapsed is no matter to its n-th clock
slot_clock_elapsed : (n m : ℕ) (c : Core) → slot_clock n (with_elapsed m c) ≡ slot_clock n c
unfolding slot_clock moved_at kind_at clock_end slot_end
slot_clock_elapsed n m c =
    ap (λ (d : Core). clock (kind_at n c) (moves_at n c) (clock_end n d).zeroed (clock_end n d).core)
    (sym (pick_ap (with_elapsed m) (moves_at n c) (moved c) c))

-- a clock that neither moves a byte nor ends the slot
plain_next : (n : ℕ) (c : Core) → (n ≡ c.slot.bus → ⊥) → n < c.slot.length → (slot_clock n c).next ≡ with_elapsed n c
unfolding slot_clock moved_at clock_end
plain_next n c b h =
    ap (λ (d : Core). (clock_end n d).core) (pick_false _ _ _ (ne_eqb n c.slot.bus b))
    ∙ ap (λ (x : Ending). x.core) (pick_true _ _ _ (lt-ltb n c.slot.length h))

-- a slot's end leaves no clock elapsed
end_rests : (c : Core) → (slot_end c).core.slot.elapsed ≡ 0
unfolding slot_end
end_rests c =
    pick_both (λ (x : Ending). x.core.slot.elapsed ≡ 0) _ _ _
    (pick_both (λ (x : Ending). x.core.slot.elapsed ≡ 0) _ _ _ refl refl) refl

-- a clock at or past the slot's length ends it
last_rests : (n : ℕ) (c : Core) → c.slot.length ≤ n → (slot_clock n c).next.slot.elapsed ≡ 0
unfolding slot_clock moved_at clock_end
last_rests n c h =
    pick_both (λ (d : Core). (clock_end n d).core.slot.elapsed ≡ 0) (moves_at n c) (moved c) c
    (ap (λ (x : Ending). x.core.slot.elapsed) (pick_false _ _ _ (le-ltb n c.slot.length h)) ∙ end_rests (moved c))
    (ap (λ (x : Ending). x.core.slot.elapsed) (pick_false _ _ _ (le-ltb n c.slot.length h)) ∙ end_rests c)

-- an enabled core's clock is its slot's next one
pub clock_begun : (c : Core) → c.enabled ≡ true → clock_of c ≡ slot_clock (c.slot.elapsed + 1) (begun c)
unfolding clock_of
clock_begun c on = pick_true _ _ _ on

pub clock_first : (c : Core) → c.enabled ≡ true → c.slot.elapsed ≡ 0 → clock_of c ≡ slot_clock (c.slot.elapsed + 1) (with_slot (new_slot c) c)
clock_first c on e = clock_begun c on ∙ ap (λ (s : Slot). slot_clock (c.slot.elapsed + 1) (with_slot s c)) (slot_begins c e)

pub clock_later : (c : Core) → c.enabled ≡ true → (c.slot.elapsed ≡ 0 → ⊥) → clock_of c ≡ slot_clock (c.slot.elapsed + 1) c
clock_later c on e = clock_begun c on ∙ ap (λ (s : Slot). slot_clock (c.slot.elapsed + 1) (with_slot s c)) (slot_runs c e)

-- ---- a stretch within a slot

-- d is c with the figures of the slot that runs or begins
pub record Runs (c d : Core) : Type 0 where
  pub on : c.enabled ≡ true
  pub running : d.enabled ≡ true
  pub first : clock_of c ≡ slot_clock (c.slot.elapsed + 1) d
  pub source : source c ≡ source d
  pub destination : destination c ≡ destination d

-- the core of an enabled device runs
runs_begun : (c : Core) → c.enabled ≡ true → Runs c (begun c)
unfolding source destination
runs_begun c on =
    record { on = on; running = on; first = clock_begun c on; source = refl; destination = refl }

-- n clocks of the stretch as a span
abbrev pub stretch : Core → Core → ℕ → Span
stretch c d n =
    span (kind_at (c.slot.elapsed + n) d) n (moves_at (c.slot.elapsed + n) d) c (slot_clock (c.slot.elapsed + n) d).next

-- n clocks end at the move at the latest, or begin behind it
pub data Part (e n bus : ℕ) : Type 0 where
  to_move : e + n ≤ bus → Part e n bus
  behind : bus ≤ e → Part e n bus

-- n clocks behind the first e of a slot within one stretch of it: only the last may move the byte or end the slot
pub record Within (e n : ℕ) (s : Slot) : Type 0 where
  pub part : Part e n s.bus
  pub goes_on : (m : ℕ) → m + 1 < n → e + m + 1 < s.length

module _ {c d : Core} (r : Runs c d) {n : ℕ} (w : Within c.slot.elapsed n d.slot) where
  no_move : (m : ℕ) → m + 1 < n → c.slot.elapsed + m + 1 ≡ d.slot.bus → ⊥
  no_move m g e = only w.part
    where
      only : Part c.slot.elapsed n d.slot.bus → ⊥
      only (to_move h) = omega arith
      only (behind h) = omega arith

  -- before the last clock of the stretch the core is as it was but for the elapsed clocks
  run_next : (i : ℕ) → i + 1 < n → clock_of (ticks i c) ≡ slot_clock (c.slot.elapsed + i + 1) d → ticks (suc i) c ≡ with_elapsed (c.slot.elapsed + i + 1) d
  run_next i l e =
      ticks_suc i c
      ∙ ap (λ (x : Clock). x.next) e
      ∙ plain_next (c.slot.elapsed + i + 1) d (no_move i l) (w.goes_on i l)

  -- the clocks of the stretch are those of the slot
  run_clock : (i : ℕ) → i < n → clock_of (ticks i c) ≡ slot_clock (c.slot.elapsed + i + 1) d
  run_clock zero l =
      ap clock_of (ticks_zero c)
      ∙ r.first
      ∙ ap (λ (k : ℕ). slot_clock k d) (let z : c.slot.elapsed + 1 ≡ c.slot.elapsed + 0 + 1 = omega arith in z)
  run_clock (suc i) l =
      ap clock_of (run_next i (omega arith) (run_clock i (omega arith)))
      ∙ clock_later (with_elapsed (c.slot.elapsed + i + 1) d) r.running (λ e. omega arith)
      ∙ slot_clock_elapsed _ _ d
      ∙ ap (λ (k : ℕ). slot_clock k d) (let z : c.slot.elapsed + i + 1 + 1 ≡ c.slot.elapsed + suc i + 1 = omega arith in z)

  -- what c and d have in common, every core of the stretch has
  run_core : {X : Type 0} (f : Core → X) → ((m : ℕ) → f (with_elapsed m d) ≡ f c) → (i : ℕ) → i < n → f (ticks i c) ≡ f c
  run_core f g zero l = ap f (ticks_zero c)
  run_core f g (suc i) l = ap f (run_next i (omega arith) (run_clock i (omega arith))) ∙ g _

  run_source : (i : ℕ) → i < n → source (ticks i c) ≡ source c
  unfolding source
  run_source = run_core source (λ m. sym r.source)

  run_destination : (i : ℕ) → i < n → destination (ticks i c) ≡ destination c
  unfolding destination
  run_destination = run_core destination (λ m. sym r.destination)

  run_on : (i : ℕ) → i < n → (ticks i c).enabled ≡ true
  run_on i l = run_core (λ (x : Core). x.enabled) (λ m. r.running ∙ sym r.on) i l ∙ r.on

  -- within a stretch the kind is that of its last clock
  run_kind : (i : ℕ) → i < n → kind_at (c.slot.elapsed + i + 1) d ≡ kind_at (c.slot.elapsed + n) d
  unfolding kind_at
  run_kind i l = ap (λ (t : Bool). pick t bus_clock (wait_kind d.slot.burst)) (same w.part)
    where
      same : Part c.slot.elapsed n d.slot.bus → leb (c.slot.elapsed + i + 1) d.slot.bus ≡ leb (c.slot.elapsed + n) d.slot.bus
      same (to_move g) = le-leb (c.slot.elapsed + i + 1) d.slot.bus (omega arith) ∙ sym (le-leb (c.slot.elapsed + n) d.slot.bus g)
      same (behind g) = lt-leb (c.slot.elapsed + i + 1) d.slot.bus (omega arith) ∙ sym (lt-leb (c.slot.elapsed + n) d.slot.bus (omega arith))

  last_clock : (i : ℕ) → i + 1 ≡ n → clock_of (ticks i c) ≡ slot_clock (c.slot.elapsed + n) d
  last_clock i e =
      run_clock i (omega arith)
      ∙ ap (λ (k : ℕ). slot_clock k d) (let z : c.slot.elapsed + i + 1 ≡ c.slot.elapsed + n = omega arith in z)

  last_core : (m : ℕ) → m ≡ n → 0 < m → ticks m c ≡ (slot_clock (c.slot.elapsed + n) d).next
  last_core zero e l = absurd (omega arith)
  last_core (suc i) e l = ticks_suc i c ∙ ap (λ (x : Clock). x.next) (last_clock i (omega arith))

  -- a stretch, or the first clocks of one, is a span
  pub stretch_span : (budget : ℕ) → 0 < n → n ≤ budget → IsSpan c budget (stretch c d n)
  unfolding slot_clock
  stretch_span budget some within =
      record {
        within = within;
        some = λ g. some;
        kinds = λ i l. ap (λ (x : Clock). x.kind) (run_clock i l) ∙ run_kind i l;
        quiet = λ i l. ap (λ (x : Clock). x.moves) (run_clock i (omega arith)) ∙ ne_eqb (c.slot.elapsed + i + 1) d.slot.bus (no_move i l);
        last = λ i e. ap (λ (x : Clock). x.moves) (last_clock i e);
        source = λ i e. run_source i (omega arith);
        destination = λ i e. run_destination i (omega arith);
        none = λ e. absurd (omega arith);
        core = last_core n refl some;
      }

  -- it is the longest where it ends with the budget, the move or the slot
  stretch_longest : (budget : ℕ) → (n < budget → any (moves_at (c.slot.elapsed + n) d ∷ leb d.slot.length (c.slot.elapsed + n) ∷ []) ≡ true) → IsLongest c budget (stretch c d n)
  stretch_longest budget h =
      record {
        inside = λ i l. every_stop_later _ _ (every_stop _ _ (ap (λ (x : Core). eqb x.slot.elapsed 0) (sym (ticks_suc i c) ∙ run_next i l (run_clock i (omega arith))) ∙ ne_eqb (c.slot.elapsed + i + 1) 0 (λ e. omega arith)));
        reached =
            λ i e l.
            any_cases _ _ (h l) (any_first _ _)
            (λ x. any_cases _ _ x
            (λ y. any_more _ _ (any_first _ _ (ends i e (leb-true d.slot.length (c.slot.elapsed + n) y))))
            any_none);
        idle = λ off. clash (sym off ∙ r.on);
      }
    where
      ends : (i : ℕ) → i + 1 ≡ n → d.slot.length ≤ c.slot.elapsed + n → ends_slot (ticks i c) ≡ true
      ends i e l =
          true_all ((ticks i c).enabled ∷ eqb (clock_of (ticks i c)).next.slot.elapsed 0 ∷ [])
          (run_on i (omega arith), (eq-eqb _ _ (ap (λ (x : Clock). x.next.slot.elapsed) (last_clock i e) ∙ last_rests (c.slot.elapsed + n) d l), tt))

-- ---- the rest of the present stretch

-- k clocks are the rest of a slot's present stretch
pub record Rest (s : Slot) (k : ℕ) : Type 0 where
  pub some : 0 < k
  pub within : (n : ℕ) → n ≤ k → Within s.elapsed n s
  pub reached : any (eqb (s.elapsed + k) s.bus ∷ leb s.length (s.elapsed + k) ∷ []) ≡ true
  pub fits : s.elapsed < 65535 → s.length < 65536 → s.elapsed + k < 65536
  -- before the last of them the byte has not just moved, and the slot goes on
  pub plain : (n : ℕ) → 0 < n → n < k → (s.elapsed + n ≡ s.bus → ⊥) × (s.elapsed + n < s.length)

rest_to_move : (s : Slot) → s.elapsed < s.bus → s.bus ≤ s.length → Rest s (s.bus - s.elapsed)
rest_to_move s h l =
    record {
      some = omega arith;
      within = λ n g. record { part = to_move (omega arith); goes_on = λ m o. omega arith };
      reached = any_first _ _ (eq-eqb (s.elapsed + (s.bus - s.elapsed)) s.bus (omega arith));
      fits = λ a b. omega arith;
      plain = λ n z g. (λ e. omega arith, omega arith);
    }

-- k clocks are left of a slot, the last one included
record Left (s : Slot) (k : ℕ) : Type 0 where
  some : 0 < k
  end : s.length ≤ s.elapsed + k
  goes_on : (m : ℕ) → m < k → 0 < m → s.elapsed + m < s.length
  fits : s.elapsed < 65535 → s.length < 65536 → s.elapsed + k < 65536

slot_rest_facts : (s : Slot) → Left s (slot_rest s)
unfolding slot_rest
slot_rest_facts s =
    pick_cases (Left s) (ltb s.elapsed s.length) _ _
    (λ e. let l = ltb-true s.elapsed s.length e in record { some = omega arith; end = omega arith; goes_on = λ m x y. omega arith; fits = λ x y. omega arith })
    (λ e. let l = ltb-false s.elapsed s.length e in record { some = omega arith; end = omega arith; goes_on = λ m x y. absurd (omega arith); fits = λ x y. omega arith })

-- to the slot's end, behind the move or where it comes no more
rest_to_end : (s : Slot) (k : ℕ) → Left s k → ((n : ℕ) → n ≤ k → Part s.elapsed n s.bus) → Rest s k
rest_to_end s k l p =
    record {
      some = l.some;
      within = λ n g. record { part = p n g; goes_on = λ m x. omega (arith, l.goes_on (m + 1) (omega arith) (omega arith)) };
      reached = any_more _ _ (any_first _ _ (le-leb s.length (s.elapsed + k) l.end));
      fits = l.fits;
      plain = λ n z g. (λ e. not_there (p k (le_refl k)) n z g e, l.goes_on n g z);
    }
  where
    not_there : Part s.elapsed k s.bus → (n : ℕ) → 0 < n → n < k → s.elapsed + n ≡ s.bus → ⊥
    not_there (to_move g) n z m e = omega arith
    not_there (behind g) n z m e = omega arith

rest_with : (s : Slot) (k : ℕ) → Left s k → Rest s (pick (ltb s.elapsed s.bus) (least (s.bus - s.elapsed) k) k)
unfolding least
rest_with s k l =
    pick_cases (Rest s) (ltb s.elapsed s.bus) _ _
    (λ f.
    let b = ltb-true s.elapsed s.bus f in
    pick_cases (Rest s) (ltb (s.bus - s.elapsed) k) _ _
    (λ g. let m = ltb-true (s.bus - s.elapsed) k g in rest_to_move s b (omega (arith, l.goes_on (s.bus - s.elapsed) m (omega arith))))
    (λ g. let m = ltb-false (s.bus - s.elapsed) k g in rest_to_end s k l (λ n x. to_move (omega arith))))
    (λ f. let b = ltb-false s.elapsed s.bus f in rest_to_end s k l (λ n x. behind b))

pub rest_facts : (s : Slot) → Rest s (stretch_rest s)
unfolding stretch_rest
rest_facts s = rest_with s (slot_rest s) (slot_rest_facts s)

-- ---- the next span

pub record Least (x y m : ℕ) : Type 0 where
  pub first : m ≤ x
  pub second : m ≤ y
  pub one : m < x → m ≡ y

pub least_facts : (x y : ℕ) → Least x y (least x y)
unfolding least
least_facts x y =
    pick_cases (Least x y) (ltb x y) x y
    (λ e. let l = ltb-true x y e in record { first = omega arith; second = omega arith; one = λ g. absurd (omega arith) })
    (λ e. let l = ltb-false x y e in record { first = l; second = omega arith; one = λ g. refl })

positive : {x y m : ℕ} → m ≤ x → (m < x → m ≡ y) → 0 < y → 0 < x → 0 < m
positive {x} {y} {m} f o h g =
    either (ltb m x)
    (λ e. omega (arith, o (ltb-true m x e)))
    (λ e. omega (arith, ltb-false m x e))

-- the slot that begins has no clock elapsed, as the core has none
pub slot_elapsed : (c : Core) → (slot_of c).elapsed ≡ c.slot.elapsed
slot_elapsed c = slot_cases (λ (s : Slot). s.elapsed ≡ c.slot.elapsed) c (λ e. sym e) (λ n. refl)

module _ (c : Core) (on : c.enabled ≡ true) where
  -- clocks of the present stretch
  within_slot : (n : ℕ) → n ≤ stretch_rest (slot_of c) → Within c.slot.elapsed n (slot_of c)
  within_slot n h = subst (λ (e : ℕ). Within e n (slot_of c)) (slot_elapsed c) ((rest_facts (slot_of c)).within n h)

  module _ {budget n : ℕ} (l : Least budget (stretch_rest (slot_of c)) n) (some : 0 < budget) where
    next_some : 0 < n
    next_some = positive l.first l.one (rest_facts (slot_of c)).some some

    pub next_span : IsSpan c budget (stretch c (begun c) n)
    next_span = stretch_span (runs_begun c on) (within_slot n l.second) budget next_some l.first

    pub next_longest : IsLongest c budget (stretch c (begun c) n)
    next_longest = stretch_longest (runs_begun c on) (within_slot n l.second) budget (λ h. reached (l.one h))
      where
        reached : n ≡ stretch_rest (slot_of c) → any (moves_at (c.slot.elapsed + n) (begun c) ∷ leb (slot_of c).length (c.slot.elapsed + n) ∷ []) ≡ true
        reached e =
            subst (λ (x : ℕ). any (eqb (x + n) (slot_of c).bus ∷ leb (slot_of c).length (x + n) ∷ []) ≡ true) (slot_elapsed c)
            (subst (λ (m : ℕ). any (eqb ((slot_of c).elapsed + m) (slot_of c).bus ∷ leb (slot_of c).length ((slot_of c).elapsed + m) ∷ []) ≡ true) (sym e) (rest_facts (slot_of c)).reached)

-- ---- a disabled device

clock_idle : (c : Core) → c.enabled ≡ false → clock_of c ≡ clock cpu_clock false none c
unfolding clock_of
clock_idle c off = pick_false _ _ _ off

idle_core : (c : Core) → c.enabled ≡ false → (i : ℕ) → ticks i c ≡ c
idle_core c off zero = ticks_zero c
idle_core c off (suc i) = ticks_suc i c ∙ ap (λ (d : Core). (clock_of d).next) (idle_core c off i) ∙ ap (λ (x : Clock). x.next) (clock_idle c off)

-- all clocks of a budget are the processor's
pub idle_span : (c : Core) (budget : ℕ) → c.enabled ≡ false → IsSpan c budget (span cpu_clock budget false c c)
idle_span c budget off =
    record {
      within = omega arith;
      some = λ g. g;
      kinds = λ i l. ap (λ (d : Core). (clock_of d).kind) (idle_core c off i) ∙ ap (λ (x : Clock). x.kind) (clock_idle c off);
      quiet = λ i l. still i;
      last = λ i e. still i;
      source = λ i e. ap source (idle_core c off i);
      destination = λ i e. ap destination (idle_core c off i);
      none = λ e. refl;
      core = idle_core c off budget;
    }
  where
    still : (i : ℕ) → (clock_of (ticks i c)).moves ≡ false
    still i = ap (λ (d : Core). (clock_of d).moves) (idle_core c off i) ∙ ap (λ (x : Clock). x.moves) (clock_idle c off)

pub idle_longest : (c : Core) (budget : ℕ) → c.enabled ≡ false → IsLongest c budget (span cpu_clock budget false c c)
idle_longest c budget off =
    record {
      inside = λ i l. every_stop _ _ (ap (λ (d : Core). d.enabled) (idle_core c off i) ∙ off);
      reached = λ i e l. absurd (omega arith);
      idle = λ e. refl;
    }

-- ---- clocks on which nothing happens

still : {M : Type 0} (σ : Store M) (moves : Bool) (from to : Place) (b : Buffers M) → moves ≡ false → buffers_after σ moves from to b ≡ b
unfolding buffers_after
still σ moves from to b e = pick_false _ _ _ e

-- clocks of a span on which no byte moves
still_clocked : {M : Type 0} (σ : Store M) {n : ℕ} (kind : Kind) {moves : Bool} {c next : Core} (b : Buffers M) (k : Clocks) → IsSpan c n (span kind n moves c next) → moves ≡ false → clocked σ n (system c b k) ≡ system next b (counted_by kind n k)
still_clocked σ {n} kind {moves} {c} {next} b k p e =
    span_clocked σ (system c b k) p
    ∙ (λ i. system next (still σ moves (source c) (destination c) b e i) (counted_by kind n k))

-- clocks of a disabled device
idle_clocked : {M : Type 0} (σ : Store M) (n : ℕ) (c : Core) (b : Buffers M) (k : Clocks) → c.enabled ≡ false → clocked σ n (system c b k) ≡ system c b (counted_by cpu_clock n k)
idle_clocked σ n c b k off = still_clocked σ cpu_clock b k (idle_span c n off) refl

pub record Quiet (n : ℕ) (s : Slot) : Type 0 where
  pub some : 0 < n
  pub below : n < stretch_rest s
  pub move : s.elapsed + n ≡ s.bus → ⊥
  pub length : s.elapsed + n < s.length

pub quiet_facts : (n : ℕ) (s : Slot) → quiet n s ≡ true → Quiet n s
unfolding quiet
quiet_facts n s h =
    let t = all_true _ h in
    let some = ltb-true 0 n t.0 in
    let below = ltb-true n (stretch_rest s) t.1.0 in
    let p = (rest_facts s).plain n some below in record { some = some; below = below; move = p.0; length = p.1 }

-- the kind of a clock does not depend on how many have elapsed
kind_elapsed : (n e : ℕ) (s : Slot) (c : Core) → s.elapsed ≡ e → kind_at (e + n) (with_slot s c) ≡ kind_at (s.elapsed + n) (with_slot (elapsed_by n s) c)
unfolding kind_at
kind_elapsed n e s c h = ap (λ (m : ℕ). kind_at (m + n) (with_slot s c)) (sym h)

-- clocks of an enabled one that end before the stretch does
quiet_clocked :
    {M : Type 0} (σ : Store M) (n : ℕ) (c : Core) (b : Buffers M) (k : Clocks) → c.enabled ≡ true → quiet n (slot_of c) ≡ true
    → clocked σ n (system c b k) ≡ system (with_slot (elapsed_by n (slot_of c)) c) b (counted_by (kind_at ((slot_of c).elapsed + n) (with_slot (elapsed_by n (slot_of c)) c)) n k)
quiet_clocked σ n c b k on h =
    let q = quiet_facts n (slot_of c) h in
    let e = slot_elapsed c in
    let p = plain q e in
    still_clocked σ (kind_at (c.slot.elapsed + n) (begun c)) b k
    (stretch_span (runs_begun c on) (within_slot c on n (omega (arith, q.below))) n q.some (le_refl n))
    (ne_eqb (c.slot.elapsed + n) (slot_of c).bus p.0)
    ∙ (λ i.
    system
    ((plain_next (c.slot.elapsed + n) (begun c) p.0 p.1 ∙ ap (λ (m : ℕ). with_elapsed (m + n) (begun c)) (sym e)) i)
    b
    (counted_by (kind_elapsed n c.slot.elapsed (slot_of c) c e i) n k))
  where
    plain : Quiet n (slot_of c) → (slot_of c).elapsed ≡ c.slot.elapsed → (c.slot.elapsed + n ≡ (slot_of c).bus → ⊥) × (c.slot.elapsed + n < (slot_of c).length)
    plain q e = subst (λ (m : ℕ). (m + n ≡ (slot_of c).bus → ⊥) × (m + n < (slot_of c).length)) e (q.move, q.length)

pub waits_are_clocks : {M : Type 0} (σ : Store M) → WaitsAreClocks σ
waits_are_clocks σ = record { waits = quiet_clocked σ; idle = idle_clocked σ }
