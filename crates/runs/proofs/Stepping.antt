-- A session read by steps is the session: each record is a step, the last line is a step, and a record that is too long
-- for any kind is two.
-- Assumes nothing.
use Prim.Native.Nat.{ℕ, zero, suc, ◌+◌, ◌-◌, ◌≤◌, ◌<◌}
use native.Mathlib.Omega.{arith}
use mathlib.Core.Path.{◌≡◌, refl, sym, ap, ◌∙◌}
use mathlib.Core.Bool.{true}
use mathlib.Core.List.{List}
use borrow.Author.Tests.{le-leb, lt-leb, leb-true, leb-false, le-ltb, eq-eqb, ne_eqb, eqb-true, eqb-false}
use lib.Dec.{eqb, leb}
use lib.ListN.{length, get_or, get_or-eq_default}
use Rattle.rules.specs.Choice.{pick}
use Rattle.rules.specs.Buffers.{Buffers, placed}
use Rattle.rules.specs.Calls.{Answer}
use Rattle.rules.proofs.Choice.{pick_true, pick_false, either, clash}
use Rattle.zxndma.specs.Answers.{device_at_power_on}
use Rattle.zxndma.specs.declared.Device.{Device}
use Rattle.records.specs.Records.{Record, none, record_at, long_length}
use Rattle.lines.specs.Lines.{counts_line, fault_line}
use Rattle.session.specs.Effects.{effect}
use Rattle.session.specs.Steps.{Said, Outcome, in_phase, session_at_start, device_of, answer_line, system_with, carried, last_counts, last_fault, without_line, buffers_kept, version_step, long_step, by_record, record_step, step_of}
use Rattle.runs.specs.Sessions.{Decoded, decoded_from, decoded, Ended, start, session}
use Rattle.runs.specs.Stepping.{ended_by, line_before, line_in, system_in, steps_from, StepsRead}
use Rattle.records.proofs.Choosing.{both}
use Rattle.records.proofs.Standing.{Stands, stands, at_end, short_end, long, record_whole, record_cut}
use Rattle.lines.proofs.Lines.{put_taken, placed_size, number_room, record_room, counts_room}
use Rattle.runs.proofs.Sessions.{played, followed, after, played_end, played_fault, played_from}

-- ---- what follows a step

onward : ℕ → List ℕ → Outcome → Ended
onward most xs o =
    pick (eqb o.said.step.progress 2) (ended_by (line_in o) o.said.step.fault (system_in o))
    (line_before (line_in o)
    (steps_from most o.said.step.session xs o.said.step.next o.said.line o.buffers))

module _ (xs out : List ℕ) (room : 72 ≤ length out) (b : Buffers (List ℕ)) (d : Device) where
  -- the last line
  last_counts_lem : (k p : ℕ) → onward k xs (buffers_kept b (last_counts p d out)) ≡ ended_by (counts_line d.clocks) 0 (system_with d b)
  unfolding onward pick
  last_counts_lem k p = ap (λ (l : List ℕ). ended_by l 0 (system_with d b)) (put_taken (counts_line d.clocks) out (omega (arith, counts_room d.clocks)))

  last_fault_lem : (k p n : ℕ) → onward k xs (buffers_kept b (last_fault n p d out)) ≡ ended_by (fault_line n) n (system_with d b)
  unfolding onward pick
  last_fault_lem k p n = ap (λ (l : List ℕ). ended_by l n (system_with d b)) (put_taken (fault_line n) out (omega (arith, number_room 83 n)))

  -- a step in phase 1 and in phase 2
  in_records : (k p : ℕ) → steps_from (suc k) (in_phase 1 0 d) xs p out b ≡ onward k xs (record_step (in_phase 1 0 d) xs p true out b)
  unfolding steps_from onward step_of pick
  in_records k p = simp (le-ltb (length out) 72 room)

  in_long_lem : (k p n : ℕ) → steps_from (suc k) (in_phase 2 n d) xs p out b ≡ onward k xs (buffers_kept b (long_step (in_phase 2 n d) xs p true out))
  unfolding steps_from onward step_of pick
  in_long_lem k p n = simp (le-ltb (length out) 72 room)

  -- a record step where no record is too long, and where one is
  step_record : (p : ℕ) → long_length xs p ≡ 0 → record_step (in_phase 1 0 d) xs p true out b ≡ by_record (record_at xs p true) (in_phase 1 0 d) xs out b
  unfolding record_step
  step_record p e = pick_true _ _ _ (eq-eqb (long_length xs p) 0 e)

  step_long : (p : ℕ) → (long_length xs p ≡ 0 → ⊥) → record_step (in_phase 1 0 d) xs p true out b ≡ buffers_kept b (without_line 0 (p + 2) (in_phase 2 (long_length xs p) d) out)
  unfolding record_step
  step_long p e = pick_false _ _ _ (ne_eqb (long_length xs p) 0 e)

  -- a record that was carried out
  onward_carried :
      (k most : ℕ) (r : Record) (a : Answer (List ℕ))
      → ((out' : List ℕ) → 72 ≤ length out'
      → steps_from k (in_phase 1 0 (device_of a.system)) xs r.next out' a.system.world.buffers
      ≡ played xs (decoded_from most xs r.next) a.system)
      → onward k xs (carried r a out) ≡ followed most xs r a
  unfolding onward pick
  onward_carried k most r a h =
      ap
      (λ (l : List ℕ). line_before l (steps_from k (in_phase 1 0 (device_of a.system)) xs r.next (placed 0 (answer_line r a.answered) out) a.system.world.buffers))
      (put_taken (answer_line r a.answered) out (omega (arith, record_room r.number a.answered.number a.answered.byte a.answered.warning)))
      ∙ ap (line_before (answer_line r a.answered))
      (h
      (placed 0 (answer_line r a.answered) out)
      (omega (arith, placed_size 0 (answer_line r a.answered) out)))

  -- what stands at a place, taken by a step
  onward_record : (k most p : ℕ) (r : Record) → Stands xs p r → (p < r.next → onward k xs (carried r (effect xs r (system_with d b)) out) ≡ followed most xs r (effect xs r (system_with d b))) → onward k xs (by_record r (in_phase 1 0 d) xs out b) ≡ after most xs r (system_with d b)
  unfolding by_record after
  onward_record k most p r s h =
      ap (onward k xs) (pick_false _ _ _ (ne_eqb r.number 0 (λ e. omega (arith, s.some, e))))
      ∙ both (λ (x : Outcome) (y : Ended). onward k xs x ≡ y) (eqb r.number 5) _ _ _ _ (λ e. last_counts_lem k r.next)
      (λ e. both (λ (x : Outcome) (y : Ended). onward k xs x ≡ y) (leb 20 r.number) _ _ _ _
      (λ f. last_fault_lem k r.next r.number)
      (λ f. h (s.takes (λ z. clash (sym e ∙ eq-eqb r.number 5 z)) (λ z. omega (arith, leb-false 20 r.number f, z)))))

  -- a record that is too long, in two steps
  long_goes : (k p n : ℕ) → onward k xs (buffers_kept b (without_line 0 (p + 2) (in_phase 2 n d) out)) ≡ steps_from k (in_phase 2 n d) xs (p + 2) out b
  unfolding onward pick
  long_goes k p n = refl

  long_whole : (p n : ℕ) → n ≤ length xs - p → long_step (in_phase 2 n d) xs p true out ≡ last_fault 22 (p + n) d out
  unfolding long_step
  long_whole p n h = pick_true _ _ _ (le-leb n (length xs - p) h)

  long_cut : (p n : ℕ) → length xs - p < n → long_step (in_phase 2 n d) xs p true out ≡ last_fault 21 (p + (length xs - p)) d out
  unfolding long_step pick
  long_cut p n h = simp (lt-leb n (length xs - p) h)

  after_fault : (most p n : ℕ) → 20 ≤ n → after most xs (none n p) (system_with d b) ≡ ended_by (fault_line n) n (system_with d b)
  unfolding after
  after_fault most p n h = pick_false _ _ _ (ne_eqb n 5 (λ e. omega (arith, h, e))) ∙ pick_true _ _ _ (le-leb 20 n h)

  onward_fault : (k most p q n : ℕ) (x : Said) → x ≡ last_fault n q d out → record_at xs p true ≡ none n p → 20 ≤ n → onward k xs (buffers_kept b x) ≡ after most xs (record_at xs p true) (system_with d b)
  onward_fault k most p q n x e r h =
      ap (λ (y : Said). onward k xs (buffers_kept b y)) e
      ∙ last_fault_lem k q n
      ∙ sym (ap (λ (y : Record). after most xs y (system_with d b)) r ∙ after_fault most p n h)

  onward_long : (k most p : ℕ) → (long_length xs p ≡ 0 → ⊥) → onward (suc k) xs (buffers_kept b (without_line 0 (p + 2) (in_phase 2 (long_length xs p) d) out)) ≡ after most xs (record_at xs p true) (system_with d b)
  onward_long k most p e =
      long_goes (suc k) p (long_length xs p)
      ∙ in_long_lem k (p + 2) (long_length xs p)
      ∙ either (leb (long_length xs p) (length xs - (p + 2)))
      (λ f. let
      h : long_length xs p ≤ length xs - (p + 2) = leb-true (long_length xs p) (length xs - (p + 2)) f
      in
      onward_fault k most p (p + 2 + long_length xs p) 22 _ (long_whole (p + 2) (long_length xs p) h) (record_whole xs p (long xs p e) h)
      (omega arith))
      (λ f. let
      h : length xs - (p + 2) < long_length xs p = leb-false (long_length xs p) (length xs - (p + 2)) f
      in
      onward_fault k most p (p + 2 + (length xs - (p + 2))) 21 _ (long_cut (p + 2) (long_length xs p) h) (record_cut xs p (long xs p e) h)
      (omega arith))

-- ---- the records, and the session

module _ (xs : List ℕ) where
  behind_all : (k p : ℕ) (out : List ℕ) → 72 ≤ length out → (b : Buffers (List ℕ)) (d : Device) → length xs ≤ p → steps_from (suc k) (in_phase 1 0 d) xs p out b ≡ ended_by (counts_line d.clocks) 0 (system_with d b)
  unfolding by_record pick
  behind_all k p out room b d h =
      in_records xs out room b d k p
      ∙ ap (onward k xs) (step_record xs out room b d p (short_end xs p h))
      ∙ ap (λ (r : Record). onward k xs (by_record r (in_phase 1 0 d) xs out b)) (at_end xs p h)
      ∙ last_counts_lem xs out room b d k p

  records : (most p : ℕ) (out : List ℕ) → 72 ≤ length out → (b : Buffers (List ℕ)) (d : Device) → length xs < p + most → steps_from (suc (suc most)) (in_phase 1 0 d) xs p out b ≡ played xs (decoded_from most xs p) (system_with d b)
  unfolding decoded_from
  records zero p out room b d h = behind_all (suc zero) p out room b d (omega arith) ∙ sym (played_end xs (system_with d b))
  records (suc most) p out room b d h =
      in_records xs out room b d (suc (suc most)) p
      ∙ either (eqb (long_length xs p) 0)
      (λ e. ap (onward (suc (suc most)) xs) (step_record xs out room b d p (eqb-true (long_length xs p) 0 e))
      ∙ onward_record xs out room b d (suc (suc most)) most p (record_at xs p true) (stands xs p)
      (λ g. onward_carried xs out room b d (suc (suc most)) most (record_at xs p true) (effect xs (record_at xs p true) (system_with d b))
      (λ out' room'. records most (record_at xs p true).next out' room' _ _ (omega (arith, g, h)))))
      (λ e. ap (onward (suc (suc most)) xs) (step_long xs out room b d p (eqb-false (long_length xs p) 0 e))
      ∙ onward_long xs out room b d (suc most) most p (eqb-false (long_length xs p) 0 e))
      ∙ sym (played_from xs (system_with d b) most p)

  module _ (out : List ℕ) (room : 72 ≤ length out) where
    in_version : (k : ℕ) → steps_from (suc k) session_at_start xs 0 out start.world.buffers ≡ onward k xs (buffers_kept start.world.buffers (version_step session_at_start xs 0 true out))
    unfolding steps_from onward step_of pick
    in_version k = simp (le-ltb (length out) 72 room)

    no_version_lem : length xs ≤ 0 → version_step session_at_start xs 0 true out ≡ last_fault 20 0 device_at_power_on out
    unfolding version_step pick
    no_version_lem h = simp (le-leb (length xs) 0 h)

    other_version : 0 < length xs → (get_or xs 0 0 ≡ 1 → ⊥) → version_step session_at_start xs 0 true out ≡ last_fault 20 (0 + 1) device_at_power_on out
    unfolding version_step
    other_version h e = pick_false _ _ _ (lt-leb (length xs) 0 h) ∙ pick_false _ _ _ (ne_eqb (get_or xs 0 0) 1 e)

    right_version : 0 < length xs → get_or xs 0 0 ≡ 1 → version_step session_at_start xs 0 true out ≡ without_line 0 (0 + 1) (in_phase 1 0 device_at_power_on) out
    unfolding version_step
    right_version h e = pick_false _ _ _ (lt-leb (length xs) 0 h) ∙ pick_true _ _ _ (eq-eqb (get_or xs 0 0) 1 e)

    version_goes : (k : ℕ) → onward k xs (buffers_kept start.world.buffers (without_line 0 (0 + 1) (in_phase 1 0 device_at_power_on) out)) ≡ steps_from k (in_phase 1 0 device_at_power_on) xs 1 out start.world.buffers
    unfolding onward pick
    version_goes k = refl

    session_fault : (get_or xs 0 0 ≡ 1 → ⊥) → session xs ≡ ended_by (fault_line 20) 20 start
    unfolding decoded
    session_fault e =
        ap (λ (d : Decoded). played xs d start) (pick_false _ _ _ (ne_eqb (get_or xs 0 0) 1 e))
        ∙ played_fault xs start 20 (ne_eqb 20 0 (λ z. omega (arith, z)))

    session_records : get_or xs 0 0 ≡ 1 → session xs ≡ played xs (decoded_from (length xs) xs 1) start
    unfolding decoded
    session_records e = ap (λ (d : Decoded). played xs d start) (pick_true _ _ _ (eq-eqb (get_or xs 0 0) 1 e))

    -- a fault of the version
    faulted : (k q : ℕ) → version_step session_at_start xs 0 true out ≡ last_fault 20 q device_at_power_on out → (get_or xs 0 0 ≡ 1 → ⊥) → steps_from (suc k) session_at_start xs 0 out start.world.buffers ≡ session xs
    faulted k q v e =
        in_version k
        ∙ ap (λ (x : Said). onward k xs (buffers_kept start.world.buffers x)) v
        ∙ last_fault_lem xs out room start.world.buffers device_at_power_on k q 20
        ∙ sym (session_fault e)

pub steps_read : (xs : List ℕ) → StepsRead xs
steps_read xs out room =
    either (leb (length xs) 0)
    (λ e. let
    h : length xs ≤ 0 = leb-true (length xs) 0 e
    in
    faulted xs out room _ 0 (no_version_lem xs out room h) (λ z. omega (arith, get_or-eq_default xs 0 {n = 0} h, z)))
    (λ e. let
    h : 0 < length xs = leb-false (length xs) 0 e
    in
    either (eqb (get_or xs 0 0) 1)
    (λ f. let
    v : get_or xs 0 0 ≡ 1 = eqb-true (get_or xs 0 0) 1 f
    in
    in_version xs out room (suc (suc (length xs)))
    ∙ ap (λ (x : Said). onward (suc (suc (length xs))) xs (buffers_kept start.world.buffers x)) (right_version xs out room h v)
    ∙ version_goes xs out room (suc (suc (length xs)))
    ∙ records xs (length xs) 1 out room start.world.buffers device_at_power_on (omega arith)
    ∙ sym (session_records xs out room v))
    (λ f. faulted xs out room _ (0 + 1) (other_version xs out room h (eqb-false (get_or xs 0 0) 1 f)) (eqb-false (get_or xs 0 0) 1 f)))
