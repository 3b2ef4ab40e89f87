-- A step by its phase does the same where the phase has its number: it reads no bytes still to come but within a record that is
-- too long, and what it hands back has a number of its own or is what came.
-- Assumes nothing.
use Rattle.std.proofs.Common.{◌≡◌, ℕ, ◌+◌, ◌-◌, ◌≤◌, Bool, true, eqb, leb, ltb, List, [], length, refl, sym, ap, ◌∙◌, arith, ne_eqb}
use Rattle.std.proofs.lemmas.Bool.{leb-false}
use Rattle.rules.specs.Choice.{pick}
use Rattle.rules.specs.Buffers.{Buffers}
use Rattle.rules.specs.Calls.{Answer}
use Rattle.rules.proofs.Choice.{pick_true, pick_cases, either}
use Rattle.zxndma.specs.declared.Device.{Device}
use Rattle.records.specs.Records.{Record, record_at, long_length}
use Rattle.records.proofs.Choosing.{lift}
use Rattle.lines.specs.Lines.{counts_line, fault_line}
use Rattle.session.specs.Effects.{effect}
use Rattle.session.specs.Steps.{Session, Said, in_phase, with_line, without_line, last_fault, buffers_kept, version_step, long_step, device_of, answer_line, system_with, by_record, record_step}
use Rattle.session.specs.Phases.{numbered, outcome_numbered, EveryPhaseMet}
use Rattle.session.proofs.Steps.{without_room, at_version_lem, at_record_lem, at_long, at_over}

-- the phases that a step hands back
known_records : (d : Device) → in_phase 1 0 d ≡ numbered (in_phase 1 0 d)
unfolding pick
known_records d = refl

known_long : (left : ℕ) (d : Device) → in_phase 2 left d ≡ numbered (in_phase 2 left d)
unfolding pick
known_long left d = refl

known_over : (d : Device) → in_phase 3 0 d ≡ numbered (in_phase 3 0 d)
unfolding pick
known_over d = refl

abbrev said_numbered : Said → Said
said_numbered x = (outcome_numbered (record { said = x; buffers = record { memory = []; latches = [] } })).said

module _ (xs : List ℕ) (p : ℕ) (e : Bool) (out : List ℕ) (b : Buffers (List ℕ)) where
  -- the tests of a phase
  same_test : (s : Session) (n : ℕ) → n ≤ 2 → eqb (numbered s).phase n ≡ eqb s.phase n
  same_test s n h =
      pick_cases (λ (k : ℕ). eqb k n ≡ eqb s.phase n) (leb s.phase 2) _ _ (λ f. refl)
      (λ f. ne_eqb 3 n (λ g. omega (arith, g)) ∙ sym (ne_eqb s.phase n (λ g. omega (arith, g, leb-false s.phase 2 f))))

  -- the last line with a fault
  fault_said : (fault next : ℕ) (d : Device) → last_fault fault next d out ≡ said_numbered (last_fault fault next d out)
  fault_said fault next d = ap (λ (x : Session). with_line 2 fault next (fault_line fault) x out) (known_over d)

  version_met : (s : Session) → version_step (numbered s) xs p e out ≡ said_numbered (version_step s xs p e out)
  unfolding version_step
  version_met s =
      lift said_numbered _ _ _ _ refl (lift said_numbered _ _ _ _ refl (fault_said 20 p s.device) refl)
      (lift said_numbered _ _ _ _ refl
      (ap (λ (x : Session). without_line 0 (p + 1) x out) (known_records s.device))
      (fault_said 20 (p + 1) s.device))

  record_by : (s : Session) (r : Record) → by_record r (numbered s) xs out b ≡ outcome_numbered (by_record r s xs out b)
  unfolding by_record
  record_by s r =
      let a : Answer (List ℕ) = effect xs r (system_with s.device b) in
      lift outcome_numbered _ _ _ _ refl refl
      (lift outcome_numbered _ _ _ _ refl
      (ap (λ (x : Session). buffers_kept b (with_line 2 0 r.next (counts_line s.device.clocks) x out)) (known_over s.device))
      (lift outcome_numbered _ _ _ _ refl
      (ap (buffers_kept b) (fault_said r.number r.next s.device))
      (ap
      (λ (x : Session). record { said = with_line 0 0 r.next (answer_line r a.answered) x out; buffers = a.system.world.buffers })
      (known_records (device_of a.system)))))

  record_step_met : (s : Session) → record_step (numbered s) xs p e out b ≡ outcome_numbered (record_step s xs p e out b)
  unfolding record_step
  record_step_met s =
      lift outcome_numbered _ _ _ _ refl (record_by s (record_at xs p e))
      (ap (λ (x : Session). buffers_kept b (without_line 0 (p + 2) x out)) (known_long (long_length xs p) s.device))

  long_met : (s : Session) → eqb s.phase 2 ≡ true → long_step (numbered s) xs p e out ≡ said_numbered (long_step s xs p e out)
  unfolding long_step
  long_met s f =
      ap (λ (left : ℕ). long_step (in_phase 2 left s.device) xs p e out) (pick_true (eqb s.phase 2) s.left 0 f)
      ∙ lift said_numbered _ _ _ _ refl (fault_said 22 (p + s.left) s.device)
      (lift said_numbered _ _ _ _ refl
      (fault_said 21 (p + (length xs - p)) s.device)
      (ap (λ (x : Session). without_line 1 (p + (length xs - p)) x out) (known_long (s.left - (length xs - p)) s.device)))

pub every_phase_met : EveryPhaseMet
every_phase_met s xs p e out b =
    either (ltb (length out) 72)
    (λ r. without_room (numbered s) out b r xs p e ∙ sym (ap outcome_numbered (without_room s out b r xs p e)))
    (λ r. either (eqb s.phase 0)
    (λ f. at_version_lem (numbered s) out b r (same_test xs p e out b s 0 (omega arith) ∙ f) xs p e
    ∙ ap (buffers_kept b) (version_met xs p e out b s)
    ∙ sym (ap outcome_numbered (at_version_lem s out b r f xs p e)))
    (λ f. either (eqb s.phase 1)
    (λ g. at_record_lem (numbered s) out b r (same_test xs p e out b s 0 (omega arith) ∙ f) (same_test xs p e out b s 1 (omega arith) ∙ g) xs p e
    ∙ record_step_met xs p e out b s
    ∙ sym (ap outcome_numbered (at_record_lem s out b r f g xs p e)))
    (λ g. either (eqb s.phase 2)
    (λ h. at_long (numbered s) out b r (same_test xs p e out b s 0 (omega arith) ∙ f) (same_test xs p e out b s 1 (omega arith) ∙ g) (same_test xs p e out b s 2 (omega arith) ∙ h) xs p e
    ∙ ap (buffers_kept b) (long_met xs p e out b s h)
    ∙ sym (ap outcome_numbered (at_long s out b r f g h xs p e)))
    (λ h. at_over (numbered s) out b r (same_test xs p e out b s 0 (omega arith) ∙ f) (same_test xs p e out b s 1 (omega arith) ∙ g) (same_test xs p e out b s 2 (omega arith) ∙ h) xs p e
    ∙ sym (ap outcome_numbered (at_over s out b r f g h xs p e))))))
