-- A step by the session's phase and by what stands at the place, and a step that writes a line: it fits into the room that is
-- lent, since every line does.
-- Assumes nothing.
use Rattle.std.proofs.Common.{◌≡◌, ℕ, ◌≤◌, Bool, true, false, Option, Some, None, eqb, ltb, List, length, refl, sym, ap, ◌∙◌, subst, arith, ltb-false}
use Rattle.rules.specs.Choice.{pick}
use Rattle.rules.specs.Buffers.{Buffers, flat, placed}
use Rattle.rules.specs.Calls.{Answered, Answer}
use Rattle.rules.specs.Entries.{Poke, flat_outside, Entry, enter}
use Rattle.rules.proofs.Choice.{pick_both, pick_cases}
use Rattle.zxndma.specs.Answers.{system_of}
use Rattle.zxndma.specs.declared.Device.{Device}
use Rattle.records.specs.Records.{Record, record_at, long_length}
use Rattle.records.specs.Found.{record_before, LentBefore}
use Rattle.records.specs.declared.Record.{Record as RecordFound}
use Rattle.records.specs.declared.Record.TheVariants.{Write, Read, Grant, Memory}
use Rattle.lines.specs.Lines.{PutLine}
use Rattle.lines.specs.Line.{bytes_of}
use Rattle.lines.specs.declared.Line.{Line}
use Rattle.lines.proofs.Lines.{number_room, record_room, counts_room}
use Rattle.session.specs.Effects.{effect}
use Rattle.session.specs.Steps.{Session, Step, Said, Outcome, in_phase, with_line, without_line, buffers_kept, version_step, long_step, device_of, answer_line, carried, system_with, by_record, record_step, step_of, said, outcome}
use Rattle.session.specs.Numbers.{effect_found, in_numbers, progress_number, fault_in, step_in_numbers, written, written_beside}
use Rattle.session.specs.declared.step.Phase.TheVariants.{Records}
use Rattle.session.specs.declared.step.Progress.TheVariants.{GoesOn}
use Rattle.session.specs.declared.step.Advance.{Advance}
use Rattle.session.proofs.Effects.{entry_same}

-- ---- by the phase

module _ (s : Session) (out : List ℕ) (b : Buffers (List ℕ)) where
  pub without_room : ltb (length out) 72 ≡ true → (xs : List ℕ) (p : ℕ) (e : Bool) → step_of s xs p e out b ≡ buffers_kept b (without_line 9 p s out)
  unfolding step_of pick
  without_room r xs p e = simp r

  pub at_version_lem : ltb (length out) 72 ≡ false → eqb s.phase 0 ≡ true → (xs : List ℕ) (p : ℕ) (e : Bool) → step_of s xs p e out b ≡ buffers_kept b (version_step s xs p e out)
  unfolding step_of pick
  at_version_lem r f xs p e = simp (r, f)

  pub at_record_lem : ltb (length out) 72 ≡ false → eqb s.phase 0 ≡ false → eqb s.phase 1 ≡ true → (xs : List ℕ) (p : ℕ) (e : Bool) → step_of s xs p e out b ≡ record_step s xs p e out b
  unfolding step_of pick
  at_record_lem r f g xs p e = simp (r, f, g)

  pub at_long : ltb (length out) 72 ≡ false → eqb s.phase 0 ≡ false → eqb s.phase 1 ≡ false → eqb s.phase 2 ≡ true → (xs : List ℕ) (p : ℕ) (e : Bool) → step_of s xs p e out b ≡ buffers_kept b (long_step s xs p e out)
  unfolding step_of pick
  at_long r f g h xs p e = simp (r, f, g, h)

  pub at_over : ltb (length out) 72 ≡ false → eqb s.phase 0 ≡ false → eqb s.phase 1 ≡ false → eqb s.phase 2 ≡ false → (xs : List ℕ) (p : ℕ) (e : Bool) → step_of s xs p e out b ≡ buffers_kept b (without_line 2 p s out)
  unfolding step_of pick
  at_over r f g h xs p e = simp (r, f, g, h)

-- ---- by what stands at the place

module _ (s : Session) (xs : List ℕ) (p : ℕ) (e : Bool) (out : List ℕ) (b : Buffers (List ℕ)) where
  pub record_met : {r : Record} → 0 ≡ long_length xs p → r ≡ record_at xs p e → by_record r s xs out b ≡ record_step s xs p e out b
  unfolding record_step pick
  record_met h g = simp (← h, ← g)

module _ (s : Session) (xs out : List ℕ) (b : Buffers (List ℕ)) where
  whole_met : (r : RecordFound) (next : ℕ) → carried (record_before next r) (effect xs (record_before next r) (system_with s.device b)) out ≡ by_record (record_before next r) s xs out b
  unfolding by_record pick
  whole_met (Write port byte) next = refl
  whole_met (Read port) next = refl
  whole_met (Grant clocks) next = refl
  whole_met (Memory address bytes) next = refl

  -- a record of each kind has its line
  line_by_kind : (r : RecordFound) (next : ℕ) (a : Answered) → answer_line (record_before 0 r) a ≡ answer_line (record_before next r) a
  line_by_kind (Write port byte) next a = refl
  line_by_kind (Read port) next a = refl
  line_by_kind (Grant clocks) next a = refl
  line_by_kind (Memory address bytes) next a = refl

  next_by_kind : (r : RecordFound) (next : ℕ) → next ≡ (record_before next r).next
  next_by_kind (Write port byte) next = refl
  next_by_kind (Read port) next = refl
  next_by_kind (Grant clocks) next = refl
  next_by_kind (Memory address bytes) next = refl

  -- a record that was carried out, with its line
  pub record_carried :
      (r : RecordFound) (line : Line) {next : ℕ} {d : Device} {m l : List ℕ}
      → LentBefore xs next r
      → bytes_of line ≡ answer_line (record_before 0 r) (effect_found r (system_with s.device b)).answered
      → system_of d m l ≡ (effect_found r (system_with s.device b)).system
      → written_beside (record { progress = GoesOn; next = next; session = record { phase = Records; device = d }; line = Some line }) m l out ≡ by_record (record_before next r) s xs out b
  record_carried r line {next} {d} {m} {l} lent told left =
      let a : Answer (List ℕ) = effect_found r (system_with s.device b) in
      let shown : bytes_of line ≡ answer_line (record_before next r) a.answered = told ∙ line_by_kind r next a.answered in
      (λ i. record {
        said = with_line 0 0 (next_by_kind r next i) (shown i) (in_phase 1 0 (device_of (left i))) out;
        buffers = (left i).world.buffers;
      })
      ∙ ap (λ (e : Entry flat (List Poke)). carried (record_before next r) (enter flat flat_outside e (system_with s.device b)) out) (entry_same xs next r lent)
      ∙ whole_met r next

-- ---- a line is put, or none

module _ (a : Advance) {out out' : List ℕ} {n : ℕ} where
  pub line_put :
      (line : Line) {o : List ℕ} {k : ℕ} → a.line ≡ Some line → out' ≡ o → n ≡ k → 72 ≤ length out → PutLine out (bytes_of line) o k
      → said (step_in_numbers (record { progress = a.progress; next = a.next; length = n; session = a.session })) out' ≡ written a out
  line_put line e f g room l =
      let p = l.put room in
      let z : n ≡ length (bytes_of line) = omega (arith, p.place, g) in
      (λ i. record {
        step = record { progress = progress_number a.progress; fault = fault_in a.progress; next = a.next; length = z i; session = in_numbers a.session };
        line = (f ∙ p.list) i;
      })
      ∙ ap (λ (x : Option Line). written (record { progress = a.progress; next = a.next; session = a.session; line = x }) out) (sym e)

  pub no_line_put : a.line ≡ None → out' ≡ out → n ≡ 0 → said (step_in_numbers (record { progress = a.progress; next = a.next; length = n; session = a.session })) out' ≡ written a out
  unfolding placed
  no_line_put e f g =
      (λ i. record {
        step = record { progress = progress_number a.progress; fault = fault_in a.progress; next = a.next; length = g i; session = in_numbers a.session };
        line = f i;
      })
      ∙ ap (λ (x : Option Line). written (record { progress = a.progress; next = a.next; session = a.session; line = x }) out) (sym e)

-- ---- every line fits

-- a line that fits
Fits : Said → Type 0
Fits x = x.step.length ≤ 72

fits_version : (s : Session) (xs : List ℕ) (p : ℕ) (ended : Bool) (out : List ℕ) → Fits (version_step s xs p ended out)
unfolding version_step Fits
fits_version s xs p ended out =
    pick_both Fits _ _ _
    (pick_both Fits ended _ _ (number_room 83 20) (omega arith))
    (pick_both Fits _ _ _ (omega arith) (number_room 83 20))

fits_long : (s : Session) (xs : List ℕ) (p : ℕ) (ended : Bool) (out : List ℕ) → Fits (long_step s xs p ended out)
unfolding long_step Fits
fits_long s xs p ended out =
    pick_both Fits _ _ _ (number_room 83 22) (pick_both Fits ended _ _ (number_room 83 21) (omega arith))

fits_record : (r : Record) (s : Session) (xs out : List ℕ) (b : Buffers (List ℕ)) → Fits (by_record r s xs out b).said
unfolding by_record Fits
fits_record r s xs out b =
    pick_both (λ (o : Outcome). Fits o.said) _ _ _ (omega arith)
    (pick_both (λ (o : Outcome). Fits o.said) _ _ _ (counts_room s.device.clocks)
    (pick_both (λ (o : Outcome). Fits o.said) _ _ _ (number_room 83 r.number) (record_room r.number _ _ _)))

module _ (s : Session) (xs : List ℕ) (p : ℕ) (ended : Bool) (out : List ℕ) (b : Buffers (List ℕ)) where
  pub step_fits : (step_of s xs p ended out b).said.step.length ≤ length out
  unfolding step_of record_step Fits
  step_fits =
      pick_cases (λ (o : Outcome). o.said.step.length ≤ length out) (ltb (length out) 72) _ _ (λ e. omega arith)
      (λ e. let
      room : 72 ≤ length out = ltb-false (length out) 72 e
      in
      pick_both (λ (o : Outcome). o.said.step.length ≤ length out) _ _ _
      (omega (arith, fits_version s xs p ended out))
      (pick_both (λ (o : Outcome). o.said.step.length ≤ length out) _ _ _
      (pick_both (λ (o : Outcome). o.said.step.length ≤ length out) _ _ _
      (omega (arith, fits_record (record_at xs p ended) s xs out b))
      (omega arith))
      (pick_both (λ (o : Outcome). o.said.step.length ≤ length out) _ _ _
      (omega (arith, fits_long s xs p ended out))
      (omega arith))))

  -- a step's answer, and the room for its line
  pub with_room : {r : Step} {o m l : List ℕ} → outcome r o m l ≡ step_of s xs p ended out b → (outcome r o m l ≡ step_of s xs p ended out b) × (r.length ≤ length out)
  with_room e = (e, subst (λ (x : Outcome). x.said.step.length ≤ length out) (sym e) step_fits)
