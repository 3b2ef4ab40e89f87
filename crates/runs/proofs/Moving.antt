-- The bytes before a step's place can be dropped: every byte that a step looks at stands at its place or behind it.
-- Assumes nothing.
use Prim.Native.Nat.{ℕ, zero, suc, ◌+◌, ◌-◌, ◌%◌}
use native.Mathlib.Omega.{arith}
use mathlib.Core.Path.{◌≡◌, refl, sym, ap, ◌∙◌}
use mathlib.Core.Bool.{Bool}
use mathlib.Core.List.{List, ◌∷◌}
use lib.Dec.{eqb, leb, ltb}
use lib.ListN.{length, get_or, drop, length-drop}
use Rattle.rules.specs.Choice.{pick}
use Rattle.rules.specs.Buffers.{Buffers, flat}
use Rattle.rules.specs.Entries.{Poke, flat_outside, Entry, outside_change, enter}
use Rattle.rules.proofs.Choice.{pick_true, pick_ap, either}
use Rattle.records.specs.Records.{Record, record_at, long_length}
use Rattle.session.specs.Effects.{pokes, entry_of}
use Rattle.session.specs.Steps.{Session, Said, Outcome, in_phase, without_line, buffers_kept, last_fault, carried, system_with, version_step, long_step, by_record, record_step, step_of}
use Rattle.runs.specs.Moving.{farther, StepMoves}
use Rattle.session.proofs.Steps.{without_room, at_version_lem, at_record_lem, at_long, at_over}
use Rattle.records.proofs.Choosing.{same, lift}
use Rattle.records.proofs.BigEndian.{byte_moves}
use Rattle.records.proofs.Moving.{moved, test_here, record_moves, long_moves}

module _ (k : ℕ) (xs : List ℕ) where
  pub pokes_move : (n i i' a : ℕ) → i' ≡ k + i → pokes n xs i' a ≡ pokes n (drop k xs) i a
  unfolding pokes
  pokes_move zero i i' a e = refl
  pokes_move (suc n) i i' a e =
      λ j. record { address = a; byte = byte_moves k xs i i' e j } ∷ pokes_move n (i + 1) (i' + 1) ((a + 1) % 65536) (omega (arith, e)) j

  -- a record stands for the same entry
  pub entry_moves : (r : Record) → entry_of xs (moved k xs r) ≡ entry_of (drop k xs) r
  unfolding entry_of moved
  entry_moves r =
      same (eqb r.number 1) _ _ _ _ (λ f. refl)
      (λ f. same (eqb r.number 2) _ _ _ _ (λ g. refl)
      (λ g. same (eqb r.number 3) _ _ _ _ (λ h. refl)
      (λ h. same (eqb r.number 4) _ _ _ _
      (λ t. let
      z : pick (eqb r.number 4) (k + r.start) r.start ≡ k + r.start = pick_true _ _ _ t
      in
      ap outside_change
      (ap (λ (n : ℕ). pokes (k + r.next - n) xs n r.word) z
      ∙ ap (λ (n : ℕ). pokes n xs (k + r.start) r.word) (let w : k + r.next - (k + r.start) ≡ r.next - r.start = omega arith in w)
      ∙ pokes_move (r.next - r.start) r.start (k + r.start) r.word refl))
      (λ t. refl))))

-- ---- the steps

module _ (k : ℕ) (s : Session) (out : List ℕ) (b : Buffers (List ℕ)) where
  -- an answer without and with buffers, its next place farther on
  quiet_moves : (progress : ℕ) (t : Session) (n n' : ℕ) → n' ≡ k + n → buffers_kept b (without_line progress n' t out) ≡ farther k (buffers_kept b (without_line progress n t out))
  quiet_moves progress t n n' e = ap (λ (m : ℕ). buffers_kept b (without_line progress m t out)) e

  fault_moves : (number n n' : ℕ) → n' ≡ k + n → buffers_kept b (last_fault number n' s.device out) ≡ farther k (buffers_kept b (last_fault number n s.device out))
  fault_moves number n n' e = ap (λ (m : ℕ). buffers_kept b (last_fault number m s.device out)) e

  module _ (xs : List ℕ) (p : ℕ) (ended : Bool) where
    version_moves : buffers_kept b (version_step s xs (k + p) ended out) ≡ farther k (buffers_kept b (version_step s (drop k xs) p ended out))
    unfolding version_step
    version_moves =
        pick_ap (buffers_kept b) (leb (length xs) (k + p)) _ _
        ∙ lift (λ (x : Said). farther k (buffers_kept b x)) _ _ _ _ (test_here k xs p (k + p) refl)
        (pick_ap (buffers_kept b) ended _ _
        ∙ lift (λ (x : Said). farther k (buffers_kept b x)) _ _ _ _ refl (fault_moves 20 p (k + p) refl) (quiet_moves 1 s p (k + p) refl))
        (pick_ap (buffers_kept b) (eqb (get_or xs (k + p) 0) 1) _ _
        ∙ lift (λ (x : Said). farther k (buffers_kept b x)) _ _ _ _ (ap (λ (n : ℕ). eqb n 1) (byte_moves k xs p (k + p) refl))
        (quiet_moves 0 (in_phase 1 0 s.device) (p + 1) (k + p + 1) (omega arith))
        (fault_moves 20 (p + 1) (k + p + 1) (omega arith)))

    -- the bytes that are left
    left_here : length xs - (k + p) ≡ length (drop k xs) - p
    left_here = omega (arith, length-drop k xs)

    long_step_moves : buffers_kept b (long_step s xs (k + p) ended out) ≡ farther k (buffers_kept b (long_step s (drop k xs) p ended out))
    unfolding long_step
    long_step_moves =
        pick_ap (buffers_kept b) (leb s.left (length xs - (k + p))) _ _
        ∙ lift (λ (x : Said). farther k (buffers_kept b x)) _ _ _ _ (ap (leb s.left) left_here)
        (fault_moves 22 (p + s.left) (k + p + s.left) (omega arith))
        (pick_ap (buffers_kept b) ended _ _
        ∙ lift (λ (x : Said). farther k (buffers_kept b x)) _ _ _ _ refl
        (fault_moves 21 (p + (length (drop k xs) - p)) (k + p + (length xs - (k + p))) (omega (arith, left_here)))
        (ap (λ (n : ℕ). buffers_kept b (without_line 1 (k + p + (length xs - (k + p))) (in_phase 2 (s.left - n) s.device) out)) left_here
        ∙ quiet_moves 1 (in_phase 2 (s.left - (length (drop k xs) - p)) s.device) (p + (length (drop k xs) - p)) (k + p + (length xs - (k + p))) (omega (arith, left_here))))

    -- by what stands at the place: the same, by the same entry
    by_record_moves : (r : Record) → by_record (moved k xs r) s xs out b ≡ farther k (by_record r s (drop k xs) out b)
    unfolding by_record moved
    by_record_moves r =
        lift (farther k) _ _ _ _ refl refl
        (lift (farther k) _ _ _ _ refl refl
        (lift (farther k) _ _ _ _ refl refl
        (ap (λ (x : Entry flat (List Poke)). carried (moved k xs r) (enter flat flat_outside x (system_with s.device b)) out) (entry_moves k xs r))))

    record_step_moves : record_step s xs (k + p) ended out b ≡ farther k (record_step s (drop k xs) p ended out b)
    unfolding record_step
    record_step_moves =
        lift (farther k) _ _ _ _ (ap (λ (n : ℕ). eqb n 0) (long_moves k xs p (k + p) refl))
        (ap (λ (r : Record). by_record r s xs out b) (record_moves k xs p (k + p) refl ended) ∙ by_record_moves (record_at (drop k xs) p ended))
        (ap (λ (n : ℕ). buffers_kept b (without_line 0 (k + p + 2) (in_phase 2 n s.device) out)) (long_moves k xs p (k + p) refl)
        ∙ quiet_moves 0 (in_phase 2 (long_length (drop k xs) p) s.device) (p + 2) (k + p + 2) (omega arith))

    -- a step that is some function of the bytes and the place moves as that function does
    by_function : (F : List ℕ → ℕ → Outcome) → ((zs : List ℕ) (n : ℕ) → step_of s zs n ended out b ≡ F zs n) → F xs (k + p) ≡ farther k (F (drop k xs) p) → StepMoves s xs p out b ended k
    by_function F e f = e xs (k + p) ∙ f ∙ ap (farther k) (sym (e (drop k xs) p))

pub step_moves : (s : Session) (xs : List ℕ) (p : ℕ) (out : List ℕ) (b : Buffers (List ℕ)) (ended : Bool) (k : ℕ) → StepMoves s xs p out b ended k
step_moves s xs p out b ended k =
    either (ltb (length out) 72)
    (λ r. by_function k s out b xs p ended (λ zs n. buffers_kept b (without_line 9 n s out)) (λ zs n. without_room s out b r zs n ended) refl)
    (λ r. either (eqb s.phase 0)
    (λ f. by_function k s out b xs p ended _ (λ zs n. at_version_lem s out b r f zs n ended) (version_moves k s out b xs p ended))
    (λ f. either (eqb s.phase 1)
    (λ g. by_function k s out b xs p ended _ (λ zs n. at_record_lem s out b r f g zs n ended) (record_step_moves k s out b xs p ended))
    (λ g. either (eqb s.phase 2)
    (λ h. by_function k s out b xs p ended _ (λ zs n. at_long s out b r f g h zs n ended) (long_step_moves k s out b xs p ended))
    (λ h. by_function k s out b xs p ended (λ zs n. buffers_kept b (without_line 2 n s out)) (λ zs n. at_over s out b r f g h zs n ended) refl))))
