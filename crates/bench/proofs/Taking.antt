-- A step that goes on takes bytes, and none that is not at hand: the version byte, the length of a record that is too long,
-- or a record that is all there.
-- Assumes nothing.
use Prim.Native.Nat.{ℕ, ◌+◌, ◌-◌, ◌≤◌, ◌<◌}
use native.Mathlib.Omega.{arith}
use mathlib.Core.Path.{◌≡◌}
use mathlib.Core.Bool.{Bool}
use mathlib.Core.List.{List}
use borrow.Author.Tests.{eqb-true, eqb-false, leb-false, ltb-false}
use lib.Dec.{eqb, leb, ltb}
use lib.ListN.{length, get_or}
use Rattle.rules.specs.Buffers.{Buffers}
use Rattle.rules.proofs.Choice.{pick_cases, pick_both}
use Rattle.records.specs.BigEndian.{word}
use Rattle.records.specs.Records.{Record, none, short, behind, write_record, read_record, grant_record, memory_record, of_kind, record_at, long_length}
use Rattle.session.specs.Steps.{Session, Said, Outcome, version_step, long_step, by_record, record_step, step_of}
use Rattle.records.proofs.Standing.{long_there}

-- a place behind bytes that are taken from place p on and are all at hand
abbrev pub Taken : List ℕ → ℕ → ℕ → Type 0
Taken xs p next = (p < next) × (next ≤ length xs)

module _ (xs : List ℕ) (p : ℕ) where
  -- what is a record takes bytes
  RecordTakes : Record → Type 0
  RecordTakes r = (r.number ≡ 0 → ⊥) → (r.number ≡ 5 → ⊥) → r.number < 20 → Taken xs p r.next

  none_takes : (number : ℕ) → 20 ≤ number → RecordTakes (none number p)
  unfolding RecordTakes
  none_takes number h e f g = absurd (omega arith)

  kind_takes : (n k : ℕ) → p + 2 + n ≤ length xs → RecordTakes (of_kind xs p n k)
  unfolding of_kind write_record read_record grant_record memory_record RecordTakes
  kind_takes n k h =
      pick_both RecordTakes _ _ _
      (pick_cases RecordTakes (eqb n 4) _ _ (λ q e f g. omega (arith, eqb-true n 4 q)) (λ q. none_takes 22 (omega arith)))
      (pick_both RecordTakes _ _ _
      (pick_cases RecordTakes (eqb n 3) _ _ (λ q e f g. omega (arith, eqb-true n 3 q)) (λ q. none_takes 22 (omega arith)))
      (pick_both RecordTakes _ _ _
      (pick_cases RecordTakes (eqb n 5) _ _ (λ q e f g. omega (arith, eqb-true n 5 q)) (λ q. none_takes 22 (omega arith)))
      (pick_both RecordTakes _ _ _
      (pick_both RecordTakes _ _ _ (none_takes 22 (omega arith))
      (pick_both RecordTakes _ _ _ (none_takes 22 (omega arith)) (λ e f g. omega arith)))
      (none_takes 22 (omega arith)))))

  short_takes : (ended : Bool) → RecordTakes (short ended p)
  unfolding short RecordTakes
  short_takes ended = pick_both RecordTakes ended _ _ (none_takes 21 (omega arith)) (λ e f g. absurd (omega (arith, e)))

  record_takes : (ended : Bool) → RecordTakes (record_at xs p ended)
  unfolding record_at behind RecordTakes
  record_takes ended =
      pick_both RecordTakes _ _ _
      (pick_both RecordTakes ended _ _ (λ e f g. absurd (omega (arith, f))) (λ e f g. absurd (omega (arith, e))))
      (pick_cases RecordTakes (leb (length xs) (p + 1)) _ _ (λ q. short_takes ended)
      (λ a. pick_cases RecordTakes (ltb (length xs - (p + 2)) (word xs p)) _ _ (λ q. short_takes ended)
      (λ b. pick_both RecordTakes _ _ _ (none_takes 22 (omega arith))
      (kind_takes (word xs p) (get_or xs (p + 2) 0)
      (omega (arith, leb-false (length xs) (p + 1) a, ltb-false (length xs - (p + 2)) (word xs p) b))))))

  -- a step that goes on
  Takes : Outcome → Type 0
  Takes o = o.said.step.progress ≡ 0 → Taken xs p o.said.step.next

  takes_version : (s : Session) (ended : Bool) (out : List ℕ) (b : Buffers (List ℕ)) → Takes (record { said = version_step s xs p ended out; buffers = b })
  unfolding version_step Takes
  takes_version s ended out b = let
      P : Said → Type 0 = λ (x : Said). Takes (record { said = x; buffers = b })
      in
      pick_cases P (leb (length xs) p) _ _
      (λ a. pick_both P ended _ _ (λ e. absurd (omega (arith, e))) (λ e. absurd (omega (arith, e))))
      (λ a. pick_both P _ _ _ (λ e. omega (arith, leb-false (length xs) p a)) (λ e. absurd (omega (arith, e))))

  takes_long : (s : Session) (ended : Bool) (out : List ℕ) (b : Buffers (List ℕ)) → Takes (record { said = long_step s xs p ended out; buffers = b })
  unfolding long_step Takes
  takes_long s ended out b = let
      P : Said → Type 0 = λ (x : Said). Takes (record { said = x; buffers = b })
      in
      pick_both P _ _ _ (λ e. absurd (omega (arith, e)))
      (pick_both P ended _ _ (λ e. absurd (omega (arith, e))) (λ e. absurd (omega (arith, e))))

  takes_record : (s : Session) (ended : Bool) (out : List ℕ) (b : Buffers (List ℕ)) → Takes (record_step s xs p ended out b)
  unfolding record_step by_record Takes RecordTakes
  takes_record s ended out b = let
      r : Record = record_at xs p ended
      in
      pick_cases Takes (eqb (long_length xs p) 0) _ _
      (λ a. pick_cases Takes (eqb r.number 0) _ _ (λ q e. absurd (omega (arith, e)))
      (λ q₀. pick_cases Takes (eqb r.number 5) _ _ (λ q e. absurd (omega (arith, e)))
      (λ q₅. pick_cases Takes (leb 20 r.number) _ _ (λ q e. absurd (omega (arith, e)))
      (λ q e. record_takes ended (eqb-false r.number 0 q₀) (eqb-false r.number 5 q₅) (leb-false 20 r.number q)))))
      (λ a e. omega (arith, long_there xs p (eqb-false (long_length xs p) 0 a)))

pub step_takes : (s : Session) (xs : List ℕ) (p : ℕ) (ended : Bool) (out : List ℕ) (b : Buffers (List ℕ)) → (step_of s xs p ended out b).said.step.progress ≡ 0 → Taken xs p (step_of s xs p ended out b).said.step.next
unfolding step_of Takes
step_takes s xs p ended out b =
    pick_both (Takes xs p) _ _ _ (λ e. absurd (omega (arith, e)))
    (pick_both (Takes xs p) _ _ _ (takes_version xs p s ended out b)
    (pick_both (Takes xs p) _ _ _ (takes_record xs p s ended out b)
    (pick_both (Takes xs p) _ _ _ (takes_long xs p s ended out b) (λ e. absurd (omega (arith, e))))))
