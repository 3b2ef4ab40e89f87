-- A record that is whole stays the record that it is, whatever bytes come.
-- Assumes nothing.
use Prim.Native.Nat.{ℕ, ◌+◌, ◌-◌, ◌≤◌}
use native.Mathlib.Omega.{arith}
use native.Mathlib.Nat.{pos_of_ne-zero}
use mathlib.Core.Path.{◌≡◌, refl, sym, ap, subst, ◌∙◌}
use mathlib.Core.Bool.{Bool, true, false}
use mathlib.Core.List.{List, ◌++◌}
use borrow.Author.Tests.{lt-leb, leb-false, le-ltb, ltb-false, eqb-true, eqb-false}
use lib.Dec.{eqb, leb, ltb}
use lib.ListN.{length, get_or, length-append}
use Rattle.rules.specs.Choice.{pick}
use Rattle.rules.proofs.Choice.{pick_false, pick_both, pick_cases, either}
use Rattle.records.specs.Records.{Record, none, short, behind, write_record, read_record, grant_record, memory_record, of_kind, record_at, long_length}
use Rattle.records.specs.BigEndian.{word}
use Rattle.records.proofs.Choosing.{same}
use Rattle.records.proofs.BigEndian.{byte_stays, number_stays}

-- the bytes of a record for the memory are at hand
unfoldable pub Within : List ℕ → Record → Type 0
Within xs r = r.number ≡ 4 → (r.start ≤ r.next) × (r.next ≤ length xs)

module _ (xs ys : List ℕ) where
  pub longer : length xs ≤ length (xs ++ ys)
  longer = omega (arith, length-append xs ys)

  module _ (p : ℕ) where
    kind_stays : (n k : ℕ) → p + 2 + n ≤ length xs → of_kind (xs ++ ys) p n k ≡ of_kind xs p n k
    unfolding of_kind write_record read_record grant_record memory_record
    kind_stays n k h =
        same (eqb k 1) _ _ _ _
        (λ e. same (eqb n 4) _ _ _ _
        (λ f. let
        z : n ≡ 4 = eqb-true n 4 f
        in
        simp (number_stays 2 xs ys (p + 3) (omega arith), byte_stays xs ys (p + 5) (omega arith)))
        (λ f. refl))
        (λ e. same (eqb k 2) _ _ _ _
        (λ e. same (eqb n 3) _ _ _ _
        (λ f. let
        z : n ≡ 3 = eqb-true n 3 f
        in
        simp (number_stays 2 xs ys (p + 3) (omega arith)))
        (λ f. refl))
        (λ e. same (eqb k 3) _ _ _ _
        (λ e. same (eqb n 5) _ _ _ _
        (λ f. let
        z : n ≡ 5 = eqb-true n 5 f
        in
        simp (number_stays 4 xs ys (p + 3) (omega arith)))
        (λ f. refl))
        (λ e. same (eqb k 4) _ _ _ _
        (λ e. same (ltb n 4) _ _ _ _ (λ f. refl)
        (λ f. same (ltb 258 n) _ _ _ _ (λ g. refl)
        (λ g. let
        z : 4 ≤ n = ltb-false n 4 f
        in
        simp (number_stays 2 xs ys (p + 3) (omega arith)))))
        (λ e. refl))))

    -- what stands at a place where more bytes may come and are not needed: its length is there, and all of its bytes
    pub record Whole : Type 0 where
      pub length_there : p + 2 ≤ length xs
      pub bytes_there : p + 2 + word xs p ≤ length xs

    pub waits_behind : leb (length xs) p ≡ true → record_at xs p false ≡ none 0 p
    unfolding record_at behind pick
    waits_behind e = simp e

    pub waits_length : leb (length xs) p ≡ false → leb (length xs) (p + 1) ≡ true → record_at xs p false ≡ none 0 p
    unfolding record_at short pick
    waits_length e g = simp (e, g)

    pub waits_bytes : leb (length xs) p ≡ false → leb (length xs) (p + 1) ≡ false → ltb (length xs - (p + 2)) (word xs p) ≡ true → record_at xs p false ≡ none 0 p
    unfolding record_at short pick
    waits_bytes e g h = simp (e, g, h)

    pub whole : ((record_at xs p false).number ≡ 0 → ⊥) → Whole
    whole f =
        either (leb (length xs) p) (λ e. absurd (f (ap (λ (r : Record). r.number) (waits_behind e))))
        (λ e. either (leb (length xs) (p + 1)) (λ g. absurd (f (ap (λ (r : Record). r.number) (waits_length e g))))
        (λ g. either (ltb (length xs - (p + 2)) (word xs p)) (λ h. absurd (f (ap (λ (r : Record). r.number) (waits_bytes e g h))))
        (λ h. record {
          length_there = omega (arith, leb-false (length xs) (p + 1) g);
          bytes_there = omega (arith, leb-false (length xs) (p + 1) g, ltb-false (length xs - (p + 2)) (word xs p) h);
        })))

    -- a record that is whole, with any list in which its bytes stand
    pub record_is : (zs : List ℕ) (e : Bool) → p + 2 + word zs p ≤ length zs → record_at zs p e ≡ pick (eqb (word zs p) 0) (none 22 p) (of_kind zs p (word zs p) (get_or zs (p + 2) 0))
    unfolding record_at
    record_is zs e h =
        pick_false _ _ _ (lt-leb (length zs) p (omega arith))
        ∙ pick_false _ _ _ (lt-leb (length zs) (p + 1) (omega arith))
        ∙ pick_false _ _ _ (le-ltb (length zs - (p + 2)) (word zs p) (omega arith))

    pub record_stays : Whole → (e : Bool) → record_at (xs ++ ys) p e ≡ record_at xs p false
    record_stays w e =
        record_is (xs ++ ys) e (omega (arith, w.bytes_there, longer, number_stays 2 xs ys p w.length_there))
        ∙ ap (λ (n : ℕ). pick (eqb n 0) (none 22 p) (of_kind (xs ++ ys) p n (get_or (xs ++ ys) (p + 2) 0))) (number_stays 2 xs ys p w.length_there)
        ∙ same (eqb (word xs p) 0) _ _ _ _ (λ f. refl)
        (λ f. ap (of_kind (xs ++ ys) p (word xs p)) (byte_stays xs ys (p + 2) (omega (arith, w.bytes_there, pos_of_ne-zero (eqb-false (word xs p) 0 f))))
        ∙ kind_stays (word xs p) (get_or xs (p + 2) 0) w.bytes_there)
        ∙ sym (record_is xs false w.bytes_there)

    pub long_stays : p + 2 ≤ length xs → long_length (xs ++ ys) p ≡ long_length xs p
    unfolding long_length pick
    long_stays h =
        simp (
          lt-leb (length (xs ++ ys)) p (omega (arith, longer)),
          lt-leb (length (xs ++ ys)) (p + 1) (omega (arith, longer)),
          lt-leb (length xs) p (omega arith),
          lt-leb (length xs) (p + 1) (omega arith),
          number_stays 2 xs ys p h,
        )

    within_kind : (n k : ℕ) → p + 2 + n ≤ length xs → Within xs (of_kind xs p n k)
    unfolding of_kind write_record read_record grant_record memory_record Within
    within_kind n k h =
        pick_both (Within xs) _ _ _ (pick_both (Within xs) _ _ _ (λ e. absurd (omega (arith, e))) (λ e. absurd (omega (arith, e))))
        (pick_both (Within xs) _ _ _ (pick_both (Within xs) _ _ _ (λ e. absurd (omega (arith, e))) (λ e. absurd (omega (arith, e))))
        (pick_both (Within xs) _ _ _ (pick_both (Within xs) _ _ _ (λ e. absurd (omega (arith, e))) (λ e. absurd (omega (arith, e))))
        (pick_both (Within xs) _ _ _
        (pick_cases (Within xs) (ltb n 4) _ _ (λ f e. absurd (omega (arith, e)))
        (λ f. pick_both (Within xs) _ _ _ (λ e. absurd (omega (arith, e)))
        (λ e. (omega (arith, ltb-false n 4 f), h))))
        (λ e. absurd (omega (arith, e))))))

    within_none : Within xs (none 22 p)
    unfolding Within
    within_none e = absurd (omega (arith, e))

    pub within : Whole → Within xs (record_at xs p false)
    within w =
        subst (Within xs) (sym (record_is xs false w.bytes_there))
        (pick_both (Within xs) _ _ _ within_none (within_kind (word xs p) (get_or xs (p + 2) 0) w.bytes_there))
