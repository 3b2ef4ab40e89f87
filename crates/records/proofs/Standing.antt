-- What can stand at a place where the input has ended: a record that takes bytes, the end, or a fault. A record that is too
-- long for any kind is a fault, and where the bytes are bytes, so is a record's byte.
-- Assumes nothing.
use Prim.Native.Nat.{ℕ, ◌+◌, ◌-◌, ◌≤◌, ◌<◌}
use native.Mathlib.Omega.{arith}
use mathlib.Core.Path.{◌≡◌, refl, ◌∙◌}
use mathlib.Core.Bool.{true}
use mathlib.Core.Logic.{◌⊎◌, inl, inr}
use mathlib.Core.List.{List}
use borrow.Author.Tests.{le-leb, lt-leb, leb-true, leb-false, lt-ltb, le-ltb, ltb-true, ne_eqb}
use lib.Dec.{leb}
use lib.ListN.{length, get_or}
use Rattle.rules.specs.Choice.{pick}
use Rattle.rules.specs.Bytes.{AreBytes}
use Rattle.rules.proofs.Choice.{pick_true, pick_false, pick_both, pick_cases}
use Rattle.records.specs.Records.{Record, none, short, behind, write_record, read_record, grant_record, memory_record, of_kind, record_at, long_length}
use Rattle.records.specs.BigEndian.{word}
use Rattle.records.proofs.Bytes.{byte_small}

-- where a record stands, it takes bytes; where the end does, no byte is left; a fault there is 21 or 22
pub record Stands (xs : List ℕ) (p : ℕ) (r : Record) : Type 0 where
  pub some : 0 < r.number
  pub takes : (r.number ≡ 5 → ⊥) → (20 ≤ r.number → ⊥) → p < r.next
  pub ends : r.number ≡ 5 → length xs ≤ p
  pub fault : 20 ≤ r.number → (r.number ≡ 21) ⊎ (r.number ≡ 22)

module _ (xs : List ℕ) (p : ℕ) where
  stands_fault : (number : ℕ) → 20 ≤ number → (number ≡ 21) ⊎ (number ≡ 22) → Stands xs p (none number p)
  stands_fault number h g =
      record {
        some = omega arith;
        takes = λ e f. absurd (f h);
        ends = λ e. absurd (omega (arith, e));
        fault = λ f. g;
      }

  stands_wrong : Stands xs p (none 22 p)
  stands_wrong = stands_fault 22 (omega arith) (inr refl)

  -- a record of one of the four kinds
  stands_one : (r : Record) → 0 < r.number → r.number < 5 → p < r.next → Stands xs p r
  stands_one r h g n =
      record {
        some = h;
        takes = λ e f. n;
        ends = λ e. absurd (omega (arith, e));
        fault = λ f. absurd (omega arith);
      }

  pub stands_kind : (n k : ℕ) → Stands xs p (of_kind xs p n k)
  unfolding of_kind write_record read_record grant_record memory_record
  stands_kind n k =
      pick_both (Stands xs p) _ _ _
      (pick_both (Stands xs p) _ _ _ (stands_one _ (omega arith) (omega arith) (omega arith)) stands_wrong)
      (pick_both (Stands xs p) _ _ _
      (pick_both (Stands xs p) _ _ _ (stands_one _ (omega arith) (omega arith) (omega arith)) stands_wrong)
      (pick_both (Stands xs p) _ _ _
      (pick_both (Stands xs p) _ _ _ (stands_one _ (omega arith) (omega arith) (omega arith)) stands_wrong)
      (pick_both (Stands xs p) _ _ _
      (pick_both (Stands xs p) _ _ _ stands_wrong
      (pick_both (Stands xs p) _ _ _ stands_wrong (stands_one _ (omega arith) (omega arith) (omega arith))))
      stands_wrong)))

  stands_short : Stands xs p (short true p)
  unfolding short pick
  stands_short = stands_fault 21 (omega arith) (inl refl)

  stands_behind : length xs ≤ p → Stands xs p (behind true p)
  unfolding behind pick
  stands_behind h =
      record {
        some = omega arith;
        takes = λ e f. absurd (e refl);
        ends = λ e. h;
        fault = λ f. absurd (omega (arith, f));
      }

  pub stands : Stands xs p (record_at xs p true)
  unfolding record_at
  stands =
      pick_cases (Stands xs p) (leb (length xs) p) _ _ (λ e. stands_behind (leb-true (length xs) p e))
      (λ e. pick_both (Stands xs p) _ _ _ stands_short
      (pick_both (Stands xs p) _ _ _ stands_short
      (pick_both (Stands xs p) _ _ _ stands_wrong (stands_kind (word xs p) (get_or xs (p + 2) 0)))))

  -- behind the last byte stands the end
  pub at_end : length xs ≤ p → record_at xs p true ≡ none 5 p
  unfolding record_at behind pick
  at_end h = simp (le-leb (length xs) p h)

  pub short_end : length xs ≤ p → long_length xs p ≡ 0
  unfolding long_length pick
  short_end h = simp (le-leb (length xs) p h)

  -- ---- a record that is too long for any kind

  kind_long : (n k : ℕ) → 258 < n → of_kind xs p n k ≡ none 22 p
  unfolding of_kind write_record read_record grant_record memory_record
  kind_long n k h =
      pick_both (λ (r : Record). r ≡ none 22 p) _ _ _ (pick_false _ _ _ (ne_eqb n 4 (λ e. omega (arith, e))))
      (pick_both (λ (r : Record). r ≡ none 22 p) _ _ _ (pick_false _ _ _ (ne_eqb n 3 (λ e. omega (arith, e))))
      (pick_both (λ (r : Record). r ≡ none 22 p) _ _ _ (pick_false _ _ _ (ne_eqb n 5 (λ e. omega (arith, e))))
      (pick_both (λ (r : Record). r ≡ none 22 p) _ _ _
      (pick_both (λ (r : Record). r ≡ none 22 p) _ _ _ refl (pick_true _ _ _ (lt-ltb 258 n h)))
      refl)))

  -- its length is at hand, and it is the word there
  pub record Long (n : ℕ) : Type 0 where
    pub there : p + 1 < length xs
    pub most : 258 < word xs p
    pub size : n ≡ word xs p

  pub long : (long_length xs p ≡ 0 → ⊥) → Long (long_length xs p)
  unfolding long_length
  long =
      pick_cases (λ (n : ℕ). (n ≡ 0 → ⊥) → Long n) _ _ _ (λ e f. absurd (f refl))
      (λ e. pick_cases (λ (n : ℕ). (n ≡ 0 → ⊥) → Long n) _ _ _ (λ g f. absurd (f refl))
      (λ g. pick_cases (λ (n : ℕ). (n ≡ 0 → ⊥) → Long n) _ _ _
      (λ h f. record { there = leb-false (length xs) (p + 1) g; most = ltb-true 258 (word xs p) h; size = refl })
      (λ h f. absurd (f refl))))

  pub record_whole : Long (long_length xs p) → long_length xs p ≤ length xs - (p + 2) → record_at xs p true ≡ none 22 p
  unfolding record_at
  record_whole l h =
      pick_false _ _ _ (lt-leb (length xs) p (omega (arith, l.there)))
      ∙ pick_false _ _ _ (lt-leb (length xs) (p + 1) l.there)
      ∙ pick_false _ _ _ (le-ltb (length xs - (p + 2)) (word xs p) (omega (arith, l.size, h)))
      ∙ pick_false _ _ _ (ne_eqb (word xs p) 0 (λ e. omega (arith, l.most, e)))
      ∙ kind_long (word xs p) (get_or xs (p + 2) 0) l.most

  pub record_cut : Long (long_length xs p) → length xs - (p + 2) < long_length xs p → record_at xs p true ≡ none 21 p
  unfolding record_at short pick
  record_cut l h =
      simp (
        lt-leb (length xs) p (omega (arith, l.there)),
        lt-leb (length xs) (p + 1) l.there,
        lt-ltb (length xs - (p + 2)) (word xs p) (omega (arith, l.size, h)),
      )

-- a record can be too long only where its length is there
pub long_there : (xs : List ℕ) (p : ℕ) → (long_length xs p ≡ 0 → ⊥) → p + 2 ≤ length xs
unfolding long_length
long_there xs p =
    pick_cases (λ (n : ℕ). (n ≡ 0 → ⊥) → p + 2 ≤ length xs) (leb (length xs) p) _ _ (λ e f. absurd (f refl))
    (λ e. pick_cases (λ (n : ℕ). (n ≡ 0 → ⊥) → p + 2 ≤ length xs) (leb (length xs) (p + 1)) _ _ (λ e f. absurd (f refl))
    (λ e f. omega (arith, leb-false (length xs) (p + 1) e)))

-- the byte of what stands at a place is a byte
Small : Record → Type 0
Small r = r.byte < 256

module _ (xs : List ℕ) (h : AreBytes xs) (p : ℕ) where
  small_kind : (n k : ℕ) → Small (of_kind xs p n k)
  unfolding of_kind write_record read_record grant_record memory_record Small
  small_kind n k =
      pick_both Small _ _ _ (pick_both Small _ _ _ (byte_small xs h (p + 5)) (omega arith))
      (pick_both Small _ _ _ (pick_both Small _ _ _ (omega arith) (omega arith))
      (pick_both Small _ _ _ (pick_both Small _ _ _ (omega arith) (omega arith))
      (pick_both Small _ _ _ (pick_both Small _ _ _ (omega arith) (pick_both Small _ _ _ (omega arith) (omega arith))) (omega arith))))

  pub small_byte : (record_at xs p true).byte < 256
  unfolding record_at short behind Small
  small_byte =
      pick_both Small _ _ _ (pick_both Small _ _ _ (omega arith) (omega arith))
      (pick_both Small _ _ _ (pick_both Small _ _ _ (omega arith) (omega arith))
      (pick_both Small _ _ _ (pick_both Small _ _ _ (omega arith) (omega arith))
      (pick_both Small _ _ _ (omega arith) (small_kind (word xs p) (get_or xs (p + 2) 0)))))
