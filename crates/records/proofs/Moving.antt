-- The bytes before a place can be dropped: every byte of a record stands at its place or behind it.
-- Assumes nothing.
use Prim.Native.Nat.{ℕ, ◌+◌, ◌-◌}
use native.Mathlib.Omega.{arith}
use mathlib.Core.Path.{◌≡◌, refl, sym, ap, ◌∙◌}
use mathlib.Core.Bool.{Bool, false}
use mathlib.Core.List.{List}
use borrow.Author.Tests.{le-leb, lt-leb, leb-true, leb-false}
use lib.Dec.{eqb, leb, ltb}
use lib.ListN.{length, get_or, drop, length-drop}
use Rattle.rules.specs.Choice.{pick}
use Rattle.rules.proofs.Choice.{either}
use Rattle.records.specs.Records.{Record, none, short, behind, write_record, read_record, grant_record, memory_record, of_kind, record_at, long_length}
use Rattle.records.specs.BigEndian.{word}
use Rattle.records.proofs.Choosing.{lift}
use Rattle.records.proofs.BigEndian.{byte_moves, number_moves}

module _ (k : ℕ) (xs : List ℕ) where
  -- a record found in the rest, as it is found in the whole list
  unfoldable pub moved : Record → Record
  moved r =
      record {
        number = r.number;
        word = r.word;
        byte = r.byte;
        clocks = r.clocks;
        start = pick (eqb r.number 4) (k + r.start) r.start;
        next = k + r.next;
      }

  module _ (p q : ℕ) (e : q ≡ k + p) where
    -- a number of bytes behind the place
    on : (n : ℕ) → q + n ≡ k + (p + n)
    on n = omega (arith, e)

    none_moves : (number : ℕ) → eqb number 4 ≡ false → none number q ≡ moved (none number p)
    unfolding moved pick
    none_moves number h = simp h (λ i. none number (e i))

    short_moves : (ended : Bool) → short ended q ≡ moved (short ended p)
    unfolding short
    short_moves ended = lift moved _ _ _ _ refl (none_moves 21 refl) (none_moves 0 refl)

    behind_moves : (ended : Bool) → behind ended q ≡ moved (behind ended p)
    unfolding behind
    behind_moves ended = lift moved _ _ _ _ refl (none_moves 5 refl) (none_moves 0 refl)

    -- a record that is no memory record, and one that is
    abbrev found : ℕ → ℕ → ℕ → ℕ → ℕ → Record
    found number w byte clocks end = record { number = number; word = w; byte = byte; clocks = clocks; start = 0; next = end }

    found_moves :
        (number n : ℕ) {w w' byte byte' clocks clocks' : ℕ} → eqb number 4 ≡ false → w ≡ w' → byte ≡ byte' → clocks ≡ clocks'
        → found number w byte clocks (q + n) ≡ moved (found number w' byte' clocks' (p + n))
    unfolding moved pick
    found_moves number n h f g c =
        simp h (λ i. found number (f i) (g i) (c i) (on n i))

    memory_found : (n : ℕ) → ◌≡◌ {A = Record} (record { number = 4; word = word xs (q + 3); byte = 0; clocks = 0; start = q + 5; next = q + 2 + n }) (moved (record { number = 4; word = word (drop k xs) (p + 3); byte = 0; clocks = 0; start = p + 5; next = p + 2 + n }))
    unfolding moved pick
    memory_found n =
        let z : q + 2 + n ≡ k + (p + 2 + n) = omega (arith, e) in
        λ i. record { number = 4; word = number_moves 2 k xs (p + 3) (q + 3) (on 3) i; byte = 0; clocks = 0; start = on 5 i; next = z i }

    write_moves : (n : ℕ) → write_record xs q n ≡ moved (write_record (drop k xs) p n)
    unfolding write_record
    write_moves n =
        lift moved _ _ _ _ refl
        (found_moves 1 6 refl (number_moves 2 k xs (p + 3) (q + 3) (on 3)) (byte_moves k xs (p + 5) (q + 5) (on 5)) refl)
        (none_moves 22 refl)

    read_moves : (n : ℕ) → read_record xs q n ≡ moved (read_record (drop k xs) p n)
    unfolding read_record
    read_moves n = lift moved _ _ _ _ refl (found_moves 2 5 refl (number_moves 2 k xs (p + 3) (q + 3) (on 3)) refl refl) (none_moves 22 refl)

    grant_moves : (n : ℕ) → grant_record xs q n ≡ moved (grant_record (drop k xs) p n)
    unfolding grant_record
    grant_moves n = lift moved _ _ _ _ refl (found_moves 3 7 refl refl refl (number_moves 4 k xs (p + 3) (q + 3) (on 3))) (none_moves 22 refl)

    memory_moves : (n : ℕ) → memory_record xs q n ≡ moved (memory_record (drop k xs) p n)
    unfolding memory_record
    memory_moves n = lift moved _ _ _ _ refl (none_moves 22 refl) (lift moved _ _ _ _ refl (none_moves 22 refl) (memory_found n))

    kind_moves : (n c : ℕ) → of_kind xs q n c ≡ moved (of_kind (drop k xs) p n c)
    unfolding of_kind
    kind_moves n c =
        lift moved _ _ _ _ refl (write_moves n)
        (lift moved _ _ _ _ refl (read_moves n)
        (lift moved _ _ _ _ refl (grant_moves n) (lift moved _ _ _ _ refl (memory_moves n) (none_moves 22 refl))))

    -- the tests come out alike
    test_moves : (n : ℕ) → leb (length xs) (q + n) ≡ leb (length (drop k xs)) (p + n)
    test_moves n =
        either (leb (length xs) (q + n))
        (λ f. f ∙ sym (le-leb (length (drop k xs)) (p + n) (omega (arith, leb-true (length xs) (q + n) f, e, length-drop k xs))))
        (λ f. f ∙ sym (lt-leb (length (drop k xs)) (p + n) (omega (arith, leb-false (length xs) (q + n) f, e, length-drop k xs))))

    pub test_here : leb (length xs) q ≡ leb (length (drop k xs)) p
    test_here =
        ap (leb (length xs)) (let z : q ≡ q + 0 = omega arith in z)
        ∙ test_moves 0
        ∙ ap (leb (length (drop k xs))) (let z : p + 0 ≡ p = omega arith in z)

    rest_moves : (n : ℕ) → length xs - (q + n) ≡ length (drop k xs) - (p + n)
    rest_moves n = omega (arith, e, length-drop k xs)

    pub record_moves : (ended : Bool) → record_at xs q ended ≡ moved (record_at (drop k xs) p ended)
    unfolding record_at
    record_moves ended =
        lift moved _ _ _ _ test_here (behind_moves ended)
        (lift moved _ _ _ _ (test_moves 1) (short_moves ended)
        (lift moved _ _ _ _ (λ i. ltb (rest_moves 2 i) (number_moves 2 k xs p q e i)) (short_moves ended)
        (lift moved _ _ _ _ (λ i. eqb (number_moves 2 k xs p q e i) 0) (none_moves 22 refl)
        ((λ i. of_kind xs q (number_moves 2 k xs p q e i) (byte_moves k xs (p + 2) (q + 2) (on 2) i))
        ∙ kind_moves (word (drop k xs) p) (get_or (drop k xs) (p + 2) 0)))))

    pub long_moves : long_length xs q ≡ long_length (drop k xs) p
    unfolding long_length
    long_moves =
        λ i. pick (test_here i) 0 (pick (test_moves 1 i) 0 (pick (ltb 258 (number_moves 2 k xs p q e i)) (number_moves 2 k xs p q e i) 0))
