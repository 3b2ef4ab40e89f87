-- The pending parameters: a valid number is at most 512, and all of these are tried; each of the 23 is asked for by some byte,
-- and one or two bytes lead to it. What is next is found bit by bit, from the lowest up.
-- Assumes nothing.
use Prim.Native.Nat.{ℕ, zero, suc, ◌+◌, ◌^◌, ◌<◌}
use native.Mathlib.Nat.{add-zero}
use native.Mathlib.Omega.{arith}
use mathlib.Core.Path.{◌≡◌, refl, sym, ◌∙◌, ap, subst}
use mathlib.Core.Bool.{true, false, not}
use mathlib.Core.List.{List, [], ◌∷◌}
use lib.Dec.{ltb, eqb}
use lib.ListN.{drop}
use borrow.Author.Tests.{ltb-true, eqb-true, eqb-false, eq-eqb}
use Rattle.rules.specs.Choice.{Row, ◌⇒◌, first_of, means}
use Rattle.rules.specs.Bytes.{bit}
use Rattle.rules.specs.Pending.{a_timing, b_timing, nothing, next, pending_after, valid_pending}
use Rattle.rules.specs.Validity.{valid_core_if, total, valid_if, valid}
use Rattle.rules.specs.Readback.{Byte}
use Rattle.rules.specs.Clock.{Clock}
use Rattle.rules.specs.Exactly.{Awaited, by_wr0, by_wr1, by_wr2, by_wr4, by_timing, by_mask_command, tail, LedTo, from_nothing, by_byte, pending_numbers, among, distinct, LowestBit, Unlisted, PendingExact}
use Rattle.rules.specs.Opened.{opened}
use Rattle.rules.specs.declared.Core.{Core}
use Rattle.rules.proofs.Choice.{clash, row_passed, row_taken, not_of_false, either, every_stop, every_at, any_cases, any_none, means_so}
use Rattle.rules.proofs.Trying.{all_below, below_at}
use Rattle.rules.proofs.Parameters.{each_number, wr0_valid, timing_valid, a_timing_valid, b_timing_valid, wr4_valid, nothing_valid, prescaler_valid, mask_valid, rest_valid, after_valid}
use Rattle.rules.proofs.Aside.{carried_aside, read_aside, clock_aside}
use Rattle.rules.proofs.Calls.{invalid_write, invalid_read, invalid_set_speed, invalid_grant}

valid_listed : (p : ℕ) → valid_pending p ≡ true → among p pending_numbers ≡ true
unfolding opened all_below among
valid_listed p e = each_number (λ p. among p pending_numbers) refl p e

-- ---- the next one

-- the rows of n bits, from bit k up
rows_from : ℕ → ℕ → ℕ → List (Row ℕ)
rows_from zero k p = []
rows_from (suc n) k p = (bit k p ⇒ 2 ^ k) ∷ rows_from n (k + 1) p

-- the table is of ten
ten_rows : (p : ℕ) → next p ≡ first_of (rows_from 10 0 p) nothing
unfolding next rows_from
ten_rows p = refl

-- no bit below k is set
abbrev Clear : ℕ → ℕ → Type 0
Clear k p = (i : ℕ) → i < k → bit i p ≡ false

clear_more : (k p : ℕ) → Clear k p → bit k p ≡ false → Clear (k + 1) p
clear_more k p h e i l =
    either (eqb i k) (λ d. subst (λ (j : ℕ). bit j p ≡ false) (sym (eqb-true i k d)) e)
    (λ d. h i (let z = eqb-false i k d in omega (arith, l, z)))

none_below : first_of {X = ℕ} [] nothing ≡ nothing
unfolding first_of
none_below = refl

-- among n rows from k up the lowest bit set is found, or none of them is set
found_or_clear {ℓ} : {X : Type ℓ} (n k p : ℕ) → Clear k p → (LowestBit (k + n) p (first_of (rows_from n k p) nothing) → X) → (first_of (rows_from n k p) nothing ≡ nothing → Clear (k + n) p → X) → X
unfolding rows_from
found_or_clear zero k p h f g = g none_below (subst (λ (m : ℕ). Clear m p) (sym (add-zero k)) h)
found_or_clear (suc n) k p h f g =
    either (bit k p)
    (λ e. f (record { place = k; few = omega arith; value = row_taken _ _ _ e; set = e; first = h }))
    (λ e.
    let r = row_passed (bit k p ⇒ 2 ^ k) (rows_from n (k + 1) p) nothing e in
    let m : k + 1 + n ≡ k + suc n = omega arith in
    found_or_clear n (k + 1) p (clear_more k p h e)
    (λ q.
    f
    (record {
      place = q.place;
      few = subst (λ (j : ℕ). q.place < j) m q.few;
      value = r ∙ q.value;
      set = q.set;
      first = q.first;
    }))
    (λ z c. g (r ∙ z) (subst (λ (j : ℕ). Clear j p) m c)))

-- of all ten
found_or_none {ℓ} : {X : Type ℓ} (p : ℕ) → (LowestBit 10 p (next p) → X) → (next p ≡ nothing → Clear 10 p → X) → X
found_or_none p f g =
    found_or_clear 10 0 p (λ i l. absurd (omega (arith, l)))
    (λ q. f (record { place = q.place; few = q.few; value = ten_rows p ∙ q.value; set = q.set; first = q.first }))
    (λ z c. g (ten_rows p ∙ z) c)

lowest : (p : ℕ) → (next p ≡ nothing → ⊥) → LowestBit 10 p (next p)
lowest p some = found_or_none p (λ q. q) (λ z c. absurd (some z))

-- a bit is not 0
bit_above : (k : ℕ) → k < 10 → 0 < 2 ^ k
unfolding opened all_below
bit_above k h = ltb-true _ _ (below_at 10 (λ k. ltb 0 (2 ^ k)) refl k h)

none_clear : (p : ℕ) → next p ≡ nothing → Clear 10 p
none_clear p z =
    found_or_none p (λ q. let b = bit_above q.place q.few in let v = sym q.value ∙ z in absurd (omega (arith, b, v)))
    (λ z c. c)

clear_none : (p : ℕ) → Clear 10 p → next p ≡ nothing
clear_none p c = found_or_none p (λ q. clash (sym (c q.place q.few) ∙ q.set)) (λ z d. z)

empty_alone : (p : ℕ) → valid_pending p ≡ true → next p ≡ nothing → p ≡ nothing
unfolding opened all_below
empty_alone p e z =
    eqb-true _ _ (means_so _ _ (each_number (λ p. means (eqb (next p) nothing) (eqb p nothing)) refl p e) (eq-eqb _ _ z))

-- what holds of each number of a list holds of one among them
abbrev Each : (ℕ → Type 0) → List ℕ → Type 0
Each P [] = Unit {0}
Each P (q ∷ qs) = P q × Each P qs

among_each : (P : ℕ → Type 0) (p : ℕ) (qs : List ℕ) → Each P qs → among p qs ≡ true → P p
unfolding among
among_each P p [] a e = clash e
among_each P p (q ∷ qs) a e =
    any_cases _ _ e (λ h. subst P (sym (eqb-true p q h)) a.0) (λ h. any_cases _ _ h (λ k. among_each P p qs a.1 k) any_none)

-- each of them, by a byte that asks for it: bits 3 to 6 of WR0 are the number
other_awaited : Each Awaited (drop 16 pending_numbers)
unfolding opened
other_awaited =
    (by_wr1 0x44 (omega arith) refl, (by_wr2 0x40 (omega arith) refl, (by_timing, (by_wr4 0x85 (omega arith) refl, (by_wr4 0x89 (omega arith) refl, (by_wr4 0x8D (omega arith) refl, (by_mask_command, tt)))))))

length_high_awaited : Each Awaited (drop 8 pending_numbers)
unfolding opened
length_high_awaited =
    (by_wr0 65 (omega arith) refl, (by_wr0 73 (omega arith) refl, (by_wr0 81 (omega arith) refl, (by_wr0 89 (omega arith) refl, (by_wr0 97 (omega arith) refl, (by_wr0 105 (omega arith) refl, (by_wr0 113 (omega arith) refl, (by_wr0 121 (omega arith) refl, other_awaited))))))))

each_awaited : Each Awaited pending_numbers
unfolding opened
each_awaited =
    (by_wr0 1 (omega arith) refl, (by_wr0 9 (omega arith) refl, (by_wr0 17 (omega arith) refl, (by_wr0 25 (omega arith) refl, (by_wr0 33 (omega arith) refl, (by_wr0 41 (omega arith) refl, (by_wr0 49 (omega arith) refl, (by_wr0 57 (omega arith) refl, length_high_awaited))))))))

awaited_valid : (p : ℕ) → Awaited p → valid_pending p ≡ true
awaited_valid _ (by_wr0 byte b s) = wr0_valid byte
awaited_valid _ (by_wr1 byte b s) = timing_valid a_timing a_timing_valid byte
awaited_valid _ (by_wr2 byte b s) = timing_valid b_timing b_timing_valid byte
awaited_valid _ (by_wr4 byte b s) = wr4_valid byte
awaited_valid _ by_timing = prescaler_valid
awaited_valid _ by_mask_command = mask_valid
awaited_valid _ (tail p a) = rest_valid p (awaited_valid p a)

-- ---- what bytes lead to

led : (byte : ℕ) → byte < 256 → LedTo (pending_after byte nothing)
led byte h = by_byte byte nothing h from_nothing

other_led : Each LedTo (drop 16 pending_numbers)
unfolding opened
other_led =
    (led 0x44 (omega arith), (led 0x40 (omega arith), (by_byte 0x20 _ (omega arith) (led 0x40 (omega arith)), (led 0x85 (omega arith), (led 0x89 (omega arith), (led 0x8D (omega arith), (led 0xBB (omega arith), tt)))))))

length_high_led : Each LedTo (drop 8 pending_numbers)
unfolding opened
length_high_led =
    (led 65 (omega arith), (led 73 (omega arith), (led 81 (omega arith), (led 89 (omega arith), (led 97 (omega arith), (led 105 (omega arith), (led 113 (omega arith), (led 121 (omega arith), other_led))))))))

each_led : Each LedTo pending_numbers
unfolding opened
each_led =
    (from_nothing, (led 9 (omega arith), (led 17 (omega arith), (led 25 (omega arith), (led 33 (omega arith), (led 41 (omega arith), (led 49 (omega arith), (led 57 (omega arith), length_high_led))))))))

led_valid : (p : ℕ) → LedTo p → valid_pending p ≡ true
led_valid _ from_nothing = nothing_valid
led_valid _ (by_byte byte p h l) = after_valid byte p (led_valid p l)

-- ---- a number that is none of them is refused

unlisted_invalid : (c : Core) (sum : ℕ) → Unlisted c → not (valid c sum) ≡ true
unfolding valid_if valid_core_if
unlisted_invalid c sum e =
    not_of_false _
    (every_stop _ _
    (every_at 5 _ (either (valid_pending c.pending) (λ v. clash (sym e ∙ valid_listed _ v)) (λ v. v))))

pub pending_exact : PendingExact
unfolding opened among distinct
pending_exact =
    record {
      order = refl;
      valid = λ p. record { to = λ e. among_each Awaited p pending_numbers each_awaited (valid_listed p e); from = awaited_valid p };
      led = λ p. record { to = λ e. among_each LedTo p pending_numbers each_led (valid_listed p e); from = led_valid p };
      lowest = lowest;
      none = λ p. record { to = none_clear p; from = clear_none p };
      empty = empty_alone;
      alone = λ byte c. ap (λ (d : Core). d.pending) (carried_aside c.pending (next c.pending) byte c);
      alone_in_read = λ c. ap (λ (b : Byte). b.core.pending) (read_aside c.pending c);
      alone_in_clock = λ c. ap (λ (k : Clock). k.next.pending) (clock_aside c.pending c);
      alone_in_speed = λ c code. refl;
      listed =
          λ p.
          record {
            to = valid_listed p;
            from = λ e. awaited_valid p (among_each Awaited p pending_numbers each_awaited e);
          };
      count = refl;
      once = refl;
      write = λ c k port byte e. invalid_write c k port byte (unlisted_invalid c (total k) e);
      read = λ c k port e. invalid_read c k port (unlisted_invalid c (total k) e);
      speed = λ c k code e. invalid_set_speed c k code (unlisted_invalid c (total k) e);
      granted = λ σ s n e. invalid_grant σ s n (unlisted_invalid s.world.core (total s.clocks) e);
    }
