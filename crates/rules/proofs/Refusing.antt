-- The number of a refusal depends on a few tests: each equation is computed for all of their values. And validity by its
-- facts.
-- Assumes nothing.
use Prim.Native.Nat.{ℕ, ◌<◌}
use mathlib.Core.Path.{◌≡◌, refl, sym}
use mathlib.Core.Bool.{Bool, true, false, not}
use mathlib.Core.List.{List, [], ◌∷◌}
use lib.Dec.{eqb, leb}
use borrow.Author.Tests.{leb-true, lt-leb, eqb-true}
use Rattle.rules.specs.Choice.{pick, every, any, test, first_hit}
use Rattle.rules.specs.Validity.{valid_core_if, valid_if, valid, total}
use Rattle.rules.specs.Buffers.{flat, Buffers}
use Rattle.rules.specs.World.{System}
use Rattle.rules.specs.Refusals.{access_refusal, speed_refusal, grant_refusal_if, access_refusal_if, speed_refusal_if, lent_refusal_if}
use Rattle.rules.specs.Calls.{Answer, write_reply, read_reply, speed_reply, grant_number, grant, read_reply_over, speed_reply_over, grant_over, write_reply_over}
use Rattle.rules.specs.Exactly.{ValidExact, AccessExact, SpeedRefusalExact, GrantExact, RefusalsExact}
use Rattle.rules.specs.declared.Clocks.{Clocks}
use Rattle.rules.specs.declared.Core.{Core}
use Rattle.rules.proofs.Choice.{pick_cases, every_stop, every_at}
use Rattle.rules.proofs.Validity.{core_parts, parts_core, port_cycle, cycle_port, readback_reading, reading_readback, slot_facts, facts_slot}
use Rattle.rules.proofs.Calls.{unless_number}

-- the number of an access by its three tests: valid, a wrong port, the bus held
record ThreeTests (v w h : Bool) (number : ℕ) : Type 0 where
  one : eqb number 1 ≡ not v
  two : eqb number 2 ≡ every (v ∷ w ∷ [])
  three : eqb number 3 ≡ every (v ∷ not w ∷ h ∷ [])
  none : eqb number 0 ≡ every (v ∷ not w ∷ not h ∷ [])
  most : leb number 3 ≡ true

three_tests : (v w h : Bool) → ThreeTests v w h (first_hit (test 1 (not v) ∷ test 2 w ∷ test 3 h ∷ []))
unfolding first_hit every pick
three_tests false w h = record { one = refl; two = refl; three = refl; none = refl; most = refl }
three_tests true true h = record { one = refl; two = refl; three = refl; none = refl; most = refl }
three_tests true false true = record { one = refl; two = refl; three = refl; none = refl; most = refl }
three_tests true false false = record { one = refl; two = refl; three = refl; none = refl; most = refl }

pub access_exact : (c : Core) (sum port : ℕ) → AccessExact c sum port
unfolding access_refusal_if
access_exact c sum port =
    let h = three_tests _ _ _ in
    record { one = h.one; two = h.two; three = h.three; none = h.none; most = leb-true _ _ h.most }

-- the number of a speed call by its two tests: valid, a code
record TwoTests (v s : Bool) (number : ℕ) : Type 0 where
  one : eqb number 1 ≡ not v
  seven : eqb number 7 ≡ every (v ∷ not s ∷ [])
  none : eqb number 0 ≡ every (v ∷ s ∷ [])
  other : any (eqb number 0 ∷ eqb number 1 ∷ eqb number 7 ∷ []) ≡ true

two_tests : (v s : Bool) → TwoTests v s (first_hit (test 1 (not v) ∷ test 7 (not s) ∷ []))
unfolding first_hit every any pick
two_tests false s = record { one = refl; seven = refl; none = refl; other = refl }
two_tests true true = record { one = refl; seven = refl; none = refl; other = refl }
two_tests true false = record { one = refl; seven = refl; none = refl; other = refl }

pub speed_exact : (c : Core) (sum code : ℕ) → SpeedRefusalExact c sum code
unfolding speed_refusal_if
speed_exact c sum code =
    let h = two_tests _ _ in record { one = h.one; seven = h.seven; none = h.none; other = h.other }

-- the number of a grant with the flat memory by its four tests: valid, memory and latches of their length, too many clocks
record FourTests (v m l x : Bool) (number : ℕ) : Type 0 where
  one : eqb number 1 ≡ not v
  four : eqb number 4 ≡ every (v ∷ not m ∷ [])
  five : eqb number 5 ≡ every (v ∷ m ∷ not l ∷ [])
  six : eqb number 6 ≡ every (v ∷ m ∷ l ∷ x ∷ [])
  none : eqb number 0 ≡ every (v ∷ m ∷ l ∷ not x ∷ [])
  not_two : eqb number 2 ≡ false
  not_three : eqb number 3 ≡ false
  most : leb number 6 ≡ true

abbrev memory_number : Bool → ℕ
memory_number m = first_hit (test 4 (not m) ∷ [])

four_tests : (v m l x : Bool) → FourTests v m l x (first_hit (test 1 (not v) ∷ test (memory_number m) (not (eqb (memory_number m) 0)) ∷ test 5 (not l) ∷ test 6 x ∷ []))
unfolding first_hit every pick
four_tests false m l x =
    record { one = refl; four = refl; five = refl; six = refl; none = refl; not_two = refl; not_three = refl; most = refl }
four_tests true false l x =
    record { one = refl; four = refl; five = refl; six = refl; none = refl; not_two = refl; not_three = refl; most = refl }
four_tests true true false x =
    record { one = refl; four = refl; five = refl; six = refl; none = refl; not_two = refl; not_three = refl; most = refl }
four_tests true true true false =
    record { one = refl; four = refl; five = refl; six = refl; none = refl; not_two = refl; not_three = refl; most = refl }
four_tests true true true true =
    record { one = refl; four = refl; five = refl; six = refl; none = refl; not_two = refl; not_three = refl; most = refl }

pub grant_exact : (c : Core) (sum : ℕ) (b : Buffers (List ℕ)) (n : ℕ) → GrantExact c sum b n
unfolding grant_refusal_if lent_refusal_if
grant_exact c sum b n =
    let h = four_tests _ _ _ _ in
    record {
      one = h.one;
      four = h.four;
      five = h.five;
      six = h.six;
      none = h.none;
      other = (h.not_two, h.not_three, leb-true _ _ h.most);
    }

-- ---- validity

unspeedy : (c : Core) (sum : ℕ) → 3 < c.control.speed → valid c sum ≡ false
unfolding valid_if valid_core_if
unspeedy c sum h =
    every_stop _ _
    (every_at 3 _ (lt-leb c.control.speed 3 h))

pub valid_exact : ValidExact
valid_exact =
    record {
      parts = λ c. record { to = core_parts c; from = parts_core c };
      port = λ p. record { to = port_cycle p; from = cycle_port p };
      readback = λ r. record { to = readback_reading r; from = reading_readback r };
      slot = λ t s. record { to = slot_facts t s; from = facts_slot t s };
      speed = unspeedy;
    }

-- each call answers with its number
pub write_number : (c : Core) (k : Clocks) (port byte : ℕ) → (write_reply c k port byte).answered.number ≡ access_refusal c (total k) port
unfolding write_reply_over
write_number c k port byte = unless_number _ _ _ _ c k

read_number : (c : Core) (k : Clocks) (port : ℕ) → (read_reply c k port).answered.number ≡ access_refusal c (total k) port
unfolding read_reply_over
read_number c k port = unless_number _ _ _ _ c k

speed_number : (c : Core) (k : Clocks) (code : ℕ) → (speed_reply c k code).answered.number ≡ speed_refusal c (total k) code
unfolding speed_reply_over
speed_number c k code = unless_number _ _ _ _ c k

grant_number_lem : (s : System (List ℕ)) (n : ℕ) → (grant flat s n).answered.number ≡ grant_number flat s n
unfolding grant_over
grant_number_lem s n =
    pick_cases (λ (a : Answer (List ℕ)). a.answered.number ≡ grant_number flat s n) _ _ _ (λ e. sym (eqb-true _ _ e)) (λ e. refl)

pub refusals_exact : RefusalsExact
refusals_exact =
    record {
      write = write_number;
      read = read_number;
      speed = speed_number;
      granted = grant_number_lem;
      access = access_exact;
      speeds = speed_exact;
      grants = grant_exact;
    }
