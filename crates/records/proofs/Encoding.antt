-- A record's bytes read as that record; and where bytes read as a record, they are the bytes of one in range.
-- Assumes nothing.
use Prim.Native.Nat.{ℕ, suc, ◌+◌, ◌-◌, ◌≤◌, ◌<◌}
use native.Mathlib.Omega.{arith}
use mathlib.Core.Path.{◌≡◌, refl, sym, ap, subst, ◌∙◌}
use mathlib.Core.Bool.{true}
use mathlib.Core.List.{List, [], ◌∷◌, ◌++◌, append_assoc}
use borrow.Author.Tests.{leb-false, ltb-false, le-ltb, eqb-true, ne_eqb}
use lib.Dec.{eqb, leb, ltb}
use lib.ListN.{length, get_or, take, drop, length-append, length-drop, take-append-drop}
use lib.Seq.{drop-drop, length-take-le}
use Rattle.rules.specs.Choice.{pick}
use Rattle.rules.specs.Bytes.{AreBytes}
use Rattle.rules.proofs.Choice.{pick_false, pick_both, pick_cases}
use Rattle.records.specs.Records.{Record, none, short, behind, write_record, read_record, grant_record, memory_record, of_kind, record_at}
use Rattle.records.specs.Encoding.{SessionRecord, to_write, to_read, to_grant, to_memory, InRange, kind_and_arguments, record_bytes}
use Rattle.records.specs.BigEndian.{number_at, bytes_of, numbers_in, word, quad, two_bytes, four_bytes}
use Rattle.records.proofs.Bytes.{byte_small, bytes_join, bytes_take, bytes_drop}
use Rattle.records.proofs.BigEndian.{bytes_of_lem, bytes_long, number_of_lem, number_small, one_back, bytes_back}
use Rattle.records.proofs.Pieces.{record_is}

-- ---- from a record to its bytes and back

-- what stands at the front of a record's bytes
unfoldable pub found : SessionRecord → Record
found (to_write port byte) = record { number = 1; word = port; byte = byte; clocks = 0; start = 0; next = 6 }
found (to_read port) = record { number = 2; word = port; byte = 0; clocks = 0; start = 0; next = 5 }
found (to_grant clocks) = record { number = 3; word = 0; byte = 0; clocks = clocks; start = 0; next = 7 }
found (to_memory address bytes) = record { number = 4; word = address; byte = 0; clocks = 0; start = 5; next = 5 + length bytes }

module _ (zs : List ℕ) where
  found_write : (port byte : ℕ) → port < 65536 → record_at (record_bytes (to_write port byte) ++ zs) 0 true ≡ found (to_write port byte)
  unfolding record_bytes kind_and_arguments bytes_of number_at numbers_in of_kind write_record pick found
  found_write port byte h =
      record_is [] [] 0 (record_bytes (to_write port byte) ++ zs) true (omega arith)
      ∙ (λ i. record { number = 1; word = number_of_lem 2 port [] h i; byte = byte; clocks = 0; start = 0; next = 6 })

  found_read : (port : ℕ) → port < 65536 → record_at (record_bytes (to_read port) ++ zs) 0 true ≡ found (to_read port)
  unfolding record_bytes kind_and_arguments bytes_of number_at numbers_in of_kind read_record pick found
  found_read port h =
      record_is [] [] 0 (record_bytes (to_read port) ++ zs) true (omega arith)
      ∙ (λ i. record { number = 2; word = number_of_lem 2 port [] h i; byte = 0; clocks = 0; start = 0; next = 5 })

  found_grant : (clocks : ℕ) → clocks < 4294967296 → record_at (record_bytes (to_grant clocks) ++ zs) 0 true ≡ found (to_grant clocks)
  unfolding record_bytes kind_and_arguments bytes_of number_at numbers_in of_kind grant_record pick found
  found_grant clocks h =
      record_is [] [] 0 (record_bytes (to_grant clocks) ++ zs) true (omega arith)
      ∙ (λ i. record { number = 3; word = 0; byte = 0; clocks = number_of_lem 4 clocks [] h i; start = 0; next = 7 })

  -- the word in front of a memory record is its length
  memory_length : (address : ℕ) (bytes : List ℕ) → length bytes ≤ 255 → word (record_bytes (to_memory address bytes) ++ zs) 0 ≡ 3 + length bytes
  unfolding record_bytes kind_and_arguments bytes_of number_at
  memory_length address bytes g = omega arith

  memory_kind_lem : (address : ℕ) (bytes : List ℕ) → address < 65536 → 1 ≤ length bytes → length bytes ≤ 255 → of_kind (record_bytes (to_memory address bytes) ++ zs) 0 (3 + length bytes) 4 ≡ found (to_memory address bytes)
  unfolding record_bytes kind_and_arguments bytes_of number_at numbers_in of_kind memory_record pick found
  memory_kind_lem address bytes a h g =
      let z : 0 + 2 + (3 + length bytes) ≡ 5 + length bytes = omega arith in
      simp (le-ltb (3 + length bytes) 4 (omega arith), le-ltb 258 (3 + length bytes) (omega arith))
      (λ i. record { number = 4; word = number_of_lem 2 address [] a i; byte = 0; clocks = 0; start = 5; next = z i })

  found_memory : (address : ℕ) (bytes : List ℕ) → address < 65536 → 1 ≤ length bytes → length bytes ≤ 255 → record_at (record_bytes (to_memory address bytes) ++ zs) 0 true ≡ found (to_memory address bytes)
  unfolding record_bytes kind_and_arguments bytes_of
  found_memory address bytes a h g =
      let n = memory_length address bytes g in
      record_is [] [] 0 (record_bytes (to_memory address bytes) ++ zs) true (omega (arith, n, length-append bytes zs))
      ∙ ap (λ (n : ℕ). pick (eqb n 0) (none 22 0) (of_kind (record_bytes (to_memory address bytes) ++ zs) 0 n 4)) n
      ∙ pick_false _ _ _ (ne_eqb (3 + length bytes) 0 (λ e. omega (arith, e)))
      ∙ memory_kind_lem address bytes a h g

pub reads_back : (r : SessionRecord) (zs : List ℕ) → InRange r → record_at (record_bytes r ++ zs) 0 true ≡ found r
unfolding InRange
reads_back (to_write port byte) zs h = found_write zs port byte h.0
reads_back (to_read port) zs h = found_read zs port h
reads_back (to_grant clocks) zs h = found_grant zs clocks (omega (arith, h))
reads_back (to_memory address bytes) zs h = found_memory zs address bytes h.0 h.1 h.2

-- a record in range is found as a record, and takes its bytes
pub record Found (r : SessionRecord) : Type 0 where
  pub here : (found r).number ≡ 5 → ⊥
  pub right : (found r).number < 20
  pub takes : (found r).next ≡ length (record_bytes r)
  pub some : 0 < (found r).next

pub is_found : (r : SessionRecord) → Found r
unfolding found record_bytes kind_and_arguments bytes_of
is_found (to_write port byte) = record { here = λ e. omega (arith, e); right = omega arith; takes = refl; some = omega arith }
is_found (to_read port) = record { here = λ e. omega (arith, e); right = omega arith; takes = refl; some = omega arith }
is_found (to_grant clocks) = record { here = λ e. omega (arith, e); right = omega arith; takes = refl; some = omega arith }
is_found (to_memory address bytes) = record { here = λ e. omega (arith, e); right = omega arith; takes = omega arith; some = omega arith }

-- ---- the bytes of a record in range are bytes

arguments_bytes : (r : SessionRecord) → InRange r → AreBytes (kind_and_arguments r)
unfolding InRange kind_and_arguments AreBytes
arguments_bytes (to_write port byte) h = (omega arith, bytes_join (two_bytes port) _ (bytes_of_lem 2 port) (h.1, tt))
arguments_bytes (to_read port) h = (omega arith, bytes_of_lem 2 port)
arguments_bytes (to_grant clocks) h = (omega arith, bytes_of_lem 4 clocks)
arguments_bytes (to_memory address bytes) h = (omega arith, bytes_join (two_bytes address) bytes (bytes_of_lem 2 address) h.3)

pub are_bytes : (r : SessionRecord) → InRange r → AreBytes (record_bytes r)
unfolding record_bytes
are_bytes r h = bytes_join (two_bytes (length (kind_and_arguments r))) (kind_and_arguments r) (bytes_of_lem 2 (length (kind_and_arguments r))) (arguments_bytes r h)

-- ---- from bytes to a record in range

-- the bytes at the front of a list are those of a record in range
pub record Written (ys : List ℕ) (r : Record) : Type 0 where
  pub what : SessionRecord
  pub range : InRange what
  pub bytes : record_bytes what ++ drop r.next ys ≡ ys

module _ (ys : List ℕ) (small : AreBytes ys) where
  word_small : (i : ℕ) → word ys i < 65536
  unfolding numbers_in
  word_small i = number_small ys small 2 i

  quad_small : (i : ℕ) → quad ys i < 4294967296
  unfolding numbers_in
  quad_small i = number_small ys small 4 i

  -- a record whose length, kind and arguments are those at the front
  whole_back : (what : SessionRecord) (args : List ℕ) (kind next : ℕ) → kind_and_arguments what ≡ kind ∷ args → get_or ys 2 0 ≡ kind → 1 + length args ≡ word ys 0 → 3 ≤ length ys → args ++ drop next ys ≡ drop 3 ys → record_bytes what ++ drop next ys ≡ ys
  unfolding record_bytes
  whole_back what args kind next e k n l h =
      ap (λ (b : List ℕ). (two_bytes (length b) ++ b) ++ drop next ys) e
      ∙ append_assoc (two_bytes (suc (length args))) (kind ∷ args) (drop next ys)
      ∙ (λ i. two_bytes (size i) ++ (sym k i ∷ h i))
      ∙ ap (λ (b : List ℕ). two_bytes (word ys 0) ++ b) (one_back ys small 2 (omega arith))
      ∙ bytes_back ys small 2 0 (omega arith)
    where
      size : suc (length args) ≡ word ys 0
      size = omega (arith, n)

  -- kind by kind
  write_back : 6 ≤ length ys → word ys 0 ≡ 4 → get_or ys 2 0 ≡ 1 → Written ys (record { number = 1; word = word ys 3; byte = get_or ys 5 0; clocks = 0; start = 0; next = 6 })
  unfolding kind_and_arguments bytes_of InRange
  write_back l n k =
      record {
        what = to_write (word ys 3) (get_or ys 5 0);
        range = (word_small 3, byte_small ys small 5);
        bytes =
            whole_back (to_write (word ys 3) (get_or ys 5 0)) (two_bytes (word ys 3) ++ (get_or ys 5 0 ∷ [])) 1 6 refl k (omega (arith, n)) (omega arith)
            (append_assoc (two_bytes (word ys 3)) (get_or ys 5 0 ∷ []) (drop 6 ys)
            ∙ ap (λ (b : List ℕ). two_bytes (word ys 3) ++ b) (one_back ys small 5 (omega arith))
            ∙ bytes_back ys small 2 3 (omega arith));
      }

  read_back : 5 ≤ length ys → word ys 0 ≡ 3 → get_or ys 2 0 ≡ 2 → Written ys (record { number = 2; word = word ys 3; byte = 0; clocks = 0; start = 0; next = 5 })
  unfolding kind_and_arguments bytes_of InRange
  read_back l n k =
      record {
        what = to_read (word ys 3);
        range = word_small 3;
        bytes =
            whole_back (to_read (word ys 3)) (two_bytes (word ys 3)) 2 5 refl k (omega (arith, n)) (omega arith) (bytes_back ys small 2 3 (omega arith));
      }

  grant_back : 7 ≤ length ys → word ys 0 ≡ 5 → get_or ys 2 0 ≡ 3 → Written ys (record { number = 3; word = 0; byte = 0; clocks = quad ys 3; start = 0; next = 7 })
  unfolding kind_and_arguments bytes_of InRange
  grant_back l n k =
      record {
        what = to_grant (quad ys 3);
        range = quad_small 3;
        bytes =
            whole_back (to_grant (quad ys 3)) (four_bytes (quad ys 3)) 3 7 refl k (omega (arith, n)) (omega arith) (bytes_back ys small 4 3 (omega arith));
      }

  -- so many bytes from place 5 on, and the rest
  rest_back : (n : ℕ) → 3 ≤ n → take (n - 3) (drop 5 ys) ++ drop (2 + n) ys ≡ drop 5 ys
  rest_back n h =
      ap (λ (l : List ℕ). take (n - 3) (drop 5 ys) ++ l)
      (ap (λ (k : ℕ). drop k ys) (let z : 2 + n ≡ 5 + (n - 3) = omega arith in z) ∙ sym (drop-drop (n - 3) 5 ys))
      ∙ take-append-drop (n - 3) (drop 5 ys)

  memory_back : 2 + word ys 0 ≤ length ys → 4 ≤ word ys 0 → word ys 0 ≤ 258 → get_or ys 2 0 ≡ 4 → Written ys (record { number = 4; word = word ys 3; byte = 0; clocks = 0; start = 5; next = 2 + word ys 0 })
  unfolding kind_and_arguments InRange
  memory_back l n m k =
      let size : length (take (word ys 0 - 3) (drop 5 ys)) ≡ word ys 0 - 3 = length-take-le (word ys 0 - 3) (drop 5 ys) (omega (arith, length-drop 5 ys)) in
      record {
        what = to_memory (word ys 3) (take (word ys 0 - 3) (drop 5 ys));
        range = (word_small 3, omega (arith, size), omega (arith, size), bytes_take (word ys 0 - 3) (drop 5 ys) (bytes_drop 5 ys small));
        bytes =
            whole_back (to_memory (word ys 3) (take (word ys 0 - 3) (drop 5 ys))) (two_bytes (word ys 3) ++ take (word ys 0 - 3) (drop 5 ys)) 4 (2 + word ys 0) refl k
            (omega (arith, size, length-append (two_bytes (word ys 3)) (take (word ys 0 - 3) (drop 5 ys)), bytes_long 2 (word ys 3)))
            (omega arith)
            (append_assoc (two_bytes (word ys 3)) (take (word ys 0 - 3) (drop 5 ys)) (drop (2 + word ys 0) ys)
            ∙ ap (λ (b : List ℕ). two_bytes (word ys 3) ++ b) (rest_back (word ys 0) (omega arith))
            ∙ bytes_back ys small 2 3 (omega arith));
      }

  -- what stands at the front is such a record, unless it is the end or a fault
  Comes : Record → Type 0
  Comes r = (r.number ≡ 5 → ⊥) → r.number < 20 → Written ys r

  comes_not : (number : ℕ) → 20 ≤ number → Comes (none number 0)
  unfolding Comes
  comes_not number h e f = absurd (omega arith)

  comes_kind : (n k : ℕ) → 2 + n ≤ length ys → n ≡ word ys 0 → k ≡ get_or ys 2 0 → Comes (of_kind ys 0 n k)
  unfolding of_kind write_record read_record grant_record memory_record Comes
  comes_kind n k l e g =
      pick_cases Comes (eqb k 1) _ _
      (λ a. pick_cases Comes (eqb n 4) _ _
      (λ b f h. let z : n ≡ 4 = eqb-true n 4 b in write_back (omega (arith, z, l)) (sym e ∙ z) (sym g ∙ eqb-true k 1 a))
      (λ b. comes_not 22 (omega arith)))
      (λ a. pick_cases Comes (eqb k 2) _ _
      (λ a. pick_cases Comes (eqb n 3) _ _
      (λ b f h. let z : n ≡ 3 = eqb-true n 3 b in read_back (omega (arith, z, l)) (sym e ∙ z) (sym g ∙ eqb-true k 2 a))
      (λ b. comes_not 22 (omega arith)))
      (λ a. pick_cases Comes (eqb k 3) _ _
      (λ a. pick_cases Comes (eqb n 5) _ _
      (λ b f h. let z : n ≡ 5 = eqb-true n 5 b in grant_back (omega (arith, z, l)) (sym e ∙ z) (sym g ∙ eqb-true k 3 a))
      (λ b. comes_not 22 (omega arith)))
      (λ a. pick_cases Comes (eqb k 4) _ _
      (λ a. pick_cases Comes (ltb n 4) _ _ (λ b. comes_not 22 (omega arith))
      (λ b. pick_cases Comes (ltb 258 n) _ _ (λ c. comes_not 22 (omega arith))
      (λ c f h. memory_comes n l e (ltb-false n 4 b) (ltb-false 258 n c) (sym g ∙ eqb-true k 4 a))))
      (λ a. comes_not 22 (omega arith)))))
    where
      memory_comes : (n : ℕ) → 2 + n ≤ length ys → n ≡ word ys 0 → 4 ≤ n → n ≤ 258 → get_or ys 2 0 ≡ 4 → Written ys (record { number = 4; word = word ys 3; byte = 0; clocks = 0; start = 5; next = 2 + n })
      memory_comes n l e h g k =
          subst (λ (m : ℕ). Written ys (record { number = 4; word = word ys 3; byte = 0; clocks = 0; start = 5; next = 2 + m })) (sym e)
          (memory_back (omega (arith, e)) (omega (arith, e)) (omega (arith, e)) k)

  comes_short : Comes (short true 0)
  unfolding short pick
  comes_short = comes_not 21 (omega arith)

  comes_behind : Comes (behind true 0)
  unfolding behind pick Comes
  comes_behind e f = absurd (e refl)

  pub comes : ((record_at ys 0 true).number ≡ 5 → ⊥) → (record_at ys 0 true).number < 20 → Written ys (record_at ys 0 true)
  unfolding record_at Comes
  comes =
      pick_both Comes (leb (length ys) 0) _ _ comes_behind
      (pick_cases Comes (leb (length ys) 1) _ _ (λ a. comes_short)
      (λ a. pick_cases Comes (ltb (length ys - 2) (word ys 0)) _ _ (λ b. comes_short)
      (λ b. pick_both Comes (eqb (word ys 0) 0) _ _ (comes_not 22 (omega arith))
      (comes_kind (word ys 0) (get_or ys 2 0) (omega (arith, leb-false (length ys) 1 a, ltb-false (length ys - 2) (word ys 0) b)) refl refl))))
