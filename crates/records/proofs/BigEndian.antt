-- Numbers in bytes, by the count of bytes: read at another place or with bytes behind they are the same, and a number with
-- room in its bytes reads back. Bytes that are read and written again are those bytes.
-- Assumes nothing.
use Prim.Native.Nat.{ℕ, zero, suc, ◌+◌, ◌*◌, ◌/◌, ◌%◌, ◌≤◌, ◌<◌}
use native.Mathlib.Omega.{arith}
use native.Mathlib.Numerals.{add-one}
use mathlib.Core.Path.{◌≡◌, refl, sym, ap, ◌∙◌}
use mathlib.Core.List.{List, [], ◌∷◌, ◌++◌, append_assoc}
use lib.ListN.{length, get_or, drop, length-append, get_or-append}
use lib.Seq.{get_or-drop, drop-cons, drop-append_seam}
use Rattle.rules.specs.Bytes.{AreBytes}
use Rattle.records.specs.BigEndian.{number_at, bytes_of, numbers_in, word, quad}
use Rattle.records.proofs.Bytes.{byte_small, bytes_join}

-- ---- as code reads them

pub word_bytes : (xs : List ℕ) (p : ℕ) → 256 * get_or xs p 0 + get_or xs (p + 1) 0 ≡ word xs p
unfolding number_at
word_bytes xs p =
    let z : get_or xs (p + 0) 0 ≡ get_or xs p 0 = ap (λ (i : ℕ). get_or xs i 0) (let e : p + 0 ≡ p = omega arith in e) in
    omega (arith, z)

pub quad_words : (xs : List ℕ) (p : ℕ) → 65536 * word xs p + word xs (p + 2) ≡ quad xs p
unfolding number_at
quad_words xs p =
    let y : get_or xs (p + 2 + 0) 0 ≡ get_or xs (p + 2) 0 = ap (λ (i : ℕ). get_or xs i 0) (let e : p + 2 + 0 ≡ p + 2 = omega arith in e) in
    let z : get_or xs (p + 2 + 1) 0 ≡ get_or xs (p + 3) 0 = ap (λ (i : ℕ). get_or xs i 0) (let e : p + 2 + 1 ≡ p + 3 = omega arith in e) in
    omega (arith, y, z)

-- ---- read elsewhere

-- a place of a list, and the same place of what is left without its front
pub byte_moves : (k : ℕ) (xs : List ℕ) (i i' : ℕ) → i' ≡ k + i → get_or xs i' 0 ≡ get_or (drop k xs) i 0
byte_moves k xs i i' e = ap (λ (n : ℕ). get_or xs n 0) e ∙ sym (get_or-drop k xs i 0)

pub number_moves : (count k : ℕ) (xs : List ℕ) (i i' : ℕ) → i' ≡ k + i → number_at count xs i' ≡ number_at count (drop k xs) i
unfolding number_at
number_moves zero k xs i i' e = refl
number_moves (suc count) k xs i i' e =
    λ j. 256 * number_moves count k xs i i' e j + byte_moves k xs (i + count) (i' + count) (omega (arith, e)) j

-- with bytes behind
pub byte_stays : (xs ys : List ℕ) (i : ℕ) → i < length xs → get_or (xs ++ ys) i 0 ≡ get_or xs i 0
byte_stays xs ys i h = get_or-append xs ys 0 i h

pub number_stays : (count : ℕ) (xs ys : List ℕ) (i : ℕ) → i + count ≤ length xs → number_at count (xs ++ ys) i ≡ number_at count xs i
unfolding number_at
number_stays zero xs ys i h = refl
number_stays (suc count) xs ys i h =
    λ j. 256 * number_stays count xs ys i (omega arith) j + byte_stays xs ys (i + count) (omega arith) j

-- ---- written

pub bytes_of_lem : (count n : ℕ) → AreBytes (bytes_of count n)
unfolding bytes_of AreBytes
bytes_of_lem zero n = tt
bytes_of_lem (suc count) n = bytes_join (bytes_of count (n / 256)) (n % 256 ∷ []) (bytes_of_lem count (n / 256)) (omega arith, tt)

pub bytes_long : (count n : ℕ) → length (bytes_of count n) ≡ count
unfolding bytes_of
bytes_long zero n = refl
bytes_long (suc count) n =
    omega (arith, length-append (bytes_of count (n / 256)) (n % 256 ∷ []), bytes_long count (n / 256))

-- a number that has room reads back
pub number_of_lem : (count n : ℕ) (zs : List ℕ) → n < numbers_in count → number_at count (bytes_of count n ++ zs) 0 ≡ n
unfolding number_at bytes_of numbers_in
number_of_lem zero n zs h = omega arith
number_of_lem (suc count) n zs h =
    ap (λ (l : List ℕ). 256 * number_at count l 0 + get_or l (0 + count) 0) (append_assoc high (n % 256 ∷ []) zs)
    ∙ (λ j. 256 * number_of_lem count (n / 256) (n % 256 ∷ zs) (omega arith) j + low j)
    ∙ (let z : 256 * (n / 256) + n % 256 ≡ n = omega arith in z)
  where
    high : List ℕ
    high = bytes_of count (n / 256)

    behind : drop count (high ++ (n % 256 ∷ zs)) ≡ n % 256 ∷ zs
    behind = ap (λ (m : ℕ). drop m (high ++ (n % 256 ∷ zs))) (sym (bytes_long count (n / 256))) ∙ drop-append_seam high (n % 256 ∷ zs)

    low : get_or (high ++ (n % 256 ∷ zs)) (0 + count) 0 ≡ n % 256
    low = byte_moves count (high ++ (n % 256 ∷ zs)) 0 (0 + count) (omega arith) ∙ ap (λ (l : List ℕ). get_or l 0 0) behind

-- ---- read and written again

module _ (ys : List ℕ) (small : AreBytes ys) where
  pub number_small : (count i : ℕ) → number_at count ys i < numbers_in count
  unfolding number_at numbers_in
  number_small zero i = omega arith
  number_small (suc count) i = omega (arith, number_small count i, byte_small ys small (i + count))

  pub one_back : (i : ℕ) → i < length ys → get_or ys i 0 ∷ drop (i + 1) ys ≡ drop i ys
  one_back i h = ap (λ (n : ℕ). get_or ys i 0 ∷ drop n ys) (add-one i) ∙ sym (drop-cons ys i 0 h)

  pub bytes_back : (count i : ℕ) → i + count ≤ length ys → bytes_of count (number_at count ys i) ++ drop (i + count) ys ≡ drop i ys
  unfolding number_at bytes_of
  bytes_back zero i h = ap (λ (n : ℕ). drop n ys) (let z : i + 0 ≡ i = omega arith in z)
  bytes_back (suc count) i h =
      let n : ℕ = number_at count ys i in
      let byte : ℕ = get_or ys (i + count) 0 in
      let high : (256 * n + byte) / 256 ≡ n = omega (arith, byte_small ys small (i + count)) in
      let low : (256 * n + byte) % 256 ≡ byte = omega (arith, byte_small ys small (i + count)) in
      (λ j. (bytes_of count (high j) ++ (low j ∷ [])) ++ drop (i + suc count) ys)
      ∙ append_assoc (bytes_of count n) (byte ∷ []) (drop (i + suc count) ys)
      ∙ ap (λ (m : ℕ). bytes_of count n ++ (byte ∷ drop m ys)) (let z : i + suc count ≡ i + count + 1 = omega arith in z)
      ∙ ap (λ (l : List ℕ). bytes_of count n ++ l) (one_back (i + count) (omega arith))
      ∙ bytes_back count i (omega arith)
