-- The bytes of a record, read where they stand: each kind as its definition has it.
-- Assumes nothing.
use Rattle.std.proofs.Common.{◌≡◌, ℕ, ◌+◌, ◌-◌, ◌*◌, ◌<◌, ◌≤◌, List, length, get_or, take, drop, slice_range, Result, Ok, Err, Bool, true, false, Bor, refl, sym, ap, ◌∙◌, arith, eqb, ltb, eqb-true, ltb-false, lt-ltb, le-ltb, leb-false, [], leb}
use Rattle.std.proofs.lemmas.List.{get_or-take, get_or-drop, drop-drop, drop-take, take-take, length-take}
use Rattle.std.proofs.lemmas.Bool.{lt-leb, le-leb}
use Rattle.rules.specs.Choice.{pick}
use Rattle.rules.proofs.Choice.{pick_true, pick_false, pick_cases, pick_both, either}
use Rattle.records.specs.Records.{Record, none, short, behind, write_record, read_record, grant_record, memory_record, of_kind, record_at, long_length}
use Rattle.records.specs.BigEndian.{word, quad}
use Rattle.records.specs.Found.{Reads, StandBehindLength, LentBefore, read_as}
use Rattle.records.specs.declared.Record.{Record as RecordFound}
use Rattle.records.specs.declared.Record.TheVariants.{Write, Read, Grant, Memory}
use Rattle.records.specs.declared.Fault.{Fault}
use Rattle.records.specs.declared.Fault.TheVariants.{Wrong}
use Rattle.records.proofs.BigEndian.{word_bytes, quad_words}
use Rattle.records.proofs.Pieces.{record_is, waits_behind, waits_length, waits_bytes}

module _ (bs xs : List ℕ) (p : ℕ) (e : bs ≡ slice_range xs (p + 2) (p + 2 + length bs)) where
  -- a byte of the record, where it stands
  byte_in : (i q : ℕ) → i < length bs → q ≡ p + 2 + i → get_or bs i 0 ≡ get_or xs q 0
  byte_in i q h f =
      ap (λ (l : List ℕ). get_or l i 0) e
      ∙ get_or-take (p + 2 + length bs - (p + 2)) (drop (p + 2) xs) i 0 (omega arith)
      ∙ get_or-drop (p + 2) xs i 0
      ∙ ap (λ (n : ℕ). get_or xs n 0) (sym f)

  word_in : (i q : ℕ) → i + 1 < length bs → q ≡ p + 2 + i → get_or bs i 0 * 256 + get_or bs (i + 1) 0 ≡ word xs q
  word_in i q h f =
      omega (arith, byte_in i q (omega arith) f, byte_in (i + 1) (q + 1) h (omega (arith, f)), word_bytes xs q)

  quad_in : (i q : ℕ) → i + 3 < length bs → q ≡ p + 2 + i → get_or bs i 0 * 16777216 + get_or bs (i + 1) 0 * 65536 + get_or bs (i + 2) 0 * 256 + get_or bs (i + 3) 0 ≡ quad xs q
  quad_in i q h f =
      let low : get_or bs (i + 2) 0 * 256 + get_or bs (i + 2 + 1) 0 ≡ word xs (q + 2) = word_in (i + 2) (q + 2) (omega arith) (omega (arith, f)) in
      let last : get_or bs (i + 2 + 1) 0 ≡ get_or bs (i + 3) 0 = ap (λ (j : ℕ). get_or bs j 0) (let z : i + 2 + 1 ≡ i + 3 = omega arith in z) in
      omega (arith, word_in i q (omega arith) f, low, last, quad_words xs q)

module _ (bs : List ℕ) where
  pub reads_write : (port : ℕ) → length bs ≡ 4 → get_or bs 0 0 ≡ 1 → port ≡ get_or bs 1 0 * 256 + get_or bs 2 0 → Reads bs (Ok (Write port (get_or bs 3 0)))
  unfolding Reads of_kind write_record pick
  reads_write port n k w xs p e =
      let kind : get_or xs (p + 2) 0 ≡ 1 = sym (byte_in bs xs p e 0 (p + 2) (omega arith) (omega arith)) ∙ k in
      let byte : get_or bs 3 0 ≡ get_or xs (p + 5) 0 = byte_in bs xs p e 3 (p + 5) (omega arith) (omega arith) in
      let number : port ≡ word xs (p + 3) = w ∙ word_in bs xs p e 1 (p + 3) (omega arith) (omega arith) in
      let next : p + 2 + 4 ≡ p + 6 = omega arith in
      simp (kind, n, byte, number, next)

  pub reads_read : (port : ℕ) → length bs ≡ 3 → get_or bs 0 0 ≡ 2 → port ≡ get_or bs 1 0 * 256 + get_or bs 2 0 → Reads bs (Ok (Read port))
  unfolding Reads of_kind read_record pick
  reads_read port n k w xs p e =
      let kind : get_or xs (p + 2) 0 ≡ 2 = sym (byte_in bs xs p e 0 (p + 2) (omega arith) (omega arith)) ∙ k in
      let number : port ≡ word xs (p + 3) = w ∙ word_in bs xs p e 1 (p + 3) (omega arith) (omega arith) in
      let next : p + 2 + 3 ≡ p + 5 = omega arith in
      simp (kind, n, number, next)

  pub reads_grant : (clocks : ℕ) → length bs ≡ 5 → get_or bs 0 0 ≡ 3 → clocks ≡ get_or bs 1 0 * 16777216 + get_or bs 2 0 * 65536 + get_or bs 3 0 * 256 + get_or bs 4 0 → Reads bs (Ok (Grant clocks))
  unfolding Reads of_kind grant_record pick
  reads_grant clocks n k w xs p e =
      let kind : get_or xs (p + 2) 0 ≡ 3 = sym (byte_in bs xs p e 0 (p + 2) (omega arith) (omega arith)) ∙ k in
      let number : clocks ≡ quad xs (p + 3) = w ∙ quad_in bs xs p e 1 (p + 3) (omega arith) (omega arith) in
      let next : p + 2 + 5 ≡ p + 7 = omega arith in
      simp (kind, n, number, next)

  pub reads_memory : (address : ℕ) (behind : Bor (List ℕ)) → 4 ≤ length bs → length bs ≤ 258 → get_or bs 0 0 ≡ 4 → address ≡ get_or bs 1 0 * 256 + get_or bs 2 0 → length behind.now ≡ length bs - 3 → Reads bs (Ok (Memory address behind))
  unfolding Reads of_kind memory_record pick
  reads_memory address behind least most k w l xs p e =
      let kind : get_or xs (p + 2) 0 ≡ 4 = sym (byte_in bs xs p e 0 (p + 2) (omega arith) (omega arith)) ∙ k in
      let number : address ≡ word xs (p + 3) = w ∙ word_in bs xs p e 1 (p + 3) (omega arith) (omega arith) in
      let start : p + 2 + length bs - length behind.now ≡ p + 5 = omega (arith, l) in
      simp (kind, le-ltb (length bs) 4 least, le-ltb 258 (length bs) most, number, start)

  -- of no kind, or not as long as its kind is
  pub record Wrong_bytes : Type 0 where
    pub write : length bs ≡ 4 → get_or bs 0 0 ≡ 1 → ⊥
    pub read : length bs ≡ 3 → get_or bs 0 0 ≡ 2 → ⊥
    pub grant : length bs ≡ 5 → get_or bs 0 0 ≡ 3 → ⊥
    pub memory : 4 ≤ length bs → length bs ≤ 258 → get_or bs 0 0 ≡ 4 → ⊥

  pub reads_wrong : Wrong_bytes → Reads bs (Err Wrong)
  unfolding Reads of_kind write_record read_record grant_record memory_record
  reads_wrong w xs p e =
      pick_cases P (eqb k 1) _ _
      (λ f. pick_cases P (eqb n 4) _ _ (λ g. absurd (w.write (eqb-true n 4 g) (kind 1 f (omega (arith, eqb-true n 4 g))))) (λ g. refl))
      (λ f. pick_cases P (eqb k 2) _ _
      (λ f. pick_cases P (eqb n 3) _ _ (λ g. absurd (w.read (eqb-true n 3 g) (kind 2 f (omega (arith, eqb-true n 3 g))))) (λ g. refl))
      (λ f. pick_cases P (eqb k 3) _ _
      (λ f. pick_cases P (eqb n 5) _ _ (λ g. absurd (w.grant (eqb-true n 5 g) (kind 3 f (omega (arith, eqb-true n 5 g))))) (λ g. refl))
      (λ f. pick_cases P (eqb k 4) _ _
      (λ f. pick_cases P (ltb n 4) _ _ (λ g. refl)
      (λ g. pick_cases P (ltb 258 n) _ _ (λ h. refl)
      (λ h. absurd (w.memory (ltb-false n 4 g) (ltb-false 258 n h) (kind 4 f (omega (arith, ltb-false n 4 g)))))))
      (λ f. refl))))
    where
      n : ℕ
      n = length bs

      k : ℕ
      k = get_or xs (p + 2) 0

      P : Record → Type 0
      P r = none 22 p ≡ r

      kind : (number : ℕ) → eqb k number ≡ true → 0 < n → get_or bs 0 0 ≡ number
      kind number f h = byte_in bs xs p e 0 (p + 2) h (omega arith) ∙ eqb-true k number f

-- ---- what stands at a place

-- a record without a byte has no kind
no_bytes : (xs : List ℕ) (p k : ℕ) → of_kind xs p 0 k ≡ none 22 p
unfolding of_kind write_record read_record grant_record memory_record
no_bytes xs p k =
    pick_both (λ (r : Record). r ≡ none 22 p) _ _ _ (pick_false _ _ _ refl)
    (pick_both (λ (r : Record). r ≡ none 22 p) _ _ _ (pick_false _ _ _ refl)
    (pick_both (λ (r : Record). r ≡ none 22 p) _ _ _ (pick_false _ _ _ refl)
    (pick_both (λ (r : Record). r ≡ none 22 p) _ _ _ (pick_true _ _ _ refl) refl)))

-- a part of a part
inner_range : (xs bs : List ℕ) (a n i : ℕ) → bs ≡ slice_range xs a (a + n) → i ≤ n → slice_range bs i n ≡ slice_range xs (a + i) (a + n)
inner_range xs bs a n i e h =
    ap (λ (l : List ℕ). take (n - i) (drop i l)) e
    ∙ ap (λ (k : ℕ). take (n - i) (drop i (take k (drop a xs)))) (let z : a + n - a ≡ i + (n - i) = omega arith in z)
    ∙ ap (λ (l : List ℕ). take (n - i) l) (drop-take i (n - i) (drop a xs))
    ∙ take-take (n - i) (n - i) (drop i (drop a xs)) (omega arith)
    ∙ ap (λ (l : List ℕ). take (n - i) l) (drop-drop i a xs)
    ∙ ap (λ (k : ℕ). take k (drop (a + i) xs)) (let z : n - i ≡ a + n - (a + i) = omega arith in z)

module _ (xs : List ℕ) (p : ℕ) where
  -- the length, as code reads it
  pub length_is : (rest : List ℕ) → rest ≡ drop p xs → get_or rest 0 0 * 256 + get_or rest 1 0 ≡ word xs p
  length_is rest e =
      let high : get_or rest 0 0 ≡ get_or xs p 0 = ap (λ (l : List ℕ). get_or l 0 0) e ∙ get_or-drop p xs 0 0 ∙ ap (λ (n : ℕ). get_or xs n 0) (let z : p + 0 ≡ p = omega arith in z) in
      let low : get_or rest 1 0 ≡ get_or xs (p + 1) 0 = ap (λ (l : List ℕ). get_or l 1 0) e ∙ get_or-drop p xs 1 0 in
      omega (arith, high, low, word_bytes xs p)

  -- a record of which all bytes are there
  pub record_there : {bs : List ℕ} (r : Result RecordFound Fault) → StandBehindLength xs p bs → Reads bs r → (e : Bool) → read_as p (length bs) r ≡ record_at xs p e
  unfolding Reads
  record_there {bs} r s h e =
      h xs p s.same
      ∙ ap (λ (n : ℕ). of_kind xs p n (get_or xs (p + 2) 0)) s.count
      ∙ pick_cases (λ (r : Record). of_kind xs p (word xs p) (get_or xs (p + 2) 0) ≡ r) (eqb (word xs p) 0) _ _
      (λ f. ap (λ (n : ℕ). of_kind xs p n (get_or xs (p + 2) 0)) (eqb-true (word xs p) 0 f) ∙ no_bytes xs p (get_or xs (p + 2) 0))
      (λ f. refl)
      ∙ sym (record_is xs [] p xs e s.there)

  -- and one of which some are missing, where more may come and where none do
  pub more_missing : length xs < p + 2 + word xs p → none 0 p ≡ record_at xs p false
  more_missing h =
      sym (either (leb (length xs) p) (λ e. waits_behind xs [] p e)
      (λ e. either (leb (length xs) (p + 1)) (λ g. waits_length xs [] p e g)
      (λ g. waits_bytes xs [] p e g (lt-ltb (length xs - (p + 2)) (word xs p) (omega (arith, leb-false (length xs) (p + 1) g))))))

  pub cut_there : p < length xs → length xs < p + 2 + word xs p → none 21 p ≡ record_at xs p true
  unfolding record_at short pick
  cut_there h g =
      either (leb (length xs) (p + 1)) (λ e. simp (lt-leb (length xs) p h, e))
      (λ e. simp (lt-leb (length xs) p h, e, lt-ltb (length xs - (p + 2)) (word xs p) (omega (arith, leb-false (length xs) (p + 1) e))))

  -- the length of one that is too long
  pub long_missing : length xs < p + 2 → long_length xs p ≡ 0
  unfolding long_length pick
  long_missing h =
      either (leb (length xs) p) (λ e. simp e) (λ e. simp (e, le-leb (length xs) (p + 1) (omega arith)))

  pub long_found : p + 2 ≤ length xs → 258 < word xs p → long_length xs p ≡ word xs p
  unfolding long_length pick
  long_found h g =
      simp (lt-leb (length xs) p (omega arith), lt-leb (length xs) (p + 1) (omega arith), lt-ltb 258 (word xs p) g)

  pub not_long : p + 2 ≤ length xs → word xs p ≤ 258 → long_length xs p ≡ 0
  unfolding long_length pick
  not_long h g =
      simp (lt-leb (length xs) p (omega arith), lt-leb (length xs) (p + 1) (omega arith), le-ltb 258 (word xs p) g)

-- the bytes for the memory, where they stand
pub lent_there : (xs : List ℕ) (p : ℕ) (bs : List ℕ) (r : RecordFound) → StandBehindLength xs p bs → LentBefore bs (length bs) r → LentBefore xs (p + 2 + length bs) r
lent_there xs p bs (Write port byte) s h = tt
lent_there xs p bs (Read port) s h = tt
lent_there xs p bs (Grant clocks) s h = tt
lent_there xs p bs (Memory address b) s h =
    let n : ℕ = length bs in
    let i : ℕ = n - length b.now in
    let within : length b.now ≤ n = omega (arith, ap length h, length-take (n - i) (drop i bs)) in
    h
    ∙ inner_range xs bs (p + 2) n i s.same (omega arith)
    ∙ ap (λ (k : ℕ). slice_range xs k (p + 2 + n)) (let z : p + 2 + i ≡ p + 2 + n - length b.now = omega arith in z)
