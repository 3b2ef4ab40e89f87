-- The round trip, record by record: every record is read at its place as at the front of the bytes from there on, where its
-- own bytes stand.
-- Assumes nothing.
use Prim.Native.Nat.{ℕ, zero, suc, ◌+◌, ◌-◌, ◌%◌, ◌≤◌, ◌<◌}
use native.Mathlib.Omega.{arith}
use mathlib.Core.Path.{◌≡◌, refl, sym, ap, subst, ◌∙◌}
use mathlib.Core.Bool.{true, false}
use mathlib.Core.List.{List, [], ◌∷◌, ◌++◌}
use borrow.Author.Tests.{le-leb, lt-leb, leb-true, leb-false, eq-eqb, ne_eqb, eqb-true, eqb-false}
use lib.Dec.{eqb, leb}
use lib.ListN.{length, get_or, drop, length-append, length-drop, drop_of_length-le}
use lib.Seq.{drop-drop, drop-append_seam}
use Rattle.rules.specs.Choice.{pick}
use Rattle.rules.specs.Bytes.{AreBytes}
use Rattle.rules.specs.Entries.{Poke, outside_change}
use Rattle.rules.proofs.Choice.{pick_true, pick_false, either}
use Rattle.records.specs.Records.{Record, record_at}
use Rattle.records.specs.Encoding.{SessionRecord, to_write, to_read, to_grant, to_memory, InRange, kind_and_arguments, record_bytes}
use Rattle.records.specs.BigEndian.{bytes_of}
use Rattle.records.proofs.Bytes.{bytes_join, bytes_drop}
use Rattle.records.proofs.Standing.{stands, at_end}
use Rattle.records.proofs.Moving.{moved, record_moves}
use Rattle.records.proofs.Encoding.{found, reads_back, is_found, are_bytes, comes}
use Rattle.session.specs.Effects.{pokes, entry_of}
use Rattle.runs.specs.Sessions.{Decoded, ends_by, record_before, decoded_from, decoded, entries_of}
use Rattle.runs.specs.RoundTrip.{AllInRange, records_bytes, session_bytes, bytes_from, entry_for, entries_for, EncodedReadsBack, FaultlessIsEncoded}
use Rattle.runs.proofs.Moving.{pokes_move, entry_moves}

-- ---- the entry of a record

pokes_of : (bytes zs : List ℕ) (address : ℕ) → pokes (length bytes) (bytes ++ zs) 0 address ≡ bytes_from address bytes
unfolding pokes bytes_from
pokes_of [] zs address = refl
pokes_of (byte ∷ bytes) zs address =
    ap (λ (ps : List Poke). record { address = address; byte = byte } ∷ ps)
    (pokes_move 1 (byte ∷ (bytes ++ zs)) (length bytes) 0 (0 + 1) ((address + 1) % 65536) refl
    ∙ pokes_of bytes zs ((address + 1) % 65536))

memory_entry : (address : ℕ) (bytes zs : List ℕ) → pokes (5 + length bytes - 5) (record_bytes (to_memory address bytes) ++ zs) 5 address ≡ bytes_from address bytes
unfolding record_bytes kind_and_arguments bytes_of
memory_entry address bytes zs =
    ap (λ (n : ℕ). pokes n (record_bytes (to_memory address bytes) ++ zs) 5 address) (let z : 5 + length bytes - 5 ≡ length bytes = omega arith in z)
    ∙ pokes_move 5 (record_bytes (to_memory address bytes) ++ zs) (length bytes) 0 5 address refl
    ∙ pokes_of bytes zs address

entry_found : (r : SessionRecord) (zs : List ℕ) → entry_of (record_bytes r ++ zs) (found r) ≡ entry_for r
unfolding entry_of found entry_for pick
entry_found (to_write port byte) zs = refl
entry_found (to_read port) zs = refl
entry_found (to_grant clocks) zs = refl
entry_found (to_memory address bytes) zs = ap outside_change (memory_entry address bytes zs)

-- ---- one record of a session, and those behind it

module _ (xs : List ℕ) (p : ℕ) where
  -- what stands at a place stands at the front of the bytes from there on
  fronts : record_at xs p true ≡ moved p xs (record_at (drop p xs) 0 true)
  fronts = record_moves p xs 0 p (omega arith) true

  same_number : (record_at xs p true).number ≡ (record_at (drop p xs) 0 true).number
  unfolding moved
  same_number = ap (λ (r : Record). r.number) fronts

  next_place : (record_at xs p true).next ≡ p + (record_at (drop p xs) 0 true).next
  unfolding moved
  next_place = ap (λ (r : Record). r.next) fronts

  -- a record stands there
  module _ (e : (record_at xs p true).number ≡ 5 → ⊥) (f : (record_at xs p true).number < 20) (most : ℕ) where
    decoded_behind : decoded_from (suc most) xs p ≡ record_before (record_at xs p true) (decoded_from most xs (record_at xs p true).next)
    unfolding decoded_from
    decoded_behind =
        pick_false _ _ _ (ne_eqb (record_at xs p true).number 5 e) ∙ pick_false _ _ _ (lt-leb 20 (record_at xs p true).number f)

    takes : p < (record_at xs p true).next
    takes = (stands xs p).takes e (λ h. omega arith)

  -- the end stands there
  decoded_end : length xs ≤ p → (most : ℕ) → decoded_from most xs p ≡ ends_by 0
  unfolding decoded_from
  decoded_end h zero = refl
  decoded_end h (suc most) =
      pick_true _ _ _ (eq-eqb (record_at xs p true).number 5 (ap (λ (r : Record). r.number) (at_end xs p h)))

-- ---- a session, by its version

decoded_version : (xs : List ℕ) → eqb (get_or xs 0 0) 1 ≡ false → decoded xs ≡ ends_by 20
unfolding decoded
decoded_version xs e = pick_false _ _ _ e

decoded_records : (xs : List ℕ) → eqb (get_or xs 0 0) 1 ≡ true → decoded xs ≡ decoded_from (length xs) xs 1
unfolding decoded
decoded_records xs e = pick_true _ _ _ e

-- ---- from records to their bytes

module _ (xs : List ℕ) where
  -- the bytes from a place on are those of a record and of what is behind it
  module _ (p : ℕ) (r : SessionRecord) (zs : List ℕ) (e : drop p xs ≡ record_bytes r ++ zs) (h : InRange r) where
    at_front : record_at (drop p xs) 0 true ≡ found r
    at_front = ap (λ (l : List ℕ). record_at l 0 true) e ∙ reads_back r zs h

    here : (record_at xs p true).number ≡ 5 → ⊥
    here z = (is_found r).here (sym (same_number xs p ∙ ap (λ (x : Record). x.number) at_front) ∙ z)

    right : (record_at xs p true).number < 20
    right = subst (λ (n : ℕ). n < 20) (sym (same_number xs p ∙ ap (λ (x : Record). x.number) at_front)) (is_found r).right

    place : (record_at xs p true).next ≡ p + length (record_bytes r)
    place = next_place xs p ∙ ap (λ (x : Record). p + x.next) at_front ∙ ap (λ (n : ℕ). p + n) (is_found r).takes

    behind : drop (record_at xs p true).next xs ≡ zs
    behind =
        ap (λ (n : ℕ). drop n xs) place
        ∙ sym (drop-drop (length (record_bytes r)) p xs)
        ∙ ap (drop (length (record_bytes r))) e
        ∙ drop-append_seam (record_bytes r) zs

    entry : entry_of xs (record_at xs p true) ≡ entry_for r
    entry =
        ap (entry_of xs) (fronts xs p)
        ∙ entry_moves p xs (record_at (drop p xs) 0 true)
        ∙ (λ i. entry_of (e i) (at_front i))
        ∙ entry_found r zs

  -- some byte stands there
  some : (p : ℕ) (r : SessionRecord) (zs : List ℕ) → drop p xs ≡ record_bytes r ++ zs → p < length xs
  some p r zs e =
      omega (arith, ap length e, length-drop p xs, length-append (record_bytes r) zs, (is_found r).takes, (is_found r).some)

  none_left : (p : ℕ) → drop p xs ≡ [] → length xs ≤ p
  none_left p e = omega (arith, ap length e, length-drop p xs)

  -- what is decoded from a place on: no fault, and the entries of these records
  record Reads (rs : List SessionRecord) (d : Decoded) : Type 0 where
    fault : d.fault ≡ 0
    entries : entries_of xs d.records ≡ entries_for rs

  reads_none : Reads [] (ends_by 0)
  unfolding entries_of entries_for
  reads_none = record { fault = refl; entries = refl }

  reads_more : (r : SessionRecord) (rs : List SessionRecord) (x : Record) (d : Decoded) → entry_of xs x ≡ entry_for r → Reads rs d → Reads (r ∷ rs) (record_before x d)
  unfolding entries_of entries_for
  reads_more r rs x d e h = record { fault = h.fault; entries = λ i. e i ∷ h.entries i }

  reads : (rs : List SessionRecord) (most p : ℕ) → drop p xs ≡ records_bytes rs → length xs < p + most → AllInRange rs → Reads rs (decoded_from most xs p)
  unfolding records_bytes AllInRange
  reads [] most p e l h = subst (Reads []) (sym (decoded_end xs p (none_left p e) most)) reads_none
  reads (r ∷ rs) zero p e l h = absurd (omega (arith, some p r (records_bytes rs) e))
  reads (r ∷ rs) (suc most) p e l h =
      let e' = here p r (records_bytes rs) e h.0 in
      let f' = right p r (records_bytes rs) e h.0 in
      subst (Reads (r ∷ rs)) (sym (decoded_behind xs p e' f' most))
      (reads_more r rs _ _ (entry p r (records_bytes rs) e h.0)
      (reads rs most (record_at xs p true).next (behind p r (records_bytes rs) e h.0) (omega (arith, l, takes xs p e' f' most)) h.1))

records_bytes_lem : (rs : List SessionRecord) → AllInRange rs → AreBytes (records_bytes rs)
unfolding records_bytes AllInRange AreBytes
records_bytes_lem [] h = tt
records_bytes_lem (r ∷ rs) h = bytes_join (record_bytes r) (records_bytes rs) (are_bytes r h.0) (records_bytes_lem rs h.1)

pub encoded_reads_back : EncodedReadsBack
unfolding session_bytes AreBytes
encoded_reads_back rs h =
    let whole = subst (Reads (session_bytes rs) rs) (sym (decoded_records (session_bytes rs) refl)) (reads (session_bytes rs) rs (length (session_bytes rs)) 1 refl (omega arith) h) in
    record { bytes = (omega arith, records_bytes_lem rs h); fault = whole.fault; entries = whole.entries }

-- ---- from bytes to their records

-- the bytes from a place on are those of records in range
record EncodedFrom (xs : List ℕ) (p : ℕ) : Type 0 where
  records : List SessionRecord
  range : AllInRange records
  bytes : records_bytes records ≡ drop p xs

module _ (xs : List ℕ) (small : AreBytes xs) where
  nothing_from : (p : ℕ) → length xs ≤ p → EncodedFrom xs p
  unfolding AllInRange records_bytes
  nothing_from p h = record { records = []; range = tt; bytes = sym (drop_of_length-le xs h) }

  record_from : (p : ℕ) → ((record_at xs p true).number ≡ 5 → ⊥) → (record_at xs p true).number < 20 → EncodedFrom xs (record_at xs p true).next → EncodedFrom xs p
  unfolding AllInRange records_bytes
  record_from p e f rest =
      let w = comes (drop p xs) (bytes_drop p xs small) (λ z. e (same_number xs p ∙ z)) (subst (λ (n : ℕ). n < 20) (same_number xs p) f) in
      record {
        records = w.what ∷ rest.records;
        range = (w.range, rest.range);
        bytes =
            ap (λ (l : List ℕ). record_bytes w.what ++ l)
            (rest.bytes
            ∙ ap (λ (n : ℕ). drop n xs) (next_place xs p)
            ∙ sym (drop-drop (record_at (drop p xs) 0 true).next p xs))
            ∙ w.bytes;
      }

  fault_here : (most p : ℕ) → ((record_at xs p true).number ≡ 5 → ⊥) → 20 ≤ (record_at xs p true).number → decoded_from (suc most) xs p ≡ ends_by (record_at xs p true).number
  unfolding decoded_from
  fault_here most p e f =
      pick_false _ _ _ (ne_eqb (record_at xs p true).number 5 e) ∙ pick_true _ _ _ (le-leb 20 (record_at xs p true).number f)

  encoded_from : (most p : ℕ) → length xs < p + most → (decoded_from most xs p).fault ≡ 0 → EncodedFrom xs p
  encoded_from zero p l z = nothing_from p (omega arith)
  encoded_from (suc most) p l z =
      either (eqb (record_at xs p true).number 5)
      (λ e. nothing_from p ((stands xs p).ends (eqb-true (record_at xs p true).number 5 e)))
      (λ e. let
      e' : (record_at xs p true).number ≡ 5 → ⊥ = eqb-false (record_at xs p true).number 5 e
      in
      either (leb 20 (record_at xs p true).number)
      (λ f. let
      f' : 20 ≤ (record_at xs p true).number = leb-true 20 (record_at xs p true).number f
      in
      absurd (omega (arith, f', ap (λ (d : Decoded). d.fault) (fault_here most p e' f'), z)))
      (λ f. let
      f' : (record_at xs p true).number < 20 = leb-false 20 (record_at xs p true).number f
      in
      record_from p e' f'
      (encoded_from most (record_at xs p true).next (omega (arith, l, takes xs p e' f' most))
      (ap (λ (d : Decoded). d.fault) (sym (decoded_behind xs p e' f' most)) ∙ z))))

-- the version, and what is behind it
versioned : (xs : List ℕ) → get_or xs 0 0 ≡ 1 → 1 ∷ drop 1 xs ≡ xs
versioned [] v = absurd (omega (arith, v))
versioned (x ∷ xs) v = ap (λ (n : ℕ). n ∷ xs) (sym v)

pub faultless_is_encoded : FaultlessIsEncoded
unfolding session_bytes
faultless_is_encoded xs small z =
    either (eqb (get_or xs 0 0) 1)
    (λ e. let
    w = encoded_from xs small (length xs) 1 (omega arith) (ap (λ (d : Decoded). d.fault) (sym (decoded_records xs e)) ∙ z)
    in
    record {
      records = w.records;
      range = w.range;
      bytes = ap (λ (l : List ℕ). 1 ∷ l) w.bytes ∙ versioned xs (eqb-true (get_or xs 0 0) 1 e);
    })
    (λ e. absurd (omega (arith, ap (λ (d : Decoded). d.fault) (decoded_version xs e), z)))
