-- What stands at a place of a session's bytes: a record with its kind and arguments, a fault, or nothing to be said before
-- more bytes come. A record is a length in two bytes and so many bytes after it, the first of them its kind; numbers are
-- high byte first.
-- Assumes nothing.
use Rattle.std.specs.Prelude.{ℕ, ◌+◌, ◌-◌, Bool, List, eqb, leb, ltb, length, get_or}
use Rattle.rules.specs.Choice.{pick}
use Rattle.records.specs.BigEndian.{word, quad}

-- what stands at a place
pub record Record : Type 0 where
  -- 0: more bytes are needed. 1 to 4: a record of that kind. 5: no record, the input ends here. 21, 22: a fault
  pub number : ℕ
  -- the port of a port write or read, the address of a memory record, else 0
  pub word : ℕ
  -- the byte of a port write, else 0
  pub byte : ℕ
  -- the clocks of a grant, else 0
  pub clocks : ℕ
  -- the place of a memory record's first byte for the memory, else 0
  pub start : ℕ
  -- the place behind the record; where there is none, the place asked about
  pub next : ℕ

-- the version of a session, its first byte
abbrev pub version : ℕ
version = 1

-- the kinds of a record
abbrev pub write_kind : ℕ
write_kind = 1

abbrev pub read_kind : ℕ
read_kind = 2

abbrev pub grant_kind : ℕ
grant_kind = 3

abbrev pub memory_kind : ℕ
memory_kind = 4

-- the fault of a session whose version is missing or not 1; no fault has a lower number
abbrev pub no_version : ℕ
no_version = 20

-- the numbers of what is no record: more bytes are needed; the input ends with the last record; a record is cut short; a
-- record is of no kind, or not as long as its kind is
abbrev pub more_needed : ℕ
more_needed = 0

abbrev pub input_ends : ℕ
input_ends = 5

abbrev pub cut_short : ℕ
cut_short = 21

abbrev pub wrong_record : ℕ
wrong_record = 22

-- the longest record of any kind, without its length: a memory record of 255 bytes
abbrev pub longest : ℕ
longest = 258

-- no record at this place
abbrev pub none : ℕ → ℕ → Record
none number place = record { number = number; word = 0; byte = 0; clocks = 0; start = 0; next = place }

-- a record that is not all there: a fault only where the input ends
unfoldable pub short : Bool → ℕ → Record
short ended p = pick ended (none cut_short p) (none more_needed p)

-- the place behind the bytes at hand
unfoldable pub behind : Bool → ℕ → Record
behind ended p = pick ended (none input_ends p) (none more_needed p)

-- the records of each kind, at place p with n bytes after the length. Each kind has its length
unfoldable pub write_record : List ℕ → ℕ → ℕ → Record
write_record xs p n =
    pick (eqb n 4)
    (record { number = write_kind; word = word xs (p + 3); byte = get_or xs (p + 5) 0; clocks = 0; start = 0; next = p + 6 })
    (none wrong_record p)

unfoldable pub read_record : List ℕ → ℕ → ℕ → Record
read_record xs p n =
    pick (eqb n 3) (record { number = read_kind; word = word xs (p + 3); byte = 0; clocks = 0; start = 0; next = p + 5 }) (none wrong_record p)

unfoldable pub grant_record : List ℕ → ℕ → ℕ → Record
grant_record xs p n =
    pick (eqb n 5) (record { number = grant_kind; word = 0; byte = 0; clocks = quad xs (p + 3); start = 0; next = p + 7 }) (none wrong_record p)

-- 1 to 255 bytes behind the address
unfoldable pub memory_record : List ℕ → ℕ → ℕ → Record
memory_record xs p n =
    pick (ltb n 4) (none wrong_record p)
    (pick (ltb longest n) (none wrong_record p)
    (record { number = memory_kind; word = word xs (p + 3); byte = 0; clocks = 0; start = p + 5; next = p + 2 + n }))

-- a record of which all n bytes are there, by its kind k
unfoldable pub of_kind : List ℕ → ℕ → ℕ → ℕ → Record
of_kind xs p n k =
    pick (eqb k write_kind) (write_record xs p n)
    (pick (eqb k read_kind) (read_record xs p n)
    (pick (eqb k grant_kind) (grant_record xs p n)
    (pick (eqb k memory_kind) (memory_record xs p n) (none wrong_record p))))

-- what stands at place p, where `ended` says that no byte comes after those at hand. Within one record 21 comes before 22;
-- one of length 0 has no kind
unfoldable pub record_at : List ℕ → ℕ → Bool → Record
record_at xs p ended =
    pick (leb (length xs) p) (behind ended p)
    (pick (leb (length xs) (p + 1)) (short ended p)
    (pick (ltb (length xs - (p + 2)) (word xs p)) (short ended p)
    (pick (eqb (word xs p) 0) (none wrong_record p) (of_kind xs p (word xs p) (get_or xs (p + 2) 0)))))

-- the length of a record that is too long for any kind, once both bytes of the length are at hand, else 0: such a record
-- need not be stored to find its fault
unfoldable pub long_length : List ℕ → ℕ → ℕ
long_length xs p =
    pick (leb (length xs) p) 0 (pick (leb (length xs) (p + 1)) 0 (pick (ltb longest (word xs p)) (word xs p) 0))
