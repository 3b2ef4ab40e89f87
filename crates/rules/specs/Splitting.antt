-- Splitting a grant: other grants with the same sum, made in turn in its place.
-- Assumes nothing.
use Rattle.std.specs.Prelude.{ℕ, ◌+◌, ◌≡◌, List, [], ◌∷◌, ◌++◌, length}
use Rattle.rules.specs.Bytes.{AreBytes}
use Rattle.rules.specs.Facts.{InRange}
use Rattle.rules.specs.Buffers.{Store}
use Rattle.rules.specs.World.{System}
use Rattle.rules.specs.Calls.{Answered, grant}
use Rattle.rules.specs.Entries.{Outside, Entry, clock_grant, bytes_written, Run, run, system_at_power_on}
use Rattle.rules.specs.History.{Past, history, past_at_power_on}

unfoldable pub sum_of : List ℕ → ℕ
sum_of [] = 0
sum_of (n ∷ ns) = n + sum_of ns

module _ {M : Type 0} (σ : Store M) where
  -- all of these grants, made in turn from s, are accepted, and the last one ends at t
  unfoldable pub AcceptedInTurn : List ℕ → System M → System M → Type 0
  AcceptedInTurn [] s t = s ≡ t
  AcceptedInTurn (n ∷ ns) s t = ((grant σ s n).answered.number ≡ 0) × AcceptedInTurn ns (grant σ s n).system t

  -- every grant that s accepts may be split in any way, grants of 0 clocks among the parts, or no part at all for 0 clocks:
  -- made in turn, all are accepted, and they end where it ends, with the same device, buffers and counts
  abbrev pub SplitsAt : System M → Type 0
  SplitsAt s =
      (n : ℕ) → (grant σ s n).answered.number ≡ 0 → (ns : List ℕ) → sum_of ns ≡ n → AcceptedInTurn ns s (grant σ s n).system

  -- so it is with every device whose fields lie within their types, reached by a list or not
  abbrev pub Splits : Type 0
  Splits = (s : System M) → InRange s.world.core → SplitsAt s

-- ---- within a list

-- grants of the list's own buffers, and the answers to them where all are accepted
unfoldable pub grants : {M C : Type 0} {σ : Store M} → List ℕ → List (Entry σ C)
grants [] = []
grants (n ∷ ns) = clock_grant n ∷ grants ns

unfoldable pub accepted_answers : List ℕ → List Answered
accepted_answers [] = []
accepted_answers (n ∷ ns) = record { number = 0; byte = 0; warning = 0 } ∷ accepted_answers ns

module _ {M C : Type 0} (σ : Store M) (ω : Outside M C) (m : M) (l : List ℕ) where
  -- from power-on: the run of a list in which grants stand between other entries, and what its history comes to
  abbrev pub run_with : List (Entry σ C) → List ℕ → List (Entry σ C) → Run M
  run_with before ns after = run σ ω (before ++ (grants ns ++ after)) (system_at_power_on m l)

  abbrev pub past_with : List (Entry σ C) → List ℕ → List (Entry σ C) → Past M
  past_with before ns after = (history σ ω (before ++ (grants ns ++ after)) (past_at_power_on m l)).past

  -- a grant of n clocks and its parts, each between the same entries: the grant is accepted, and so is each part; the
  -- entries before and after are answered alike; both lists end in the same system and with the same events noted
  pub record SplitWithin (before : List (Entry σ C)) (n : ℕ) (ns : List ℕ) (after : List (Entry σ C)) : Type 0 where
    pub first : List Answered
    pub later : List Answered
    pub each : length first ≡ length before
    pub whole : (run_with before (n ∷ []) after).answers ≡ first ++ (accepted_answers (n ∷ []) ++ later)
    pub parts : (run_with before ns after).answers ≡ first ++ (accepted_answers ns ++ later)
    pub system : (run_with before ns after).system ≡ (run_with before (n ∷ []) after).system
    pub past : past_with before ns after ≡ past_with before (n ∷ []) after

-- so it is within every list, where a grant is accepted
abbrev pub SplitsWithin : Type 1
SplitsWithin =
    (M C : Type 0) (σ : Store M) (ω : Outside M C) (m : M) (l : List ℕ) (before after : List (Entry σ C)) (n : ℕ) (ns : List ℕ)
    → AreBytes (bytes_written before)
    → (grant σ (run σ ω before (system_at_power_on m l)).system n).answered.number ≡ 0
    → sum_of ns ≡ n
    → SplitWithin σ ω m l before n ns after
