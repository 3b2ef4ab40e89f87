-- Laws of lists of calls: a list behind another, a valid device stays valid, outside changes keep a flat memory's length, and
-- empty latches are refused.
-- Assumes nothing.
use Prim.Native.Nat.{ℕ}
use native.Mathlib.Omega.{arith}
use mathlib.Core.Path.{◌≡◌, refl, ◌∙◌, ap}
use mathlib.Core.List.{List, [], ◌∷◌, ◌++◌}
use lib.ListN.{length, set, length-set}
use Rattle.rules.specs.Bytes.{AreBytes}
use Rattle.rules.specs.Buffers.{Store}
use Rattle.rules.specs.World.{System}
use Rattle.rules.specs.Entries.{Outside, poked, Entry, port_write, port_read, speed_call, clock_grant, other_grant, outside_change, bytes_written, Run, enter, run, system_at_power_on, PokesKeepLength, run_over}
use Rattle.rules.proofs.Calls.{ValidSystem, stays_valid}

module _ {M C : Type 0} (σ : Store M) (ω : Outside M C) where
  -- one entry before others
  pub entry_valid : (e : Entry σ C) (es : List (Entry σ C)) (s : System M) → AreBytes (bytes_written (e ∷ es)) → ValidSystem s → ValidSystem (enter σ ω e s).system × AreBytes (bytes_written es)
  unfolding bytes_written AreBytes
  entry_valid (port_write port byte) es s b v = ((stays_valid σ).write _ _ port byte b.0 v, b.1)
  entry_valid (port_read port) es s b v = ((stays_valid σ).read _ _ port v, b)
  entry_valid (speed_call code) es s b v = ((stays_valid σ).speed _ _ code v, b)
  entry_valid (clock_grant n) es s b v = ((stays_valid σ).granted _ n v, b)
  entry_valid (other_grant n o wrong) es s b v = ((stays_valid σ).granted _ n v, b)
  entry_valid (outside_change x) es s b v = (v, b)

  -- a list of entries
  run_valid : (es : List (Entry σ C)) (s : System M) → AreBytes (bytes_written es) → ValidSystem s → ValidSystem (run σ ω es s).system
  unfolding run_over
  run_valid [] s b v = v
  run_valid (e ∷ es) s b v = let h = entry_valid e es s b v in run_valid es _ h.1 h.0

  pub reached_valid : (m : M) (l : List ℕ) (es : List (Entry σ C)) → AreBytes (bytes_written es) → ValidSystem (run σ ω es (system_at_power_on m l)).system
  reached_valid m l es b = run_valid es _ b (stays_valid σ).power_on_lem

  -- a list behind another
  pub run_behind : (xs ys : List (Entry σ C)) (s : System M) → run σ ω (xs ++ ys) s ≡ record { answers = (run σ ω xs s).answers ++ (run σ ω ys (run σ ω xs s).system).answers; system = (run σ ω ys (run σ ω xs s).system).system }
  unfolding run_over
  run_behind [] ys s = refl
  run_behind (x ∷ xs) ys s =
      ap
      (λ (r : Run M). record { answers = (enter σ ω x s).answered ∷ r.answers; system = r.system })
      (run_behind xs ys (enter σ ω x s).system)

pub pokes_keep_length : PokesKeepLength
unfolding poked
pokes_keep_length [] m = refl
pokes_keep_length (p ∷ ps) m = pokes_keep_length ps (set m p.address p.byte) ∙ length-set m p.address p.byte

-- empty latches are of a wrong length
pub empty_wrong : length {A = ℕ} [] ≡ 65536 → ⊥
empty_wrong e = let z : ◌≡◌ {A = ℕ} 0 65536 = e in omega arith
