-- A turn's span, or its whole slots, are as many clocks of the definition, and they are not more than are left. Turn after
-- turn, what has passed is as many clocks and the rest has room.
-- Assumes nothing.
use Prim.Native.Nat.{ℕ, ◌+◌, ◌*◌, ◌-◌, ◌≤◌, ◌<◌}
use native.Mathlib.Omega.{arith}
use native.Mathlib.Nat.{mul-pos}
use mathlib.Core.Path.{◌≡◌, sym, ◌∙◌, ap}
use Rattle.rules.specs.Validity.{total, most64}
use Rattle.rules.specs.Facts.{Kept}
use Rattle.rules.specs.Slots.{new_slot}
use Rattle.rules.specs.Buffers.{Store}
use Rattle.rules.specs.World.{System, clocked}
use Rattle.rules.specs.Spans.{IsSpan, span_passed}
use Rattle.rules.specs.WholeSlots.{slots_within, slots_passed}
use Rattle.rules.specs.Turns.{Ready, Passed, TurnsAreClocks}
use Rattle.rules.specs.declared.Clocks.{Clocks}
use Rattle.rules.specs.declared.Core.{Core}
use Rattle.rules.specs.declared.at_once.Span.{Span}
use Rattle.rules.proofs.Blocks.{count_most}
use Rattle.rules.proofs.World.{clocked_zero, clocked_add, clocked_kept, clocked_total}
use Rattle.rules.proofs.Spans.{span_clocked}
use Rattle.rules.proofs.WholeSlots.{Starts, kept_starts, IsRun, run_within, slots_are_clocks}

-- the whole slots that the clocks left have room for
module _ {c : Core} {k : Clocks} {left slots : ℕ} (r : Ready c k left) (e : slots ≡ slots_within c left) (h : 0 < slots) where
  pub ready_run : IsRun c left slots
  ready_run = rw e (run_within c left r.kept (rw e at h))

  pub ready_starts : Starts c
  ready_starts = kept_starts c r.kept ready_run.on ready_run.rest

  -- the counter behind them fits its type
  pub ready_counter : c.block.counter + slots < 4294967296
  ready_counter = omega (arith, ready_run.block, count_most c.block r.kept.range.length)

module _ {M : Type 0} (σ : Store M) where
  -- so many clocks, of those left
  spent : (s : System M) {n left : ℕ} → n ≤ left → clocked σ n s ≡ clocked σ (left - (left - n)) s
  spent s {n} {left} h = ap (λ (j : ℕ). clocked σ j s) (let z : n ≡ left - (left - n) = omega arith in z)

  span_passed_lem : (s : System M) (left : ℕ) (x : Span) → Ready s.world.core s.clocks left → IsSpan s.world.core left x → Passed σ s (span_passed σ x s) left (left - x.clocks)
  span_passed_lem s left x r p =
      record {
        fewer = omega (arith, r.some, p.some r.some);
        here = sym (span_clocked σ s p) ∙ spent s p.within;
      }

  slots_passed_lem : (s : System M) (left k : ℕ) → Ready s.world.core s.clocks left → k ≡ slots_within s.world.core left → 0 < k → Passed σ s (slots_passed σ k s) left (left - k * (new_slot s.world.core).length)
  slots_passed_lem s left k r e h =
      let run = ready_run r e h in
      record {
        fewer = omega (arith, mul-pos h (some (ready_starts r e h)), r.some);
        here = sym ((slots_are_clocks σ).slots s k r.kept run.on run.rest h run.block) ∙ spent s run.within;
      }
    where
      some : Starts s.world.core → 0 < (new_slot s.world.core).length
      some t = omega (arith, t.some, t.fits)

  pub turns_are_clocks : TurnsAreClocks σ
  turns_are_clocks = record { span = span_passed_lem; slots = slots_passed_lem }

  -- ---- turn after turn

  -- of n clocks from s on, `left` are left
  pub record Going (s : System M) (n : ℕ) (t : System M) (left : ℕ) : Type 0 where
    pub within : left ≤ n
    pub here : t ≡ clocked σ (n - left) s
    pub kept : Kept t.world.core
    pub room : total t.clocks + left ≤ most64

  pub going_start : (s : System M) (n : ℕ) → Kept s.world.core → total s.clocks + n ≤ most64 → Going s n s n
  going_start s n k h =
      record {
        within = omega arith;
        here = sym (clocked_zero σ s) ∙ ap (λ (j : ℕ). clocked σ j s) (let z : 0 ≡ n - n = omega arith in z);
        kept = k;
        room = h;
      }

  module _ {s t : System M} {n left : ℕ} (g : Going s n t left) where
    -- what a turn asks
    pub going_ready : 0 < left → Ready t.world.core t.clocks left
    going_ready h = record { kept = g.kept; some = h; room = g.room }

    -- a turn more
    pub going_more : {u : System M} {less : ℕ} → Passed σ t u left less → Going s n u less
    going_more {u} {less} p =
        record {
          within = omega (arith, g.within, p.fewer);
          here =
              p.here
              ∙ ap (clocked σ (left - less)) g.here
              ∙ sym (clocked_add σ (n - left) (left - less) s)
              ∙ ap (λ (j : ℕ). clocked σ j s) (let z : n - left + (left - less) ≡ n - less = omega (arith, g.within, p.fewer) in z);
          kept = rw p.here (clocked_kept σ (left - less) t g.kept);
          room =
              omega (
                arith,
                clocked_total σ (left - less) t,
                ap (λ (x : System M). total x.clocks) p.here,
                g.room,
                p.fewer,
              );
        }

    -- no clock is left
    pub going_end : left ≤ 0 → t ≡ clocked σ n s
    going_end h = g.here ∙ ap (λ (j : ℕ). clocked σ j s) (let z : n - left ≡ n = omega arith in z)
