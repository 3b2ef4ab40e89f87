-- What the grant's functions leave, over the flat memory: a span, or whole slots, is a turn of the rules; clocks of a wait
-- and of a disabled device are as many of the definition; and no clock changes the lengths of the buffers.
-- Assumes nothing.
use Prim.Native.Nat.{ℕ, ◌+◌, ◌*◌, ◌-◌, ◌≤◌, ◌<◌}
use native.Mathlib.Omega.{arith}
use native.Mathlib.Nat.{mul-pos}
use mathlib.Core.Path.{◌≡◌, sym, ◌∙◌, ap, subst}
use mathlib.Core.Bool.{true, false}
use mathlib.Core.List.{List}
use Rattle.rules.specs.Parts.{with_slot}
use Rattle.rules.specs.Validity.{total, most64}
use Rattle.rules.specs.Facts.{InRange, Kept}
use Rattle.rules.specs.Slots.{new_slot, slot_of}
use Rattle.rules.specs.Clock.{cpu_clock, after_bytes, kind_at, slot_end}
use Rattle.rules.specs.Buffers.{flat}
use Rattle.rules.specs.World.{System, system, buffers_after, clocked}
use Rattle.rules.specs.Spans.{IsSpan}
use Rattle.rules.specs.Stretches.{elapsed_by}
use Rattle.rules.specs.WholeSlots.{slots_within, slots_counted, slots_passed}
use Rattle.rules.specs.Turns.{Ready, Passed}
use Rattle.rules.specs.Refusals.{grant_refusal}
use Rattle.rules.specs.declared.Port.{Port}
use Rattle.rules.specs.declared.Slot.{Slot}
use Rattle.rules.specs.declared.Clocks.{Clocks}
use Rattle.rules.specs.declared.Core.{Core}
use Rattle.rules.specs.declared.at_once.Span.{Span}
use Rattle.rules.proofs.Validity.{parts_core}
use Rattle.rules.proofs.Stretches.{waits_are_clocks}
use Rattle.rules.proofs.Turns.{ready_run, ready_starts, turns_are_clocks, Going, going_start, going_more}
use Rattle.rules.proofs.WholeSlots.{kept_starts, run_within}
use Rattle.rules.proofs.Calls.{granted, valid_device}
use Rattle.clocking.specs.Answers.{borrowed, room_for, wait_answer, wait_of, counted_within, slots_counted_within, BytesMoved}
use Rattle.std.specs.Prelude.{Some}
use Rattle.clocking.proofs.Counts.{counted_all, slots_counted_all}
use Rattle.clocking.specs.Lent.{AsLong}
use Rattle.clocking.proofs.Buffers.{clocked_lengths}
use Rattle.clocking.proofs.Spans.{valid_span}
use Rattle.clocking.proofs.Stretches.{wait_facts}
use Rattle.zxndma.specs.declared.Device.{Device}
use Rattle.zxndma.specs.Answers.{device, system_of}

-- a system from its parts
abbrev pub made : List ℕ → List ℕ → Core → Clocks → System (List ℕ)
made m l c k = system c (borrowed m l) k

-- ---- turn after turn

-- an accepted grant begins
pub grant_starts : (m l : List ℕ) (c : Core) (k : Clocks) (n : ℕ) → InRange c → grant_refusal flat c (total k) (borrowed m l) n ≡ 0 → Going flat (made m l c k) n (made m l c k) n
grant_starts m l c k n r e =
    let g = granted flat c (total k) (borrowed m l) n e in going_start flat (made m l c k) n (valid_device c k r g.state).core g.room

pub going_lengths : {s t : System (List ℕ)} {n left : ℕ} → Going flat s n t left → AsLong t.world.buffers s.world.buffers
going_lengths {s} {n = n} {left} g =
    subst (λ (u : System (List ℕ)). AsLong u.world.buffers s.world.buffers) (sym g.here) (clocked_lengths (n - left) s)

-- what a turn asks of a progress with clocks left
pub ready : {c : Core} {k : Clocks} {left : ℕ} → Kept c → total k + left ≤ most64 → 0 < left → Ready c k left
ready f g h = record { kept = f; some = h; room = g }

-- whole slots are only found where clocks are left
pub slots_ready : {c : Core} {k : Clocks} {left slots : ℕ} → Kept c → total k + left ≤ most64 → slots ≡ slots_within c left → 0 < slots → Ready c k left
slots_ready {c} {left = left} f g e h =
    let run = run_within c left f (rw e at h) in
    let t = kept_starts c f run.on run.rest in
    let long : 0 < (new_slot c).length = omega (arith, t.some, t.fits) in
    ready f g (omega (arith, mul-pos (rw e at h) long, run.within))

-- after a turn the core is still valid, and the rest has room
pub passed_on : {s t : System (List ℕ)} {before left : ℕ} → Kept s.world.core → total s.clocks + before ≤ most64 → Passed flat s t before left → Kept t.world.core × (total t.clocks + left ≤ most64)
passed_on {s} {before = before} f g p = let on = going_more flat (going_start flat s before f g) p in (on.kept, on.room)

-- ---- one span

module _ {c : Core} {k : Clocks} {left : ℕ} {x : Span} (r : Ready c k left) (q : IsSpan c (room_for c left) x) where
  whole : IsSpan c left x
  whole = valid_span c left (parts_core c r.kept.valid) q

  pub span_left : x.clocks ≤ left
  span_left = whole.within

  pub span_passed_lem :
      {m l m' l' : List ℕ} {k' : Clocks} → borrowed m' l' ≡ buffers_after flat x.moves x.from x.to (borrowed m l)
      → k' ≡ counted_within x.kind x.clocks k
      → Passed flat (made m l c k) (made m' l' x.next k') left (left - x.clocks)
  span_passed_lem {m} {l} b e =
      subst (λ (t : System (List ℕ)). Passed flat (made m l c k) t left (left - x.clocks))
      (λ i. made (sym b i).memory (sym b i).latches x.next (sym (e ∙ counted_all x.kind x.clocks k (omega (arith, r.room, whole.within))) i))
      ((turns_are_clocks flat).span (made m l c k) left x r whole)

-- ---- whole slots

module _ {c : Core} {k : Clocks} {left slots : ℕ} (r : Ready c k left) (e : slots ≡ slots_within c left) (h : 0 < slots) where
  pub slots_fit : {spent : ℕ} {slot : Slot} → slot ≡ new_slot c → spent ≡ slots * slot.length → spent ≤ left
  slots_fit s n = omega (arith, (ready_run r e h).within, n, ap (λ (x : Slot). slots * x.length) s)

  -- the parts of a run, put together
  pub slots_put :
      {m l m' l' : List ℕ} {next : Core} {a b : Port} {k' : Clocks} {slot : Slot} → slot ≡ new_slot c
      → BytesMoved c slots (borrowed m l) (borrowed m' l') a b
      → next ≡ (slot_end (after_bytes slots a b c)).core
      → k' ≡ slots_counted_within slots slot k → made m' l' next k' ≡ slots_passed flat slots (made m l c k)
  slots_put s d x y =
      λ i. made (d.buffers i).memory (d.buffers i).latches
      ((x ∙ (λ j. (slot_end (after_bytes slots (d.a j) (d.b j) c)).core)) i)
      ((y ∙ ap (λ (v : Slot). slots_counted_within slots v k) s ∙ all) i)
    where
      all : slots_counted_within slots (new_slot c) k ≡ slots_counted slots (new_slot c) k
      all = slots_counted_all slots (new_slot c) k (ready_starts r e h).fits (omega (arith, r.room, (ready_run r e h).within))

  pub slots_passed_lem : {m l : List ℕ} {t : System (List ℕ)} {left' : ℕ} → t ≡ slots_passed flat slots (made m l c k) → left' ≡ left - slots * (new_slot c).length → Passed flat (made m l c k) t left left'
  slots_passed_lem {m} {l} {t} x y =
      subst (λ (n : ℕ). Passed flat (made m l c k) t left n) (sym y)
      (subst (λ (u : System (List ℕ)). Passed flat (made m l c k) u left (left - slots * (new_slot c).length)) (sym x)
      ((turns_are_clocks flat).slots (made m l c k) left slots r e h))

-- the clocks that a run leaves
pub slots_left : (c : Core) (left slots : ℕ) {spent : ℕ} {slot : Slot} → slot ≡ new_slot c → spent ≡ slots * slot.length → left - spent ≡ left - slots * (new_slot c).length
slots_left c left slots s n = ap (λ (x : ℕ). left - x) (n ∙ ap (λ (v : Slot). slots * v.length) s)

-- ---- clocks on which nothing happens

module _ (m l : List ℕ) (c : Core) (k : Clocks) (n : ℕ) (e : grant_refusal flat c (total k) (borrowed m l) n ≡ 0) where
  room : total k + n ≤ most64
  room = (granted flat c (total k) (borrowed m l) n e).room

  pub idle_spent : c.enabled ≡ false → {d : Device} → d ≡ device c (counted_within cpu_clock n k) → system_of d m l ≡ clocked flat n (made m l c k)
  idle_spent off x =
      ap (λ (y : Device). system_of y m l) x
      ∙ ap (made m l c) (counted_all cpu_clock n k room)
      ∙ sym ((waits_are_clocks flat).idle n c (borrowed m l) k off)

  pub wait_spent :
      c.enabled ≡ true → {slot : Slot} → wait_of (slot_of c) (Some slot) ≡ wait_answer n c
      → {d : Device} → d ≡ device (with_slot slot c) (counted_within (kind_at slot.elapsed (with_slot slot c)) n k)
      → system_of d m l ≡ clocked flat n (made m l c k)
  wait_spent on f x =
      let t = wait_facts c n f in
      ap (λ (y : Device). system_of y m l) x
      ∙ ap (λ (s : Slot). made m l (with_slot s c) (counted_within (kind_at s.elapsed (with_slot s c)) n k)) t.1
      ∙ ap (made m l (with_slot (elapsed_by n (slot_of c)) c)) (counted_all _ n k room)
      ∙ sym ((waits_are_clocks flat).waits n c (borrowed m l) k on t.0)
