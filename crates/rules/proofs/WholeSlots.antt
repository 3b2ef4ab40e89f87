-- Whole slots are as many clocks of the definition: first one, its bus time and then its wait; then k of them, by induction,
-- since below the block's end a slot begins as the last one did; then the run that a budget has room for.
-- Assumes nothing.
use Prim.Native.Nat.{ℕ, zero, suc, ◌+◌, ◌*◌, ◌-◌, ◌/◌, ◌≤◌, ◌<◌}
use native.Mathlib.Omega.{arith}
use native.Mathlib.Nat.{add_assoc, suc-mul, one-mul, le_refl, div-mul-le_self, mul-le-mul_right, le_trans}
use mathlib.Core.Path.{◌≡◌, refl, sym, ◌∙◌, ap}
use mathlib.Core.Bool.{Bool, true, false}
use lib.Dec.{ltb}
use borrow.Author.Tests.{eq-eqb, ne_eqb, le-leb, lt-leb, lt-ltb, le-ltb, leb-false, ltb-true, ltb-false, eqb-true}
use Rattle.rules.specs.Choice.{pick}
use Rattle.rules.specs.Parts.{with_counter, with_block, with_slot}
use Rattle.rules.specs.Blocks.{block_count, bytes_left, finished}
use Rattle.rules.specs.Ports.{stepped_by}
use Rattle.rules.specs.Slots.{no_slot, new_slot}
use Rattle.rules.specs.Facts.{Kept, SlotLength, bus_time, prescaled, ValidSlot, resting, running}
use Rattle.rules.specs.Clock.{bus_clock, counted_by, Ending, moved, with_elapsed, moves_at, moved_at, wait_kind, kind_at, slot_end, clock_end, slot_clock}
use Rattle.rules.specs.Buffers.{Store, Buffers, source, destination, transfer}
use Rattle.rules.specs.World.{System, system, buffers_after, clocked}
use Rattle.rules.specs.WholeSlots.{moved_by, slots_counted, transferred, slots_passed, SlotsAreClocks, at_slot_start, slots_within}
use Rattle.rules.specs.declared.Block.{Block}
use Rattle.rules.specs.declared.Slot.{Slot}
use Rattle.rules.specs.declared.Clocks.{Clocks}
use Rattle.rules.specs.declared.Core.{Core}
use Rattle.rules.proofs.Choice.{pick_true, pick_false, pick_cases, either, all_true}
use Rattle.rules.proofs.Blocks.{count_most}
use Rattle.rules.proofs.Slots.{unmoved_first}
use Rattle.rules.proofs.Steady.{kept_steady, kept_slot, kept_progress}
use Rattle.rules.proofs.Clock.{new_length, new_bus}
use Rattle.rules.proofs.World.{clocked_add}
use Rattle.rules.proofs.Spans.{counted_none, span_clocked}
use Rattle.rules.proofs.Stretches.{clock_first, clock_later, Runs, Part, to_move, behind, stretch_span, least_facts}

-- ---- the two clocks of a slot on which something happens

-- the clock of the move, within a longer slot
move_next : (c : Core) → c.slot.bus < c.slot.length → (slot_clock c.slot.bus c).next ≡ with_elapsed c.slot.bus (moved c)
unfolding slot_clock moved_at clock_end
move_next c h =
    ap (λ (d : Core). (clock_end c.slot.bus d).core) (pick_true _ _ _ (eq-eqb c.slot.bus c.slot.bus refl))
    ∙ ap (λ (x : Ending). x.core) (pick_true _ _ _ (lt-ltb c.slot.bus c.slot.length h))

-- the clock of the move, the slot's last
move_end : (c : Core) → c.slot.length ≤ c.slot.bus → (slot_clock c.slot.bus c).next ≡ (slot_end (moved c)).core
unfolding slot_clock moved_at clock_end
move_end c h =
    ap (λ (d : Core). (clock_end c.slot.bus d).core) (pick_true _ _ _ (eq-eqb c.slot.bus c.slot.bus refl))
    ∙ ap (λ (x : Ending). x.core) (pick_false _ _ _ (le-ltb c.slot.bus c.slot.length h))

-- the last clock of a wait
wait_end : (c : Core) → c.slot.bus < c.slot.length → (slot_clock c.slot.length c).next ≡ (slot_end c).core
unfolding slot_clock moved_at clock_end
wait_end c h =
    ap (λ (d : Core). (clock_end c.slot.length d).core) (pick_false _ _ _ (ne_eqb c.slot.length c.slot.bus (λ e. omega arith)))
    ∙ ap (λ (x : Ending). x.core) (pick_false _ _ _ (le-ltb c.slot.length c.slot.length (le_refl _)))

bus_kind : (c : Core) → kind_at c.slot.bus c ≡ bus_clock
unfolding kind_at
bus_kind c = pick_true _ _ _ (le-leb c.slot.bus c.slot.bus (le_refl _))

wait_kind_lem : (c : Core) → c.slot.bus < c.slot.length → kind_at c.slot.length c ≡ wait_kind c.slot.burst
unfolding kind_at
wait_kind_lem c h = pick_false _ _ _ (lt-leb c.slot.length c.slot.bus h)

-- ---- one slot

-- a core at the start of a slot
pub record Starts (c : Core) : Type 0 where
  pub on : c.enabled ≡ true
  pub rest : c.slot.elapsed ≡ 0
  pub some : 0 < (new_slot c).bus
  pub fits : (new_slot c).bus ≤ (new_slot c).length

module _ {M : Type 0} (σ : Store M) (s : System M) where
  -- a stretch of a slot as clocks; m is the number of its last clock
  stretch_clocked :
      {d : Core} {n m : ℕ} → Runs s.world.core d → s.world.core.slot.elapsed + n ≡ m
      → Part s.world.core.slot.elapsed n d.slot.bus → m ≤ d.slot.length → 0 < n
      → clocked σ n s ≡ system (slot_clock m d).next (buffers_after σ (moves_at m d) (source s.world.core) (destination s.world.core) s.world.buffers) (counted_by (kind_at m d) n s.clocks)
  stretch_clocked {d} {n} r e p h l =
      span_clocked σ s (stretch_span r (record { part = p; goes_on = λ i o. omega arith }) n l (le_refl n))
      ∙ (λ i.
      system (slot_clock (e i) d).next
      (buffers_after σ (moves_at (e i) d) (source s.world.core) (destination s.world.core) s.world.buffers)
      (counted_by (kind_at (e i) d) n s.clocks))

starts_runs : (c : Core) → Starts c → Runs c (with_slot (new_slot c) c)
unfolding source destination
starts_runs c t =
    record {
      on = t.on;
      running = t.on;
      first = clock_first c t.on t.rest;
      source = refl;
      destination = refl;
    }

module _ {M : Type 0} (σ : Store M) (c : Core) (b : Buffers M) (k : Clocks) (t : Starts c) where
  -- the bus time: the byte moves on its last clock
  bus_part : clocked σ (new_slot c).bus (system c b k) ≡ system (slot_clock (new_slot c).bus (with_slot (new_slot c) c)).next (transfer σ (source c) (destination c) b) (counted_by bus_clock (new_slot c).bus k)
  unfolding buffers_after
  bus_part =
      stretch_clocked σ (system c b k) (starts_runs c t) (omega (arith, t.rest)) (to_move (omega (arith, t.rest))) t.fits t.some
      ∙ (λ i.
      system (slot_clock (new_slot c).bus (with_slot (new_slot c) c)).next
      (pick_true _ (transfer σ (source c) (destination c) b) b (eq-eqb (new_slot c).bus (new_slot c).bus refl) i)
      (counted_by (bus_kind (with_slot (new_slot c) c) i) (new_slot c).bus k))

-- the wait, from the move to the slot's end
module _ {M : Type 0} (σ : Store M) (c : Core) (b : Buffers M) (k : Clocks) (on : c.enabled ≡ true) (some : 0 < c.slot.bus) (longer : c.slot.bus < c.slot.length) (past : c.slot.elapsed ≡ c.slot.bus) where
  waits : Runs c c
  waits = record { on = on; running = on; first = clock_later c on (λ e. omega arith); source = refl; destination = refl }

  wait_part : clocked σ (c.slot.length - c.slot.bus) (system c b k) ≡ system (slot_end c).core b (counted_by (wait_kind c.slot.burst) (c.slot.length - c.slot.bus) k)
  unfolding buffers_after
  wait_part =
      stretch_clocked σ (system c b k) {m = c.slot.length} waits (omega arith) (behind (omega arith)) (le_refl _) (omega arith)
      ∙ (λ i.
      system (wait_end c longer i)
      (pick_false _ (transfer σ (source c) (destination c) b) b (ne_eqb c.slot.length c.slot.bus (λ e. omega arith)) i)
      (counted_by (wait_kind_lem c longer i) (c.slot.length - c.slot.bus) k))

-- the slot of an end is no matter
end_slot : (c : Core) (n : ℕ) → (slot_end (with_elapsed n (moved (with_slot (new_slot c) c)))).core ≡ (slot_end (moved c)).core
unfolding slot_end
end_slot c n = refl

end_begun : (c : Core) → (slot_end (moved (with_slot (new_slot c) c))).core ≡ (slot_end (moved c)).core
unfolding slot_end
end_begun c = refl

module _ {M : Type 0} (σ : Store M) (c : Core) (b : Buffers M) (k : Clocks) (t : Starts c) where
  -- the slot's wait, the buffers behind the move, and the counts of the bus time and of the slot
  abbrev wait : ℕ
  wait = (new_slot c).length - (new_slot c).bus

  abbrev given : Buffers M
  given = transfer σ (source c) (destination c) b

  abbrev used : Clocks
  used = counted_by bus_clock (new_slot c).bus k

  abbrev spent : Clocks
  spent = counted_by (wait_kind c.control.burst) wait used

  -- a slot with a wait
  slot_waits : (new_slot c).bus < (new_slot c).length → clocked σ (new_slot c).length (system c b k) ≡ system (slot_end (moved c)).core given spent
  slot_waits h =
      ap (λ (n : ℕ). clocked σ n (system c b k)) (let z : (new_slot c).length ≡ (new_slot c).bus + wait = omega arith in z)
      ∙ clocked_add σ (new_slot c).bus wait (system c b k)
      ∙ ap (clocked σ wait) (bus_part σ c b k t ∙ ap (λ (d : Core). system d given used) (move_next (with_slot (new_slot c) c) h))
      ∙ wait_part σ (with_elapsed (new_slot c).bus (moved (with_slot (new_slot c) c))) given used t.on t.some h refl
      ∙ ap (λ (d : Core). system d given spent) (end_slot c _)

  -- a slot that ends with its bus time
  slot_moves : (new_slot c).length ≤ (new_slot c).bus → clocked σ (new_slot c).length (system c b k) ≡ system (slot_end (moved c)).core given spent
  slot_moves h =
      ap (λ (n : ℕ). clocked σ n (system c b k)) (let z : (new_slot c).length ≡ (new_slot c).bus = omega (arith, t.fits) in z)
      ∙ bus_part σ c b k t
      ∙ (λ i. system ((move_end (with_slot (new_slot c) c) h ∙ end_begun c) i) given (none i))
    where
      none : used ≡ spent
      none =
          sym (counted_none (wait_kind c.control.burst) used)
          ∙ ap (λ (n : ℕ). counted_by (wait_kind c.control.burst) n used) (let z : 0 ≡ wait = omega arith in z)

  -- one slot: its length in clocks moves one byte
  slot_clocked : clocked σ (new_slot c).length (system c b k) ≡ system (slot_end (moved c)).core (transfer σ (source c) (destination c) b) (slots_counted 1 (new_slot c) k)
  slot_clocked =
      either (ltb (new_slot c).bus (new_slot c).length)
      (λ e. slot_waits (ltb-true (new_slot c).bus (new_slot c).length e))
      (λ e. slot_moves (ltb-false (new_slot c).bus (new_slot c).length e))
      ∙ (λ i. system (slot_end (moved c)).core given
      (counted_by (wait_kind c.control.burst) (sym (one-mul wait) i) (counted_by bus_clock (sym (one-mul (new_slot c).bus) i) k)))

-- ---- k slots

-- the clocks of one slot more
counted_again : (burst : Bool) (j w b : ℕ) (x : Clocks) → counted_by (wait_kind burst) (1 * w) (counted_by bus_clock (1 * b) (counted_by (wait_kind burst) (j * w) (counted_by bus_clock (j * b) x))) ≡ counted_by (wait_kind burst) (suc j * w) (counted_by bus_clock (suc j * b) x)
unfolding pick
counted_again true j w b x = simp (suc-mul, one-mul, add_assoc)
counted_again false j w b x = simp (suc-mul, one-mul, add_assoc)

moved_more : (j : ℕ) (c : Core) → moved (moved_by j c) ≡ moved_by (suc j) c
unfolding stepped_by
moved_more j c =
    ap (λ (n : ℕ). with_block (with_counter n c.block) (moved_by (suc j) c)) (let z : c.block.counter + j + 1 ≡ c.block.counter + suc j = omega arith in z)

moved_one : (c : Core) → moved c ≡ moved_by 1 c
unfolding stepped_by
moved_one c = refl

module _ {M : Type 0} (σ : Store M) (c : Core) (b : Buffers M) (k : Clocks) (t : Starts c) (rest : c.slot ≡ no_slot) where
  below : (j : ℕ) → c.block.counter + j < block_count c.block → finished (moved_by j c).block ≡ false
  unfolding finished block_count
  below j h = lt-leb _ _ h

  starts_moved : (j : ℕ) → Starts (moved_by j c)
  starts_moved j = record { on = t.on; rest = t.rest; some = t.some; fits = t.fits }

  -- below the block's end a slot begins as the last one did
  end_below : (j : ℕ) → c.block.counter + j < block_count c.block → (slot_end (moved_by j c)).core ≡ moved_by j c
  unfolding slot_end
  end_below j h = ap (λ (x : Ending). x.core) (pick_false _ _ _ (below j h)) ∙ (λ i. with_slot (sym rest i) (moved_by j c))

  slots_clocked : (j : ℕ) → c.block.counter + suc j ≤ block_count c.block → clocked σ (suc j * (new_slot c).length) (system c b k) ≡ slots_passed σ (suc j) (system c b k)
  unfolding transferred source destination stepped_by
  slots_clocked zero h =
      ap (λ (n : ℕ). clocked σ n (system c b k)) (one-mul (new_slot c).length)
      ∙ slot_clocked σ c b k t
      ∙ ap (λ (d : Core). system (slot_end d).core (transferred σ 1 c b) (slots_counted 1 (new_slot c) k)) (moved_one c)
  slots_clocked (suc j) h =
      ap (λ (n : ℕ). clocked σ n (system c b k)) (suc-mul (suc j) (new_slot c).length)
      ∙ clocked_add σ (suc j * (new_slot c).length) (new_slot c).length (system c b k)
      ∙ ap (clocked σ (new_slot c).length) (slots_clocked j (omega arith) ∙ ap (λ (d : Core). system d (transferred σ (suc j) c b) (slots_counted (suc j) (new_slot c) k)) (end_below (suc j) (omega arith)))
      ∙ slot_clocked σ (moved_by (suc j) c) (transferred σ (suc j) c b) (slots_counted (suc j) (new_slot c) k) (starts_moved (suc j))
      ∙ (λ i. system (slot_end (moved_more (suc j) c i)).core (transferred σ (suc (suc j)) c b)
      (counted_again c.control.burst (suc j) ((new_slot c).length - (new_slot c).bus) (new_slot c).bus k i))

-- ---- the start of a slot of a valid core

length_fits : (s : Slot) → SlotLength s → s.bus ≤ s.length
length_fits s (bus_time e) = omega arith
length_fits s (prescaled l m e b) = b

pub kept_starts : (c : Core) → Kept c → c.enabled ≡ true → c.slot.elapsed ≡ 0 → Starts c
kept_starts c k on e =
    let s = kept_steady c k in
    record {
      on = on;
      rest = e;
      some = (let b = (new_bus c s).least in omega arith);
      fits = length_fits (new_slot c) (new_length c s.prescaler);
    }

resting_slot_lem : (t : Bool) (s : Slot) → ValidSlot t s → s.elapsed ≡ 0 → s ≡ no_slot
resting_slot_lem t s (resting r) e = λ i. record { elapsed = r.elapsed i; bus = r.bus i; length = r.length i; burst = r.burst i }
resting_slot_lem t s (running on r) e = absurd (omega (arith, r.elapsed))

kept_rest : (c : Core) → Kept c → c.slot.elapsed ≡ 0 → c.slot ≡ no_slot
kept_rest c k e = resting_slot_lem _ _ (kept_slot c k) e

-- ---- the run that a budget has room for

-- k slots of a core at the start of one, within a budget and up to the block's end
pub record IsRun (c : Core) (budget k : ℕ) : Type 0 where
  pub on : c.enabled ≡ true
  pub rest : c.slot.elapsed ≡ 0
  pub within : k * (new_slot c).length ≤ budget
  pub block : c.block.counter + k ≤ block_count c.block

-- what the tests say
pub record AtSlotStart (c : Core) : Type 0 where
  pub on : c.enabled ≡ true
  pub rest : c.slot.elapsed ≡ 0
  pub length : 0 < (new_slot c).length

pub at_slot_start_lem : (c : Core) → at_slot_start c ≡ true → AtSlotStart c
unfolding at_slot_start
at_slot_start_lem c e =
    let h = all_true _ e in
    record {
      on = h.0;
      rest = eqb-true c.slot.elapsed 0 h.1.0;
      length = ltb-true 0 (new_slot c).length h.1.1.0;
    }

-- of an unfinished block so many bytes are left
left_block : (b : Block) {n : ℕ} → b.length < 65536 → finished b ≡ false → n ≤ bytes_left b → b.counter + n ≤ block_count b
unfolding finished
left_block b l u h = omega (arith, h, count_most b l, leb-false (block_count b) b.counter u)

pub run_within : (c : Core) (budget : ℕ) → Kept c → 0 < slots_within c budget → IsRun c budget (slots_within c budget)
unfolding slots_within
run_within c budget k =
    pick_cases (λ (n : ℕ). 0 < n → IsRun c budget n) (at_slot_start c) _ _
    (λ e p.
    let h = at_slot_start_lem c e in
    let l = least_facts (budget / (new_slot c).length) (bytes_left c.block) in
    record {
      on = h.on;
      rest = h.rest;
      within = le_trans (mul-le-mul_right (new_slot c).length l.first) (div-mul-le_self budget (new_slot c).length);
      block = left_block c.block k.range.length (kept_progress c k h.on (unmoved_first c.slot h.rest)) l.second;
    })
    (λ e p. absurd (omega arith))

-- a run is its clocks, over any memory
pub slots_are_clocks : {M : Type 0} (σ : Store M) → SlotsAreClocks σ
slots_are_clocks σ = record { slots = slots }
  where
    slots : (s : System _) (k : ℕ) → Kept s.world.core → s.world.core.enabled ≡ true → s.world.core.slot.elapsed ≡ 0 → 0 < k → s.world.core.block.counter + k ≤ block_count s.world.core.block → clocked σ (k * (new_slot s.world.core).length) s ≡ slots_passed σ k s
    slots s zero h on e l b = absurd (omega arith)
    slots s (suc j) h on e l b = slots_clocked σ s.world.core s.world.buffers s.clocks (kept_starts s.world.core h on e) (kept_rest s.world.core h e) j b
