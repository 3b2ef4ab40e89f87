-- The recheck hits nowhere. A clock, of whatever core, leaves one at which it does not: within a slot some clock has elapsed,
-- and a slot's end looks at the block itself. So it could hit on the first clock of a grant alone, and there the core is
-- valid. A write is accepted in a wait, when some clock has elapsed, or of a disabled device, which Enable alone enables, with
-- a look at the block. Where the recheck does not hit, the two clocks are one, and with them grants, runs and histories.
-- Assumes nothing.
use Prim.Native.Nat.{ℕ, zero, suc, ◌+◌, ◌<◌}
use native.Mathlib.Omega.{arith}
use mathlib.Core.Path.{◌≡◌, refl, sym, ◌∙◌, ap}
use mathlib.Core.Bool.{Bool, true, false, not}
use mathlib.Core.Option.{none}
use mathlib.Core.List.{List, [], ◌∷◌}
use lib.Dec.{eqb, ltb}
use borrow.Author.Tests.{eqb-true, eqb-false, eq-eqb, ne_eqb, ltb-true}
use Rattle.rules.specs.Choice.{every}
use Rattle.rules.specs.Parts.{with_slot}
use Rattle.rules.specs.Blocks.{block_count, finished}
use Rattle.rules.specs.Slots.{new_slot, bus_held}
use Rattle.rules.specs.PowerOn.{power_on}
use Rattle.rules.specs.Validity.{valid_core, valid, total, valid_if}
use Rattle.rules.specs.Facts.{ValidParts}
use Rattle.rules.specs.Commands.{enable, reading_command, command}
use Rattle.rules.specs.Registers.{wr3, register, parameter, carried_out, in_mode, written, effect_over, carried_out_as}
use Rattle.rules.specs.Readback.{Byte, read_byte}
use Rattle.rules.specs.Steering.{bits}
use Rattle.rules.specs.Clock.{cpu_clock, Clock, clock, stopped, moved_at, Ending, slot_end, clock_end, slot_clock, begun, clock_of}
use Rattle.rules.specs.Buffers.{Store}
use Rattle.rules.specs.World.{System, clocked}
use Rattle.rules.specs.Calls.{Answer, grant, write_reply, read_reply, speed_reply, read_reply_over, speed_reply_over, grant_over, write_reply_over}
use Rattle.rules.specs.Entries.{Outside, Entry, port_write, port_read, speed_call, clock_grant, other_grant, outside_change, beside_buffers, enter, run_by, run, system_at_power_on, run_over}
use Rattle.rules.specs.History.{Past, history_by, history}
use Rattle.rules.specs.Recheck.{first_clock_with_recheck, clock_with_recheck, recheck_hits, RecheckNeverHits, in_wait, RecheckNearest, RecheckUnseen}
use Rattle.rules.specs.Opened.{opened}
use Rattle.rules.specs.declared.Clocks.{Clocks}
use Rattle.rules.specs.declared.Core.{Core}
use Rattle.rules.proofs.Choice.{clash, pick_true, pick_false, pick_cases, pick_both, ◌⨾◌, below, table, both_ways, not_of_false, either, all_true, true_all, every_stop, every_stop_later}
use Rattle.rules.proofs.Blocks.{reloaded_unfinished}
use Rattle.rules.proofs.Validity.{core_parts, slot_facts, progress_facts}
use Rattle.rules.proofs.Slots.{unmoved_first, free_settled}
use Rattle.rules.proofs.Stretches.{clock_first, clock_later}
use Rattle.rules.proofs.World.{clocked_zero, clocked_suc}
use Rattle.rules.proofs.Calls.{access, unless_core, invalid_access, invalid_speed, invalid_lent, valid_parts}
use Rattle.rules.proofs.Along.{runs_agree, histories_agree}
use Rattle.rules.proofs.Alike.{Agrees, grant_same, entry_same, note_same}

-- ---- where it does not hit

-- the recheck does not hit
abbrev Unhit : Core → Type 0
Unhit c = recheck_hits c ≡ false

off_unhit : (c : Core) → c.enabled ≡ false → Unhit c
unfolding recheck_hits
off_unhit c e = every_stop _ _ e

inside_unhit : (c : Core) → (c.slot.elapsed ≡ 0 → ⊥) → Unhit c
unfolding recheck_hits
inside_unhit c e = every_stop_later _ _ (every_stop _ _ (ne_eqb _ _ e))

unfinished_unhit : (c : Core) → finished c.block ≡ false → Unhit c
unfolding recheck_hits
unfinished_unhit c e = every_stop_later _ _ (every_stop_later _ _ (every_stop _ _ e))

-- not where the block is unfinished as a slot begins
start_unhit : (c : Core) → (c.enabled ≡ true → c.slot.elapsed ≡ 0 → finished c.block ≡ false) → Unhit c
start_unhit c f =
    either c.enabled
    (λ on. either (eqb c.slot.elapsed 0) (λ z. unfinished_unhit c (f on (eqb-true _ _ z))) (λ z. inside_unhit c (eqb-false _ _ z)))
    (off_unhit c)

-- and of a valid core this is so
parts_unhit : (c : Core) → ValidParts c → Unhit c
parts_unhit c v = start_unhit c (λ on e. progress_facts _ _ _ v.progress on (unmoved_first c.slot e))

valid_unhit : (c : Core) → valid_core c ≡ true → Unhit c
valid_unhit c v = parts_unhit c (core_parts c v)

-- the slot's end has looked at the block itself: unfinished, begun again with some bytes, or disabled
end_unhit : (c : Core) → Unhit (slot_end c).core
unfolding slot_end
end_unhit c =
    pick_cases (λ (x : Ending). Unhit x.core) _ _ _
    (λ e.
    pick_cases (λ (x : Ending). Unhit x.core) _ _ _
    (λ (d : every (c.control.restart ∷ ltb 0 (block_count c.block) ∷ []) ≡ true).
    unfinished_unhit _ (reloaded_unfinished c.block (ltb-true _ _ (all_true _ d).1.0)))
    (λ d. off_unhit _ refl))
    (λ e. unfinished_unhit _ e)

-- within a slot some clock has elapsed
clock_end_unhit : (n : ℕ) (c : Core) → 0 < n → Unhit (clock_end n c).core
unfolding clock_end
clock_end_unhit n c h =
    pick_cases (λ (x : Ending). Unhit x.core) _ _ _
    (λ e. inside_unhit _ (λ z. omega (arith, z, h)))
    (λ e. end_unhit c)

clock_unhit : (c : Core) → Unhit (clock_of c).next
unfolding clock_of slot_clock
clock_unhit c =
    pick_cases (λ (x : Clock). Unhit x.next) _ _ _
    (λ on. clock_end_unhit (c.slot.elapsed + 1) (moved_at (c.slot.elapsed + 1) (begun c)) (omega arith))
    (off_unhit c)

clocked_unhit : {M : Type 0} (σ : Store M) (s : System M) (n : ℕ) → Unhit s.world.core → Unhit (clocked σ n s).world.core
clocked_unhit σ s zero h = ap (λ (t : System _). recheck_hits t.world.core) (clocked_zero σ s) ∙ h
clocked_unhit σ s (suc n) h = ap (λ (t : System _). recheck_hits t.world.core) (clocked_suc σ n s) ∙ clock_unhit (clocked σ n s).world.core

-- ---- an accepted write

-- disabled, or within a slot
abbrev Away : Core → Type 0
Away c = c.enabled ≡ true → c.slot.elapsed ≡ 0 → ⊥

away_unhit : (c : Core) → Away c → Unhit c
away_unhit c f = start_unhit c (λ on z. absurd (f on z))

-- so is a valid core while the bus is free
free_away : (c : Core) → ValidParts c → bus_held c ≡ false → Away c
free_away c v e on z = free_settled c (slot_facts _ _ v.slot) e on (unmoved_first c.slot z)

module _ (c : Core) (f : Away c) where
  enable_unhit : Unhit (enable c)
  unfolding enable
  enable_unhit =
      pick_cases Unhit _ _ _ (λ on. away_unhit c f)
      (λ e. pick_cases Unhit _ _ _ (λ d. away_unhit _ f) (λ d. unfinished_unhit _ d))

  command_unhit : (byte : ℕ) → Unhit (command byte c)
  unfolding command reading_command
  command_unhit byte =
      table Unhit
      (off_unhit _ refl
      ⨾ away_unhit _ f
      ⨾ away_unhit _ f
      ⨾ away_unhit _ f
      ⨾ away_unhit _ f
      ⨾ enable_unhit
      ⨾ off_unhit _ refl
      ⨾ below (table Unhit (away_unhit _ f ⨾ away_unhit _ f ⨾ away_unhit _ f ⨾ below (away_unhit _ f))))

  register_unhit : (number byte : ℕ) → Unhit (register number byte c)
  unfolding register wr3
  register_unhit number byte =
      table Unhit
      (away_unhit _ f
      ⨾ away_unhit _ f
      ⨾ away_unhit _ f
      ⨾ pick_both Unhit _ _ _ enable_unhit (off_unhit _ refl)
      ⨾ away_unhit _ f
      ⨾ away_unhit _ f
      ⨾ command_unhit byte
      ⨾ below (away_unhit _ f))

  parameter_unhit : (which byte : ℕ) → Unhit (parameter which byte c)
  unfolding parameter
  parameter_unhit which byte =
      table Unhit
      (away_unhit _ f ⨾ away_unhit _ f ⨾ away_unhit _ f ⨾ away_unhit _ f ⨾ away_unhit _ f
      ⨾ away_unhit _ f ⨾ away_unhit _ f ⨾ away_unhit _ f ⨾ away_unhit _ f ⨾ below (away_unhit _ f))

  carried_unhit : (byte : ℕ) → Unhit (carried_out byte c)
  unfolding carried_out_as
  carried_unhit byte = pick_both Unhit _ _ _ (parameter_unhit _ byte) (register_unhit _ byte)

written_unhit : (port byte : ℕ) (c : Core) → Away c → Unhit (written port byte c)
unfolding effect_over recheck_hits
written_unhit port byte c f = carried_unhit (in_mode port c) f byte

-- ---- a list of calls

read_unhit : (c : Core) → Unhit c → Unhit (read_byte c).core
unfolding read_byte recheck_hits
read_unhit c h = table (λ (b : Byte). Unhit b.core) (h ⨾ h ⨾ below h)

write_unhit : (c : Core) (k : Clocks) (port byte : ℕ) → Unhit c → Unhit (write_reply c k port byte).core
unfolding write_reply_over
write_unhit c k port byte h =
    unless_core Unhit _ _ _ _ c k
    (λ e. let a = access c (total k) port e in written_unhit port byte c (free_away c (valid_parts c (total k) a.state) a.free))
    h

reply_unhit : (c : Core) (k : Clocks) (port : ℕ) → Unhit c → Unhit (read_reply c k port).core
unfolding read_reply_over
reply_unhit c k port h = unless_core Unhit _ _ _ _ c k (λ e. read_unhit c h) h

speed_unhit : (c : Core) (k : Clocks) (code : ℕ) → Unhit c → Unhit (speed_reply c k code).core
unfolding speed_reply_over recheck_hits
speed_unhit c k code h = unless_core Unhit _ _ _ _ c k (λ e. h) h

grant_unhit : {M : Type 0} (σ : Store M) (s : System M) (n : ℕ) → Unhit s.world.core → Unhit (grant σ s n).system.world.core
unfolding grant_over
grant_unhit σ s n h =
    pick_both (λ (a : Answer _). Unhit a.system.world.core) _ _ _ (clocked_unhit σ s n h) h

module _ {M C : Type 0} (σ : Store M) (ω : Outside M C) where
  entry_unhit : (e : Entry σ C) (s : System M) → Unhit s.world.core → Unhit (enter σ ω e s).system.world.core
  entry_unhit (port_write port byte) s h = write_unhit s.world.core s.clocks port byte h
  entry_unhit (port_read port) s h = reply_unhit s.world.core s.clocks port h
  entry_unhit (speed_call code) s h = speed_unhit s.world.core s.clocks code h
  entry_unhit (clock_grant n) s h = grant_unhit σ s n h
  entry_unhit (other_grant n b wrong) s h = grant_unhit σ (beside_buffers b s) n h
  entry_unhit (outside_change x) s h = h

  run_unhit : (es : List (Entry σ C)) (s : System M) → Unhit s.world.core → Unhit (run σ ω es s).system.world.core
  unfolding run_over
  run_unhit [] s h = h
  run_unhit (e ∷ es) s h = run_unhit es (enter σ ω e s).system (entry_unhit e s h)

-- ---- the two clocks

off_same : (c : Core) → c.enabled ≡ false → clock_with_recheck c ≡ clock_of c
unfolding clock_with_recheck clock_of
off_same c e = pick_false _ _ _ e ∙ sym (pick_false _ _ _ e)

first_same : (c : Core) → c.enabled ≡ true → c.slot.elapsed ≡ 0 → finished c.block ≡ false → clock_with_recheck c ≡ clock_of c
unfolding clock_with_recheck first_clock_with_recheck
first_same c on z u =
    pick_true _ _ _ on
    ∙ pick_true _ _ _ (eq-eqb _ _ z)
    ∙ pick_false _ _ _ u
    ∙ ap (λ (n : ℕ). slot_clock (n + 1) (with_slot (new_slot c) c)) (sym z)
    ∙ sym (clock_first c on z)

later_same : (c : Core) → c.enabled ≡ true → (c.slot.elapsed ≡ 0 → ⊥) → clock_with_recheck c ≡ clock_of c
unfolding clock_with_recheck
later_same c on z = pick_true _ _ _ on ∙ pick_false _ _ _ (ne_eqb _ _ z) ∙ sym (clock_later c on z)

clocks_same : (c : Core) → Unhit c → clock_with_recheck c ≡ clock_of c
unfolding recheck_hits
clocks_same c h =
    either c.enabled
    (λ on.
    either (eqb c.slot.elapsed 0)
    (λ z.
    either (finished c.block)
    (λ d. clash (sym h ∙ true_all (c.enabled ∷ eqb c.slot.elapsed 0 ∷ finished c.block ∷ []) (on, (z, (d, tt)))))
    (first_same c on (eqb-true _ _ z)))
    (λ z. later_same c on (eqb-false _ _ z)))
    (off_same c)

clock_hit : (c : Core) → recheck_hits c ≡ true → clock_with_recheck c ≡ clock cpu_clock false none (stopped c)
unfolding recheck_hits clock_with_recheck first_clock_with_recheck
clock_hit c h =
    let t = all_true _ h in
    pick_true _ _ _ t.0 ∙ pick_true _ _ _ t.1.0 ∙ pick_true _ _ _ t.1.1.0

-- ---- a core at which it hits is not valid

hit_invalid : (c : Core) (sum : ℕ) → recheck_hits c ≡ true → not (valid c sum) ≡ true
unfolding valid_if
hit_invalid c sum h =
    not_of_false _ (every_stop _ _ (either (valid_core c) (λ v. clash (sym (valid_unhit c v) ∙ h)) (λ v. v)))

-- ---- runs

-- the tests are one, and the clocks agree of a valid core
agrees : (c : Core) → Agrees valid_core clock_with_recheck Unhit clocks_same (λ c h. clock_unhit c) c
agrees c = record { tests = refl; clocks = valid_unhit c }

module _ {M C : Type 0} (σ : Store M) (ω : Outside M C) where
  runs_same : (es : List (Entry σ C)) (s : System M) → run_by clock_with_recheck σ ω es s ≡ run σ ω es s
  runs_same es s =
      runs_agree σ ω (λ es. Unit {0}) bits bits clock_of clock_with_recheck (λ s. Unit {0})
      (λ e es s q p. (entry_same _ _ _ _ _ σ ω e s (agrees s.world.core), tt, tt)) es s tt tt

  histories_same : (es : List (Entry σ C)) (p : Past M) → history_by valid_core clock_with_recheck σ ω es p ≡ history σ ω es p
  histories_same es p =
      histories_agree σ ω (λ es. Unit {0}) valid_core valid_core clock_of clock_with_recheck (λ p. Unit {0})
      (λ e es p q u. (note_same _ _ _ _ _ σ ω e p (agrees p.world.core), tt, tt)) es p tt tt

-- ---- the claims

pub recheck_never_hits : RecheckNeverHits
recheck_never_hits =
    record {
      valid = valid_unhit;
      granted = λ σ s n v. clocked_unhit σ s n (valid_unhit s.world.core v);
      clock = clock_unhit;
      reached =
          λ M C σ ω m l es n.
          clocked_unhit σ (run σ ω es (system_at_power_on m l)).system n
          (run_unhit σ ω es (system_at_power_on m l) (off_unhit power_on refl));
      kept = λ σ ω es s n h. clocked_unhit σ (run σ ω es s).system n (run_unhit σ ω es s h);
      access = λ c sum port h. invalid_access c sum port (hit_invalid c sum h);
      speed = λ c sum code h. invalid_speed c sum code (hit_invalid c sum h);
      grant = λ c sum memory latches n h. invalid_lent c sum memory latches n (hit_invalid c sum h);
    }

pub recheck_nearest : RecheckNearest
unfolding opened recheck_hits clock_with_recheck first_clock_with_recheck
recheck_nearest =
    record {
      enable = refl;
      valid = both_ways (λ (restart : Bool). valid_core (in_wait 31 restart) ≡ true) refl refl;
      slot_end = both_ways (λ (restart : Bool). Unhit (clock_of (in_wait 31 restart)).next) refl refl;
      within = both_ways (λ (restart : Bool). clock_with_recheck (in_wait 30 restart) ≡ clock_of (in_wait 30 restart)) refl refl;
      hits = refl;
      kind = refl;
      access = λ sum port. refl;
      grant = λ sum memory latches n. refl;
    }

pub recheck_unseen : RecheckUnseen
recheck_unseen = record { clock = clocks_same; hit = clock_hit; grants = λ σ s n. grant_same _ _ _ _ _ σ s n (agrees s.world.core); runs = runs_same; histories = histories_same }
