-- Counted over all 256 bytes; row by row of the table; a byte that selects no register passes all seven tests by, and is not
-- BB either.
-- Assumes nothing.
use Prim.Native.Nat.{ℕ, ◌%◌, ◌≤◌, ◌<◌}
use native.Mathlib.Omega.{arith}
use mathlib.Core.Path.{◌≡◌, refl, sym, ◌∙◌, ap}
use mathlib.Core.Bool.{Bool, true, false}
use mathlib.Core.List.{List, ◌∷◌}
use lib.Dec.{eqb}
use borrow.Author.Tests.{ne_eqb, eqb-true, eqb-false, eq-eqb, ltb-true, lt-ltb, le-ltb, leb-true, le-leb, not-true}
use Rattle.rules.specs.Choice.{pick, first_of}
use Rattle.rules.specs.Parts.{with_pending}
use Rattle.rules.specs.Selection.{selects}
use Rattle.rules.specs.Pending.{is_pending, asked, pending_after_as, pending_after}
use Rattle.rules.specs.Registers.{register, in_mode, carried_out, effect, written, carried_out_as, effect_over}
use Rattle.rules.specs.Exactly.{Exactly, holding, selected, selecting, SelectionExact}
use Rattle.rules.specs.Opened.{opened}
use Rattle.rules.specs.declared.Core.{Core}
use Rattle.rules.proofs.Choice.{pick_false, row_passed, row_taken, shows, not_of_false, all_true, true_all, every_at}

pub one_register : selecting 1 256 ≡ 232
unfolding opened holding selecting
one_register = refl

pub no_register : selecting 0 256 ≡ 24
unfolding opened holding selecting
no_register = refl

-- where none of the tests holds, the first does not, nor any of the rest
none_first : (t : Bool) (ts : List Bool) → holding (t ∷ ts) ≡ 0 → (t ≡ false) × (holding ts ≡ 0)
unfolding holding pick
none_first true ts e = absurd (omega (arith, e))
none_first false ts e = (refl, omega (arith, e))

-- a byte that selects no register has number 7
pub idle : (byte : ℕ) → selected byte ≡ 0 → selects byte ≡ 7
unfolding selects first_of
idle byte e =
    let h0 = none_first _ _ e in
    let h1 = none_first _ _ h0.1 in
    let h2 = none_first _ _ h1.1 in
    let h3 = none_first _ _ h2.1 in
    let h4 = none_first _ _ h3.1 in
    let h5 = none_first _ _ h4.1 in
    let h6 = none_first _ _ h5.1 in
    pick_false _ _ _ h0.0
    ∙ pick_false _ _ _ h1.0
    ∙ pick_false _ _ _ h2.0
    ∙ pick_false _ _ _ h3.0
    ∙ pick_false _ _ _ h4.0
    ∙ pick_false _ _ _ h5.0
    ∙ pick_false _ _ _ h6.0

-- ---- WR0 and WR4 by their bits

pub wr0_exact : (byte : ℕ) → Exactly (selects byte ≡ 0) ((byte < 128) × (byte % 4 ≡ 0 → ⊥))
unfolding selects
wr0_exact byte =
    record {
      to =
          λ e.
          shows 0 _ _ e
          ((λ t. let h = all_true _ t in (ltb-true _ _ h.0, eqb-false _ _ (not-true _ h.1.0))), tt);
      from = λ h. row_taken _ _ _ (true_all _ (lt-ltb _ _ h.0, (not_of_false _ (ne_eqb _ _ h.1), tt)));
    }

pub wr4_exact : (byte : ℕ) → Exactly (selects byte ≡ 4) ((128 ≤ byte) × (byte % 4 ≡ 1))
unfolding selects
wr4_exact byte =
    record {
      to =
          λ e.
          shows 4 _ _ e
          ((λ t. let h = all_true _ t in (leb-true _ _ h.0, eqb-true _ _ h.1.0)), tt);
      from =
          λ h.
          row_passed _ _ _ (every_at 0 _ (le-ltb byte 128 h.0))
          ∙ row_passed _ _ _ (every_at 0 _ (le-ltb byte 128 h.0))
          ∙ row_passed _ _ _ (every_at 0 _ (le-ltb byte 128 h.0))
          ∙ row_passed _ _ _ (every_at 1 _ (ne_eqb (byte % 4) 0 (λ z. let e = h.1 in omega (arith, e, z))))
          ∙ row_taken _ _ _ (true_all _ (le-leb _ _ h.0, (eq-eqb _ _ h.1, tt)));
    }

idle_register : (byte : ℕ) (c : Core) → selects byte ≡ 7 → register (selects byte) byte c ≡ c
unfolding register first_of pick
idle_register byte c e = simp e

-- BB selects WR6
mask_selects : selects 0xBB ≡ 6
unfolding opened
mask_selects = refl

not_mask : (byte : ℕ) → selects byte ≡ 7 → eqb byte 0xBB ≡ false
not_mask byte e = ne_eqb _ _ (λ (d : byte ≡ 0xBB). let m = sym e ∙ ap selects d ∙ mask_selects in omega (arith, m))

idle_asked : (byte p : ℕ) → selects byte ≡ 7 → asked byte p ≡ p
unfolding asked first_of pick
idle_asked byte p e = simp (e, not_mask byte e)

idle_effect : (byte : ℕ) (c : Core) → selects byte ≡ 7 → is_pending c.pending ≡ false → effect byte c ≡ c
unfolding effect_over carried_out_as pending_after_as
idle_effect byte c h p =
    let q : pending_after byte c.pending ≡ c.pending = pick_false _ _ _ p ∙ idle_asked byte _ h in
    let d : carried_out byte c ≡ c = pick_false _ _ _ p ∙ idle_register byte c h in
    λ i. with_pending (q i) (d i)

idle_written : (port byte : ℕ) (c : Core) → selected byte ≡ 0 → is_pending c.pending ≡ false → written port byte c ≡ in_mode port c
idle_written port byte c e p = idle_effect byte (in_mode port c) (idle byte e) p

pub selection_exact : SelectionExact
selection_exact = record { one = one_register; none = no_register; wr0 = wr0_exact; wr4 = wr4_exact; idle = idle_written }
