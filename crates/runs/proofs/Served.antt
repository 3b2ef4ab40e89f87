-- A session's calls write bytes and lend its own buffers, which have their length, and none sets a speed: so what holds of
-- every list's answers leaves neither 1, 4, 5 nor 7.
-- Assumes nothing.
use Prim.Native.Nat.{ℕ}
use mathlib.Core.List.{List, [], ◌∷◌}
use lib.ListN.{replicate, length-replicate}
use Rattle.rules.specs.Buffers.{flat}
use Rattle.rules.specs.World.{System}
use Rattle.rules.specs.Entries.{Poke, flat_outside, Entry, enter, run, run_over}
use Rattle.rules.specs.Reached.{NoneIs, Lends, WrongMemory, WrongLatches, OwnServe, AsksAbove, OnlyAbove}
use Rattle.rules.proofs.Reached.{answers_reached}
use Rattle.records.specs.Records.{Record}
use Rattle.session.specs.Effects.{entry_of}
use Rattle.runs.specs.Sessions.{start, decoded, entries_of, session_entries}
use Rattle.runs.specs.Served.{EverySessionServed}
use Rattle.runs.proofs.Sessions.{each_kind, session_writes}

module _ (xs : List ℕ) where
  -- of a run from any system: 4 and 5 are answered to other buffers only, and none is lent
  buffers_serve : (rs : List Record) (s : System (List ℕ)) → OwnServe (entries_of xs rs) (run flat flat_outside (entries_of xs rs) s).answers → NoneIs 4 (run flat flat_outside (entries_of xs rs) s).answers × NoneIs 5 (run flat flat_outside (entries_of xs rs) s).answers
  unfolding entries_of run_over OwnServe NoneIs
  buffers_serve [] s h = (tt, tt)
  buffers_serve (r ∷ rs) s h =
      let rest = buffers_serve rs (enter flat flat_outside (entry_of xs r) s).system h.2 in (
        (λ z. each_kind xs (λ (e : Entry flat (List Poke)). Lends WrongMemory e → ⊥) r (λ l. l) (λ l. l) (λ l. l) (λ ps l. l) (h.0 z), rest.0),
        (λ z. each_kind xs (λ (e : Entry flat (List Poke)). Lends WrongLatches e → ⊥) r (λ l. l) (λ l. l) (λ l. l) (λ ps l. l) (h.1 z), rest.1),
      )

  -- 7 is answered to speed calls only
  no_speed : (rs : List Record) (s : System (List ℕ)) → OnlyAbove (entries_of xs rs) (run flat flat_outside (entries_of xs rs) s).answers → NoneIs 7 (run flat flat_outside (entries_of xs rs) s).answers
  unfolding entries_of run_over OnlyAbove NoneIs
  no_speed [] s h = tt
  no_speed (r ∷ rs) s h =
      (λ z. each_kind xs (λ (e : Entry flat (List Poke)). AsksAbove e → ⊥) r (λ l. l) (λ l. l) (λ l. l) (λ ps l. l) (h.0 z), no_speed rs _ h.1)

pub served : EverySessionServed
served xs small =
    let answers = answers_reached (replicate 65536 0) (replicate 65536 0) (session_entries xs) (session_writes xs small) in
    let size = length-replicate {A = ℕ} 65536 0 in
    let serve = buffers_serve xs (decoded xs).records start (answers.2 size size) in
    record {
      device = answers.0;
      memory = serve.0;
      latches = serve.1;
      speed = no_speed xs (decoded xs).records start answers.1;
    }
