-- What an action sees is compared with what it expects, value by value, so another value is found to differ; and an action
-- that is wrong leaves a failure behind.
-- Assumes nothing.
use Prim.Native.Nat.{ℕ, suc}
use Prim.Native.String.{String}
use native.Mathlib.Omega.{arith}
use mathlib.Core.Path.{◌≡◌, refl, sym, ◌∙◌, ap}
use mathlib.Core.Bool.{Bool, true, false, not, beq}
use mathlib.Core.Option.{Option, none, some}
use mathlib.Core.List.{List, [], ◌∷◌, ◌++◌}
use lib.Dec.{eqb}
use lib.ListN.{length}
use package.borrow.Author.Tests.{eqb-true, ne_eqb}
use Rattle.rules.specs.Choice.{pick, every, any}
use Rattle.rules.specs.Validity.{valid, total}
use Rattle.rules.specs.World.{System, Move}
use Rattle.rules.proofs.Choice.{clash, either, pick_true, pick_false, all_true, every_stop, every_stop_later, every_at}
use Rattle.examples.specs.Rows.{Action, fill, latch, send, send_answered, expect, expect_refused, speed, speed_refused, clocks, borrow, counts, memory, latches, pointers, counter, status, enabled, count, suppose, suppose_core, suppose_counts, clocks_refused, floor, figure, changed, next_move, Row, Seen, seen, same, send_one, expect_one, in_turn, moves_so, perform, played, Failure, row_failures, start, failures}
use Rattle.examples.specs.Bites.{Other, OneOther, here, later, send_accepted, send_unwarned, send_number, send_warning, speed_accepted, clocks_accepted, expect_byte, expect_refused_number, speed_refused_number, borrow_number, counts_bus, counts_held, counts_cpu, memory_byte, latches_byte, pointers_a, pointers_b, counter_holds, status_byte, enabled_or, count_is, clocks_refused_number, floor_is, figure_is, changed_valid, move_from, move_from_io, move_to, move_to_io, move_byte, Bites, SendsSingly, TableBites, any_of, expects, some_expects, all_expect, EveryRowExpects, ExpectsChangeable}

-- ---- one value

-- what is equal to a value is not equal to another
other_number_lem : (n x y : ℕ) → Other x y → eqb n x ≡ true → eqb n y ≡ false
other_number_lem n x y o h = ne_eqb n y (λ e. o (sym (eqb-true n x h) ∙ e))

other_first : (n x y : ℕ) → Other x y → eqb x n ≡ true → eqb y n ≡ false
other_first n x y o h = ne_eqb y n (λ e. o (eqb-true x n h ∙ sym e))

other_flag : (t x y : Bool) → Other x y → beq t x ≡ true → beq t y ≡ false
other_flag true true true o h = absurd (o refl)
other_flag true true false o h = refl
other_flag true false y o h = clash h
other_flag false true y o h = clash h
other_flag false false true o h = refl
other_flag false false false o h = absurd (o refl)

-- ---- a list of values

same_bites : (xs ys zs : List ℕ) → OneOther xs ys → same xs zs ≡ true → same ys zs ≡ false
unfolding same
same_bites _ _ [] (here x y xs o) h = refl
same_bites _ _ (z ∷ zs) (here x y xs o) h =
    either (eqb x z) (λ e. pick_false _ _ _ (other_first z x y o e)) (λ e. clash (sym (pick_false _ _ _ e) ∙ h))
same_bites _ _ [] (later x xs ys o) h = refl
same_bites _ _ (z ∷ zs) (later x xs ys o) h =
    either (eqb x z) (λ e. pick_true _ _ _ e ∙ same_bites xs ys zs o (sym (pick_true _ _ _ e) ∙ h)) (λ e. pick_false _ _ _ e)

-- ---- bytes one after the other

module _ (f : ℕ → Seen → Seen) (keeps : (x : ℕ) (r : Seen) → r.right ≡ false → (f x r).right ≡ false) where
  -- what was wrong stays wrong
  wrong_stays : (xs : List ℕ) (r : Seen) → r.right ≡ false → (in_turn f xs r).right ≡ false
  unfolding in_turn
  wrong_stays [] r h = h
  wrong_stays (x ∷ xs) r h = wrong_stays xs (f x r) (keeps x r h)

  right_before : (xs : List ℕ) (r : Seen) → (in_turn f xs r).right ≡ true → r.right ≡ true
  right_before xs r h = either r.right (λ e. e) (λ e. clash (sym (wrong_stays xs r e) ∙ h))

reads_bite : (port : ℕ) (xs ys : List ℕ) (r : Seen) → OneOther xs ys → (in_turn (expect_one port) xs r).right ≡ true → (in_turn (expect_one port) ys r).right ≡ false
unfolding in_turn
reads_bite port _ _ r (here x y xs o) h =
    let e = all_true _ (right_before (expect_one port) (λ x r h. every_stop _ _ h) xs (expect_one port x r) h) in
    wrong_stays (expect_one port) (λ x r h. every_stop _ _ h) xs _ (every_at 2 _ (other_number_lem _ x y o e.1.1.0))
reads_bite port _ _ r (later x xs ys o) h = reads_bite port xs ys (expect_one port x r) o h

pub sends_singly : SendsSingly
unfolding perform in_turn
sends_singly port byte bytes s h =
    let a : Seen = send_one port byte (seen true s) in
    let t = right_before (send_one port) (λ x r h. every_stop _ _ h) bytes a h in
    (t, sym (λ i. (in_turn (send_one port) bytes (seen (t i) a.system)).right) ∙ h)

-- ---- a move

module _ (f : ℕ) (i : Bool) (t : ℕ) (j : Bool) (b : ℕ) where
  move_from_lem : (x : ℕ) (m : Option Move) → Other f x → moves_so f i t j b m ≡ true → moves_so x i t j b m ≡ false
  unfolding moves_so
  move_from_lem x none o h = refl
  move_from_lem x (some m) o h = every_stop _ _ (other_number_lem _ f x o (all_true _ h).0)

  move_from_io_lem : (x : Bool) (m : Option Move) → Other i x → moves_so f i t j b m ≡ true → moves_so f x t j b m ≡ false
  unfolding moves_so
  move_from_io_lem x none o h = refl
  move_from_io_lem x (some m) o h = every_stop_later _ _ (every_stop _ _ (other_flag m.from.io i x o (all_true _ h).1.0))

  move_to_lem : (x : ℕ) (m : Option Move) → Other t x → moves_so f i t j b m ≡ true → moves_so f i x j b m ≡ false
  unfolding moves_so
  move_to_lem x none o h = refl
  move_to_lem x (some m) o h =
      every_at 2 _ (other_number_lem _ t x o (all_true _ h).1.1.0)

  move_to_io_lem : (x : Bool) (m : Option Move) → Other j x → moves_so f i t j b m ≡ true → moves_so f i t x b m ≡ false
  unfolding moves_so
  move_to_io_lem x none o h = refl
  move_to_io_lem x (some m) o h =
      every_at 3 _ (other_flag m.to.io j x o (all_true _ h).1.1.1.0)

  move_byte_lem : (x : ℕ) (m : Option Move) → Other b x → moves_so f i t j b m ≡ true → moves_so f i t j x m ≡ false
  unfolding moves_so
  move_byte_lem x none o h = refl
  move_byte_lem x (some m) o h =
      every_at 4 _ (other_number_lem _ b x o (all_true _ h).1.1.1.1.0)

-- ---- an action

second_of : (n m : ℕ) (t : Bool) (ts : List Bool) (k : ℕ) → Other n m → every (t ∷ eqb k n ∷ ts) ≡ true → every (t ∷ eqb k m ∷ ts) ≡ false
second_of n m t ts k o h = every_stop_later _ _ (every_stop _ _ (other_number_lem k n m o (all_true _ h).1.0))

pub bites : Bites
unfolding perform in_turn
bites _ _ s (send_accepted port byte m o) h = second_of 0 m _ _ _ o h
bites _ _ s (send_unwarned port byte m o) h = every_at 3 _ (other_number_lem _ 0 m o (all_true _ h).1.1.1.0)
bites _ _ s (send_number port byte n w m o) h = second_of n m _ _ _ o h
bites _ _ s (send_warning port byte n w m o) h = every_at 3 _ (other_number_lem _ w m o (all_true _ h).1.1.1.0)
bites _ _ s (speed_accepted code m o) h = second_of 0 m _ _ _ o h
bites _ _ s (clocks_accepted z m o) h = second_of 0 m _ _ _ o h
bites _ _ s (expect_byte port xs ys o) h = reads_bite port xs ys _ o h
bites _ _ s (expect_refused_number port n m o) h = second_of n m _ _ _ o h
bites _ _ s (speed_refused_number code n m o) h = second_of n m _ _ _ o h
bites _ _ s (borrow_number x y z n m o) h = every_stop _ _ (other_number_lem _ n m o (all_true _ h).0)
bites _ _ s (counts_bus b k c x o) h = every_stop _ _ (other_number_lem _ b x o (all_true _ h).0)
bites _ _ s (counts_held b k c x o) h = second_of k x _ _ _ o h
bites _ _ s (counts_cpu b k c x o) h =
    every_at 2 _ (other_number_lem _ c x o (all_true _ h).1.1.0)
bites _ _ s (memory_byte at xs ys o) h = same_bites xs ys _ o h
bites _ _ s (latches_byte at xs ys o) h = same_bites xs ys _ o h
bites _ _ s (pointers_a a b x o) h = every_stop _ _ (other_number_lem _ a x o (all_true _ h).0)
bites _ _ s (pointers_b a b x o) h = second_of b x _ _ _ o h
bites _ _ s (counter_holds n x o) h = other_number_lem _ n x o h
bites _ _ s (status_byte n x o) h = other_number_lem _ n x o h
bites _ _ s (enabled_or t u o) h = other_flag s.world.core.enabled t u o h
bites _ _ s (count_is n x o) h = other_number_lem _ n x o h
bites _ _ s (clocks_refused_number z n m o) h = second_of n m _ _ _ o h
bites _ _ s (floor_is n x o) h = other_number_lem _ n x o h
bites _ _ s (figure_is f n x o) h = other_number_lem _ n x o h
bites _ _ s (changed_valid f t u o) h = other_flag (valid (f s.world.core) (total s.clocks)) t u o h
bites _ _ s (move_from f i t j b x o) h = move_from_lem f i t j b x _ o h
bites _ _ s (move_from_io f i t j b x o) h = move_from_io_lem f i t j b x _ o h
bites _ _ s (move_to f i t j b x o) h = move_to_lem f i t j b x _ o h
bites _ _ s (move_to_io f i t j b x o) h = move_to_io_lem f i t j b x _ o h
bites _ _ s (move_byte f i t j b x o) h = move_byte_lem f i t j b x _ o h

-- ---- a table

-- both parts of an empty list are empty
first_empty : (xs ys : List Failure) → xs ++ ys ≡ [] → xs ≡ []
first_empty [] ys e = refl
first_empty (x ∷ xs) ys e = absurd (let z : length (x ∷ (xs ++ ys)) ≡ 0 = ap length e in omega arith)

rest_empty : (xs ys : List Failure) → xs ++ ys ≡ [] → ys ≡ []
rest_empty [] ys e = e
rest_empty (x ∷ xs) ys e = absurd (let z : length (x ∷ (xs ++ ys)) ≡ 0 = ap length e in omega arith)

-- in a row without failure every action is right where it stands
row_right : (name : String) (place : ℕ) (xs ys : List Action) (x : Action) (s : System (List ℕ)) → row_failures name place (xs ++ (x ∷ ys)) s ≡ [] → (perform x (played xs s)).right ≡ true
unfolding row_failures played
row_right name place [] ys x s e =
    either (perform x s).right (λ h. h)
    (λ h.
    absurd
    (let z : ◌≡◌ {A = ℕ} 1 0 = ap length (sym (pick_false _ _ _ h) ∙ first_empty _ _ e) in omega arith))
row_right name place (w ∷ xs) ys x s e =
    row_right name (suc place) xs ys x _
    (rest_empty (pick (perform w s).right [] (record { name = name; place = place } ∷ [])) _ e)

table_row : (s : System (List ℕ)) (rows others : List Row) (r : Row) → failures s (rows ++ (r ∷ others)) ≡ [] → row_failures r.name 0 r.actions s ≡ []
unfolding failures
table_row s [] others r e = first_empty _ _ e
table_row s (q ∷ rows) others r e = table_row s rows others r (rest_empty (row_failures q.name 0 q.actions s) _ e)

pub table_bites : TableBites
table_bites rows others r xs ys x y o e d =
    let right = row_right r.name 0 xs ys x start (table_row start rows others _ e) in
    let wrong = row_right r.name 0 xs ys y start (table_row start rows others _ d) in
    clash (sym (bites x y _ o right) ∙ wrong)

-- ---- every row

pub every_row_expects : EveryRowExpects
unfolding any_of expects some_expects all_expect every any pick
every_row_expects = refl

-- another number, and the other flag
more : (n : ℕ) → Other n (suc n)
more n e = omega (arith, e)

flipped : (t : Bool) → Other t (not t)
flipped true e = clash (sym e)
flipped false e = clash e

some_other : (x : ℕ) (xs : List ℕ) → OneOther (x ∷ xs) (suc x ∷ xs)
some_other x xs = here x (suc x) xs (more x)

pub expects_changeable : ExpectsChangeable
unfolding expects any_of
expects_changeable (fill at bytes) h = clash h
expects_changeable (latch at bytes) h = clash h
expects_changeable (send port bytes) h = clash h
expects_changeable (send_answered port byte n w) h = record { other = _; is_other = send_number port byte n w _ (more n) }
expects_changeable (expect port []) h = clash h
expects_changeable (expect port (x ∷ xs)) h = record { other = _; is_other = expect_byte port _ _ (some_other x xs) }
expects_changeable (expect_refused port n) h = record { other = _; is_other = expect_refused_number port n _ (more n) }
expects_changeable (speed code) h = clash h
expects_changeable (speed_refused code n) h = record { other = _; is_other = speed_refused_number code n _ (more n) }
expects_changeable (clocks n) h = clash h
expects_changeable (borrow m l z n) h = record { other = _; is_other = borrow_number m l z n _ (more n) }
expects_changeable (counts b k c) h = record { other = _; is_other = counts_bus b k c _ (more b) }
expects_changeable (memory at []) h = clash h
expects_changeable (memory at (x ∷ xs)) h = record { other = _; is_other = memory_byte at _ _ (some_other x xs) }
expects_changeable (latches at []) h = clash h
expects_changeable (latches at (x ∷ xs)) h = record { other = _; is_other = latches_byte at _ _ (some_other x xs) }
expects_changeable (pointers a b) h = record { other = _; is_other = pointers_a a b _ (more a) }
expects_changeable (counter n) h = record { other = _; is_other = counter_holds n _ (more n) }
expects_changeable (status n) h = record { other = _; is_other = status_byte n _ (more n) }
expects_changeable (enabled t) h = record { other = _; is_other = enabled_or t _ (flipped t) }
expects_changeable (count n) h = record { other = _; is_other = count_is n _ (more n) }
expects_changeable (suppose n) h = clash h
expects_changeable (suppose_core f) h = clash h
expects_changeable (suppose_counts b k c) h = clash h
expects_changeable (clocks_refused z n) h = record { other = _; is_other = clocks_refused_number z n _ (more n) }
expects_changeable (floor n) h = record { other = _; is_other = floor_is n _ (more n) }
expects_changeable (figure f n) h = record { other = _; is_other = figure_is f n _ (more n) }
expects_changeable (changed f t) h = record { other = _; is_other = changed_valid f t _ (flipped t) }
expects_changeable (next_move f i t j b) h = record { other = _; is_other = move_from f i t j b _ (more f) }
