-- The worked examples compare every figure that they state: an action that is right in a system is wrong there with any one
-- of the values that it expects replaced by another.
-- Assumes nothing.
use Rattle.std.specs.Prelude.{ℕ, ◌≡◌, Bool, true, false, List, [], ◌∷◌, ◌++◌}
use Rattle.rules.specs.Choice.{every, any}
use Rattle.rules.specs.World.{System}
use Rattle.rules.specs.declared.Core.{Core}
use Rattle.examples.specs.Rows.{Action, fill, latch, send, send_answered, expect, expect_refused, speed, speed_refused, clocks, borrow, counts, memory, latches, pointers, counter, status, enabled, count, suppose, suppose_core, suppose_counts, clocks_refused, floor, figure, changed, next_move, Row, perform, start, failures}
use Rattle.examples.specs.WorkedExamples.{table}

-- the value is another
abbrev pub Other : {X : Type 0} → X → X → Type 0
Other x y = x ≡ y → ⊥

-- one number of a list is another
pub data OneOther : List ℕ → List ℕ → Type 0 where
  here : (x y : ℕ) (xs : List ℕ) → Other x y → OneOther (x ∷ xs) (y ∷ xs)
  later : (x : ℕ) (xs ys : List ℕ) → OneOther xs ys → OneOther (x ∷ xs) (x ∷ ys)

-- an action, and the same with one of the values that it expects replaced by another, be it the 0 of a write, a speed call or
-- a grant that is accepted, or the 0 of a write without a warning; those that expect none do not occur
pub data OneChanged : Action → Action → Type 0 where
  send_accepted : (port byte m : ℕ) → Other 0 m → OneChanged (send port (byte ∷ [])) (send_answered port byte m 0)
  send_unwarned : (port byte m : ℕ) → Other 0 m → OneChanged (send port (byte ∷ [])) (send_answered port byte 0 m)
  send_number : (port byte n w m : ℕ) → Other n m → OneChanged (send_answered port byte n w) (send_answered port byte m w)
  send_warning : (port byte n w m : ℕ) → Other w m → OneChanged (send_answered port byte n w) (send_answered port byte n m)
  speed_accepted : (code m : ℕ) → Other 0 m → OneChanged (speed code) (speed_refused code m)
  clocks_accepted : (z m : ℕ) → Other 0 m → OneChanged (clocks z) (clocks_refused z m)
  expect_byte : (port : ℕ) (xs ys : List ℕ) → OneOther xs ys → OneChanged (expect port xs) (expect port ys)
  expect_refused_number : (port n m : ℕ) → Other n m → OneChanged (expect_refused port n) (expect_refused port m)
  speed_refused_number : (code n m : ℕ) → Other n m → OneChanged (speed_refused code n) (speed_refused code m)
  borrow_number : (x y z n m : ℕ) → Other n m → OneChanged (borrow x y z n) (borrow x y z m)
  counts_bus : (b h c x : ℕ) → Other b x → OneChanged (counts b h c) (counts x h c)
  counts_held : (b h c x : ℕ) → Other h x → OneChanged (counts b h c) (counts b x c)
  counts_cpu : (b h c x : ℕ) → Other c x → OneChanged (counts b h c) (counts b h x)
  memory_byte : (at : ℕ) (xs ys : List ℕ) → OneOther xs ys → OneChanged (memory at xs) (memory at ys)
  latches_byte : (at : ℕ) (xs ys : List ℕ) → OneOther xs ys → OneChanged (latches at xs) (latches at ys)
  pointers_a : (a b x : ℕ) → Other a x → OneChanged (pointers a b) (pointers x b)
  pointers_b : (a b x : ℕ) → Other b x → OneChanged (pointers a b) (pointers a x)
  counter_holds : (n x : ℕ) → Other n x → OneChanged (counter n) (counter x)
  status_byte : (n x : ℕ) → Other n x → OneChanged (status n) (status x)
  enabled_or : (t u : Bool) → Other t u → OneChanged (enabled t) (enabled u)
  count_is : (n x : ℕ) → Other n x → OneChanged (count n) (count x)
  clocks_refused_number : (z n m : ℕ) → Other n m → OneChanged (clocks_refused z n) (clocks_refused z m)
  floor_is : (n x : ℕ) → Other n x → OneChanged (floor n) (floor x)
  figure_is : (f : Core → ℕ) (n x : ℕ) → Other n x → OneChanged (figure f n) (figure f x)
  changed_valid : (f : Core → Core) (t u : Bool) → Other t u → OneChanged (changed f t) (changed f u)
  move_from : (f : ℕ) (i : Bool) (t : ℕ) (j : Bool) (b x : ℕ) → Other f x → OneChanged (next_move f i t j b) (next_move x i t j b)
  move_from_io : (f : ℕ) (i : Bool) (t : ℕ) (j : Bool) (b : ℕ) (x : Bool) → Other i x → OneChanged (next_move f i t j b) (next_move f x t j b)
  move_to : (f : ℕ) (i : Bool) (t : ℕ) (j : Bool) (b x : ℕ) → Other t x → OneChanged (next_move f i t j b) (next_move f i x j b)
  move_to_io : (f : ℕ) (i : Bool) (t : ℕ) (j : Bool) (b : ℕ) (x : Bool) → Other j x → OneChanged (next_move f i t j b) (next_move f i t x b)
  move_byte : (f : ℕ) (i : Bool) (t : ℕ) (j : Bool) (b x : ℕ) → Other b x → OneChanged (next_move f i t j b) (next_move f i t j x)

-- right in a system, and wrong there with one value changed
abbrev pub Bites : Type 0
Bites = (x y : Action) (s : System (List ℕ)) → OneChanged x y → (perform x s).right ≡ true → (perform y s).right ≡ false

-- a send of several bytes is its writes one by one: where it is right, so is the first, and so are the others behind it
abbrev pub SendsSingly : Type 0
SendsSingly =
    (port byte : ℕ) (bytes : List ℕ) (s : System (List ℕ))
    → (perform (send port (byte ∷ bytes)) s).right ≡ true
    → ((perform (send port (byte ∷ [])) s).right ≡ true)
    × ((perform (send port bytes) (perform (send port (byte ∷ [])) s).system).right ≡ true)

-- so a table of which every action is right has a failure, once one value of one of its rows is changed
abbrev pub TableBites : Type 0
TableBites =
    (rows others : List Row) (r : Row) (xs ys : List Action) (x y : Action)
    → OneChanged x y
    → failures start (rows ++ (record { name = r.name; actions = xs ++ (x ∷ ys) } ∷ others)) ≡ []
    → failures start (rows ++ (record { name = r.name; actions = xs ++ (y ∷ ys) } ∷ others)) ≡ []
    → ⊥

-- ---- every row has such an action

unfoldable pub any_of : List ℕ → Bool
any_of [] = false
any_of (x ∷ xs) = true

-- the action expects some value
unfoldable pub expects : Action → Bool
expects (fill at bytes) = false
expects (latch at bytes) = false
expects (send port bytes) = false
expects (send_answered port byte number warning) = true
expects (expect port bytes) = any_of bytes
expects (expect_refused port number) = true
expects (speed code) = false
expects (speed_refused code number) = true
expects (clocks n) = false
expects (borrow m l n number) = true
expects (counts bus held cpu) = true
expects (memory at bytes) = any_of bytes
expects (latches at bytes) = any_of bytes
expects (pointers a b) = true
expects (counter n) = true
expects (status byte) = true
expects (enabled t) = true
expects (count n) = true
expects (suppose n) = false
expects (suppose_core f) = false
expects (suppose_counts bus held cpu) = false
expects (clocks_refused n number) = true
expects (floor n) = true
expects (figure f n) = true
expects (changed f t) = true
expects (next_move from from_io to to_io byte) = true

unfoldable pub some_expects : List Action → Bool
some_expects [] = false
some_expects (x ∷ xs) = any (expects x ∷ some_expects xs ∷ [])

unfoldable pub all_expect : List Row → Bool
all_expect [] = true
all_expect (r ∷ rs) = every (some_expects r.actions ∷ all_expect rs ∷ [])

abbrev pub EveryRowExpects : Type 0
EveryRowExpects = all_expect table ≡ true

-- an action that expects some value can be changed so
pub record Changeable (x : Action) : Type 0 where
  pub other : Action
  pub is_other : OneChanged x other

abbrev pub ExpectsChangeable : Type 0
ExpectsChangeable = (x : Action) → expects x ≡ true → Changeable x
