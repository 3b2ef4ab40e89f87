-- Choosing by a test: the one way in which a definition of this repository branches on one.
-- Assumes nothing.
use Rattle.std.specs.Prelude.{ℕ, Bool, true, false, List, [], ◌∷◌}

-- x where the test holds, else y
unfoldable pub pick {ℓ} : {X : Type ℓ} → Bool → X → X → X
pick true x y = x
pick false x y = y

-- a row of a table: where the test holds, this
pub record Row (X : Type 0) : Type 0 where
  pub holds : Bool
  pub result : X

infix 68 ◌⇒◌
abbrev pub ◌⇒◌ : {X : Type 0} → Bool → X → Row X
t ⇒ x = record { holds = t; result = x }

-- the first row whose test holds; where none does, what stands below the table
unfoldable pub first_of : {X : Type 0} → List (Row X) → X → X
first_of [] x = x
first_of (r ∷ rs) x = pick r.holds r.result (first_of rs x)

-- every test of the list holds
unfoldable pub every : List Bool → Bool
every [] = true
every (t ∷ ts) = pick t (every ts) false

-- some test of the list holds
unfoldable pub any : List Bool → Bool
any [] = false
any (t ∷ ts) = pick t true (any ts)

-- where the first test holds, so does the second
unfoldable pub means : Bool → Bool → Bool
means s t = pick s t true

-- a reason to refuse a call, and the number that it gives
pub record Test : Type 0 where
  pub number : ℕ
  pub hit : Bool

abbrev pub test : ℕ → Bool → Test
test n t = record { number = n; hit = t }

-- the number of the first test that hits; 0 where none does
unfoldable pub first_hit : List Test → ℕ
first_hit [] = 0
first_hit (t ∷ ts) = pick t.hit t.number (first_hit ts)
