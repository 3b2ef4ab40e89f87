-- Laws of choosing by a test.
-- Assumes nothing.
use Prim.Native.Nat.{ℕ, zero, suc}
use native.Mathlib.Omega.{arith}
use mathlib.Core.Path.{◌≡◌, refl, sym, ◌∙◌}
use mathlib.Core.Bool.{Bool, true, false, ◌&&◌, ◌||◌, not}
use mathlib.Core.List.{List, [], ◌∷◌}
use lib.Dec.{eqb}
use lib.ListN.{get_or}
use borrow.Author.Tests.{eq-eqb}
use Rattle.rules.specs.Choice.{pick, Row, ◌⇒◌, first_of, every, any, means}

-- true is not false
pub clash {ℓ} : {X : Type ℓ} → false ≡ true → X
clash e = absurd (let z : ◌≡◌ {A = ℕ} 0 1 = cc in omega arith)

pub pick_true {ℓ} : {X : Type ℓ} (t : Bool) (x y : X) → t ≡ true → pick t x y ≡ x
unfolding pick
pick_true true x y e = refl
pick_true false x y e = clash e

pub pick_false {ℓ} : {X : Type ℓ} (t : Bool) (x y : X) → t ≡ false → pick t x y ≡ y
unfolding pick
pick_false true x y e = clash (sym e)
pick_false false x y e = refl

-- what holds of either choice under its test holds of the choice
pub pick_cases {ℓ κ} : {X : Type ℓ} (P : X → Type κ) (t : Bool) (x y : X) → (t ≡ true → P x) → (t ≡ false → P y) → P (pick t x y)
unfolding pick
pick_cases P true x y f g = f refl
pick_cases P false x y f g = g refl

-- what holds of both choices holds of the choice
pub pick_both {ℓ κ} : {X : Type ℓ} (P : X → Type κ) (t : Bool) (x y : X) → P x → P y → P (pick t x y)
pick_both P t x y p q = pick_cases P t x y (λ e. p) (λ e. q)

-- two choices by one test
pub both_picked {ℓ κ μ} : {X : Type ℓ} {Y : Type κ} (R : X → Y → Type μ) (t : Bool) (x y : X) (u v : Y) → (t ≡ true → R x u) → (t ≡ false → R y v) → R (pick t x y) (pick t u v)
unfolding pick
both_picked R true x y u v f g = f refl
both_picked R false x y u v f g = g refl

-- a function of a choice
pub pick_ap {ℓ κ} : {X : Type ℓ} {Y : Type κ} (f : X → Y) (t : Bool) (x y : X) → f (pick t x y) ≡ pick t (f x) (f y)
unfolding pick
pick_ap f true x y = refl
pick_ap f false x y = refl

-- ---- the first row of a table

infixr 5 ◌⨾◌
-- something holds of what each row gives, and of what stands below the table
pub data Rows {X : Type 0} (P : X → Type 0) : List (Row X) → X → Type 0 where
  below : {x : X} → P x → Rows P [] x
  ◌⨾◌ : {r : Row X} {rs : List (Row X)} {x : X} → P r.result → Rows P rs x → Rows P (r ∷ rs) x
  -- of a row under its test
  under : {r : Row X} {rs : List (Row X)} {x : X} → (r.holds ≡ true → P r.result) → Rows P rs x → Rows P (r ∷ rs) x

-- then it holds of what the table gives
pub table : {X : Type 0} (P : X → Type 0) {rs : List (Row X)} {x : X} → Rows P rs x → P (first_of rs x)
unfolding first_of
table P (below p) = p
table P (p ⨾ ps) = pick_both P _ _ _ p (table P ps)
table P (under f ps) = pick_cases P _ _ _ f (λ e. table P ps)

infixr 5 ◌∥◌
-- two tables with the same tests: something holds between what their rows give, one by one, and what stands below them
pub data Pairs {X Y : Type 0} (R : X → Y → Type 0) : List (Row X) → X → List (Row Y) → Y → Type 0 where
  ends : {x : X} {y : Y} → R x y → Pairs R [] x [] y
  ◌∥◌ : {t : Bool} {u x : X} {v y : Y} {rs : List (Row X)} {qs : List (Row Y)} → R u v → Pairs R rs x qs y → Pairs R ((t ⇒ u) ∷ rs) x ((t ⇒ v) ∷ qs) y

-- then it holds between what the tables give
pub tables : {X Y : Type 0} (R : X → Y → Type 0) {rs : List (Row X)} {x : X} {qs : List (Row Y)} {y : Y} → Pairs R rs x qs y → R (first_of rs x) (first_of qs y)
unfolding first_of
tables R (ends h) = h
tables R (h ∥ hs) = both_picked R _ _ _ _ _ (λ e. h) (λ e. tables R hs)

-- a row passed by leaves it to those below; one whose test holds settles it
pub row_passed : {X : Type 0} (r : Row X) (rs : List (Row X)) (x : X) → r.holds ≡ false → first_of (r ∷ rs) x ≡ first_of rs x
unfolding first_of
row_passed r rs x e = pick_false _ _ _ e

pub row_taken : {X : Type 0} (r : Row X) (rs : List (Row X)) (x : X) → r.holds ≡ true → first_of (r ∷ rs) x ≡ r.result
unfolding first_of
row_taken r rs x e = pick_true _ _ _ e

-- what is asked where a test holds, before the rest
abbrev AskedIf : Bool → Type 0 → Type 0 → Type 0
AskedIf true F G = F × G
AskedIf false F G = G

-- that a table of numbers gave this one shows something, if each row with this number does so under its test, and so does what
-- stands below with it; rows with other numbers are not asked
abbrev pub Shown : ℕ → Type 0 → List (Row ℕ) → ℕ → Type 0
Shown n F [] x = AskedIf (eqb x n) F (Unit {0})
Shown n F (r ∷ rs) x = AskedIf (eqb r.result n) (r.holds ≡ true → F) (Shown n F rs x)

asked : {F G : Type 0} (t : Bool) → AskedIf t F G → (t ≡ true → F) × G
asked true a = (λ e. a.0, a.1)
asked false a = (λ e. clash e, a)

pub shows : {F : Type 0} (n : ℕ) (rs : List (Row ℕ)) (x : ℕ) → first_of rs x ≡ n → Shown n F rs x → F
unfolding first_of
shows n [] x e a = (asked (eqb x n) a).0 (eq-eqb x n e)
shows {F} n (r ∷ rs) x e a =
    let b = asked (eqb r.result n) a in
    pick_cases (λ (m : ℕ). m ≡ n → F) r.holds _ _ (λ h d. b.0 (eq-eqb _ _ d) h) (λ h d. shows n rs x d b.1) e

pub not_of_false : (t : Bool) → t ≡ false → not t ≡ true
not_of_false true e = clash (sym e)
not_of_false false e = refl

-- a test that code found to hold, or to fail, holds or fails as defined
pub holds : {s t : Bool} → s ≡ t → s ≡ true → t ≡ true
holds e h = sym e ∙ h

pub fails : {s t : Bool} → s ≡ t → s ≡ false → t ≡ false
fails e h = sym e ∙ h

-- a test is true or false
pub either {ℓ} : {X : Type ℓ} (t : Bool) → (t ≡ true → X) → (t ≡ false → X) → X
either true f g = f refl
either false f g = g refl

-- what holds of both truth values holds of any
pub both_ways {ℓ} : (P : Bool → Type ℓ) → P true → P false → (t : Bool) → P t
both_ways P p q true = p
both_ways P p q false = q

-- ---- every test holds

pub every_first : (t : Bool) (ts : List Bool) → every (t ∷ ts) ≡ true → t ≡ true
unfolding every pick
every_first true ts e = refl
every_first false ts e = clash e

every_more : (t : Bool) (ts : List Bool) → every (t ∷ ts) ≡ true → every ts ≡ true
unfolding every pick
every_more true ts e = e
every_more false ts e = clash e

every_none : every [] ≡ true
unfolding every
every_none = refl

every_one_more : (t : Bool) (ts : List Bool) → t ≡ true → every ts ≡ true → every (t ∷ ts) ≡ true
unfolding every pick
every_one_more true ts d e = e
every_one_more false ts d e = clash d

-- a test that fails settles it, and one that holds leaves it to the rest
pub every_stop : (t : Bool) (ts : List Bool) → t ≡ false → every (t ∷ ts) ≡ false
unfolding every pick
every_stop true ts e = clash (sym e)
every_stop false ts e = refl

pub every_stop_later : (t : Bool) (ts : List Bool) → every ts ≡ false → every (t ∷ ts) ≡ false
unfolding every pick
every_stop_later true ts e = e
every_stop_later false ts e = refl

-- wherever in the list it stands
pub every_at : (k : ℕ) (ts : List Bool) → get_or ts k true ≡ false → every ts ≡ false
every_at k [] e = clash (sym e)
every_at zero (t ∷ ts) e = every_stop t ts e
every_at (suc k) (t ∷ ts) e = every_stop_later t ts (every_at k ts e)

pub every_go : (t : Bool) (ts : List Bool) → t ≡ true → every (t ∷ ts) ≡ every ts
unfolding every pick
every_go true ts e = refl
every_go false ts e = clash e

-- every test of a list, as strict code computes it
pub every_last : (t : Bool) → every (t ∷ []) ≡ t
unfolding every pick
every_last true = refl
every_last false = refl

pub every_step : (s t : Bool) (ts : List Bool) → every (s ∷ t ∷ ts) ≡ s && every (t ∷ ts)
unfolding every pick
every_step true t ts = refl
every_step false t ts = refl

-- the tests of a list as facts
abbrev pub All : List Bool → Type 0
All [] = Unit {0}
All (t ∷ ts) = (t ≡ true) × All ts

pub all_true : (ts : List Bool) → every ts ≡ true → All ts
all_true [] e = tt
all_true (t ∷ ts) e = (every_first t ts e, all_true ts (every_more t ts e))

pub true_all : (ts : List Bool) → All ts → every ts ≡ true
true_all [] a = every_none
true_all (t ∷ ts) a = every_one_more t ts a.0 (true_all ts a.1)

-- ---- some test holds

pub any_first : (t : Bool) (ts : List Bool) → t ≡ true → any (t ∷ ts) ≡ true
unfolding any pick
any_first true ts e = refl
any_first false ts e = clash e

pub any_more : (t : Bool) (ts : List Bool) → any ts ≡ true → any (t ∷ ts) ≡ true
unfolding any pick
any_more true ts e = refl
any_more false ts e = e

pub any_cases {ℓ} : {X : Type ℓ} (t : Bool) (ts : List Bool) → any (t ∷ ts) ≡ true → (t ≡ true → X) → (any ts ≡ true → X) → X
unfolding any pick
any_cases true ts e f g = f refl
any_cases false ts e f g = g e

pub any_none {ℓ} : {X : Type ℓ} → any [] ≡ true → X
unfolding any
any_none e = clash e

-- ---- one test means another

pub means_so : (s t : Bool) → means s t ≡ true → s ≡ true → t ≡ true
unfolding means
means_so s t e h = sym (pick_true _ _ _ h) ∙ e

pub so_means : (s t : Bool) → (s ≡ true → t ≡ true) → means s t ≡ true
unfolding means
so_means s t f = pick_cases (λ (u : Bool). u ≡ true) s t true f (λ h. refl)

-- some test of a list, as strict code computes it
pub any_last : (t : Bool) → any (t ∷ []) ≡ t
unfolding any pick
any_last true = refl
any_last false = refl

pub any_step : (s t : Bool) (ts : List Bool) → any (s ∷ t ∷ ts) ≡ s || any (t ∷ ts)
unfolding any pick
any_step true t ts = refl
any_step false t ts = refl

-- the tests of a list, one after the other, as strict code computes them
pub ruleset strict = (every_last, every_step, any_last, any_step)
