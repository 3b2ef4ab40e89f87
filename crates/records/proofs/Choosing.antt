-- Two choices by one test, part by part.
-- Assumes nothing.
use mathlib.Core.Path.{◌≡◌, refl, sym, ◌∙◌}
use mathlib.Core.Bool.{Bool, true, false}
use Rattle.rules.specs.Choice.{pick}
use Rattle.rules.proofs.Choice.{pick_ap}

-- two choices by one test
pub both {κ} : {X Y : Type 0} (P : X → Y → Type κ) (t : Bool) (x x' : X) (y y' : Y) → (t ≡ true → P x y) → (t ≡ false → P x' y') → P (pick t x x') (pick t y y')
unfolding pick
both P true x x' y y' f g = f refl
both P false x x' y y' f g = g refl

-- two choices by one test agree where their parts do
pub same : {X : Type 0} (t : Bool) (x x' y y' : X) → (t ≡ true → x ≡ x') → (t ≡ false → y ≡ y') → pick t x y ≡ pick t x' y'
same {X} t x x' y y' f g = both (λ (z w : X). z ≡ w) t x y x' y' f g

-- a choice under a function, part by part
pub lift : {X Y : Type 0} (f : X → Y) {t t' : Bool} (x y : Y) (x' y' : X) → t ≡ t' → x ≡ f x' → y ≡ f y' → pick t x y ≡ f (pick t' x' y')
lift f {t} {t'} x y x' y' e g h = (λ i. pick (e i) (g i) (h i)) ∙ sym (pick_ap f t' x' y')
