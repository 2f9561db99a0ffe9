-- The laws of `pick`, and what `search` is handed at a `return` whose contract goes by tests: `rules`, with the laws that turn the facts
-- of the branches into the tests' outcomes. By cases on the test. Assumes nothing.
use mathlib.Core.Path.{◌≡◌, refl, ap}
use mathlib.Core.Bool.{Bool, true, false}
use borrow.Author.Rules.{rules}
use borrow.Author.Tests.{lt-ltb, le-ltb, le-leb, lt-leb, eq-eqb, ne_eqb}
use Rattle.choice.specs.Pick.{pick}

pub pick_true : {A : Type 0} (a b : A) → pick true a b ≡ a
unfolding pick
pick_true a b = refl

pub pick_false : {A : Type 0} (a b : A) → pick false a b ≡ b
unfolding pick
pick_false a b = refl

-- the same from the test's outcome: nothing inside what is picked is rewritten
pub taken : {A : Type 0} {t : Bool} (a b : A) → t ≡ true → pick t a b ≡ a
unfolding pick
taken a b e = ap (λ (t : Bool). pick t a b) e

pub left : {A : Type 0} {t : Bool} (a b : A) → t ≡ false → pick t a b ≡ b
unfolding pick
left a b e = ap (λ (t : Bool). pick t a b) e

-- what holds of each answer, where its test led there, holds of the one picked
pub by_test : {A : Type 0} (P : A → Type 0) {t : Bool} {a b : A} → (t ≡ true → P a) → (t ≡ false → P b) → P (pick t a b)
unfolding pick
by_test P {t = true} f g = f refl
by_test P {t = false} f g = g refl

-- the same of two answers picked by one test
pub pick_both : {A B : Type 0} (R : A → B → Type 0) (t : Bool) {a b : A} {a' b' : B} → (t ≡ true → R a a') → (t ≡ false → R b b')
    → R (pick t a b) (pick t a' b')
unfolding pick
pick_both R true f g = f refl
pick_both R false f g = g refl

pub ruleset branch = (rules, lt-ltb, le-ltb, le-leb, lt-leb, eq-eqb, ne_eqb, pick_true, pick_false)
