-- Two tests that hold together hold each, and the other way round; one that holds is enough for either; one that cannot fail holds. By cases on the first.
-- Assumes nothing.
use mathlib.Core.Path.{◌≡◌, refl, sym}
use mathlib.Core.Logic.{◌⊎◌, inl, inr}
use mathlib.Core.Bool.{Bool, true, false, not, ◌&&◌, ◌||◌, false≢true, true≢false}
use Rattle.choice.specs.Pick.{only, unless}

pub and_first : (x y : Bool) → (x && y) ≡ true → x ≡ true
and_first true y h = refl
and_first false y h = h

pub and_second : (x y : Bool) → (x && y) ≡ true → y ≡ true
and_second true y h = h
and_second false y h = absurd (false≢true h)

pub and_both : (x y : Bool) → x ≡ true → y ≡ true → (x && y) ≡ true
and_both true y h k = k
and_both false y h k = h

-- the second counts only where the first holds
pub and_where : (x : Bool) {y z : Bool} → (x ≡ true → y ≡ z) → (x && y) ≡ (x && z)
and_where true f = f refl
and_where false f = refl

pub or_first : (x y : Bool) → x ≡ true → (x || y) ≡ true
or_first true y h = refl
or_first false y h = absurd (false≢true h)

pub or_second : (x y : Bool) → y ≡ true → (x || y) ≡ true
or_second true y h = refl
or_second false y h = h

pub or_either : (x y : Bool) → (x || y) ≡ true → (x ≡ true) ⊎ (y ≡ true)
or_either true y h = inl refl
or_either false y h = inr h

pub or_neither : (x y : Bool) → (x || y) ≡ false → (x ≡ false) × (y ≡ false)
or_neither true y h = absurd (true≢false h)
or_neither false y h = (refl, h)

-- a test that cannot fail holds, and one that cannot hold fails
pub holds_if : (x : Bool) → (x ≡ false → ⊥) → x ≡ true
holds_if true f = refl
holds_if false f = absurd (f refl)

pub fails_if : (x : Bool) → (x ≡ true → ⊥) → x ≡ false
fails_if true f = absurd (f refl)
fails_if false f = refl

-- where `not` holds, the test does not
pub not_false : (x : Bool) → not x ≡ true → x ≡ false
not_false true h = absurd (false≢true h)
not_false false h = refl

-- what holds only where another does
pub only_gives : (x y : Bool) → only x y ≡ true → x ≡ true → y ≡ true
only_gives true y h e = h
only_gives false y h e = absurd (false≢true e)

pub only_holds : (x y : Bool) → (x ≡ true → y ≡ true) → only x y ≡ true
only_holds true y f = f refl
only_holds false y f = refl

-- what holds unless another does
pub unless_gives : (x y : Bool) → unless x y ≡ true → x ≡ false → y ≡ true
unless_gives true y h e = absurd (false≢true (sym e))
unless_gives false y h e = h

pub unless_holds : (x y : Bool) → (x ≡ false → y ≡ true) → unless x y ≡ true
unless_holds true y f = refl
unless_holds false y f = f refl

-- two tests, each of which holds where the other does, are one
pub same_test : (x y : Bool) → (x ≡ true → y ≡ true) → (y ≡ true → x ≡ true) → x ≡ y
same_test true y f g = sym (f refl)
same_test false true f g = g refl
same_test false false f g = refl
