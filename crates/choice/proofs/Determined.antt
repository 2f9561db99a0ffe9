-- A promise that is an equation determines its outcome: both results equal what it names. Assumes nothing.
use mathlib.Core.Path.{◌≡◌, sym, ap₂, ◌∙◌}
use Rattle.choice.specs.Determined.{Determined, Determines, both}

pub by_law : {A R S O : Type 0} {promise : A → R → S → Type 0} {seen : R → S → O} (f : A → O) → ((a : A) (r : R) (s : S) → promise a r s → seen r s ≡ f a)
    → Determines promise seen
by_law f law a r r' s s' p q = law a r s p ∙ sym (law a r' s' q)

pub by_equation : {A R S : Type 0} (f : A → R) → Determined {A = A} {R = R} {S = S} (λ a r s. r ≡ f a)
by_equation f = by_law f (λ a r s p. p)

-- through what it is told as: where no two answers are told alike, an equation for what is told determines the answer
pub by_one : {A R S T : Type 0} (told : R → T) → ((r r' : R) → told r ≡ told r' → r ≡ r') → (f : A → T) → Determined {A = A} {R = R} {S = S} (λ a r s. told r ≡ f a)
by_one told same f a r r' s s' p q = same r r' (p ∙ sym q)

pub both_same : {A B : Type 0} {a a' : A} {b b' : B} → a ≡ a' → b ≡ b' → both a b ≡ both a' b'
both_same p q = ap₂ both p q
