-- What it is for a promise to determine its outcome. A promise is taken as the check reads it off the contract: it relates what a function is
-- handed, what it hands back, and what it leaves in what it was lent. Assumes nothing.
use Rattle.std.specs.Prelude.{◌≡◌}

-- of any two outcomes that the promise allows, of one call, what is seen of them is equal
abbrev pub Determines : {A R S O : Type 0} → (A → R → S → Type 0) → (R → S → O) → Type 0
Determines {A} {R} {S} promise seen = (a : A) (r r' : R) (s s' : S) → promise a r s → promise a r' s' → seen r s ≡ seen r' s'

-- what is handed back
abbrev pub Determined : {A R S : Type 0} → (A → R → S → Type 0) → Type 0
Determined promise = Determines promise (λ r s. r)

-- two things seen together
abbrev pub both : {A B : Type 0} → A → B → A × B
both a b = (a, b)
