-- No refusal has the number of none, and no two have the same one. Assumes nothing.
use Rattle.std.proofs.Common.{◌≡◌, ◌∙◌, sym, ap, refl, ℕ, List, [], ◌∷◌, get_or, arith}
use Rattle.refusals.specs.declared.Refusal.{Refusal}
use Rattle.refusals.specs.declared.Refusal.TheVariants.{AreaTooLong, CutShort, BadLength, UnknownType, Repeated, OutOfRange, WrongState, NoRoom, PeerNotDynamic, NotSound, OutsideRow, LimitTooHigh, CapabilitiesHeld, UnknownApp, TotalOutside}
use Rattle.refusals.specs.Refusals.{not_refused, number_of}

pub refuses : (r : Refusal) → number_of r ≡ not_refused → ⊥
refuses r h = grind arith

-- by its number; at numbers of none stands any
by_number : List Refusal
by_number =
    TotalOutside ∷ AreaTooLong ∷ CutShort ∷ BadLength ∷ UnknownType ∷ Repeated ∷ OutOfRange ∷ WrongState ∷ NoRoom ∷ PeerNotDynamic ∷ NotSound ∷ OutsideRow
    ∷ LimitTooHigh ∷ CapabilitiesHeld ∷ TotalOutside ∷ UnknownApp ∷ TotalOutside ∷ []

refusal_of : ℕ → Refusal
refusal_of n = get_or by_number n TotalOutside

back : (r : Refusal) → refusal_of (number_of r) ≡ r
unfolding refusal_of by_number
back AreaTooLong = refl
back CutShort = refl
back BadLength = refl
back UnknownType = refl
back Repeated = refl
back OutOfRange = refl
back WrongState = refl
back NoRoom = refl
back PeerNotDynamic = refl
back NotSound = refl
back OutsideRow = refl
back LimitTooHigh = refl
back CapabilitiesHeld = refl
back UnknownApp = refl
back TotalOutside = refl

pub same_number : (r s : Refusal) → number_of r ≡ number_of s → r ≡ s
same_number r s h = sym (back r) ∙ ap refusal_of h ∙ back s
