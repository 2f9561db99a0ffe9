-- The rules of soundness by the state, for `Session::sound`, which asks them so. In Open they are one choice by the force; out of it those of force, list, disabled
-- kinds and the peer's capabilities are one test of the flags and three of emptiness. Assumes nothing.
use Rattle.std.proofs.Common.{◌≡◌, ℕ, Bool, true, false, not, ◌&&◌, ◌||◌, sym, refl, ap, ◌∙◌, ne_eqb}
use mathlib.Core.Bool.{not-not, and-true}
use lib.Dec.{eqb}
use Rattle.choice.specs.Pick.{pick, only, unless}
use Rattle.sets.specs.Set.{has, one, common, union, with, empty, meets}
use Rattle.sets.proofs.Shared.{meets_none, meets_with}
use Rattle.session.specs.declared.Session.{Session}
use Rattle.session.specs.Session.{state_open, state_held, state_gone, is_open, uses_tac, in_force, negotiated, dynamic, in_force_bit, dynamic_bit, cleared_out_of_open, spare_zero, force_sound, listed_sound, open_sound, theirs_sound, hello_sound, held_sound, gone_sound, sound}

-- what is asked of force and list, where the session is Open and where it is not
open_rules : (force uses listed : Bool) → pick force uses listed ≡ (only force uses && (unless force listed && true))
unfolding pick
open_rules true uses listed = sym (and-true uses)
open_rules false uses listed = sym (and-true listed)

shut_rules : (force dyn listed disabled theirs rest : Bool)
    → pick (not (force || dyn) && (listed && (disabled && theirs))) rest false
    ≡ (only force false && (unless force listed && ((disabled && not dyn) && (theirs && rest))))
unfolding pick
shut_rules true dyn listed disabled theirs rest = refl
shut_rules false true true true theirs rest = refl
shut_rules false true true false theirs rest = refl
shut_rules false true false disabled theirs rest = refl
shut_rules false false true true true rest = refl
shut_rules false false true true false rest = refl
shut_rules false false true false theirs rest = refl
shut_rules false false false disabled theirs rest = refl

-- the flags of Open are those of force and of the peer's dynamic flag
flags_of_open : (flags : ℕ) → empty (common flags cleared_out_of_open) ≡ not (has flags in_force_bit || has flags dynamic_bit)
unfolding meets with union
flags_of_open flags =
    sym (not-not (empty (common flags cleared_out_of_open)))
    ∙ ap not (meets_with flags (one in_force_bit) dynamic_bit ∙ ap (λ (b : Bool). b || has flags dynamic_bit) (meets_with flags 0 in_force_bit ∙ ap (λ (b : Bool). b || has flags in_force_bit) (meets_none flags)))

-- the tests of a state that is known
is : {state known : ℕ} (asked : ℕ) → state ≡ known → eqb state asked ≡ eqb known asked
is asked e = ap (λ (n : ℕ). eqb n asked) e

pub in_open : (s : Session) → spare_zero s ≡ true → hello_sound s ≡ true → s.state ≡ state_open
    → pick (in_force s) (uses_tac s && not (empty (negotiated s))) (empty s.listed) ≡ sound s
unfolding sound force_sound listed_sound open_sound theirs_sound held_sound gone_sound
in_open s spare hello e =
    simp (spare, hello, is state_open e, is state_held e, is state_gone e)
    (open_rules (in_force s) (uses_tac s && not (empty (negotiated s))) (empty s.listed))

pub not_in_open : (s : Session) → spare_zero s ≡ true → hello_sound s ≡ true → is_open s ≡ false
    → pick (empty (common s.flags cleared_out_of_open) && (empty s.listed && (empty s.disabled && empty s.theirs))) (held_sound s && gone_sound s) false ≡ sound s
unfolding sound force_sound listed_sound open_sound theirs_sound
not_in_open s spare hello shut =
    simp (spare, hello, shut, flags_of_open s.flags)
    (shut_rules (in_force s) (dynamic s) (empty s.listed) (empty s.disabled) (empty s.theirs) (held_sound s && gone_sound s))

pub not_open : (s : Session) → (s.state ≡ state_open → ⊥) → is_open s ≡ false
not_open s other = ne_eqb _ _ other
