-- Octets put over the front of lent ones: one octet more, what has room and what has none, and one part behind another. By the laws of `take`
-- and `drop` at the seams. Assumes nothing.
use Prim.Native.Nat.{ℕ, suc, ◌+◌, ◌-◌, ◌<◌, ◌≤◌}
use mathlib.Core.Path.{◌≡◌, sym, ap, ap₂, ◌∙◌}
use mathlib.Core.List.{List, [], ◌∷◌, ◌++◌, append_assoc, append-nil}
use native.Mathlib.Numerals.{add-one}
use native.Mathlib.Omega.{arith}
use borrow.Author.Tests.{le-leb, lt-leb}
use borrow.Rule.Slice.PartMut.{put_mid}
use lib.ListN.{drop_of_length-le, length, get_or, set, take, drop, length-append, length-drop, take-append-drop}
use lib.Seq.{set_at, drop-cons, take-suc, set-append_seam, append_snoc, length-take-le, take-append_seam, take-append-add, drop-append_seam, drop-append-add, drop-drop, take_all}
use Rattle.choice.proofs.Branch.{taken, left}
use Rattle.octets.specs.Octets.{over, over_at}

pub front_more : (room written : List ℕ) (i : ℕ) → i < length written → i < length room
    → set (take i written ++ drop i room) i (get_or written i 0) ≡ take (i + 1) written ++ drop (i + 1) room
front_more room written i h k =
    let n : length (take i written) ≡ i = length-take-le i written (omega arith) in
    rw (drop-cons room i 0, add-one, take-suc written i 0, append_snoc)
    (set_at (take i written) (get_or room i 0) (drop (suc i) room) (get_or written i 0) i n)

pub over_fits : (written room : List ℕ) → length written ≤ length room → over written room ≡ written ++ drop (length written) room
unfolding over
over_fits written room h = taken _ _ (le-leb _ _ h)

pub over_short : (written room : List ℕ) → length room < length written → over written room ≡ room
unfolding over
over_short written room h = left _ _ (lt-leb _ _ h)

-- one octet more behind what was put
pub one_more : (room a : List ℕ) (x : ℕ) → length a < length room → set (over a room) (length a) x ≡ over (a ++ x ∷ []) room
one_more room a x h =
    rw (over_fits a room (omega arith), over_fits (a ++ x ∷ []) room (omega (arith, length-append a (x ∷ []))), drop-cons room (length a) 0 h, length-append a (x ∷ []), append_snoc, add-one)
    (set-append_seam a (get_or room (length a) 0) (drop (suc (length a)) room) x)

-- what is lent from `at` on is all that lies behind
pub behind : (at : ℕ) (room written after : List ℕ) → after ≡ over written (take (length room - at) (drop at room))
    → put_mid at (length room - at) room after ≡ over_at at written room
unfolding over_at
behind at room written after e =
    let n = length-drop at room in
    rw (e, take_all (length room - at) (drop at room) (omega arith), drop_of_length-le (drop at room) {i = length room - at} (omega arith), append-nil)

-- a part put behind another: the two as one
over_behind : (a b room : List ℕ) → length a + length b ≤ length room → over_at (length a) b (over a room) ≡ over (a ++ b) room
unfolding over_at
over_behind a b room h =
    let n = length-append a b in
    let rest = drop (length a) room in
    rw (over_fits a room (omega arith), over_fits (a ++ b) room (omega arith), take-append_seam, drop-append_seam)
    (rw (over_fits b rest (omega (arith, length-drop (length a) room))) (simp (length-append, drop-drop, append_assoc)))

-- nothing put behind the first octets is nothing put
pub none_at : (at : ℕ) (l : List ℕ) → l ≡ over_at at [] l
unfolding over_at
none_at at l = sym (ap (λ (r : List ℕ). take at l ++ r) (over_fits [] (drop at l) (omega arith)) ∙ take-append-drop at l)

-- the same where both stand behind the first `at` octets
pub at_then : (at : ℕ) (a b room : List ℕ) {before after : List ℕ} → at + length a + length b ≤ length room → before ≡ over_at at a room
    → after ≡ over_at (at + length a) b before → after ≡ over_at at (a ++ b) room
unfolding over_at
at_then at a b room h e p =
    let front : length (take at room) ≡ at = length-take-le at room (omega arith) in
    let rest = drop at room in
    let moved : at + length a ≡ length (take at room) + length a = ap (λ (n : ℕ). n + length a) (sym front) in
    p ∙ ap₂ (λ (n : ℕ) (l : List ℕ). take n l ++ over b (drop n l)) moved e
    ∙ ap₂ (λ (x y : List ℕ). x ++ over b y) (take-append-add (take at room) (over a rest) (length a)) (drop-append-add (take at room) (over a rest) (length a))
    ∙ append_assoc (take at room) (take (length a) (over a rest)) (over b (drop (length a) (over a rest)))
    ∙ ap (λ (l : List ℕ). take at room ++ l) (over_behind a b rest (omega (arith, length-drop at room)))

-- the same as a step: after `a` the part b, which came as `written`
pub then : (a b room : List ℕ) {before after written : List ℕ} → length a + length b ≤ length room → before ≡ over a room → written ≡ b
    → after ≡ over_at (length a) written before → after ≡ over (a ++ b) room
then a b room h e w p = p ∙ ap₂ (over_at (length a)) w e ∙ over_behind a b room h
