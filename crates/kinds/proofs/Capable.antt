-- The kinds that a set of capabilities bars: exactly those that need one that is not in it. So a larger set bars no more, and all
-- capabilities bar nothing; by the members that are lacked. And the table that the code reads, computed for each of the eight sets. Assumes nothing.
use mathlib.Core.Path.{◌≡◌, refl, sym, ap, ◌∙◌}
use mathlib.Core.Bool.{Bool, true, false, not, ◌&&◌, true≢false}
use mathlib.Core.List.{List, [], ◌∷◌}
use Prim.Native.Nat.{ℕ, zero, suc, ◌-◌, ◌^◌, ◌<◌, ◌≤◌}
use native.Mathlib.Omega.{arith}
use lib.Dec.{lit<}
use lib.ListN.{get_or}
use Rattle.choice.specs.Pick.{pick}
use Rattle.choice.proofs.Tests.{holds_if, fails_if, not_false}
use Rattle.sets.specs.Set.{has, common, union, minus, with, numbered, Within}
use Rattle.sets.proofs.Members.{has_common, has_minus, has_all}
use Rattle.sets.proofs.Bounds.{common_lt}
use Rattle.sets.proofs.Subsets.{within_less, same_members}
use Rattle.kinds.specs.Kinds.{capability_count, all_capabilities, set_of, needed, gather, barred, Some, Lacking}
use Rattle.kinds.proofs.Gathered.{gather_some, some_gather, gather_within}

abbrev lacked : ℕ → ℕ
lacked held = minus all_capabilities held

-- the capability n is lacked exactly where it is not in the set
lacks : (held n : ℕ) → 1 ≤ n → n ≤ capability_count → has (lacked held) (n - 1) ≡ not (has held (n - 1))
lacks held n least most =
    let place : n - 1 < capability_count = omega arith in
    has_minus all_capabilities held (n - 1) ∙ ap (λ (b : Bool). b && not (has held (n - 1))) (has_all capability_count (n - 1) place)

module _ (held k : ℕ) where
  pub barred_lacking : has (barred held) k ≡ true → Lacking held k
  unfolding barred
  barred_lacking h =
      let o : Some needed capability_count (lacked held) k = gather_some needed capability_count (lacked held) k h in
      record {
        capability = o.number;
        least = o.least;
        most = o.most;
        needs = o.maps;
        not_held = not_false _ (sym (lacks held o.number o.least o.most) ∙ o.member);
      }

  pub lacking_barred : Lacking held k → has (barred held) k ≡ true
  unfolding barred
  lacking_barred l =
      some_gather needed capability_count (lacked held) k
      (record {
        number = l.capability;
        least = l.least;
        most = l.most;
        member = lacks held l.capability l.least l.most ∙ ap not l.not_held;
        maps = l.needs;
      })

  -- a kind that is not barred has each capability that it needs
  pub unbarred_has : has (barred held) k ≡ false → (n : ℕ) → 1 ≤ n → n ≤ capability_count → has (needed n) k ≡ true → has held (n - 1) ≡ true
  unbarred_has free n least most needs =
      holds_if (has held (n - 1)) (λ e.
      true≢false (sym (lacking_barred (record { capability = n; least = least; most = most; needs = needs; not_held = e })) ∙ free))

  -- and one that has them is not barred
  pub has_unbarred : ((n : ℕ) → 1 ≤ n → n ≤ capability_count → has (needed n) k ≡ true → has held (n - 1) ≡ true) → has (barred held) k ≡ false
  has_unbarred all =
      fails_if (has (barred held) k) (λ e.
      let l = barred_lacking e in true≢false (sym (all l.capability l.least l.most l.needs) ∙ l.not_held))

-- a larger set bars no more
pub barred_within : (a b : ℕ) → Within a b → Within (barred b) (barred a)
unfolding barred
barred_within a b f = gather_within needed capability_count (lacked b) (lacked a) (within_less all_capabilities a b f)

-- of other bits than theirs nothing is asked
known_lacked : (held : ℕ) → lacked (common all_capabilities held) ≡ lacked held
known_lacked held =
    same_members _ _ (λ k.
    has_minus all_capabilities (common all_capabilities held) k
    ∙ ap (λ (b : Bool). has all_capabilities k && not b) (has_common all_capabilities held k)
    ∙ go (has all_capabilities k) (has held k)
    ∙ sym (has_minus all_capabilities held k))
  where
    go : (x y : Bool) → x && not (x && y) ≡ x && not y
    go true y = refl
    go false y = refl

pub barred_known : (held : ℕ) → barred (common all_capabilities held) ≡ barred held
unfolding barred
barred_known held = ap (gather needed capability_count) (known_lacked held)

-- ---- the kinds barred by each of the eight sets, computed
abbrev pub barred_sets : List ℕ
barred_sets = 124 ∷ 120 ∷ 100 ∷ 96 ∷ 28 ∷ 24 ∷ 4 ∷ 0 ∷ []

pub barred_at : (held : ℕ) → held < 2 ^ capability_count → get_or barred_sets held 0 ≡ barred held
unfolding barred gather needed set_of numbered with pick has minus union
barred_at zero h = refl
barred_at (suc zero) h = refl
barred_at (suc (suc zero)) h = refl
barred_at (suc (suc (suc zero))) h = refl
barred_at (suc (suc (suc (suc zero)))) h = refl
barred_at (suc (suc (suc (suc (suc zero))))) h = refl
barred_at (suc (suc (suc (suc (suc (suc zero)))))) h = refl
barred_at (suc (suc (suc (suc (suc (suc (suc zero))))))) h = refl
barred_at (suc (suc (suc (suc (suc (suc (suc (suc n)))))))) h = absurd (omega arith)

-- the capabilities of a set are one of the eight, and bar what the set bars
pub known_lt : (held : ℕ) → common all_capabilities held < 2 ^ capability_count
known_lt held = common_lt capability_count all_capabilities held (lit< tt)

pub known_bar : (held : ℕ) → get_or barred_sets (common all_capabilities held) 0 ≡ barred held
known_bar held = barred_at _ (known_lt held) ∙ barred_known held

-- all capabilities bar nothing
pub barred_none : barred all_capabilities ≡ 0
unfolding barred gather pick has minus union
barred_none = refl
