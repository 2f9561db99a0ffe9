-- The elements of a TAC as chunks of its octets behind the first: the octets of one, its identifier, and whether it adds. Assumes nothing.
use Rattle.std.proofs.Common.{drop, ◌≡◌, ◌∙◌, sym, ap, ℕ, zero, suc, ◌+◌, ◌*◌, ◌<◌, List, [], ◌∷◌, get_or, arith, get_or-drop, get_or-take}
use mathlib.Core.Path.{ap₂}
use mathlib.Core.Bool.{Bool, ◌||◌}
use Rattle.std.specs.Simd.{first_chunks}
use Rattle.octets.specs.Octets.{has_top_bit}
use Rattle.area.specs.Area.{element_length, at16}
use Rattle.lists.specs.Tac.{id_at, e_at, adds}

chunk_at : (k : ℕ) (xs : List ℕ) (i j : ℕ) → i < k → j < element_length
    → get_or (get_or (first_chunks element_length k xs) i []) j 0 ≡ get_or xs (element_length * i + j) 0
chunk_at zero xs i j l h = absurd (omega arith)
chunk_at (suc k) xs zero j l h = get_or-take element_length xs j 0 h ∙ ap (λ (m : ℕ). get_or xs m 0) (omega arith)
chunk_at (suc k) xs (suc i) j l h =
    chunk_at k (drop element_length xs) i j (omega arith) h
    ∙ get_or-drop element_length xs (element_length * i + j) 0
    ∙ ap (λ (m : ℕ). get_or xs m 0) (omega arith)

module _ {v octets : List ℕ} {first : ℕ} {chunks : List (List ℕ)} {k i : ℕ} (whole : v ≡ first ∷ octets) (cut : chunks ≡ first_chunks element_length k octets)
    (among : i < k) where
  octet_at : (j m : ℕ) → j < element_length → m ≡ suc (element_length * i + j) → get_or (get_or chunks i []) j 0 ≡ get_or v m 0
  octet_at j m h e =
      ap (λ (c : List (List ℕ)). get_or (get_or c i []) j 0) cut ∙ chunk_at k octets i j among h
      ∙ sym (ap (λ (l : List ℕ). get_or l m 0) whole ∙ ap (λ (n : ℕ). get_or (first ∷ octets) n 0) e)

  pub id_is : {n : ℕ} → n ≡ get_or (get_or chunks i []) 0 0 * 256 + get_or (get_or chunks i []) 1 0 → n ≡ id_at v i
  unfolding id_at at16
  id_is h = h ∙ ap₂ (λ (a b : ℕ). a * 256 + b) (octet_at 0 _ (omega arith) (omega arith)) (octet_at 1 _ (omega arith) (omega arith))

  pub adds_is : (opening : Bool) → opening || has_top_bit (get_or (get_or chunks i []) 2 0) ≡ (adds v opening i)
  unfolding e_at
  adds_is opening = ap (λ (x : ℕ). opening || has_top_bit x) (octet_at 2 _ (omega arith) (omega arith))
