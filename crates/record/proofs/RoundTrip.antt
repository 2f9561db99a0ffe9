-- A sound session is read back as it was stored, and a sound record is stored as it was read, of either kind. What the kinds have in common goes field by
-- field, by the laws of numbers in octets, whatever stands behind it. Assumes nothing.
use Prim.Native.Nat.{ℕ, zero, suc, ◌+◌, ◌*◌, ◌<◌, ◌^◌}
use mathlib.Core.Path.{◌≡◌, refl, sym, ap, ap₂, ◌∙◌, subst}
use mathlib.Core.Bool.{Bool, true, false, false≢true}
use mathlib.Core.List.{List, [], ◌∷◌, ◌++◌}
use native.Mathlib.Omega.{arith}
use borrow.Author.Tests.{eqb-true, eq-eqb}
use lib.Dec.{eqb, lit<}
use lib.ListN.{length, get_or}
use Rattle.choice.specs.Pick.{pick}
use Rattle.choice.proofs.Branch.{taken, left, by_test}
use Rattle.choice.proofs.Tests.{and_first, and_second}
use Rattle.octets.specs.Octets.{le_at16}
use Rattle.octets.proofs.Numbers.{back16, back32, two_0, two_1, four_0, four_1, four_2, four_3}
use Rattle.refusals.specs.Refusals.{not_refused}
use Rattle.session.specs.declared.Session.{Session}
use Rattle.session.specs.Session.{spare_zero, sound, Narrow}
use Rattle.session.specs.With.{no_session, with_ours, with_theirs}
use Rattle.session.proofs.SoundMeans.{sound_means}
use Rattle.record.specs.declared.Loaded.{Loaded}
use Rattle.record.specs.Record.{record_length, length_field, kind_field, kind1_length, kind1_length_field, kind1_field, octets_of, encoded, encoded_kind1, stored_in, headed, fields, decoded, decoded_kind1, ReadBack, StoredBack}
use Rattle.record.specs.Loaded.{load, store_octets, LoadedBack, StaysAsLoaded}

-- ---- there and back
-- what the kinds have in common is read as it was put, whatever the head and whatever stands behind it
read_again : (long kind : ℕ) (s : Session) (behind : List ℕ) (ours theirs : ℕ) → sound s ≡ true → s.hello < 2 ^ 32 → s.next < 2 ^ 32
    → fields (octets_of long kind s behind) ours theirs ≡ with_theirs (with_ours s ours) theirs
read_again long kind s behind ours theirs h hello next =
    let r = sound_means s h in
    simp (
      back16 s.enabled (omega (arith, r.enabled)),
      back16 s.listed (omega (arith, r.listed)),
      back16 s.protects (omega (arith, r.protects)),
      back32 s.hello hello,
      back32 s.next next,
    )

pub read_back : ReadBack
unfolding decoded headed pick
read_back s h hello next = read_again length_field kind_field s (s.ours ∷ s.theirs ∷ []) s.ours s.theirs h hello next

-- of kind 1, where neither end holds a capability
pub read_back_kind1 : (s : Session) → sound s ≡ true → s.hello < 2 ^ 32 → s.next < 2 ^ 32 → s.ours ≡ 0 → s.theirs ≡ 0 → decoded_kind1 (encoded_kind1 s) ≡ s
unfolding decoded_kind1 headed pick
read_back_kind1 s h hello next none none' =
    read_again kind1_length_field kind1_field s [] 0 0 h hello next ∙ ap₂ (λ (ours theirs : ℕ). with_theirs (with_ours s ours) theirs) (sym none) (sym none')

-- ---- a record that is read
-- what is read as no session is not sound
pub never_sound : sound no_session ≡ true → ⊥
unfolding sound spare_zero
never_sound h = false≢true h

-- what a record of one kind is read as
abbrev read_as : ℕ → ℕ → ℕ → ℕ → ℕ → List ℕ → Session
read_as octets long kind ours theirs l = pick (eqb (length l) octets) (pick (headed long kind l) (fields l ours theirs) no_session) no_session

-- a sound one has its length and its head, and is read by its fields
pub record Read (octets long kind ours theirs : ℕ) (l : List ℕ) : Type 0 where
  pub is_long : length l ≡ octets
  pub is_headed : headed long kind l ≡ true
  pub by_fields : read_as octets long kind ours theirs l ≡ fields l ours theirs

sound_read : (octets long kind ours theirs : ℕ) (l : List ℕ) → sound (read_as octets long kind ours theirs l) ≡ true → Read octets long kind ours theirs l
sound_read octets long kind ours theirs l ok = go (eqb (length l) octets) refl (headed long kind l) refl
  where
    none : read_as octets long kind ours theirs l ≡ no_session → Read octets long kind ours theirs l
    none e = absurd (never_sound (subst (λ (s : Session). sound s ≡ true) e ok))

    go : (x : Bool) → eqb (length l) octets ≡ x → (y : Bool) → headed long kind l ≡ y → Read octets long kind ours theirs l
    go false e y f = none (left _ no_session e)
    go true e false f = none (taken _ no_session e ∙ left (fields l ours theirs) no_session f)
    go true e true f =
        record { is_long = eqb-true (length l) octets e; is_headed = f; by_fields = taken _ no_session e ∙ taken (fields l ours theirs) no_session f }

pub read : (l : List ℕ) → sound (decoded l) ≡ true → Read record_length length_field kind_field (get_or l 22 0) (get_or l 23 0) l
unfolding decoded
read l = sound_read record_length length_field kind_field (get_or l 22 0) (get_or l 23 0) l

pub read_kind1 : (l : List ℕ) → sound (decoded_kind1 l) ≡ true → Read kind1_length kind1_length_field kind1_field 0 0 l
unfolding decoded_kind1
read_kind1 l = sound_read kind1_length kind1_length_field kind1_field 0 0 l

-- what a head says, field by field
pub headed_means : (long kind : ℕ) (l : List ℕ) → headed long kind l ≡ true → (le_at16 l 0 ≡ long) × (le_at16 l 2 ≡ kind) × (get_or l 13 0 ≡ 0)
unfolding headed
headed_means long kind l h =
    let rest = and_second (eqb (le_at16 l 0) long) _ h in (
      eqb-true (le_at16 l 0) long (and_first (eqb (le_at16 l 0) long) _ h),
      eqb-true (le_at16 l 2) kind (and_first (eqb (le_at16 l 2) kind) _ rest),
      eqb-true (get_or l 13 0) 0 (and_second (eqb (le_at16 l 2) kind) _ rest),
    )

-- ---- back and there
-- a list is its elements, one after another
abbrev upto : ℕ → (ℕ → ℕ) → List ℕ
upto zero f = []
upto (suc n) f = f 0 ∷ upto n (λ i. f (suc i))

list_is : (l : List ℕ) → l ≡ upto (length l) (λ i. get_or l i 0)
list_is [] = refl
list_is (x ∷ l) = ap (λ (m : List ℕ). x ∷ m) (list_is l)

four : (a b c d : ℕ) → a < 256 → b < 256 → c < 256 → d < 256 → a + 256 * b + 65536 * c + 16777216 * d < 2 ^ 32
four a b c d ha hb hc hd = omega arith

module _ (l : List ℕ) (o : (i : ℕ) → get_or l i 0 < 256) where
  -- what the kinds have in common is put as it was read
  put_again : (ours theirs : ℕ) (behind : List ℕ) → get_or l 13 0 ≡ 0
      → octets_of (le_at16 l 0) (le_at16 l 2) (fields l ours theirs) behind ≡ upto kind1_length (λ i. get_or l i 0) ++ behind
  put_again ours theirs behind z =
      simp (
        z,
        two_0 (get_or l 0 0) (get_or l 1 0) (o 0) (o 1),
        two_1 (get_or l 0 0) (get_or l 1 0) (o 0) (o 1),
        two_0 (get_or l 2 0) (get_or l 3 0) (o 2) (o 3),
        two_1 (get_or l 2 0) (get_or l 3 0) (o 2) (o 3),
        two_0 (get_or l 6 0) (get_or l 7 0) (o 6) (o 7),
        two_1 (get_or l 6 0) (get_or l 7 0) (o 6) (o 7),
        two_0 (get_or l 8 0) (get_or l 9 0) (o 8) (o 9),
        two_1 (get_or l 8 0) (get_or l 9 0) (o 8) (o 9),
        two_0 (get_or l 10 0) (get_or l 11 0) (o 10) (o 11),
        two_1 (get_or l 10 0) (get_or l 11 0) (o 10) (o 11),
        four_0 (get_or l 14 0) (get_or l 15 0) (get_or l 16 0) (get_or l 17 0) (o 14) (o 15) (o 16) (o 17),
        four_1 (get_or l 14 0) (get_or l 15 0) (get_or l 16 0) (get_or l 17 0) (o 14) (o 15) (o 16) (o 17),
        four_2 (get_or l 14 0) (get_or l 15 0) (get_or l 16 0) (get_or l 17 0) (o 14) (o 15) (o 16) (o 17),
        four_3 (get_or l 14 0) (get_or l 15 0) (get_or l 16 0) (get_or l 17 0) (o 14) (o 15) (o 16) (o 17),
        four_0 (get_or l 18 0) (get_or l 19 0) (get_or l 20 0) (get_or l 21 0) (o 18) (o 19) (o 20) (o 21),
        four_1 (get_or l 18 0) (get_or l 19 0) (get_or l 20 0) (get_or l 21 0) (o 18) (o 19) (o 20) (o 21),
        four_2 (get_or l 18 0) (get_or l 19 0) (get_or l 20 0) (get_or l 21 0) (o 18) (o 19) (o 20) (o 21),
        four_3 (get_or l 18 0) (get_or l 19 0) (get_or l 20 0) (get_or l 21 0) (o 18) (o 19) (o 20) (o 21),
      )

  -- and so is the record, if what stands behind it is its own
  again : (octets long kind ours theirs : ℕ) (behind : List ℕ) → upto kind1_length (λ i. get_or l i 0) ++ behind ≡ upto octets (λ i. get_or l i 0)
      → Read octets long kind ours theirs l → octets_of long kind (fields l ours theirs) behind ≡ l
  again octets long kind ours theirs behind own r =
      let head = headed_means long kind l r.is_headed in
      ap₂ (λ (a b : ℕ). octets_of a b (fields l ours theirs) behind) (sym head.0) (sym head.1)
      ∙ put_again ours theirs behind head.2
      ∙ own
      ∙ ap (λ (m : ℕ). upto m (λ i. get_or l i 0)) (sym r.is_long)
      ∙ sym (list_is l)

  -- the numbers of a record are those that four octets hold
  narrow_read : (octets long kind ours theirs : ℕ) → Narrow (read_as octets long kind ours theirs l)
  narrow_read octets long kind ours theirs =
      by_test Narrow
      (λ _. by_test Narrow (λ _. record { hello = four _ _ _ _ (o 14) (o 15) (o 16) (o 17); next = four _ _ _ _ (o 18) (o 19) (o 20) (o 21) }) (λ _. none))
      (λ _. none)
    where
      none : Narrow no_session
      none = record { hello = lit< tt; next = lit< tt }

  pub narrow : Narrow (decoded l)
  unfolding decoded
  narrow = narrow_read record_length length_field kind_field (get_or l 22 0) (get_or l 23 0)

  pub narrow_kind1 : Narrow (decoded_kind1 l)
  unfolding decoded_kind1
  narrow_kind1 = narrow_read kind1_length kind1_length_field kind1_field 0 0

  pub stored_back_kind1 : sound (decoded_kind1 l) ≡ true → encoded_kind1 (decoded_kind1 l) ≡ l
  unfolding decoded_kind1
  stored_back_kind1 ok = let r = read_kind1 l ok in ap encoded_kind1 r.by_fields ∙ again kind1_length kind1_length_field kind1_field 0 0 [] refl r

pub stored_back : StoredBack
unfolding decoded
stored_back l o ok =
    let r = read l ok in
    ap encoded r.by_fields ∙ again l o record_length length_field kind_field (get_or l 22 0) (get_or l 23 0) (get_or l 22 0 ∷ get_or l 23 0 ∷ []) refl r

-- ---- in and out of a row
-- a session that is stored is the one that the record then holds
pub stored_is : (s : Session) (l : List ℕ) → sound s ≡ true → Narrow s → length l ≡ record_length → decoded (store_octets s l) ≡ s
unfolding store_octets stored_in
stored_is s l h narrow long = ap decoded (taken _ _ h ∙ taken _ _ (eq-eqb (length l) record_length long)) ∙ read_back s h narrow.hello narrow.next

pub loaded_back : LoadedBack
unfolding load
loaded_back s l h hello next long =
    let back = stored_is s l h (record { hello = hello; next = next }) long in
    taken _ _ (ap sound back ∙ h) ∙ ap (λ (t : Session). record { refusal = not_refused; session = t }) back

pub stays_as_loaded : StaysAsLoaded
unfolding load store_octets stored_in
stays_as_loaded l octets h =
    let there : (load l).session ≡ decoded l = ap (λ (t : Loaded). t.session) (taken _ _ h) in
    ap (λ (t : Session). store_octets t l) there ∙ taken _ _ h
    ∙ by_test (λ (m : List ℕ). m ≡ l) (λ _. stored_back l octets h) (λ _. refl)
