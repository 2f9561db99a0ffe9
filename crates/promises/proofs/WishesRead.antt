-- What the other end makes of our wishes. The last 6 octets of a message that was written are a SAC of one element, which switches that App there and
-- touches nothing else. An Initialization that opens a session found our SAC among its TLVs, and its elements disable exactly the wishes. So whoever has
-- read all of it has exactly our wishes disabled. Assumes nothing.
use Prim.Native.Nat.{ℕ}
use mathlib.Core.Path.{◌≡◌, refl, sym, ap, ap₂, ◌∙◌, subst}
use mathlib.Core.Bool.{Bool, true, false, and-false, true≢false}
use mathlib.Core.Logic.{◌↔◌}
use mathlib.Core.List.{List, [], ◌∷◌, ◌++◌}
use native.Mathlib.Omega.{arith}
use lib.Dec.{ltb, leb}
use lib.ListN.{length, take, drop}
use lib.Seq.{take-append_seam}
use borrow.Author.Tests.{le-leb, leb-true, leb-false, lt-ltb, eq-eqb, eqb-true}
use Rattle.choice.specs.Pick.{pick}
use Rattle.choice.proofs.Branch.{by_test, taken, left}
use Rattle.sets.specs.Set.{has, empty, switched}
use Rattle.sets.proofs.Switches.{numbered_is, holds_same, holds_other}
use Rattle.refusals.specs.Refusals.{not_refused, no_room, not_sound}
use Rattle.kinds.specs.Kinds.{app_count, known_app, disables, controlled, Some}
use Rattle.kinds.proofs.Gathered.{disables_some, some_disables}
use Rattle.octets.specs.Octets.{over}
use Rattle.octets.proofs.Front.{over_fits, over_short}
use Rattle.area.specs.declared.Span.{Span}
use Rattle.area.specs.declared.Reading.{Reading}
use Rattle.area.specs.Area.{sac_type, read_area, part}
use Rattle.area.specs.Tlvs.{Tlv, area_of, Wide, Without}
use Rattle.area.proofs.Slots.{sac_found, sac_absent}
use Rattle.lists.specs.Sac.{sac_after, sac_list}
use Rattle.message.specs.Sac.{wish_tlv, sac_for, sac_octets}
use Rattle.message.specs.Message.{message_head_length, one_app, app_octets, wish_of, wish_length, room_with}
use Rattle.message.proofs.ReadBack.{area_back}
use Rattle.message.proofs.SacBack.{one_sac, sac_read_back, sac_value_back, app_list_back, wishes_back}
use Rattle.wishes.specs.declared.Written.{Written}
use Rattle.wishes.specs.Wishes.{sound_wishes, wishes_after, wanted, unwritten, wish_sac, sac_room}
use Rattle.wishes.proofs.Few.{sound_few}
use Rattle.session.specs.declared.Session.{Session}
use Rattle.session.specs.declared.After.{After}
use Rattle.session.specs.Session.{is_open, uses_tac, nothing_common, sound}
use Rattle.session.specs.With.{with_flags, with_disabled, with_listed, with_disabling, with_theirs}
use Rattle.session.specs.Capabilities.{theirs_after}
use Rattle.session.proofs.Capabilities.{untold}
use Rattle.session.specs.Decisions.{answered, Done, Negotiate, settled}
use Rattle.session.specs.Events.{unless_refused, takes_tac, after_initialization, after_capability, on_capability, Capability, step, room_after}
use Rattle.session.proofs.SoundMeans.{sound_means}
use Rattle.session.proofs.Made.{sound_common}
use Rattle.session.proofs.Wishes.{wish_about, wish_wrote}
use Rattle.session.proofs.Steps.{opened_is}
use Rattle.promises.specs.Wishes.{answer_to, area_of_wish, WishReadAsMeant, SacWritten, SacIsWritten, SacReadAsMeant, HasRead, opened, told, since, WantedIsNotDisabled}
use Rattle.promises.proofs.Wishes.{after_sound}

-- ---- the message of a wish
octets_of_wish : (s : Session) (wishes n : ℕ) (disable : Bool) (room : List ℕ) → (answer_to s wishes n disable (length room)).written ≡ wish_length
    → area_of_wish s wishes n disable room ≡ app_octets n disable
unfolding room_after room_with over
octets_of_wish s wishes n disable room w =
    ap (λ (l : List ℕ). drop message_head_length (take wish_length l))
    (taken _ _ (ap (λ (x : ℕ). ltb 0 x) w) ∙ taken _ _ (le-leb wish_length (length room) (wish_wrote s wishes n disable (length room) w).1))
    ∙ ap (λ (l : List ℕ). drop message_head_length l) (take-append_seam (wish_of s.next n disable) (drop wish_length room))
    ∙ area_back s.next sac_type (one_app n disable)

module _ (t : Session) (is_sound : sound t ≡ true) (is_open : is_open t ≡ true) (n : ℕ) (disable : Bool) (known : known_app n ≡ true) where
  no_tac : takes_tac t one_sac ≡ false
  no_tac = and-false (uses_tac t)

  -- the session that it makes
  after_is : after_capability t (app_octets n disable) one_sac ≡ with_disabling t n disable
  unfolding after_capability
  after_is =
      let k = numbered_is app_count n known in
      let list = ap (λ (v : List ℕ). sac_list v false t.disabled) (sac_value_back n disable) ∙ app_list_back n disable t.disabled (omega arith) in
      let told : Session → Session = λ z. with_theirs z (theirs_after t.theirs one_sac) in
      ap₂ (λ (f l : ℕ). told (with_listed (with_disabled (with_flags t f) (sac_list (part (app_octets n disable) one_sac.sac) false t.disabled)) l)) (left _ _ no_tac) (left _ _ no_tac)
      ∙ ap₂ (λ (d theirs : ℕ). with_theirs (with_disabled t d) theirs) list (untold t.theirs one_sac refl refl)

  -- what is common is as it was, so it is no mismatch
  settles : settled t (Negotiate (with_disabling t n disable)) ≡ settled t (Done (with_disabling t n disable))
  unfolding settled nothing_common
  settles = left _ _ (sound_common t (sound_means t is_sound))

  event_is : step t (Capability (app_octets n disable)) ≡ settled t (Done (with_disabling t n disable))
  unfolding on_capability
  event_is =
      ap (settled t)
      (taken _ _ is_sound ∙ taken _ _ is_open
      ∙ ap (λ (r : Reading). unless_refused r (Negotiate (after_capability t (app_octets n disable) r))) (sac_read_back n disable)
      ∙ taken _ _ refl
      ∙ ap Negotiate after_is)
      ∙ settles

pub wish_read_as_meant : WishReadAsMeant
wish_read_as_meant s wishes n disable room t w is_sound is_open =
    let known = (wish_about s wishes n disable (length room) (wish_wrote s wishes n disable (length room) w).0).known in
    rw (octets_of_wish s wishes n disable room w)
    (record {
      event = event_is t is_sound is_open n disable known;
      that = holds_same app_count t.disabled n disable known;
      no_other = holds_other app_count t.disabled n disable;
    })

-- ---- the SAC for an Initialization
pub sac_is_written : SacIsWritten
unfolding wish_sac sac_room
sac_is_written wishes room = go (sound_wishes wishes) refl (leb (length (sac_octets wishes)) (length room)) refl
  where
    octets : List ℕ
    octets = sac_octets wishes

    go : (x : Bool) → sound_wishes wishes ≡ x → (y : Bool) → leb (length octets) (length room) ≡ y → SacWritten wishes room
    go true e true q =
        let is : wish_sac wishes (length room) ≡ record { refusal = not_refused; written = length octets } = taken _ _ e ∙ taken _ _ q in
        record {
          octets = λ _. ap₂ take (ap (λ (z : Written). z.written) is) (taken _ _ e ∙ over_fits octets room (leb-true _ _ q)) ∙ take-append_seam octets _;
          refused = λ h. absurd (h (ap (λ (z : Written). z.refusal) is));
        }
    go true e false q =
        let is : wish_sac wishes (length room) ≡ unwritten no_room = taken _ _ e ∙ left _ _ q in
        record {
          octets = λ h. absurd (omega (arith, sym (ap (λ (z : Written). z.refusal) is) ∙ h));
          refused = λ _. taken _ _ e ∙ over_short octets room (leb-false _ _ q);
        }
    go false e y q =
        let is : wish_sac wishes (length room) ≡ unwritten not_sound = left _ _ e in
        record {
          octets = λ h. absurd (omega (arith, sym (ap (λ (z : Written). z.refusal) is) ∙ h));
          refused = λ _. left _ _ e;
        }

without_both : (type : ℕ) (ts us : List Tlv) → Without type ts → Without type us → Without type (ts ++ us)
without_both type [] us w v = v
without_both type (t ∷ ts) us w v = (w.0, without_both type ts us w.1 v)

-- the elements found disable exactly the wishes
module _ (wishes : ℕ) (kept : sound_wishes wishes ≡ true) (before behind : List Tlv) (others : Without sac_type before) (others_behind : Without sac_type behind) where
  abbrev Disabling : List Tlv → Type 0
  Disabling ours =
      Wide (before ++ (ours ++ behind)) → (read_area (area_of (before ++ (ours ++ behind)))).refusal ≡ not_refused
      → sac_list (part (area_of (before ++ (ours ++ behind))) (read_area (area_of (before ++ (ours ++ behind)))).sac) true 0 ≡ wishes

  omitted : empty wishes ≡ true → Disabling []
  unfolding empty part sac_list sac_after
  omitted none wide ok =
      ap (λ (v : Span). sac_list (part (area_of (before ++ behind)) v) true 0) (sac_absent (before ++ behind) (without_both sac_type before behind others others_behind) wide ok)
      ∙ sym (eqb-true wishes 0 none)

  present : Disabling (wish_tlv wishes ∷ [])
  present wide ok =
      ap (λ (v : List ℕ). sac_list v true 0) (sac_found before (wish_tlv wishes) behind others refl others_behind wide ok) ∙ wishes_back wishes (sound_few wishes kept)

  disabling : Disabling (sac_for wishes)
  unfolding sac_for
  disabling = by_test Disabling omitted (λ _. present)

pub sac_read_as_meant : SacReadAsMeant
unfolding after_initialization
sac_read_as_meant wishes t area below_limit kept h ready is_open =
    let op = opened_is t area below_limit ready is_open in
    ap (λ (u : Session). u.disabled) op.1
    ∙ subst Reads (sym h.is) (disabling wishes kept h.before h.behind h.others_before h.others_behind h.wide) op.0
  where
    Reads : List ℕ → Type 0
    Reads a = (read_area a).refusal ≡ not_refused → sac_list (part a (read_area a).sac) true 0 ≡ wishes

-- ---- whoever has read all of it
has_read : (wishes : ℕ) (t : Session) → HasRead wishes t → (t.disabled ≡ wishes) × (sound_wishes wishes ≡ true)
unfolding settled answered wishes_after
has_read _ _ (opened wishes t area below_limit kept h ready is_open) = (sac_read_as_meant wishes t area below_limit kept h ready is_open, kept)
has_read _ _ (told wishes t r is_sound is_open s n disable room w) =
    let before = has_read wishes t r in
    let refusal = (answer_to s wishes n disable (length room)).refusal in
    let by : wishes_after wishes n disable refusal ≡ switched app_count wishes n disable = taken _ _ (eq-eqb refusal not_refused (wish_wrote s wishes n disable (length room) w).0) in (
      ap (λ (z : After). z.session.disabled) (wish_read_as_meant s wishes n disable room t w is_sound is_open).event
          ∙ ap (λ (d : ℕ). switched app_count d n disable) before.0 ∙ sym by,
      after_sound wishes n disable refusal before.1,
    )
has_read _ _ (since wishes t r e same) = (same ∙ (has_read wishes t r).0, (has_read wishes t r).1)

lacks : (wishes k : ℕ) → (Some controlled app_count wishes k → ⊥) → has (disables wishes) k ≡ false
lacks wishes k none = go (has (disables wishes) k) refl
  where
    go : (x : Bool) → has (disables wishes) k ≡ x → x ≡ false
    go true e = absurd (none (disables_some wishes k e))
    go false e = refl

none_where : (b : Bool) → (◌≡◌ {A = ℕ} (pick b 0 1) 1) ↔ (b ≡ false)
unfolding pick
none_where true = (λ e. absurd (omega arith), λ e. absurd (true≢false e))
none_where false = (λ _. refl, λ _. refl)

pub wanted_is_not_disabled : WantedIsNotDisabled
unfolding wanted
wanted_is_not_disabled wishes k t r small =
    let f = has_read wishes t r in
    let is : wanted wishes k ≡ record { refusal = not_refused; wanted = pick (has (disables wishes) k) 0 1 } = taken _ _ f.1 ∙ taken _ _ (lt-ltb _ _ small) in
    rw (is, f.0) (
      refl,
      (
        λ e d. true≢false (sym (some_disables wishes k d) ∙ (none_where (has (disables wishes) k)).0 e),
        λ none. (none_where (has (disables wishes) k)).1 (lacks wishes k none),
      ),
    )
