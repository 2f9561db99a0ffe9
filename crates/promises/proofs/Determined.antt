-- Every public function's promise determines its outcome: it is an equation with what the function was handed, or two or three of them. Assumes nothing.
use Prim.Native.Nat.{ℕ}
use mathlib.Core.Path.{◌≡◌, sym, ap, ap₂, ◌∙◌, refl}
use Rattle.choice.proofs.Determined.{by_equation, by_law, by_one, both_same}
use Rattle.refusals.specs.Refusals.{not_refused}
use Rattle.refusals.proofs.Told.{told_same, number_same}
use Rattle.area.specs.Found.{reading_of}
use Rattle.area.proofs.Same.{reading_same}
use Rattle.wishes.specs.Wishes.{wishes_after, want_of}
use Rattle.wishes.proofs.Told.{want_same, written_same}
use Rattle.totals.specs.declared.Total.{Total}
use Rattle.totals.specs.Totals.{told_total}
use Rattle.row.specs.declared.Limited.{Limited}
use Rattle.row.specs.declared.Count.{Count}
use Rattle.row.specs.declared.RowTotals.{RowTotals}
use Rattle.row.specs.Counting.{told_count, told_totals}
use Rattle.row.specs.Limiting.{not_set}
use Rattle.row.specs.Row.{not_counted, not_totalled}
use Rattle.session.specs.declared.Answer.{Answer}
use Rattle.record.specs.Loaded.{loaded_of}
use Rattle.record.proofs.Told.{loaded_same, moved_same}
use Rattle.session.specs.Questions.{kinds_of, permission_of, reason_of, retry_of}
use Rattle.session.proofs.Told.{kinds_same, permission_same, reason_same, retry_same}
use Rattle.tacit.specs.declared.Wished.{Wished}
use Rattle.promises.specs.Traits.{of_8, of_16, applications, apps, capabilities}
use Rattle.promises.proofs.Traits.{traits_determined}
use Rattle.promises.specs.Determined.{RefusalsDetermined, SetsDetermined, KindsDetermined, OctetsDetermined, AreaDetermined, ListsDetermined, MessageDetermined, WishesDetermined, SessionDetermined, RecordDetermined, TotalsDetermined, RowDetermined, TacitDetermined, AllDetermined}

sets_determined : SetsDetermined
sets_determined =
    record {
      has = by_equation _;
      common = by_equation _;
      meets = by_equation _;
      union = by_equation _;
      minus = by_equation _;
      without = by_equation _;
      first = by_equation _;
      numbered = by_equation _;
      holds = by_equation _;
      switched = by_equation _;
      wide_8 = traits_determined.wide of_8;
      narrow_8 = traits_determined.narrow of_8 (λ s t e. e);
      wide_16 = traits_determined.wide of_16;
      narrow_16 = traits_determined.narrow of_16 (λ s t e. e);
    }

kinds_determined : KindsDetermined
kinds_determined =
    record {
      number = traits_determined.number applications;
      is_known = traits_determined.is_known applications;
      is_in = traits_determined.is_in applications;
      switched = traits_determined.switched applications (λ s t e. e);
      app_number = traits_determined.number apps;
      app_is_known = traits_determined.is_known apps;
      app_is_in = traits_determined.is_in apps;
      app_switched = traits_determined.switched apps (λ s t e. e);
      capability_number = traits_determined.number capabilities;
      capability_is_known = traits_determined.is_known capabilities;
      capability_is_in = traits_determined.is_in capabilities;
      capability_switched = traits_determined.switched capabilities (λ s t e. e);
      opens_kind = by_equation _;
      opened = by_equation _;
      disables_kind = by_equation _;
      disables = by_equation _;
      bars_kind = by_equation _;
      barred = by_equation _;
    }

octets_determined : OctetsDetermined
octets_determined =
    record {
      put = λ κs. by_law _ (λ a r s p. p);
      put_at = λ κs. by_law _ (λ a r s p. p);
      top_bit = by_equation _;
      read16 = λ κs. by_equation _;
      read32 = λ κs. by_equation _;
    }

refusals_determined : RefusalsDetermined
refusals_determined = record { number = by_equation _; number_of = by_equation _ }

area_determined : AreaDetermined
area_determined =
    record {
      at16 = λ κs. by_law _ (λ a r s p. p.0);
      from = by_equation _;
      found_in = λ κs. by_one reading_of reading_same _;
      read_area = λ κs. by_equation _;
      part_within = λ κs. by_law _ (λ a r s p. p);
      part_of = λ κs. by_law _ (λ a r s p. p);
      s_bit = λ κs. by_equation _;
    }

lists_determined : ListsDetermined
lists_determined =
    record {
      tac_list = λ κs. by_equation _;
      sac_list = λ κs. by_equation _;
    }

message_determined : MessageDetermined
message_determined =
    record {
      write = λ κs. by_law _ (λ a r s p. p);
      write_sac = λ κs. by_law _ (λ a r s p. both_same p.0 p.1);
    }

wishes_determined : WishesDetermined
wishes_determined =
    record {
      sound = by_equation _;
      after = by_equation _;
      wanted = by_one want_of want_same _;
      sac = λ κs a r r' s s' p q. both_same (written_same r r' (p.0 ∙ sym q.0)) (p.1 ∙ sym q.1);
      want_from = by_equation _;
      written_from = by_equation _;
    }

session_determined : SessionDetermined
session_determined =
    record {
      new = by_equation _;
      sound = by_equation _;
      permitted = by_equation _;
      permitted_by_base = by_equation _;
      permitted_kinds = by_one kinds_of kinds_same _;
      permission = by_one permission_of permission_same _;
      why_not = by_one reason_of reason_same _;
      retry_interval = by_one retry_of retry_same _;
      obstacle_number = by_equation _;
      kinds_from = by_equation _;
      permission_from = by_equation _;
      reason_from = by_equation _;
      retry_from = by_equation _;
      sound_tried = by_equation _;
      sound_of = by_equation _;
      sound_session = by_equation _;
      sound_initialization = λ κs. by_equation _;
      initialization = λ κs. by_equation _;
      sound_used = by_equation _;
      sound_capability = λ κs. by_equation _;
      capability = λ κs. by_equation _;
      sound_local_change = by_equation _;
      local_change = by_equation _;
      sound_wish = by_equation _;
      wish = by_equation _;
      sound_mismatch = by_equation _;
      mismatch = by_equation _;
      sound_hello = by_equation _;
      hello = by_equation _;
      sound_closed = by_equation _;
      closed = by_equation _;
      sound_unknown = by_equation _;
      unknown = by_equation _;
      refused = by_equation _;
      none = by_equation _;
    }

record_determined : RecordDetermined
record_determined =
    record {
      stored_in = λ κs. by_law _ (λ a r s p. p);
      decoded = λ κs. by_equation _;
      carry = λ κs. by_law _ (λ a r s p. both_same p.answer p.octets);
      load = λ κs. by_one loaded_of loaded_same _;
      store = λ κs a r r' s s' p q. both_same (number_same r r' (p.0 ∙ sym q.0)) (p.1 ∙ sym q.1);
      forward = λ κs a r r' s s' p q. both_same (moved_same r r' (p.0 ∙ sym q.0)) (p.1 ∙ sym q.1);
      back = λ κs a r r' s s' p q. both_same (number_same r r' (p.0 ∙ sym q.0)) (p.1 ∙ sym q.1);
      loaded_from = by_equation _;
      moved_from = by_equation _;
    }

totals_determined : TotalsDetermined
totals_determined =
    record {
      totalled = by_equation _;
      of_kind = by_one told_total (told_same (λ n. record { refusal = not_refused; total = n }) (λ r. record { refusal = r; total = 0 }) (λ (t : Total). t.refusal) (λ t. t.total) (λ n. refl) (λ n. refl) (λ n. refl)) _;
      told_total = by_equation _;
    }

row_determined : RowDetermined
row_determined =
    record {
      counted = by_equation _;
      no_limits = by_equation _;
      limited = λ a r r' s s' p q. told_same (λ l. record { refusal = not_refused; limits = l }) (not_set a.0) (λ (t : Limited). t.refusal) (λ t. t.limits) (λ l. refl) (λ n. refl) (λ l. refl) r r' (p ∙ sym q);
      count_by = by_one told_count (told_same (λ n. record { refusal = not_refused; count = n }) not_counted (λ (t : Count). t.refusal) (λ t. t.count) (λ n. refl) (λ n. refl) (λ n. refl)) _;
      event_in = λ κs. by_law _ (λ a r s p. both_same p.0 p.1);
      outside = by_equation _;
      recount_by = by_one told_totals (told_same (λ l. record { refusal = not_refused; totals = l }) not_totalled (λ (t : RowTotals). t.refusal) (λ t. t.totals) (λ l. refl) (λ n. refl) (λ l. refl)) _;
      tally_of = λ κs. by_equation _;
      told_count = by_equation _;
      told_totals = by_equation _;
    }

-- an answer, and wishes that go by its refusal
answered_with : (r : Wished) (answer : Answer) (wishes : Answer → ℕ) → r.answer ≡ answer → r.wishes ≡ wishes r.answer
    → r ≡ record { answer = answer; wishes = wishes answer }
answered_with r answer wishes p q = ap₂ (λ (a : Answer) (n : ℕ). record { answer = a; wishes = n }) p (q ∙ ap wishes p)

tacit_determined : TacitDetermined
tacit_determined =
    record {
      tacit_create = λ κs. by_law _ (λ a r s p. both_same p.refusal p.octets);
      tacit_read = λ κs. by_equation _;
      tacit_initialization = λ κs. by_law _ (λ a r s p. both_same p.answer p.octets);
      tacit_capability = λ κs. by_law _ (λ a r s p. both_same p.answer p.octets);
      tacit_local_change = λ κs. by_law _ (λ a r s p. both_same p.0.answer (both_same p.0.octets p.1));
      tacit_wish = λ κs. by_law _ (λ a r s p. both_same (answered_with r _ (λ (b : Answer). wishes_after a.1.0 a.1.1.0 a.1.1.1.0 b.refusal) p.0.answer p.1.0) (both_same p.0.octets p.1.1));
      tacit_wish_sac = λ κs. by_law _ (λ a r s p. both_same p.0 p.1);
      tacit_wanted = by_equation _;
      tacit_mismatch = λ κs. by_law _ (λ a r s p. both_same p.answer p.octets);
      tacit_hello = λ κs. by_law _ (λ a r s p. both_same p.answer p.octets);
      tacit_closed = λ κs. by_law _ (λ a r s p. both_same p.answer p.octets);
      tacit_permitted = λ κs. by_equation _;
      tacit_permitted_kinds = λ κs. by_equation _;
      tacit_why_not = λ κs. by_equation _;
      tacit_retry_interval = λ κs. by_equation _;
      tacit_sound = λ κs. by_equation _;
      tacit_load = λ κs. by_equation _;
      tacit_store = λ κs. by_law _ (λ a r s p. both_same p.0 p.1);
      tacit_forward = λ κs. by_law _ (λ a r s p. both_same p.0 p.1);
      tacit_back = λ κs. by_law _ (λ a r s p. both_same p.0 p.1);
      tacit_no_limits = by_equation _;
      tacit_set_limit = by_equation _;
      tacit_row_count = λ κs. by_equation _;
      tacit_kind_total = by_equation _;
      tacit_recount = λ κs. by_equation _;
      tacit_row_event = λ κs. by_law _ (λ a r s p. both_same p.0 (both_same p.1 p.2));
    }

pub all_determined : AllDetermined
all_determined =
    record {
      refusals = refusals_determined;
      sets = sets_determined;
      kinds = kinds_determined;
      octets = octets_determined;
      area = area_determined;
      lists = lists_determined;
      message = message_determined;
      wishes = wishes_determined;
      session = session_determined;
      records = record_determined;
      totals = totals_determined;
      row = row_determined;
      tacit = tacit_determined;
    }
