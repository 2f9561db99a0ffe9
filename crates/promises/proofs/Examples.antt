-- The examples of sessions, of wishes, of rows, of capabilities and of moves, and the counterexamples, hold: they are computed, with every definition unfolded. Assumes nothing.
use mathlib.Core.Path.{refl}
use Rattle.choice.specs.Pick.{pick}
use Rattle.sets.specs.Set.{has, common, union, minus, with, without, empty, below, within, numbered, switched, chosen}
use Rattle.sets.proofs.Subsets.{within_means}
use Rattle.kinds.specs.Kinds.{is_in, set_of, opens, controlled, needed, gather, opened, disables, barred}
use Rattle.octets.specs.Octets.{over}
use Rattle.area.specs.Area.{at16, take_tlv, pass_other, by_type, part, s_bit, tlv_at, read_from, read_area}
use Rattle.lists.specs.Tac.{id_at, e_at, stood, after, tac_list}
use Rattle.lists.specs.Sac.{sac_element, sac_after, sac_list}
use Rattle.message.specs.Sac.{wish_elements, sac_for}
use Rattle.message.specs.Message.{room_with}
use Rattle.wishes.specs.Wishes.{sound_wishes, wishes_after, wanted, wish_sac, sac_room}
use Rattle.session.specs.Session.{nothing_common, spare_zero, force_sound, listed_sound, open_sound, theirs_sound, hello_sound, held_sound, gone_sound, sound, permitted_by_base, permitted}
use Rattle.session.specs.With.{mismatched, held_to_ready}
use Rattle.session.specs.Capabilities.{theirs_after}
use Rattle.session.specs.Creation.{raised}
use Rattle.session.specs.Questions.{unopened, why_barred, why, why_not}
use Rattle.session.specs.Limits.{used, at_limit}
use Rattle.session.specs.Decisions.{answered, settled}
use Rattle.session.specs.Events.{after_initialization, on_initialization, list_after, flags_after, after_capability, on_capability, writing, on_local_change, telling, on_wish, on_hello, on_closed, room_after}
use Rattle.row.specs.Limiting.{capped}
use Rattle.row.specs.Events.{event_of}
use Rattle.session.proofs.View.{in_more}
use Rattle.record.specs.Record.{headed, decoded, decoded_kind1, stored_in}
use Rattle.record.specs.Loaded.{store_refusal, store_octets}
use Rattle.record.specs.Moves.{loses_by_capabilities, forward, forward_room, back_refusal, back_room}
use Rattle.totals.specs.Totals.{total_after, goes_outside, moved_each, one_outside, totals_after, any_outside, totalled, kind_total}
use Rattle.row.specs.Row.{how_many, below_limit, all_sound, event_at, walked, recount}
use Rattle.promises.specs.Examples.{Examples, WhyItStops, WhyAtThatMoment, FurtherKind}
use Rattle.promises.specs.RowExamples.{RowExamples, WhyTheOneSession}
use Rattle.promises.specs.TotalExamples.{TotalExamples}
use Rattle.promises.specs.CapabilityExamples.{CapabilityExamples}
use Rattle.promises.specs.WishExamples.{WishExamples}
use Rattle.promises.specs.MoveExamples.{MoveExamples}

computed : Examples × (WhyItStops × (WhyAtThatMoment × (FurtherKind × (RowExamples × (WhyTheOneSession × (WishExamples × (TotalExamples × (CapabilityExamples × MoveExamples))))))))
unfolding
    pick has common union minus with without empty below within numbered switched chosen is_in set_of opens controlled needed gather opened disables barred over at16 take_tlv
    pass_other by_type tlv_at read_from read_area part s_bit id_at e_at stood after tac_list sac_element sac_after sac_list room_with nothing_common spare_zero force_sound
    listed_sound open_sound theirs_sound hello_sound held_sound gone_sound sound permitted_by_base permitted theirs_after unopened why_barred why why_not mismatched held_to_ready raised used at_limit answered settled after_initialization
    on_initialization list_after flags_after after_capability on_capability writing on_local_change on_hello room_after capped event_of how_many below_limit all_sound
    event_at total_after goes_outside moved_each one_outside totals_after any_outside totalled kind_total walked recount wish_elements sac_for sound_wishes wishes_after wanted wish_sac sac_room telling on_wish on_closed headed decoded decoded_kind1 stored_in store_refusal store_octets loses_by_capabilities forward forward_room back_refusal back_room
computed = (
  record {
    one = refl;
    one_kinds = refl;
    two = refl;
    three = refl;
    four = refl;
    five = refl;
    five_open = refl;
    six = refl;
    seven = refl;
    eight = refl;
    nine = refl;
    nine_past = refl;
    ten = refl;
    ten_passed = refl;
    eleven = refl;
    eleven_open = refl;
    twelve = refl;
    twelve_written = refl;
    twelve_refused = refl;
    twelve_room = refl;
  },
  (
    record { first = refl; second = refl },
    (
      record { first = refl; second = refl; in_force_law = refl; listed = refl },
      (
        record {
          pair =
              record {
                first_sound = refl;
                second_sound = refl;
                first_ready = refl;
                alike = refl;
                more = λ n. in_more 0x40 0x48 n (within_means 0x40 0x48 refl);
              };
          stays_open = (refl, tt);
          first = refl;
          second = refl;
        },
        (
          record { two_open = refl; third = refl; third_ready = refl; fourth = refl; both = refl; passed = refl },
          (
            record { first_row = refl; second_row = refl },
            (
              record {
                told = refl;
                taken_back = refl;
                kept = refl;
                spare = refl;
                no_app = refl;
                unchanged = refl;
                ready = refl;
                not_dynamic = refl;
                thirteen = refl;
                fourteen = refl;
                two = refl;
                none = refl;
                no_room = refl;
                empty_room = refl;
                stays = refl;
                opened = refl;
                disabled = refl;
                more = refl;
                not_wanted_law = refl;
                is_wanted = refl;
                no_kind = refl;
                unsound = refl;
                outlives = refl;
              },
              (
                record {
                  two = refl;
                  one_left = refl;
                  loses_65 = refl;
                  loses_66 = refl;
                  loses_0 = refl;
                  gains_63 = refl;
                  gains_64 = refl;
                  left_200 = refl;
                  asked = refl;
                  over_9 = refl;
                  recounted = refl;
                },
                (
                  record {
                    one = refl;
                    eight = refl;
                    ours_alone = refl;
                    theirs_alone = refl;
                    is_open = refl;
                    nothing = refl;
                    not_theirs = refl;
                    not_ours = refl;
                    announced = refl;
                    withdrawn = refl;
                    stays = refl;
                    cleared = refl;
                    read = refl;
                    holding = refl;
                    no_octet = refl;
                    two_octets = refl;
                    twice = refl;
                    next_type = refl;
                  },
                  record {
                    moved = refl;
                    answer = refl;
                    fresh = refl;
                    back = refl;
                    unforced = refl;
                    mldp = refl;
                    no_mldp = refl;
                    protected = refl;
                    reason = refl;
                    not_kind1 = refl;
                    long_kind1 = refl;
                    no_size = refl;
                    stays = refl;
                    held = refl;
                    held_stays = refl;
                    spare = refl;
                    outside_open = refl;
                    wide = refl;
                    not_kind2 = refl;
                    short = refl;
                    lengthened = refl;
                    kind2 = refl;
                  },
                ),
              ),
            ),
          ),
        ),
      ),
    ),
  ),
)

pub examples : Examples
examples = computed.0

pub why_it_stops : WhyItStops
why_it_stops = computed.1.0

pub why_at_that_moment : WhyAtThatMoment
why_at_that_moment = computed.1.1.0

pub further_kind : FurtherKind
further_kind = computed.1.1.1.0

pub row_examples : RowExamples
row_examples = computed.1.1.1.1.0

pub why_the_one_session : WhyTheOneSession
why_the_one_session = computed.1.1.1.1.1.0

pub wish_examples : WishExamples
wish_examples = computed.1.1.1.1.1.1.0

pub total_examples : TotalExamples
total_examples = computed.1.1.1.1.1.1.1.0

pub capability_examples : CapabilityExamples
capability_examples = computed.1.1.1.1.1.1.1.1.0

pub move_examples : MoveExamples
move_examples = computed.1.1.1.1.1.1.1.1.1
