-- `promises::kept` meets its contract: each promise by its theorem. Assumes nothing.
use Rattle.kinds.proofs.Turned.{layouts_agree, app_layouts_agree}
use Rattle.area.proofs.Parts.{parts_inside, nothing_after_refusal}
use Rattle.area.proofs.Tlvs.{read_by_tlvs}
use Rattle.area.proofs.Told.{capabilities_found}
use Rattle.lists.proofs.First.{first_decides, absent_stays, listed_is_present, unknown_is_skipped, met_is_stood, unknown_is_not_met, met_fits}
use Rattle.lists.proofs.Later.{later_holds, idle_stays}
use Rattle.session.proofs.SoundMeans as sound
use Rattle.session.proofs.PermittedMeans as permits
use Rattle.session.proofs.Capabilities.{all_held_is_base, holding_more}
use Rattle.record.proofs.RoundTrip.{read_back, stored_back, loaded_back, stays_as_loaded}
use Rattle.record.proofs.ThereAndBack.{there_and_back, back_and_there, moves_refused, one_kind}
use Rattle.record.proofs.MovedSession.{lost_means, moved_is_same}
use Rattle.promises.proofs.Runs.{sound_over_runs, refused_is_nothing, room_stays, refused_can_go, without_limits, found_or_told}
use Rattle.promises.proofs.Condition3.{condition_3}
use Rattle.promises.proofs.Capabilities.{ours_stay, theirs_only_open, theirs_follow}
use Rattle.promises.proofs.Written.{read_as_meant}
use Rattle.promises.proofs.Records.{records_follow}
use Rattle.promises.proofs.Calls.{calls_are_events, rooms_are_events, calls_follow, calls_answer, permitted_is_asked, calls_condition_3}
use Rattle.promises.proofs.Moves.{calls_move, kind1_refused}
use Rattle.promises.proofs.Creation.{creation_is_sound}
use Rattle.promises.proofs.Rows.{sound_over_rows, others_stay, row_refused_is_nothing, counts_follow}
use Rattle.promises.proofs.Limits.{limit_is_mismatch, limits_decide, base_where_no_limit_binds, no_limit_binds_unset}
use Rattle.promises.proofs.RowTotals.{own_refusals_first, own_unless_outside, outside_means, totals_stay_equal, never_outside, totals_follow, recount_is_walk, recount_is_kept}
use Rattle.promises.proofs.RowCondition3.{row_condition_3}
use Rattle.promises.proofs.RowCalls.{row_calls_are_events, row_calls_follow, row_calls_total, row_calls_condition_3}
use Rattle.promises.proofs.RowRecords.{narrow_over_rows, row_is_run, row_records_follow}
use Rattle.promises.proofs.Examples.{examples, why_it_stops, why_at_that_moment, further_kind, row_examples, why_the_one_session, total_examples, capability_examples, wish_examples, move_examples}
use Rattle.promises.proofs.Traits.{numbered_means}
use Rattle.promises.proofs.Determined.{all_determined}
use Rattle.promises.proofs.Why.{why_not_law}
use Rattle.promises.proofs.Wishes.{wish_is_kept, wishes_stay, wishes_stay_sound, wishes_of_both}
use Rattle.promises.proofs.WishesRead.{wish_read_as_meant, sac_is_written, sac_read_as_meant, wanted_is_not_disabled}
use Rattle.promises.proofs.kept.Goals as goal

pub returns : goal.returns
returns c =
    record {
      layouts_agree = layouts_agree;
      app_layouts_agree = app_layouts_agree;
      numbered_means = numbered_means;
      parts_inside = parts_inside;
      nothing_after_refusal = nothing_after_refusal;
      read_by_tlvs = read_by_tlvs;
      capabilities_found = capabilities_found;
      first_decides = first_decides;
      absent_stays = absent_stays;
      listed_is_present = listed_is_present;
      unknown_is_skipped = unknown_is_skipped;
      met_is_stood = met_is_stood;
      unknown_is_not_met = unknown_is_not_met;
      met_fits = met_fits;
      later_holds = later_holds;
      idle_stays = idle_stays;
      sound_means = sound.both_ways;
      permitted_means = permits.both_ways;
      sound_over_runs = sound_over_runs;
      refused_is_nothing = refused_is_nothing;
      room_stays = room_stays;
      refused_can_go = refused_can_go;
      without_limits = without_limits;
      found_or_told = found_or_told;
      read_as_meant = read_as_meant;
      condition_3 = condition_3;
      all_held_is_base = all_held_is_base;
      holding_more = holding_more;
      ours_stay = ours_stay;
      theirs_only_open = theirs_only_open;
      theirs_follow = theirs_follow;
      wish_is_kept = wish_is_kept;
      wish_read_as_meant = wish_read_as_meant;
      sac_is_written = sac_is_written;
      sac_read_as_meant = sac_read_as_meant;
      wanted_is_not_disabled = wanted_is_not_disabled;
      wishes_stay = wishes_stay;
      wishes_stay_sound = wishes_stay_sound;
      wishes_of_both = wishes_of_both;
      read_back = read_back;
      stored_back = stored_back;
      records_follow = records_follow;
      loaded_back = loaded_back;
      stays_as_loaded = stays_as_loaded;
      there_and_back = there_and_back;
      back_and_there = back_and_there;
      moves_refused = moves_refused;
      lost_means = lost_means;
      moved_is_same = moved_is_same;
      one_kind = one_kind;
      calls_are_events = calls_are_events;
      rooms_are_events = rooms_are_events;
      calls_follow = calls_follow;
      calls_answer = calls_answer;
      creation_is_sound = creation_is_sound;
      permitted_is_asked = permitted_is_asked;
      calls_condition_3 = calls_condition_3;
      calls_move = calls_move;
      kind1_refused = kind1_refused;
      all_determined = all_determined;
      sound_over_rows = sound_over_rows;
      others_stay = others_stay;
      row_refused_is_nothing = row_refused_is_nothing;
      counts_follow = counts_follow;
      limit_is_mismatch = limit_is_mismatch;
      limits_decide = limits_decide;
      base_where_no_limit_binds = base_where_no_limit_binds;
      no_limit_binds_unset = no_limit_binds_unset;
      own_refusals_first = own_refusals_first;
      own_unless_outside = own_unless_outside;
      outside_means = outside_means;
      totals_stay_equal = totals_stay_equal;
      never_outside = never_outside;
      totals_follow = totals_follow;
      recount_is_walk = recount_is_walk;
      recount_is_kept = recount_is_kept;
      row_condition_3 = row_condition_3;
      row_calls_are_events = row_calls_are_events;
      row_calls_follow = row_calls_follow;
      row_calls_total = row_calls_total;
      row_calls_condition_3 = row_calls_condition_3;
      narrow_over_rows = narrow_over_rows;
      row_is_run = row_is_run;
      row_records_follow = row_records_follow;
      why_not_law = why_not_law;
      examples = examples;
      why_it_stops = why_it_stops;
      why_at_that_moment = why_at_that_moment;
      further_kind = further_kind;
      wish_examples = wish_examples;
      row_examples = row_examples;
      why_the_one_session = why_the_one_session;
      total_examples = total_examples;
      capability_examples = capability_examples;
      move_examples = move_examples;
    }
