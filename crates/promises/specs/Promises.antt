-- All that is promised of sessions, records and rows beyond what each function ensures, and all laws that docs/PROMISES.md cites. Assumes nothing.
use Rattle.kinds.specs.ByKind.{LayoutsAgree, AppLayoutsAgree}
use Rattle.area.specs.Parts.{PartsInside, NothingAfterRefusal}
use Rattle.area.specs.Tlvs.{ReadByTlvs, CapabilitiesFound}
use Rattle.lists.specs.Tac.{FirstDecides, AbsentStays, ListedIsPresent, UnknownIsSkipped}
use Rattle.lists.specs.Met.{MetIsStood, UnknownIsNotMet, MetFits}
use Rattle.lists.specs.Sac.{LaterHolds, IdleStays}
use Rattle.session.specs.Session.{SoundMeans, PermittedMeans}
use Rattle.session.specs.Capabilities.{AllHeldIsBase, HoldingMore}
use Rattle.record.specs.Record.{ReadBack, StoredBack}
use Rattle.record.specs.Loaded.{LoadedBack, StaysAsLoaded}
use Rattle.record.specs.Moves.{ThereAndBack, BackAndThere, MovesRefused, LostMeans, MovedIsSame, OneKind}
use Rattle.promises.specs.Run.{SoundOverRuns, RefusedIsNothing, RoomStays, RefusedCanGo, WithoutLimits, FoundOrTold}
use Rattle.promises.specs.Condition3.{Condition3}
use Rattle.promises.specs.Capabilities.{OursStay, TheirsOnlyOpen, TheirsFollow}
use Rattle.promises.specs.Written.{ReadAsMeant}
use Rattle.promises.specs.Records.{RecordsFollow}
use Rattle.promises.specs.Calls.{CallsAreEvents, RoomsAreEvents, CallsFollow, CallsAnswer, CreationIsSound, PermittedIsAsked, CallsCondition3}
use Rattle.promises.specs.Moves.{CallsMove, Kind1Refused}
use Rattle.promises.specs.Rows.{SoundOverRows, OthersStay, RowRefusedIsNothing, CountsFollow, LimitIsMismatch, LimitsDecide, BaseWhereNoLimitBinds, NoLimitBindsUnset}
use Rattle.promises.specs.RowTotals.{OwnRefusalsFirst, OwnUnlessOutside, OutsideMeans, TotalsStayEqual, NeverOutside, TotalsFollow, RecountIsWalk, RecountIsKept}
use Rattle.promises.specs.RowCondition3.{RowCondition3}
use Rattle.promises.specs.RowCalls.{RowCallsAreEvents, RowCallsFollow, RowCallsTotal, RowCallsCondition3}
use Rattle.promises.specs.RowRecords.{NarrowOverRows, RowIsRun, RowRecordsFollow}
use Rattle.promises.specs.Examples.{Examples, WhyItStops, WhyAtThatMoment, FurtherKind}
use Rattle.promises.specs.Why.{WhyNot}
use Rattle.promises.specs.Wishes.{WishIsKept, WishReadAsMeant, SacIsWritten, SacReadAsMeant, WantedIsNotDisabled, WishesStay, WishesStaySound, WishesOfBoth}
use Rattle.promises.specs.RowExamples.{RowExamples, WhyTheOneSession}
use Rattle.promises.specs.TotalExamples.{TotalExamples}
use Rattle.promises.specs.CapabilityExamples.{CapabilityExamples}
use Rattle.promises.specs.WishExamples.{WishExamples}
use Rattle.promises.specs.MoveExamples.{MoveExamples}
use Rattle.promises.specs.Traits.{NumberedMeans}
use Rattle.promises.specs.Determined.{AllDetermined}

pub record Promises : Type 0 where
  -- applications and kinds
  pub layouts_agree : LayoutsAgree
  pub app_layouts_agree : AppLayoutsAgree
  pub numbered_means : NumberedMeans
  -- reading, and lists
  pub parts_inside : PartsInside
  pub nothing_after_refusal : NothingAfterRefusal
  pub read_by_tlvs : ReadByTlvs
  pub capabilities_found : CapabilitiesFound
  pub first_decides : FirstDecides
  pub absent_stays : AbsentStays
  pub listed_is_present : ListedIsPresent
  pub unknown_is_skipped : UnknownIsSkipped
  pub met_is_stood : MetIsStood
  pub unknown_is_not_met : UnknownIsNotMet
  pub met_fits : MetFits
  pub later_holds : LaterHolds
  pub idle_stays : IdleStays
  -- sessions and their events
  pub sound_means : SoundMeans
  pub permitted_means : PermittedMeans
  pub why_not_law : WhyNot
  pub sound_over_runs : SoundOverRuns
  pub refused_is_nothing : RefusedIsNothing
  pub room_stays : RoomStays
  pub refused_can_go : RefusedCanGo
  pub without_limits : WithoutLimits
  pub found_or_told : FoundOrTold
  pub read_as_meant : ReadAsMeant
  pub condition_3 : Condition3
  -- capabilities of both ends
  pub all_held_is_base : AllHeldIsBase
  pub holding_more : HoldingMore
  pub ours_stay : OursStay
  pub theirs_only_open : TheirsOnlyOpen
  pub theirs_follow : TheirsFollow
  -- our wishes, beside the session
  pub wish_is_kept : WishIsKept
  pub wish_read_as_meant : WishReadAsMeant
  pub sac_is_written : SacIsWritten
  pub sac_read_as_meant : SacReadAsMeant
  pub wanted_is_not_disabled : WantedIsNotDisabled
  pub wishes_stay : WishesStay
  pub wishes_stay_sound : WishesStaySound
  pub wishes_of_both : WishesOfBoth
  -- records
  pub read_back : ReadBack
  pub stored_back : StoredBack
  pub records_follow : RecordsFollow
  pub loaded_back : LoadedBack
  pub stays_as_loaded : StaysAsLoaded
  -- records of kind 1, and the moves
  pub there_and_back : ThereAndBack
  pub back_and_there : BackAndThere
  pub moves_refused : MovesRefused
  pub lost_means : LostMeans
  pub moved_is_same : MovedIsSame
  pub one_kind : OneKind
  -- the C calls
  pub calls_are_events : CallsAreEvents
  pub rooms_are_events : RoomsAreEvents
  pub calls_follow : CallsFollow
  pub calls_answer : CallsAnswer
  pub creation_is_sound : CreationIsSound
  pub permitted_is_asked : PermittedIsAsked
  pub calls_condition_3 : CallsCondition3
  pub calls_move : CallsMove
  pub kind1_refused : Kind1Refused
  pub all_determined : AllDetermined
  -- rows
  pub sound_over_rows : SoundOverRows
  pub others_stay : OthersStay
  pub row_refused_is_nothing : RowRefusedIsNothing
  pub counts_follow : CountsFollow
  pub limit_is_mismatch : LimitIsMismatch
  pub limits_decide : LimitsDecide
  pub base_where_no_limit_binds : BaseWhereNoLimitBinds
  pub no_limit_binds_unset : NoLimitBindsUnset
  pub own_refusals_first : OwnRefusalsFirst
  pub own_unless_outside : OwnUnlessOutside
  pub outside_means : OutsideMeans
  pub totals_stay_equal : TotalsStayEqual
  pub never_outside : NeverOutside
  pub totals_follow : TotalsFollow
  pub recount_is_walk : RecountIsWalk
  pub recount_is_kept : RecountIsKept
  pub row_condition_3 : RowCondition3
  pub row_calls_are_events : RowCallsAreEvents
  pub row_calls_follow : RowCallsFollow
  pub row_calls_total : RowCallsTotal
  pub row_calls_condition_3 : RowCallsCondition3
  pub narrow_over_rows : NarrowOverRows
  pub row_is_run : RowIsRun
  pub row_records_follow : RowRecordsFollow
  -- computed
  pub examples : Examples
  pub why_it_stops : WhyItStops
  pub why_at_that_moment : WhyAtThatMoment
  pub further_kind : FurtherKind
  pub wish_examples : WishExamples
  pub row_examples : RowExamples
  pub why_the_one_session : WhyTheOneSession
  pub total_examples : TotalExamples
  pub capability_examples : CapabilityExamples
  pub move_examples : MoveExamples
