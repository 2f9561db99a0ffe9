-- "Every public function promises something of its outcome, and the promise determines that outcome": of any two outcomes that a contract allows, what is
-- handed back and every octet and session left in what was lent are equal. By crate, over the contracts as the check reads them. Assumes nothing.
use Rattle.std.specs.Prelude.{refl}
use Rattle.choice.specs.Determined.{Determined, Determines, both}
use Rattle.refusals.specs.contracts as refusals
use Rattle.sets.specs.contracts as sets
use Rattle.kinds.specs.contracts as kinds
use Rattle.octets.specs.contracts as octets
use Rattle.area.specs.contracts as area
use Rattle.lists.specs.contracts as lists
use Rattle.message.specs.contracts as message
use Rattle.wishes.specs.contracts as wishes
use Rattle.session.specs.contracts as session
use Rattle.record.specs.contracts as records
use Rattle.totals.specs.contracts as totals
use Rattle.row.specs.contracts as row
use Rattle.tacit.specs.contracts as tacit
use Rattle.promises.specs.Allowed.{Allows, AllowsBoth, AllowsAll}
use Rattle.promises.specs.Traits.{Wide, Narrow, Number, IsKnown, IsIn, Switched, of_8, of_16, applications, apps, capabilities}
use Rattle.promises.specs.Walked.{TallyOf, RowCount, Recount, RowEventCall}

pub record RefusalsDetermined : Type 0 where
  pub number : Determined (Allows refusals.U8FromRefusal.from.ended (λ w. refusals.U8FromRefusal.from.clauses) (λ w. refl) tt)
  pub number_of : Determined (Allows refusals.number_of.ended (λ w. refusals.number_of.clauses) (λ w. refl) tt)

pub record SetsDetermined : Type 0 where
  pub has : Determined (Allows sets.has.ended (λ w. sets.has.clauses) (λ w. refl) tt)
  pub common : Determined (Allows sets.common.ended (λ w. sets.common.clauses) (λ w. refl) tt)
  pub meets : Determined (Allows sets.meets.ended (λ w. sets.meets.clauses) (λ w. refl) tt)
  pub union : Determined (Allows sets.union.ended (λ w. sets.union.clauses) (λ w. refl) tt)
  pub minus : Determined (Allows sets.minus.ended (λ w. sets.minus.clauses) (λ w. refl) tt)
  pub without : Determined (Allows sets.without.ended (λ w. sets.without.clauses) (λ w. refl) tt)
  pub first : Determined (Allows sets.first.ended (λ w. sets.first.clauses) (λ w. refl) tt)
  pub numbered : Determined (Allows sets.numbered.ended (λ w. sets.numbered.clauses) (λ w. refl) tt)
  pub holds : Determined (Allows sets.holds.ended (λ w. sets.holds.clauses) (λ w. refl) tt)
  pub switched : Determined (Allows sets.switched.ended (λ w. sets.switched.clauses) (λ w. refl) tt)
  pub wide_8 : (κs : _) → Determined (Wide of_8 κs)
  pub narrow_8 : (κs : _) → Determined (Narrow of_8 κs)
  pub wide_16 : (κs : _) → Determined (Wide of_16 κs)
  pub narrow_16 : (κs : _) → Determined (Narrow of_16 κs)

pub record KindsDetermined : Type 0 where
  pub number : (κs : _) → Determined (Number applications κs)
  pub is_known : (κs : _) → Determined (IsKnown applications κs)
  pub is_in : (κs : _) → Determined (IsIn applications κs)
  pub switched : (κs : _) → Determined (Switched applications κs)
  pub app_number : (κs : _) → Determined (Number apps κs)
  pub app_is_known : (κs : _) → Determined (IsKnown apps κs)
  pub app_is_in : (κs : _) → Determined (IsIn apps κs)
  pub app_switched : (κs : _) → Determined (Switched apps κs)
  pub capability_number : (κs : _) → Determined (Number capabilities κs)
  pub capability_is_known : (κs : _) → Determined (IsKnown capabilities κs)
  pub capability_is_in : (κs : _) → Determined (IsIn capabilities κs)
  pub capability_switched : (κs : _) → Determined (Switched capabilities κs)
  pub opens_kind : Determined (Allows kinds.opens_kind.ended (λ w. kinds.opens_kind.clauses) (λ w. refl) tt)
  pub opened : Determined (Allows kinds.opened.ended (λ w. kinds.opened.clauses) (λ w. refl) tt)
  pub disables_kind : Determined (Allows kinds.disables_kind.ended (λ w. kinds.disables_kind.clauses) (λ w. refl) tt)
  pub disables : Determined (Allows kinds.disables.ended (λ w. kinds.disables.clauses) (λ w. refl) tt)
  pub bars_kind : Determined (Allows kinds.bars_kind.ended (λ w. kinds.bars_kind.clauses) (λ w. refl) tt)
  pub barred : Determined (Allows kinds.barred.ended (λ w. kinds.barred.clauses) (λ w. refl) tt)

pub record OctetsDetermined : Type 0 where
  pub put : (κs : _) → Determines (Allows octets.put.ended (λ w. octets.put.clauses) (λ w. refl) κs) (λ r s. s.0.now)
  pub put_at : (κs : _) → Determines (Allows octets.put_at.ended (λ w. octets.put_at.clauses) (λ w. refl) κs) (λ r s. s.0.now)
  pub top_bit : Determined (Allows octets.top_bit.ended (λ w. octets.top_bit.clauses) (λ w. refl) tt)
  pub read16 : (κs : _) → Determined (Allows octets.read16.ended (λ w. octets.read16.clauses) (λ w. refl) κs)
  pub read32 : (κs : _) → Determined (Allows octets.read32.ended (λ w. octets.read32.clauses) (λ w. refl) κs)

pub record AreaDetermined : Type 0 where
  pub at16 : (κs : _) → Determined (AllowsBoth area.at16.ended (λ w. area.at16.clauses) (λ w. refl) κs)
  pub from : Determined (Allows area.ReadingFromResultFoundRefusal.from.ended (λ w. area.ReadingFromResultFoundRefusal.from.clauses) (λ w. refl) tt)
  pub found_in : (κs : _) → Determined (Allows area.found_in.ended (λ w. area.found_in.clauses) (λ w. refl) κs)
  pub read_area : (κs : _) → Determined (Allows area.read_area.ended (λ w. area.read_area.clauses) (λ w. refl) κs)
  pub part_within : (κs : _) → Determines (Allows area.part_within.ended (λ w. area.part_within.clauses) (λ w. refl) κs) (λ r s. r.now)
  pub part_of : (κs : _) → Determines (Allows area.part_of.ended (λ w. area.part_of.clauses) (λ w. refl) κs) (λ r s. r.now)
  pub s_bit : (κs : _) → Determined (Allows area.s_bit.ended (λ w. area.s_bit.clauses) (λ w. refl) κs)

pub record ListsDetermined : Type 0 where
  pub tac_list : (κs : _) → Determined (Allows lists.tac_list.ended (λ w. lists.tac_list.clauses) (λ w. refl) κs)
  pub sac_list : (κs : _) → Determined (Allows lists.sac_list.ended (λ w. lists.sac_list.clauses) (λ w. refl) κs)

pub record MessageDetermined : Type 0 where
  pub write : (κs : _) → Determines (Allows message.write.ended (λ w. message.write.clauses) (λ w. refl) κs) (λ r s. s.0.now)
  pub write_sac : (κs : _) → Determines (Allows message.sac.write_sac.ended (λ w. message.sac.write_sac.clauses) (λ w. refl) κs) (λ r s. both r s.0.now)

pub record WishesDetermined : Type 0 where
  pub sound : Determined (Allows wishes.sound.ended (λ w. wishes.sound.clauses) (λ w. refl) tt)
  pub after : Determined (Allows wishes.after.ended (λ w. wishes.after.clauses) (λ w. refl) tt)
  pub wanted : Determined (Allows wishes.wanted.ended (λ w. wishes.wanted.clauses) (λ w. refl) tt)
  pub sac : (κs : _) → Determines (Allows wishes.sac.ended (λ w. wishes.sac.clauses) (λ w. refl) κs) (λ r s. both r s.1.0.now)
  pub want_from : Determined (Allows wishes.WantFromResultBoolRefusal.from.ended (λ w. wishes.WantFromResultBoolRefusal.from.clauses) (λ w. refl) tt)
  pub written_from : Determined (Allows wishes.WrittenFromResultU16Refusal.from.ended (λ w. wishes.WrittenFromResultU16Refusal.from.clauses) (λ w. refl) tt)

pub record SessionDetermined : Type 0 where
  pub new : Determined (Allows session.Session.new.ended (λ w. session.Session.new.clauses) (λ w. refl) tt)
  pub sound : Determined (Allows session.Session.sound.ended (λ w. session.Session.sound.clauses) (λ w. refl) tt)
  pub permitted : Determined (Allows session.Session.permitted.ended (λ w. session.Session.permitted.clauses) (λ w. refl) tt)
  pub permitted_by_base : Determined (Allows session.Session.permitted_by_base.ended (λ w. session.Session.permitted_by_base.clauses) (λ w. refl) tt)
  pub permitted_kinds : Determined (Allows session.Session.permitted_kinds.ended (λ w. session.Session.permitted_kinds.clauses) (λ w. refl) tt)
  pub permission : Determined (Allows session.Session.permission.ended (λ w. session.Session.permission.clauses) (λ w. refl) tt)
  pub why_not : Determined (Allows session.Session.why_not.ended (λ w. session.Session.why_not.clauses) (λ w. refl) tt)
  pub retry_interval : Determined (Allows session.Session.retry_interval.ended (λ w. session.Session.retry_interval.clauses) (λ w. refl) tt)
  pub obstacle_number : Determined (Allows session.questions.U8FromObstacle.from.ended (λ w. session.questions.U8FromObstacle.from.clauses) (λ w. refl) tt)
  pub kinds_from : Determined (Allows session.questions.KindsFromResultU16Refusal.from.ended (λ w. session.questions.KindsFromResultU16Refusal.from.clauses) (λ w. refl) tt)
  pub permission_from : Determined (Allows session.questions.PermissionFromResultBoolRefusal.from.ended (λ w. session.questions.PermissionFromResultBoolRefusal.from.clauses) (λ w. refl) tt)
  pub reason_from : Determined (Allows session.questions.ReasonFromResultOptionObstacleRefusal.from.ended (λ w. session.questions.ReasonFromResultOptionObstacleRefusal.from.clauses) (λ w. refl) tt)
  pub retry_from : Determined (Allows session.questions.RetryFromResultU16Refusal.from.ended (λ w. session.questions.RetryFromResultU16Refusal.from.clauses) (λ w. refl) tt)
  pub sound_session : Determined (Allows session.checked.SoundSession.session.ended (λ w. session.checked.SoundSession.session.clauses) (λ w. refl) tt)
  pub sound_tried : Determined (Allows session.checked.SoundSessionTryFromSession.try_from.ended (λ w. session.checked.SoundSessionTryFromSession.try_from.clauses) (λ w. refl) tt)
  pub sound_of : Determined (Allows session.checked.SoundSession.of.ended (λ w. session.checked.SoundSession.of.clauses) (λ w. refl) tt)
  pub sound_initialization : (κs : _) → Determined (Allows session.checked.SoundSession.initialization.ended (λ w. session.checked.SoundSession.initialization.clauses) (λ w. refl) κs)
  pub initialization : (κs : _) → Determined (Allows session.Session.initialization.ended (λ w. session.Session.initialization.clauses) (λ w. refl) κs)
  pub sound_used : Determined (Allows session.checked.SoundSession.used.ended (λ w. session.checked.SoundSession.used.clauses) (λ w. refl) tt)
  pub sound_capability : (κs : _) → Determined (Allows session.checked.SoundSession.capability.ended (λ w. session.checked.SoundSession.capability.clauses) (λ w. refl) κs)
  pub capability : (κs : _) → Determined (Allows session.Session.capability.ended (λ w. session.Session.capability.clauses) (λ w. refl) κs)
  pub sound_local_change : Determined (Allows session.checked.SoundSession.local_change.ended (λ w. session.checked.SoundSession.local_change.clauses) (λ w. refl) tt)
  pub local_change : Determined (Allows session.Session.local_change.ended (λ w. session.Session.local_change.clauses) (λ w. refl) tt)
  pub sound_wish : Determined (Allows session.checked.SoundSession.wish.ended (λ w. session.checked.SoundSession.wish.clauses) (λ w. refl) tt)
  pub wish : Determined (Allows session.Session.wish.ended (λ w. session.Session.wish.clauses) (λ w. refl) tt)
  pub sound_mismatch : Determined (Allows session.checked.SoundSession.mismatch.ended (λ w. session.checked.SoundSession.mismatch.clauses) (λ w. refl) tt)
  pub mismatch : Determined (Allows session.Session.mismatch.ended (λ w. session.Session.mismatch.clauses) (λ w. refl) tt)
  pub sound_hello : Determined (Allows session.checked.SoundSession.hello.ended (λ w. session.checked.SoundSession.hello.clauses) (λ w. refl) tt)
  pub hello : Determined (Allows session.Session.hello.ended (λ w. session.Session.hello.clauses) (λ w. refl) tt)
  pub sound_closed : Determined (Allows session.checked.SoundSession.closed.ended (λ w. session.checked.SoundSession.closed.clauses) (λ w. refl) tt)
  pub closed : Determined (Allows session.Session.closed.ended (λ w. session.Session.closed.clauses) (λ w. refl) tt)
  pub sound_unknown : Determined (Allows session.checked.SoundSession.unknown.ended (λ w. session.checked.SoundSession.unknown.clauses) (λ w. refl) tt)
  pub unknown : Determined (Allows session.Session.unknown.ended (λ w. session.Session.unknown.clauses) (λ w. refl) tt)
  pub refused : Determined (Allows session.Session.refused.ended (λ w. session.Session.refused.clauses) (λ w. refl) tt)
  pub none : Determined (Allows session.Session.none.ended (λ w. session.Session.none.clauses) (λ w. refl) tt)

pub record RecordDetermined : Type 0 where
  pub stored_in : (κs : _) → Determines (Allows records.stored_in.ended (λ w. records.stored_in.clauses) (λ w. refl) κs) (λ r s. s.1.0.now)
  pub decoded : (κs : _) → Determined (Allows records.decoded.ended (λ w. records.decoded.clauses) (λ w. refl) κs)
  pub carry : (κs : _) → Determines (Allows records.carry.ended (λ w. records.carry.clauses) (λ w. refl) κs) (λ r s. both r s.0.now)
  pub load : (κs : _) → Determined (Allows records.load.ended (λ w. records.load.clauses) (λ w. refl) κs)
  pub store : (κs : _) → Determines (Allows records.store.ended (λ w. records.store.clauses) (λ w. refl) κs) (λ r s. both r s.1.0.now)
  pub forward : (κs : _) → Determines (Allows records.moves.forward.ended (λ w. records.moves.forward.clauses) (λ w. refl) κs) (λ r s. both r s.1.0.now)
  pub back : (κs : _) → Determines (Allows records.moves.back.ended (λ w. records.moves.back.clauses) (λ w. refl) κs) (λ r s. both r s.1.0.now)
  pub loaded_from : Determined (Allows records.LoadedFromResultSessionRefusal.from.ended (λ w. records.LoadedFromResultSessionRefusal.from.clauses) (λ w. refl) tt)
  pub moved_from : Determined (Allows records.MovedFromResultU16Refusal.from.ended (λ w. records.MovedFromResultU16Refusal.from.clauses) (λ w. refl) tt)

pub record TotalsDetermined : Type 0 where
  pub totalled : Determined (Allows totals.Totals.totalled.ended (λ w. totals.Totals.totalled.clauses) (λ w. refl) tt)
  pub of_kind : Determined (Allows totals.Totals.of_kind.ended (λ w. totals.Totals.of_kind.clauses) (λ w. refl) tt)
  pub told_total : Determined (Allows totals.TotalFromResultU8Refusal.from.ended (λ w. totals.TotalFromResultU8Refusal.from.clauses) (λ w. refl) tt)

pub record RowDetermined : Type 0 where
  pub counted : Determined (Allows row.EventNumbers.counted.ended (λ w. row.EventNumbers.counted.clauses) (λ w. refl) tt)
  pub no_limits : Determined (Allows row.Limits.none.ended (λ w. row.Limits.none.clauses) (λ w. refl) tt)
  pub limited : Determined (Allows row.Limits.limited.ended (λ w. row.Limits.limited.clauses) (λ w. refl) tt)
  pub count_by : Determined (Allows row.Tally.count_by.ended (λ w. row.Tally.count_by.clauses) (λ w. refl) tt)
  pub event_in : (κs : _) → Determines (Allows row.event_in.ended (λ w. row.event_in.clauses) (λ w. refl) κs) (λ r s. both r s.1.1.1.1.1.1.0.now)
  pub outside : Determined (Allows row.outside.ended (λ w. row.outside.clauses) (λ w. refl) tt)
  pub recount_by : Determined (Allows row.Tally.recount_by.ended (λ w. row.Tally.recount_by.clauses) (λ w. refl) tt)
  pub tally_of : (κs : _) → Determined (TallyOf κs)
  pub told_count : Determined (Allows row.told.CountFromResultU8Refusal.from.ended (λ w. row.told.CountFromResultU8Refusal.from.clauses) (λ w. refl) tt)
  pub told_totals : Determined (Allows row.told.RowTotalsFromResultTotalsRefusal.from.ended (λ w. row.told.RowTotalsFromResultTotalsRefusal.from.clauses) (λ w. refl) tt)

pub record TacitDetermined : Type 0 where
  pub tacit_create : (κs : _) → Determines (Allows tacit.tacit_create.ended (λ w. tacit.tacit_create.clauses) (λ w. refl) κs) (λ r s. both r s.0.now)
  pub tacit_read : (κs : _) → Determined (Allows tacit.tacit_read.ended (λ w. tacit.tacit_read.clauses) (λ w. refl) κs)
  pub tacit_initialization : (κs : _) → Determines (Allows tacit.tacit_initialization.ended (λ w. tacit.tacit_initialization.clauses) (λ w. refl) κs) (λ r s. both r s.0.now)
  pub tacit_capability : (κs : _) → Determines (Allows tacit.tacit_capability.ended (λ w. tacit.tacit_capability.clauses) (λ w. refl) κs) (λ r s. both r s.0.now)
  pub tacit_local_change : (κs : _) → Determines (AllowsBoth tacit.tacit_local_change.ended (λ w. tacit.tacit_local_change.clauses) (λ w. refl) κs) (λ r s. both r (both s.0.now s.1.1.1.0.now))
  pub tacit_wish : (κs : _) → Determines (AllowsAll tacit.tacit_wish.ended (λ w. tacit.tacit_wish.clauses) (λ w. refl) κs) (λ r s. both r (both s.0.now s.1.1.1.1.0.now))
  pub tacit_wish_sac : (κs : _) → Determines (Allows tacit.tacit_wish_sac.ended (λ w. tacit.tacit_wish_sac.clauses) (λ w. refl) κs) (λ r s. both r s.1.0.now)
  pub tacit_wanted : Determined (Allows tacit.tacit_wanted.ended (λ w. tacit.tacit_wanted.clauses) (λ w. refl) tt)
  pub tacit_mismatch : (κs : _) → Determines (Allows tacit.tacit_mismatch.ended (λ w. tacit.tacit_mismatch.clauses) (λ w. refl) κs) (λ r s. both r s.0.now)
  pub tacit_hello : (κs : _) → Determines (Allows tacit.tacit_hello.ended (λ w. tacit.tacit_hello.clauses) (λ w. refl) κs) (λ r s. both r s.0.now)
  pub tacit_closed : (κs : _) → Determines (Allows tacit.tacit_closed.ended (λ w. tacit.tacit_closed.clauses) (λ w. refl) κs) (λ r s. both r s.0.now)
  pub tacit_permitted : (κs : _) → Determined (Allows tacit.tacit_permitted.ended (λ w. tacit.tacit_permitted.clauses) (λ w. refl) κs)
  pub tacit_permitted_kinds : (κs : _) → Determined (Allows tacit.tacit_permitted_kinds.ended (λ w. tacit.tacit_permitted_kinds.clauses) (λ w. refl) κs)
  pub tacit_why_not : (κs : _) → Determined (Allows tacit.tacit_why_not.ended (λ w. tacit.tacit_why_not.clauses) (λ w. refl) κs)
  pub tacit_retry_interval : (κs : _) → Determined (Allows tacit.tacit_retry_interval.ended (λ w. tacit.tacit_retry_interval.clauses) (λ w. refl) κs)
  pub tacit_sound : (κs : _) → Determined (Allows tacit.tacit_sound.ended (λ w. tacit.tacit_sound.clauses) (λ w. refl) κs)
  pub tacit_load : (κs : _) → Determined (Allows tacit.tacit_load.ended (λ w. tacit.tacit_load.clauses) (λ w. refl) κs)
  pub tacit_store : (κs : _) → Determines (Allows tacit.tacit_store.ended (λ w. tacit.tacit_store.clauses) (λ w. refl) κs) (λ r s. both r s.1.0.now)
  pub tacit_forward : (κs : _) → Determines (Allows tacit.tacit_forward.ended (λ w. tacit.tacit_forward.clauses) (λ w. refl) κs) (λ r s. both r s.1.0.now)
  pub tacit_back : (κs : _) → Determines (Allows tacit.tacit_back.ended (λ w. tacit.tacit_back.clauses) (λ w. refl) κs) (λ r s. both r s.1.0.now)
  pub tacit_no_limits : Determined (Allows tacit.tacit_no_limits.ended (λ w. tacit.tacit_no_limits.clauses) (λ w. refl) tt)
  pub tacit_set_limit : Determined (Allows tacit.tacit_set_limit.ended (λ w. tacit.tacit_set_limit.clauses) (λ w. refl) tt)
  pub tacit_row_count : (κs : _) → Determined (RowCount κs)
  pub tacit_kind_total : Determined (Allows tacit.tacit_kind_total.ended (λ w. tacit.tacit_kind_total.clauses) (λ w. refl) tt)
  pub tacit_recount : (κs : _) → Determined (Recount κs)
  pub tacit_row_event : (κs : _) → Determines (RowEventCall κs) (λ r s. both r (both s.0.now s.1.1.1.1.1.1.0.now))

pub record AllDetermined : Type 0 where
  pub refusals : RefusalsDetermined
  pub sets : SetsDetermined
  pub kinds : KindsDetermined
  pub octets : OctetsDetermined
  pub area : AreaDetermined
  pub lists : ListsDetermined
  pub message : MessageDetermined
  pub wishes : WishesDetermined
  pub session : SessionDetermined
  pub records : RecordDetermined
  pub totals : TotalsDetermined
  pub row : RowDetermined
  pub tacit : TacitDetermined
