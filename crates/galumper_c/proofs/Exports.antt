-- The exports beside the calls of galumper that they make. The claim about exported calls (crate galumper_account) is made of those calls'
-- own contracts, as nothing can stand on a static library. That it is a claim about the exports is said here: each promises a program what its
-- call promises, and asks of it what its call asks, which is nothing; and the code that is linked meets that.
use Rattle.std.specs.Prelude.{◌≡◌, refl}
use Rattle.galumper.proofs.galumper_abi.Reads as Abi
use Rattle.galumper.proofs.galumper_size.Reads as Size
use Rattle.galumper.proofs.galumper_lent_create.Reads as Create
use Rattle.galumper.proofs.galumper_lent_append.Reads as Append
use Rattle.galumper.proofs.galumper_lent_append_batch.Reads as AppendBatch
use Rattle.galumper.proofs.galumper_lent_remove.Reads as Remove
use Rattle.galumper.proofs.galumper_lent_abort.Reads as Abort
use Rattle.galumper.proofs.galumper_lent_set_segments.Reads as SetSegments
use Rattle.galumper.proofs.galumper_lent_set_sequence.Reads as SetSequence
use Rattle.galumper.proofs.galumper_lent_set_offset.Reads as SetOffset
use Rattle.galumper.proofs.galumper_lent_set_window_start.Reads as SetWindowStart
use Rattle.galumper.proofs.galumper_lent_set_window_end.Reads as SetWindowEnd
use Rattle.galumper.proofs.galumper_lent_read_settings.Reads as ReadSettings
use Rattle.galumper.proofs.galumper_lent_track_ranges.Reads as TrackRanges
use Rattle.galumper.proofs.galumper_lent_common_ranges.Reads as CommonRanges
use Rattle.galumper.proofs.galumper_lent_walked.Reads as Walked
use Rattle.galumper.proofs.galumper_lent_seek.Reads as Seek
use Rattle.galumper.proofs.galumper_lent_feed.Reads as Feed
use Rattle.galumper.proofs.galumper_lent_list_segment.Reads as ListSegment
use Rattle.galumper.proofs.galumper_fresh_reader.Reads as FreshReader
use Rattle.galumper.proofs.galumper_lent_take_lump.Reads as TakeLump
use Rattle.galumper.proofs.galumper_lent_take_last.Reads as TakeLast
use Rattle.galumper_c.proofs.galumper_abi.Reads as AbiExport
use Rattle.galumper_c.proofs.galumper_size.Reads as SizeExport
use Rattle.galumper_c.proofs.galumper_lent_create.Reads as CreateExport
use Rattle.galumper_c.proofs.galumper_lent_append.Reads as AppendExport
use Rattle.galumper_c.proofs.galumper_lent_append_batch.Reads as AppendBatchExport
use Rattle.galumper_c.proofs.galumper_lent_remove.Reads as RemoveExport
use Rattle.galumper_c.proofs.galumper_lent_abort.Reads as AbortExport
use Rattle.galumper_c.proofs.galumper_lent_set_segments.Reads as SetSegmentsExport
use Rattle.galumper_c.proofs.galumper_lent_set_sequence.Reads as SetSequenceExport
use Rattle.galumper_c.proofs.galumper_lent_set_offset.Reads as SetOffsetExport
use Rattle.galumper_c.proofs.galumper_lent_set_window_start.Reads as SetWindowStartExport
use Rattle.galumper_c.proofs.galumper_lent_set_window_end.Reads as SetWindowEndExport
use Rattle.galumper_c.proofs.galumper_lent_read_settings.Reads as ReadSettingsExport
use Rattle.galumper_c.proofs.galumper_lent_track_ranges.Reads as TrackRangesExport
use Rattle.galumper_c.proofs.galumper_lent_common_ranges.Reads as CommonRangesExport
use Rattle.galumper_c.proofs.galumper_lent_walked.Reads as WalkedExport
use Rattle.galumper_c.proofs.galumper_lent_seek.Reads as SeekExport
use Rattle.galumper_c.proofs.galumper_lent_feed.Reads as FeedExport
use Rattle.galumper_c.proofs.galumper_lent_list_segment.Reads as ListSegmentExport
use Rattle.galumper_c.proofs.galumper_fresh_reader.Reads as FreshReaderExport
use Rattle.galumper_c.proofs.galumper_lent_take_lump.Reads as TakeLumpExport
use Rattle.galumper_c.proofs.galumper_lent_take_last.Reads as TakeLastExport
use Rattle.galumper_c.proofs.galumper_abi.Statement as AbiSays
use Rattle.galumper_c.proofs.galumper_size.Statement as SizeSays
use Rattle.galumper_c.proofs.galumper_lent_create.Statement as CreateSays
use Rattle.galumper_c.proofs.galumper_lent_append.Statement as AppendSays
use Rattle.galumper_c.proofs.galumper_lent_append_batch.Statement as AppendBatchSays
use Rattle.galumper_c.proofs.galumper_lent_remove.Statement as RemoveSays
use Rattle.galumper_c.proofs.galumper_lent_abort.Statement as AbortSays
use Rattle.galumper_c.proofs.galumper_lent_set_segments.Statement as SetSegmentsSays
use Rattle.galumper_c.proofs.galumper_lent_set_sequence.Statement as SetSequenceSays
use Rattle.galumper_c.proofs.galumper_lent_set_offset.Statement as SetOffsetSays
use Rattle.galumper_c.proofs.galumper_lent_set_window_start.Statement as SetWindowStartSays
use Rattle.galumper_c.proofs.galumper_lent_set_window_end.Statement as SetWindowEndSays
use Rattle.galumper_c.proofs.galumper_lent_read_settings.Statement as ReadSettingsSays
use Rattle.galumper_c.proofs.galumper_lent_track_ranges.Statement as TrackRangesSays
use Rattle.galumper_c.proofs.galumper_lent_common_ranges.Statement as CommonRangesSays
use Rattle.galumper_c.proofs.galumper_lent_walked.Statement as WalkedSays
use Rattle.galumper_c.proofs.galumper_lent_seek.Statement as SeekSays
use Rattle.galumper_c.proofs.galumper_lent_feed.Statement as FeedSays
use Rattle.galumper_c.proofs.galumper_lent_list_segment.Statement as ListSegmentSays
use Rattle.galumper_c.proofs.galumper_fresh_reader.Statement as FreshReaderSays
use Rattle.galumper_c.proofs.galumper_lent_take_lump.Statement as TakeLumpSays
use Rattle.galumper_c.proofs.galumper_lent_take_last.Statement as TakeLastSays
use Rattle.galumper_c.proofs.galumper_abi.Met as AbiMet
use Rattle.galumper_c.proofs.galumper_size.Met as SizeMet
use Rattle.galumper_c.proofs.galumper_lent_create.Met as CreateMet
use Rattle.galumper_c.proofs.galumper_lent_append.Met as AppendMet
use Rattle.galumper_c.proofs.galumper_lent_append_batch.Met as AppendBatchMet
use Rattle.galumper_c.proofs.galumper_lent_remove.Met as RemoveMet
use Rattle.galumper_c.proofs.galumper_lent_abort.Met as AbortMet
use Rattle.galumper_c.proofs.galumper_lent_set_segments.Met as SetSegmentsMet
use Rattle.galumper_c.proofs.galumper_lent_set_sequence.Met as SetSequenceMet
use Rattle.galumper_c.proofs.galumper_lent_set_offset.Met as SetOffsetMet
use Rattle.galumper_c.proofs.galumper_lent_set_window_start.Met as SetWindowStartMet
use Rattle.galumper_c.proofs.galumper_lent_set_window_end.Met as SetWindowEndMet
use Rattle.galumper_c.proofs.galumper_lent_read_settings.Met as ReadSettingsMet
use Rattle.galumper_c.proofs.galumper_lent_track_ranges.Met as TrackRangesMet
use Rattle.galumper_c.proofs.galumper_lent_common_ranges.Met as CommonRangesMet
use Rattle.galumper_c.proofs.galumper_lent_walked.Met as WalkedMet
use Rattle.galumper_c.proofs.galumper_lent_seek.Met as SeekMet
use Rattle.galumper_c.proofs.galumper_lent_feed.Met as FeedMet
use Rattle.galumper_c.proofs.galumper_lent_list_segment.Met as ListSegmentMet
use Rattle.galumper_c.proofs.galumper_fresh_reader.Met as FreshReaderMet
use Rattle.galumper_c.proofs.galumper_lent_take_lump.Met as TakeLumpMet
use Rattle.galumper_c.proofs.galumper_lent_take_last.Met as TakeLastMet

-- what a program learns of an export is what a caller learns of the call, and the same is asked of both
pub record SameCalls : Type 1 where
  pub abi : (AbiExport.Learnt ≡ Abi.Learnt) × (AbiExport.Asked ≡ Abi.Asked)
  pub size : (SizeExport.Learnt ≡ Size.Learnt) × (SizeExport.Asked ≡ Size.Asked)
  pub create : (CreateExport.Learnt ≡ Create.Learnt) × (CreateExport.Asked ≡ Create.Asked)
  pub append : (AppendExport.Learnt ≡ Append.Learnt) × (AppendExport.Asked ≡ Append.Asked)
  pub append_batch : (AppendBatchExport.Learnt ≡ AppendBatch.Learnt) × (AppendBatchExport.Asked ≡ AppendBatch.Asked)
  pub remove : (RemoveExport.Learnt ≡ Remove.Learnt) × (RemoveExport.Asked ≡ Remove.Asked)
  pub abort : (AbortExport.Learnt ≡ Abort.Learnt) × (AbortExport.Asked ≡ Abort.Asked)
  pub set_segments : (SetSegmentsExport.Learnt ≡ SetSegments.Learnt) × (SetSegmentsExport.Asked ≡ SetSegments.Asked)
  pub set_sequence : (SetSequenceExport.Learnt ≡ SetSequence.Learnt) × (SetSequenceExport.Asked ≡ SetSequence.Asked)
  pub set_offset : (SetOffsetExport.Learnt ≡ SetOffset.Learnt) × (SetOffsetExport.Asked ≡ SetOffset.Asked)
  pub set_window_start : (SetWindowStartExport.Learnt ≡ SetWindowStart.Learnt) × (SetWindowStartExport.Asked ≡ SetWindowStart.Asked)
  pub set_window_end : (SetWindowEndExport.Learnt ≡ SetWindowEnd.Learnt) × (SetWindowEndExport.Asked ≡ SetWindowEnd.Asked)
  pub read_settings : (ReadSettingsExport.Learnt ≡ ReadSettings.Learnt) × (ReadSettingsExport.Asked ≡ ReadSettings.Asked)
  pub track_ranges : (TrackRangesExport.Learnt ≡ TrackRanges.Learnt) × (TrackRangesExport.Asked ≡ TrackRanges.Asked)
  pub common_ranges : (CommonRangesExport.Learnt ≡ CommonRanges.Learnt) × (CommonRangesExport.Asked ≡ CommonRanges.Asked)
  pub walked : (WalkedExport.Learnt ≡ Walked.Learnt) × (WalkedExport.Asked ≡ Walked.Asked)
  pub seek : (SeekExport.Learnt ≡ Seek.Learnt) × (SeekExport.Asked ≡ Seek.Asked)
  pub feed : (FeedExport.Learnt ≡ Feed.Learnt) × (FeedExport.Asked ≡ Feed.Asked)
  pub list_segment : (ListSegmentExport.Learnt ≡ ListSegment.Learnt) × (ListSegmentExport.Asked ≡ ListSegment.Asked)
  pub fresh_reader : (FreshReaderExport.Learnt ≡ FreshReader.Learnt) × (FreshReaderExport.Asked ≡ FreshReader.Asked)
  pub take_lump : (TakeLumpExport.Learnt ≡ TakeLump.Learnt) × (TakeLumpExport.Asked ≡ TakeLump.Asked)
  pub take_last : (TakeLastExport.Learnt ≡ TakeLast.Learnt) × (TakeLastExport.Asked ≡ TakeLast.Asked)

pub exports-same : SameCalls
exports-same = record {
  abi = (refl, refl);
  size = (refl, refl);
  create = (refl, refl);
  append = (refl, refl);
  append_batch = (refl, refl);
  remove = (refl, refl);
  abort = (refl, refl);
  set_segments = (refl, refl);
  set_sequence = (refl, refl);
  set_offset = (refl, refl);
  set_window_start = (refl, refl);
  set_window_end = (refl, refl);
  read_settings = (refl, refl);
  track_ranges = (refl, refl);
  common_ranges = (refl, refl);
  walked = (refl, refl);
  seek = (refl, refl);
  feed = (refl, refl);
  list_segment = (refl, refl);
  fresh_reader = (refl, refl);
  take_lump = (refl, refl);
  take_last = (refl, refl);
}

-- the code that is linked meets the contracts of the exports
pub exports-meet : {M : Type 1}
    → AbiSays.statement M
    × SizeSays.statement M
    × CreateSays.statement M
    × AppendSays.statement M
    × AppendBatchSays.statement M
    × RemoveSays.statement M
    × AbortSays.statement M
    × SetSegmentsSays.statement M
    × SetSequenceSays.statement M
    × SetOffsetSays.statement M
    × SetWindowStartSays.statement M
    × SetWindowEndSays.statement M
    × ReadSettingsSays.statement M
    × TrackRangesSays.statement M
    × CommonRangesSays.statement M
    × WalkedSays.statement M
    × SeekSays.statement M
    × FeedSays.statement M
    × ListSegmentSays.statement M
    × FreshReaderSays.statement M
    × TakeLumpSays.statement M
    × TakeLastSays.statement M
exports-meet = (AbiMet.met, SizeMet.met, CreateMet.met, AppendMet.met, AppendBatchMet.met, RemoveMet.met, AbortMet.met, SetSegmentsMet.met, SetSequenceMet.met, SetOffsetMet.met, SetWindowStartMet.met, SetWindowEndMet.met, ReadSettingsMet.met, TrackRangesMet.met, CommonRangesMet.met, WalkedMet.met, SeekMet.met, FeedMet.met, ListSegmentMet.met, FreshReaderMet.met, TakeLumpMet.met, TakeLastMet.met)
