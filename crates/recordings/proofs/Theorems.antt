-- What a reader and a writer of recordings rely on.
-- Numbers: written digits read back, and read digits write back.
pub use Rattle.recordings.proofs.DigitLaws.{digits_read, digits_written}
-- Records: a written one is good and reads back; a good one is what is written of what it reads as, and that can be written.
pub use Rattle.recordings.proofs.RecordWriting.{length_record, record_bytes_lem, record_good, record_read, record_written, record_fits}
-- Blocks: the same, and only one block at a place reads as given records.
pub use Rattle.recordings.proofs.WritingLaws.{length_block, block_bytes_lem, written_good, written_read, block_written, entries_fit, one_block}
-- Writing on lent bytes: records put one after the other and sealed are the block that is written of them.
pub use Rattle.recordings.proofs.PutLaws.{put_sealed}
-- What a good block says of its parts, and what a record says by its kind.
pub use Rattle.recordings.proofs.BlockLaws.{Good, good_parts, slot_good, block_starts, short_block}
pub use Rattle.recordings.proofs.RecordLaws.{recorded_in_lem, step_entry, wait_entry, few_posts_lem}
