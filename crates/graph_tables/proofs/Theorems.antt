-- What a reader of tables relies on, by the files that have it.

-- A table that is well formed has every fact that the calls on it ask for; and one that may be run has a process.
pub use Rattle.graph_tables.proofs.SoundLaws.{sound, started}
-- Refusals and their numbers are one to one, so an answer's number says which refusal it is, and 0 that it is none.
pub use Rattle.graph_tables.proofs.NumberLaws.{refusal_back, number_injective, above_ok, done_injective, answer_refusal}
-- Bounds and their words are one to one, and so are the parts of a transition and its key.
pub use Rattle.graph_tables.proofs.OneToOne.{bound_read_back, same_bounds, bound_word_back, same_bound_words, key_read_back, same_keys}
pub use Rattle.graph_tables.proofs.OneToOne.{same_parts}
