-- What a reader of a system's table relies on, by the files that have it.

-- A table that is well formed has every fact that the calls on it ask for; and one that may be run has a process in each graph.
pub use Rattle.system_tables.proofs.SoundLaws.{system_sound, system_started}
-- The ceiling of a queue: none for a sink, 64 without a bound, else the least number of whole messages above the bound.
pub use Rattle.system_tables.proofs.CeilingLaws.{sink_ceiling, unbounded_ceiling, bounded_ceiling, up_least, up_most}
-- Capacities and communications are read again as they were written.
pub use Rattle.system_tables.proofs.WordLaws.{capacity_back, communication_back}
-- A write in one region leaves the counts, channels, communications and graphs elsewhere.
pub use Rattle.system_tables.proofs.FrameLaws.{counts_channel, counts_communications, counts_graph, channel_counts, channel_channel}
pub use Rattle.system_tables.proofs.FrameLaws.{channel_communications, channel_graph, communications_counts, communications_channel}
pub use Rattle.system_tables.proofs.FrameLaws.{communications_communications, communications_graph, graph_counts, graph_channel}
pub use Rattle.system_tables.proofs.FrameLaws.{graph_communications, graph_graph}
