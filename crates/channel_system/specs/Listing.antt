-- What a system may do next, graph by graph (docs/RULES.md, 'Systems'). A communication is listed by a test of its channel that is not
-- the step's.
use Rattle.std.specs.Prelude.{ℕ, zero, suc, Bool, true, cond, List, [], ◌∷◌, ◌++◌, eqb, ltb, Ok, Err, Some, None}
use Rattle.graph_tables.specs.Answers.{Answer}
use Rattle.system_tables.specs.declared.ids.PgId.{PgId}
use Rattle.std.specs.declared.option.Option.{Option}
use Rattle.laws.specs.Ladder.{unless}
use Rattle.graph_tables.specs.Words.{action_count, epsilon}
use Rattle.graph_tables.specs.Refusals.{refusal}
use Rattle.graph_tables.specs.declared.answers.Entry.{Entry}
use Rattle.run_steps.specs.Listing.{seek, join_below}
use Rattle.program_graph.specs.Transitions.{listed_by, entry_or_end}
use Rattle.queues.specs.Queues.{stored_of}
use Rattle.system_tables.specs.declared.ids.Communication.{Communication}
use Rattle.system_tables.specs.declared.ids.Communication.TheVariants.{Plain, On}
use Rattle.system_tables.specs.Words.{graph_count, capacity_of, graph_part}
use Rattle.system_state.specs.Words.{queue_part}
use Rattle.channel_system.specs.Channels.{list_test}
use Rattle.channel_system.specs.Steps.{system_fits, run_of, spoken_by}

-- ---- one graph
-- the channel of a communication lets it be listed
abbrev pub listed_as : List ℕ → List ℕ → Communication → Bool
listed_as t s Plain = true
listed_as t s (On m q) = list_test m (stored_of (queue_part s q.0)) (capacity_of t q.0)

-- what graph g may do by an action
unfoldable pub entries_by : List ℕ → List ℕ → ℕ → ℕ → List Entry
entries_by t s g a = cond (listed_as t s (spoken_by t g a)) (listed_by (graph_part t g) (run_of s g) a) []

-- by its actions in order, and last by the reserved one
abbrev pub listed_on : List ℕ → List ℕ → ℕ → List Entry
listed_on t s g = join_below (action_count (graph_part t g)) (entries_by t s g) ++ entries_by t s g epsilon

-- entry k for graph g: 17 if there is none
unfoldable pub possible_on : List ℕ → List ℕ → ℕ → ℕ → Answer (Option Entry)
possible_on t s g k =
    unless (system_fits t s) (Err (refusal 32))
    (unless (ltb g (graph_count t)) (Err (refusal 17)) (entry_or_end (seek (listed_on t s g) k)))

-- the same for a graph of one process: else 16
unfoldable pub nosync_on : List ℕ → List ℕ → ℕ → ℕ → Answer (Option Entry)
nosync_on t s g k =
    unless (system_fits t s) (Err (refusal 32))
    (unless (ltb g (graph_count t)) (Err (refusal 17))
    (unless (eqb (run_of s g).processes 1) (Err (refusal 16)) (entry_or_end (seek (listed_on t s g) k))))

-- ---- all graphs
-- an entry, and the number of its graph
pub record Possible : Type 0 where
  pub graph : ℕ
  pub entry : Entry

abbrev pub of_graph : ℕ → List Entry → List Possible
of_graph g [] = []
of_graph g (e ∷ es) = record { graph = g; entry = e } ∷ of_graph g es

-- the lists of the first n graphs, one behind the other
unfoldable pub listed_below : List ℕ → List ℕ → ℕ → List Possible
listed_below t s zero = []
listed_below t s (suc n) = listed_below t s n ++ of_graph n (listed_on t s n)

-- entry k, or that it is past the end
abbrev pub entry_at : List Possible → ℕ → Answer (Option (PgId × Entry))
entry_at [] k = Ok None
entry_at (p ∷ ps) zero = Ok (Some ((record { 0 = p.graph }), p.entry))
entry_at (p ∷ ps) (suc k) = entry_at ps k

unfoldable pub possible_of : List ℕ → List ℕ → ℕ → Answer (Option (PgId × Entry))
possible_of t s k = unless (system_fits t s) (Err (refusal 32)) (entry_at (listed_below t s (graph_count t)) k)
