-- What can be read of a state: the time, a channel's queue, a graph's run.
use Rattle.std.specs.Prelude.{ℕ, cond, List, ltb, get_or, Ok, Err, Some, None, ⊤}
use Rattle.graph_tables.specs.Answers.{Answer, admitted}
use Rattle.grammar.specs.declared.values.Val.{Val}
use Rattle.std.specs.declared.option.Option.{Option}
use Rattle.laws.specs.Ladder.{unless}
use Rattle.grammar.specs.Evaluation.{blank}
use Rattle.graph_tables.specs.Refusals.{refusal}
use Rattle.graph_checks.specs.Checks.{refused_by}
use Rattle.program_graph.specs.declared.record.ProgramGraphRun.{ProgramGraphRun}
use Rattle.program_graph.specs.Running.{no_run}
use Rattle.program_graph.specs.Used.{used_run}
use Rattle.queues.specs.Queues.{stored_of, queue_of}
use Rattle.system_tables.specs.Words.{graph_count, channel_count}
use Rattle.system_state.specs.Words.{time_in, run_part, queue_part}
use Rattle.channel_system.specs.Steps.{system_fits}

unfoldable pub now_of : List ℕ → List ℕ → Answer ℕ
now_of t s = unless (system_fits t s) (Err (refusal 32)) (Ok (time_in s))

-- ---- the queue of channel q: 30 if there is none
-- how many values are stored
unfoldable pub length_of : List ℕ → List ℕ → ℕ → Answer ℕ
length_of t s q =
    unless (system_fits t s) (Err (refusal 32))
    (unless (ltb q (channel_count t)) (Err (refusal 30)) (Ok (stored_of (queue_part s q))))

-- entry k of them, oldest first
abbrev pub queued_at : List ℕ → ℕ → Answer (Option Val)
queued_at queue k = cond (ltb k (stored_of queue)) (Ok (Some (get_or (queue_of queue) k blank).value)) (Ok None)

unfoldable pub queued_of : List ℕ → List ℕ → ℕ → ℕ → Answer (Option Val)
queued_of t s q k =
    unless (system_fits t s) (Err (refusal 32))
    (unless (ltb q (channel_count t)) (Err (refusal 30)) (queued_at (queue_part s q) k))

-- ---- the run of graph g: 17 if there is none
pub record GraphRun : Type 0 where
  pub answer : Answer ⊤
  pub run : ProgramGraphRun

unfoldable pub graph_run_of : List ℕ → List ℕ → ℕ → GraphRun
graph_run_of t s g =
    unless (system_fits t s) (record { answer = refused_by 32; run = no_run })
    (unless (ltb g (graph_count t)) (record { answer = refused_by 17; run = no_run })
    (record { answer = admitted; run = used_run (run_part s g) }))
