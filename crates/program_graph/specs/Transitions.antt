-- Listing what a run may do next: entry k, or that k is past the end (docs/RULES.md, 'Listing').
use Rattle.std.specs.Prelude.{ℕ, List, eqb, Ok, Err, Some, None}
use Rattle.graph_tables.specs.Answers.{Answer}
use Rattle.std.specs.declared.option.Option.{Option}
use Rattle.laws.specs.Ladder.{unless}
use Rattle.graph_tables.specs.Refusals.{refusal}
use Rattle.graph_tables.specs.declared.answers.Entry.{Entry}
use Rattle.run_steps.specs.Listing.{seek, shared_entries, listing_of}
use Rattle.run_steps.specs.declared.inner.listing.Sought.{Sought}
use Rattle.run_steps.specs.declared.inner.listing.Sought.TheVariants.{Found, Left}
use Rattle.program_graph.specs.Running.{fits_table}
use Rattle.program_graph.specs.declared.record.ProgramGraphRun.{ProgramGraphRun}

-- the whole list of a run
abbrev pub listed : List ℕ → ProgramGraphRun → List Entry
listed t run = listing_of t run.vars run.times run.places run.processes

-- the part of it that is by one action
abbrev pub listed_by : List ℕ → ProgramGraphRun → ℕ → List Entry
listed_by t run action = shared_entries t run.vars run.times run.places run.processes action

-- past the end of the list there is none
abbrev pub entry_or_end : Sought → Answer (Option Entry)
entry_or_end (Found e) = Ok (Some e)
entry_or_end (Left k) = Ok None

unfoldable pub possible_of : List ℕ → ProgramGraphRun → ℕ → Answer (Option Entry)
possible_of t run k = unless (fits_table t run) (Err (refusal 32)) (entry_or_end (seek (listed t run) k))

-- 16 unless there is one process
unfoldable pub nosync_of : List ℕ → ProgramGraphRun → ℕ → Answer (Option Entry)
nosync_of t run k =
    unless (fits_table t run) (Err (refusal 32))
    (unless (eqb run.processes 1) (Err (refusal 16)) (entry_or_end (seek (listed t run) k)))
