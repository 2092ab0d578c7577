-- The cause of an 8, on the words of one graph and on a run (docs/RULES.md, 'Why a step answered 8').
use Rattle.std.specs.Prelude.{ℕ, Bool, not, cond, List, eqb, ltb, get_or}
use Rattle.laws.specs.Below.{◌and◌}
use Rattle.laws.specs.Ladder.{unless}
use Rattle.graph_tables.specs.Layout.{limit_width}
use Rattle.graph_tables.specs.Words.{transition_count, invariant_count, key_of, guard_length, limit_count, post_of, invariant_group}
use Rattle.run_steps.specs.Lowest.{lowest}
use Rattle.run_steps.specs.Steps.{limit_holds, failing_of, guard_fails, limit_fails, invariant_fails, leaves_by, process_ready}
use Rattle.run_steps.specs.Listing.{clocks_by}
use Rattle.program_graph.specs.declared.record.ProgramGraphRun.{ProgramGraphRun}
use Rattle.explainer.specs.Layout.{guard_at, limit_at}
use Rattle.explainer.specs.declared.causes.Cause.{Cause}
use Rattle.explainer.specs.declared.causes.Part.{Part}

-- ---- the process: the lowest without a candidate that passes
abbrev pub ready_in : List ℕ → ProgramGraphRun → ℕ → List ℕ → ℕ → Bool
ready_in t run a posts =
    process_ready t run.vars run.times (clocks_by t a run.times) run.places a posts

abbrev pub unready_of : List ℕ → ProgramGraphRun → ℕ → List ℕ → ℕ
unready_of t run a posts = lowest run.processes (ready_in t run a posts)

-- ---- the first candidate in stored order; as many as there are transitions if there is none
unfoldable pub candidate_of : List ℕ → ℕ → ℕ → ℕ → ℕ → Bool
candidate_of t pre action post k = leaves_by t pre action k and eqb (post_of (key_of t k)) post

unfoldable pub other_than : List ℕ → ℕ → ℕ → ℕ → ℕ → Bool
other_than t pre action post k = not (candidate_of t pre action post k)

abbrev pub first_of : List ℕ → ℕ → ℕ → ℕ → ℕ
first_of t pre action post = lowest (transition_count t) (other_than t pre action post)

-- ---- what fails of it: its guard, or the first limit, or the first invariant of its post-location on the clocks after
unfoldable pub number_for : List ℕ → List ℕ → List ℕ → ℕ → ℕ → ℕ
number_for t clocks after k failing =
    cond (eqb failing limit_fails) (lowest (limit_count t k) (limit_holds t k clocks))
    (cond (eqb failing invariant_fails)
    (lowest (invariant_count t (post_of (key_of t k))) (limit_holds t (invariant_group (post_of (key_of t k))) after))
    0)

-- what stands for what fails where there is no candidate
abbrev pub no_candidate : ℕ
no_candidate = 4

abbrev pub failed_at : List ℕ → ProgramGraphRun → List ℕ → ℕ → ℕ → Cause
failed_at t run after p k =
    record {
      process = p;
      transition = k;
      failing = failing_of t run.vars run.times after k;
      number = number_for t run.times after k (failing_of t run.vars run.times after k);
    }

unfoldable pub cause_from : List ℕ → ProgramGraphRun → List ℕ → ℕ → ℕ → Cause
cause_from t run after p k =
    unless (ltb k (transition_count t)) (record { process = p; transition = 0; failing = no_candidate; number = 0 }) (failed_at t run after p k)

unfoldable pub cause_of : List ℕ → ProgramGraphRun → ℕ → List ℕ → Cause
cause_of t run a posts =
    cause_from t run (clocks_by t a run.times) (unready_of t run a posts)
    (first_of t (get_or run.places (unready_of t run a posts) 0) a (get_or posts (unready_of t run a posts) 0))

-- no cause
abbrev pub no_cause : Cause
no_cause = record { process = 0; transition = 0; failing = 0; number = 0 }

-- ---- where the part of graph g that fails stands: the items of the guard in one table, a limit's three words in the other
abbrev pub no_part : Part
no_part = record { start = 0; length = 0 }

unfoldable pub place_of : List ℕ → ℕ → Cause → Part
place_of t g c =
    cond (eqb c.failing guard_fails) (record { start = guard_at g c.transition; length = guard_length t c.transition })
    (cond (eqb c.failing limit_fails) (record { start = limit_at g c.transition c.number; length = limit_width })
    (cond (eqb c.failing invariant_fails)
    (record { start = limit_at g (invariant_group (post_of (key_of t c.transition))) c.number; length = limit_width })
    no_part))
