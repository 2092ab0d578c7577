-- Stepping and waiting of one graph: the answer, and the run afterwards. A refusal gives back the run that came in.
-- Sections of docs/RULES.md are named where their rule starts.
use Rattle.std.specs.Prelude.{ℕ, zero, suc, Bool, false, cond, List, eqb, ltb, length, get_or, set, replicate, Ok, Err}
use Rattle.graph_tables.specs.Answers.{Answer, admitted}
use Rattle.laws.specs.Ladder.{unless}
use Rattle.laws.specs.Below.{◌and◌, all_below}
use Rattle.grammar.specs.Values.{kind_of, kind_word}
use Rattle.grammar.specs.Bits.{from_bits}
use Rattle.grammar.specs.Evaluation.{blank}
use Rattle.grammar.specs.declared.values.Val.{Val}
use Rattle.grammar.specs.declared.values.Val.TheVariants.{Boolean, Integer}
use Rattle.grammar.specs.declared.values.Slot.{Slot}
use Rattle.graph_tables.specs.Sizes.{process_room, variable_room, clock_room, plain_kind}
use Rattle.graph_tables.specs.Refusals.{refusal}
use Rattle.graph_tables.specs.Words.{variable_count, clock_count, location_count, action_count, process_count, kind_at, value_at, place_at}
use Rattle.graph_tables.specs.Words.{action_kind, epsilon}
use Rattle.graph_tables.specs.Formed.{well_formed}
use Rattle.run_steps.specs.Waiting.{waiting_of}
use Rattle.run_steps.specs.Steps.{ready_of, clocks_after, effected_of, placed_below, post_known, clock_fits, shifted_below, place_holds}
use Rattle.program_graph.specs.declared.record.ProgramGraphRun.{ProgramGraphRun}
use Rattle.program_graph.specs.Outcomes.{outcome, RunOutcome, States}

-- ---- 'Bad state': a run is one of the table's
-- process p is at a location
unfoldable pub place_known : List ℕ → List ℕ → ℕ → Bool
place_known t places p = ltb (get_or places p 0) (location_count t)

-- variable v has its kind
unfoldable pub var_fits : List ℕ → List Slot → ℕ → Bool
var_fits t vars v = eqb (kind_word (kind_of (get_or vars v blank).value)) (kind_at t v)

-- it has as many processes, variables and clocks as the table
unfoldable pub counts_same : List ℕ → ProgramGraphRun → Bool
counts_same t run =
    eqb run.processes (process_count t) and eqb run.variables (variable_count t) and eqb run.clocks (clock_count t)

unfoldable pub run_formed : List ℕ → ProgramGraphRun → Bool
run_formed t run =
    counts_same t run and all_below run.processes (place_known t run.places) and all_below run.variables (var_fits t run.vars)

unfoldable pub fits_table : List ℕ → ProgramGraphRun → Bool
fits_table t run = well_formed t false and run_formed t run

-- ---- what a refused call comes to, and an accepted one
abbrev pub refused : ℕ → ProgramGraphRun → RunOutcome
refused n run = record { answer = Err (refusal n); run = run }

abbrev pub accepted : ProgramGraphRun → RunOutcome
accepted run = record { answer = admitted; run = run }

-- ---- 'Stepping one graph'
-- every process at its post
abbrev pub moved_to : ProgramGraphRun → List ℕ → List Slot → List ℕ → ProgramGraphRun
moved_to run posts vars times =
    record {
      places = placed_below run.places posts run.processes;
      vars = vars;
      times = times;
      processes = run.processes;
      variables = run.variables;
      clocks = run.clocks;
    }

-- ready by the clocks as they are: EPSILON, sends and receives reset nothing, whatever the action is
abbrev pub ready_still : List ℕ → ProgramGraphRun → ℕ → List ℕ → Bool
ready_still t run a posts = ready_of t run.vars run.times run.times run.places run.processes a posts

-- by EPSILON: 8 alone
unfoldable pub autonomous_of : List ℕ → ProgramGraphRun → List ℕ → RunOutcome
autonomous_of t run posts =
    unless (ready_still t run epsilon posts) (refused 8 run)
    (accepted (moved_to run posts run.vars run.times))

-- by a plain action: 8, then 26 if an effect has no value
unfoldable pub plain_of : List ℕ → ProgramGraphRun → ℕ → List ℕ → ℕ → RunOutcome
plain_of t run a posts word =
    unless (ready_of t run.vars run.times (clocks_after t a run.times) run.places run.processes a posts) (refused 8 run)
    (unless (effected_of t a run.vars word).fits (refused 26 run)
    (accepted (moved_to run posts (effected_of t a run.vars word).vars (clocks_after t a run.times))))

-- by any other action: 1 if it is not known, 13 if it is a communication
unfoldable pub acted_of : List ℕ → ProgramGraphRun → ℕ → List ℕ → ℕ → RunOutcome
acted_of t run a posts word =
    unless (ltb a (action_count t)) (refused 1 run)
    (unless (eqb (action_kind t a) plain_kind) (refused 13 run)
    (plain_of t run a posts word))

-- 7 unless there is a post for each process, 3 for a post that is no location
unfoldable pub step_of : List ℕ → ProgramGraphRun → ℕ → List ℕ → ℕ → RunOutcome
step_of t run a posts word =
    unless (eqb (length posts) run.processes) (refused 7 run)
    (unless (all_below (length posts) (post_known t posts)) (refused 3 run)
    (cond (eqb a epsilon) (autonomous_of t run posts) (acted_of t run a posts word)))

unfoldable pub transition_of : List ℕ → ProgramGraphRun → ℕ → List ℕ → ℕ → RunOutcome
transition_of t run a posts word = unless (fits_table t run) (refused 32 run) (step_of t run a posts word)

-- ---- 'Waiting'
abbrev pub wait_fits : ProgramGraphRun → ℕ → Bool
wait_fits run delta = all_below run.clocks (clock_fits run.times delta)

abbrev pub wait_holds : List ℕ → ProgramGraphRun → ℕ → Bool
wait_holds t run delta = all_below run.processes (place_holds t run.places (shifted_below run.times delta run.clocks))

abbrev pub later : ProgramGraphRun → ℕ → ProgramGraphRun
later run delta =
    record {
      places = run.places;
      vars = run.vars;
      times = shifted_below run.times delta run.clocks;
      processes = run.processes;
      variables = run.variables;
      clocks = run.clocks;
    }

-- 26 if a clock would pass the last time, then 9 unless every invariant holds at the end
unfoldable pub waited_of : List ℕ → ProgramGraphRun → ℕ → RunOutcome
waited_of t run delta =
    unless (wait_fits run delta) (refused 26 run)
    (unless (wait_holds t run delta) (refused 9 run) (accepted (later run delta)))

unfoldable pub wait_of : List ℕ → ProgramGraphRun → ℕ → RunOutcome
wait_of t run delta = unless (fits_table t run) (refused 32 run) (waited_of t run delta)

-- a wait would be accepted
abbrev pub wait_open : List ℕ → ProgramGraphRun → ℕ → Bool
wait_open t run delta = wait_fits run delta and wait_holds t run delta

unfoldable pub can_wait_of : List ℕ → ProgramGraphRun → ℕ → Answer Bool
can_wait_of t run delta = unless (fits_table t run) (Err (refusal 32)) (Ok (wait_open t run delta))

-- ---- 'is_waiting': a wait of 1 would be accepted, and some transition will be open later
abbrev pub waits_on : List ℕ → ProgramGraphRun → Bool
waits_on t run = wait_open t run 1 and waiting_of t run.times run.places run.processes

unfoldable pub is_waiting_of : List ℕ → ProgramGraphRun → Answer Bool
is_waiting_of t run = unless (fits_table t run) (Err (refusal 32)) (Ok (waits_on t run))

-- ---- a fresh run: each process where it starts, variables at their values, clocks at 0
unfoldable pub start_places : List ℕ → ℕ → List ℕ
start_places t zero = replicate process_room 0
start_places t (suc n) = set (start_places t n) n (place_at t n)

abbrev pub start_value : List ℕ → ℕ → Val
start_value t v = cond (eqb (kind_at t v) 0) (Boolean (eqb (value_at t v) 1)) (Integer (from_bits (value_at t v)))

unfoldable pub start_vars : List ℕ → ℕ → List Slot
start_vars t zero = replicate variable_room blank
start_vars t (suc n) = set (start_vars t n) n (record { value = start_value t n })

abbrev pub fresh_run : List ℕ → ProgramGraphRun
fresh_run t =
    record {
      places = start_places t (process_count t);
      vars = start_vars t (variable_count t);
      times = replicate clock_room 0;
      processes = process_count t;
      variables = variable_count t;
      clocks = clock_count t;
    }

-- a run of no graph
abbrev pub no_run : ProgramGraphRun
no_run =
    record {
      places = replicate process_room 0;
      vars = replicate variable_room blank;
      times = replicate clock_room 0;
      processes = 0;
      variables = 0;
      clocks = 0;
    }

unfoldable pub new_run_of : List ℕ → RunOutcome
new_run_of t = unless (well_formed t false) (refused 32 no_run) (accepted (fresh_run t))

-- what making a run comes to: where it is refused there is a run of no graph
abbrev pub made : Answer ProgramGraphRun → RunOutcome
made (Ok run) = accepted run
made (Err r) = outcome (Err r) no_run

-- ---- reading a run: where its processes are, the value of a variable (4), the time of a clock (2)
unfoldable pub states_of : List ℕ → ProgramGraphRun → States
states_of t run =
    unless (fits_table t run) (record { answer = Err (refusal 32); places = replicate process_room 0; count = 0 })
    (record { answer = admitted; places = run.places; count = run.processes })

unfoldable pub value_in : List ℕ → ProgramGraphRun → ℕ → Answer Val
value_in t run v =
    unless (fits_table t run) (Err (refusal 32))
    (unless (ltb v (variable_count t)) (Err (refusal 4)) (Ok (get_or run.vars v blank).value))

unfoldable pub time_of : List ℕ → ProgramGraphRun → ℕ → Answer ℕ
time_of t run c =
    unless (fits_table t run) (Err (refusal 32))
    (unless (ltb c (clock_count t)) (Err (refusal 2)) (Ok (get_or run.times c 0)))
