-- A run in words: the run that they stand for, and what a call leaves in them (docs/LAYOUT.md, 'A run').
use Rattle.std.specs.Prelude.{ℕ, zero, suc, ◌*◌, ◌<◌, ◌≡◌, Bool, true, cond, List, length, get_or, set, take, drop, ⊤}
use Rattle.graph_tables.specs.Answers.{Answer}
use Rattle.grammar.specs.Evaluation.{blank}
use Rattle.grammar.specs.Slots.{slots_of}
use Rattle.grammar.specs.declared.values.Slot.{Slot}
use Rattle.graph_tables.specs.Sizes.{variable_room, word32}
use Rattle.graph_tables.specs.Words.{variable_count}
use Rattle.graph_tables.specs.RunWords.{RunWords, run_places_start, run_processes, run_variables, run_clocks, places_in, vars_in, clocks_in}
use Rattle.run_steps.specs.Steps.{effected_of}
use Rattle.run_steps.specs.Inner.{VarWords, VarsLeft}
use Rattle.program_graph.specs.Running.{run_formed}
use Rattle.graph_tables.specs.declared.handed.Message.{Message}
use Rattle.program_graph.specs.Outcomes.{RunOutcome, Sent, accepts, values_said}
use Rattle.program_graph.specs.declared.record.ProgramGraphRun.{ProgramGraphRun}

-- the run that words stand for
abbrev pub run_at : List ℕ → ProgramGraphRun
run_at r =
    record {
      places = places_in r;
      vars = slots_of (vars_in r);
      times = clocks_in r;
      processes = run_processes r;
      variables = run_variables r;
      clocks = run_clocks r;
    }

-- These words are those of a run of the table: as many as a run has, for a run that is the table's, and each pair of words of a variable
-- is that of its value. The words of what the table does not have may be any.
pub record RunOf (t r : List ℕ) : Type 0 where
  pub words : RunWords r
  pub formed : run_formed t (run_at r) ≡ true
  pub used : VarWords (vars_in r) (variable_count t)

-- The words that a call leaves: they stand for this run, each pair of words of a variable is that of its value, and the words of the
-- variables that the table does not have are as they were.
pub record Leaves (t before : List ℕ) (run : ProgramGraphRun) (after : List ℕ) : Type 0 where
  pub words : RunWords after
  pub reads : run_at after ≡ run
  pub used : VarWords (vars_in after) (variable_count t)
  pub spare : drop (2 * variable_count t) (vars_in after) ≡ drop (2 * variable_count t) (vars_in before)

-- a call on a run in words: the answer and the words that it leaves are those of a call on the run by value
abbrev pub DidCall : List ℕ → List ℕ → Answer ⊤ → List ℕ → RunOutcome → Type 0
DidCall t before answer after s = (answer ≡ s.answer) × Leaves t before s.run after

pub record DidSend (t before : List ℕ) (said : Answer Message) (after : List ℕ) (s : Sent) : Type 0 where
  pub answer : accepts said ≡ s.answer
  pub message : values_said said ≡ s.message
  pub words : Leaves t before s.run after

-- ---- the parts of a run's words
pub record Parts (r ns ps vs ts : List ℕ) : Type 0 where
  pub words : RunWords r
  pub counts : take run_places_start r ≡ ns
  pub places : places_in r ≡ ps
  pub vars : vars_in r ≡ vs
  pub times : clocks_in r ≡ ts

-- ---- effects in place: the variables afterwards, or all as it was where an effect has no value
abbrev pub effects_leave : List ℕ → ℕ → ℕ → List ℕ → List Slot
effects_leave t a word r =
    cond (effected_of t a (slots_of (vars_in r)) word).fits (effected_of t a (slots_of (vars_in r)) word).vars (slots_of (vars_in r))

pub record Effects (t : List ℕ) (a word : ℕ) (before : List ℕ) (fits : Bool) (after : List ℕ) : Type 0 where
  pub answer : fits ≡ (effected_of t a (slots_of (vars_in before)) word).fits
  pub parts : Parts after (take run_places_start before) (places_in before) (vars_in after) (clocks_in before)
  pub vars : VarsLeft (variable_count t) (vars_in before) (vars_in after) (effects_leave t a word before)

-- ---- a run by value in words, and read back over itself
-- each number has 32 bits
abbrev pub Small : List ℕ → Type 0
Small xs = (i : ℕ) → get_or xs i 0 < word32

-- the first n values are those of another list
unfoldable pub over_below : List Slot → List Slot → ℕ → List Slot
over_below vars from zero = vars
over_below vars from (suc n) = set (over_below vars from n) n (get_or from n blank)

-- a run with other variables
abbrev pub with_vars : ProgramGraphRun → List Slot → ProgramGraphRun
with_vars run vars =
    record {
      places = run.places;
      vars = vars;
      times = run.times;
      processes = run.processes;
      variables = run.variables;
      clocks = run.clocks;
    }

-- the places, times and used variables of one run in another
abbrev pub over : ProgramGraphRun → ProgramGraphRun → ProgramGraphRun
over run from =
    record {
      places = from.places;
      vars = over_below run.vars from.vars run.variables;
      times = from.times;
      processes = run.processes;
      variables = run.variables;
      clocks = run.clocks;
    }

-- words in which the first n variables have these values
pub record VarsStored (ws : List ℕ) (vars : List Slot) (n : ℕ) : Type 0 where
  pub used : VarWords ws n
  pub values : (v : ℕ) → v < n → get_or (slots_of ws) v blank ≡ get_or vars v blank

-- words that have a run: what it uses, and every place and clock
pub record Stored (r : List ℕ) (run : ProgramGraphRun) : Type 0 where
  pub words : RunWords r
  pub reads : run_at r ≡ with_vars run (slots_of (vars_in r))
  pub vars : VarsStored (vars_in r) run.vars run.variables
  pub sized : length run.vars ≡ variable_room
  pub places : Small run.places
  pub times : Small run.times
