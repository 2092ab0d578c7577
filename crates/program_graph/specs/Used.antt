-- A run in words, by value: what it has of places, variables and clocks. What it does not have is not read, and stands as 0 or false.
use Rattle.std.specs.Prelude.{ℕ, zero, suc, ◌≤◌, ◌<◌, List, get_or, set, replicate}
use Rattle.grammar.specs.Evaluation.{blank}
use Rattle.grammar.specs.Slots.{slots_of}
use Rattle.graph_tables.specs.Sizes.{process_room, variable_room, clock_room, word32}
use Rattle.graph_tables.specs.RunWords.{RunWords, run_processes, run_variables, run_clocks, places_in, vars_in, clocks_in}
use Rattle.program_graph.specs.Inner.{over_below}
use Rattle.program_graph.specs.declared.record.ProgramGraphRun.{ProgramGraphRun}

-- the first n numbers of a list, and zeros behind them
unfoldable pub numbers_below : ℕ → List ℕ → ℕ → List ℕ
numbers_below room xs zero = replicate room 0
numbers_below room xs (suc n) = set (numbers_below room xs n) n (get_or xs n 0)

abbrev pub used_run : List ℕ → ProgramGraphRun
used_run r =
    record {
      places = numbers_below process_room (places_in r) (run_processes r);
      vars = over_below (replicate variable_room blank) (slots_of (vars_in r)) (run_variables r);
      times = numbers_below clock_room (clocks_in r) (run_clocks r);
      processes = run_processes r;
      variables = run_variables r;
      clocks = run_clocks r;
    }

-- the first n numbers have 32 bits
abbrev pub SmallBelow : List ℕ → ℕ → Type 0
SmallBelow xs n = (i : ℕ) → i < n → get_or xs i 0 < word32

-- words that can be read so: there is room for what it has, and each place and time that it has is small
pub record Readable (r : List ℕ) : Type 0 where
  pub words : RunWords r
  pub processes : run_processes r ≤ process_room
  pub variables : run_variables r ≤ variable_room
  pub clocks : run_clocks r ≤ clock_room
  pub place : SmallBelow (places_in r) (run_processes r)
  pub time : SmallBelow (clocks_in r) (run_clocks r)
