-- The words that stand for a run (docs/LAYOUT.md, 'The words of a run').
use Rattle.std.specs.Prelude.{ℕ, ◌*◌, List, ◌∷◌, ◌++◌, take, drop}
use Rattle.grammar.specs.Slots.{words_in}
use Rattle.grammar.specs.declared.values.Slot.{Slot}
use Rattle.graph_tables.specs.Words.{variable_count}
use Rattle.graph_tables.specs.RunWords.{vars_in}
use Rattle.program_graph.specs.declared.record.ProgramGraphRun.{ProgramGraphRun}

-- the two words of each variable that the table has; behind them the words that were there
abbrev pub var_words_of : List ℕ → List ℕ → List Slot → List ℕ
var_words_of t before vars = words_in (take (variable_count t) vars) ++ drop (2 * variable_count t) (vars_in before)

-- how many it has of each, the places, the variables, the clocks
unfoldable pub words_of : List ℕ → List ℕ → ProgramGraphRun → List ℕ
words_of t before run =
    run.processes ∷ run.variables ∷ run.clocks ∷ (run.places ++ (var_words_of t before run.vars ++ run.times))
