-- Why a plain step answered 8 (docs/RULES.md, 'Why a step answered 8'): what the step answers, the cause if it is 8, and the part that fails.
use Rattle.std.specs.Prelude.{ℕ, cond, List, [], ◌∷◌, eqb, ltb, length}
use Rattle.laws.specs.Ladder.{unless}
use Rattle.laws.specs.Below.{all_below}
use Rattle.graph_tables.specs.Answers.{answer_number}
use Rattle.run_steps.specs.Steps.{guard_fails}
use Rattle.program_graph.specs.Running.{step_of}
use Rattle.system_tables.specs.Words.{graph_count, graph_part}
use Rattle.channel_system.specs.Steps.{system_fits, own_post, locations_of, run_of}
use Rattle.explainer.specs.Cause.{cause_of, no_cause, place_of, no_part}
use Rattle.explainer.specs.Same.{part, tables_same}
use Rattle.explainer.specs.declared.causes.Cause.{Cause}
use Rattle.explainer.specs.declared.causes.Found.{Found}

-- the answer for which a cause is told
abbrev pub unsatisfied : ℕ
unsatisfied = 8

-- any other has none
abbrev pub answered : ℕ → Found
answered n = record { answer = n; cause = no_cause; part = no_part }

abbrev pub caused : List ℕ → ℕ → Cause → Found
caused t g c = record { answer = unsatisfied; cause = c; part = place_of t g c }

-- ---- of graph g: what its own plain step answers
abbrev pub why_by : ℕ → Found → Found
why_by n why = cond (eqb n unsatisfied) why (answered n)

unfoldable pub graph_why : List ℕ → List ℕ → ℕ → ℕ → List ℕ → ℕ → Found
graph_why t s g a posts word =
    why_by (answer_number (step_of (graph_part t g) (run_of s g) a posts word).answer)
    (caused (graph_part t g) g (cause_of (graph_part t g) (run_of s g) a posts))

-- ---- 17, 18 and 19 as a step
unfoldable pub plain_why : List ℕ → List ℕ → ℕ → ℕ → ℕ → List ℕ → ℕ → Found
plain_why t s g o a posts word =
    unless (ltb g (graph_count t)) (answered 17)
    (unless (eqb o g) (answered 18)
    (unless (all_below (length posts) (own_post posts g)) (answered 19)
    (graph_why t s g a (locations_of posts) word)))

-- ---- 32, then 5 unless the lent tables are the built ones
unfoldable pub found_of : List ℕ → List ℕ → List ℕ → List ℕ → ℕ → ℕ → ℕ → List ℕ → ℕ → Found
found_of t s guards limits g o a posts word =
    unless (system_fits t s) (answered 32)
    (unless (tables_same t guards limits) (answered 5)
    (plain_why t s g o a posts word))

-- ---- what the call tells, in five words, and the part that it hands back, of the one table or the other
abbrev pub told_of : Found → List ℕ
told_of f = f.answer ∷ f.cause.process ∷ f.cause.transition ∷ f.cause.failing ∷ f.cause.number ∷ []

abbrev pub part_of : List ℕ → List ℕ → Found → List ℕ
part_of guards limits f =
    cond (eqb f.cause.failing guard_fails) (part guards f.part.start f.part.length)
    (part limits f.part.start f.part.length)
