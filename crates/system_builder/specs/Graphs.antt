-- A building call of a graph on graph g of a system (docs/RULES.md, 'Systems'): 32, then 17, then as the graph's own. The words of
-- graph g are what its own call leaves, and every other word stays.
use Rattle.std.specs.Prelude.{ℕ, Bool, List, ltb, set, Ok, Err, ⊤}
use Rattle.graph_tables.specs.Answers.{Answer, admitted}
use Rattle.grammar.specs.declared.values.«Type».{«Type» as Kind}
use Rattle.laws.specs.Ladder.{unless}
use Rattle.grammar.specs.declared.values.Val.{Val}
use Rattle.graph_tables.specs.declared.refusals.Refusal.{Refusal}
use Rattle.graph_tables.specs.declared.handed.Limits.{Limits}
use Rattle.graph_checks.specs.Checks.{refused_by}
use Rattle.graph_builder.specs.Building.{Outcome, var_type_of, new_var_of, new_clock_of, new_action_of, new_process_of}
use Rattle.graph_builder.specs.Building.{add_reset_of, add_effect_of, new_timed_location_of, new_initial_of, add_transition_of}
use Rattle.system_tables.specs.Layout.{communication_cell}
use Rattle.system_tables.specs.Words.{graph_count, graph_part, with_graph, communication_word}
use Rattle.system_tables.specs.declared.ids.Communication.{Communication}
use Rattle.system_tables.specs.declared.ids.Communication.TheVariants.{Plain}
use Rattle.system_builder.specs.Systems.{on_system}

-- 32, then 17 if there is no graph g
unfoldable pub member_check : List ℕ → ℕ → Answer ⊤
member_check t g = on_system t (unless (ltb g (graph_count t)) (refused_by 17) admitted)

-- a call that asks a check first: what it does, or a refusal that leaves every word
abbrev pub only_if : {A : Type 0} → (Refusal → A) → Answer ⊤ → List ℕ → Outcome A → Outcome A
only_if refuse (Ok _) t done = done
only_if refuse (Err r) t done = record { answer = refuse r; table = t }

-- a graph's call on the words of graph g
abbrev pub on_part : {A : Type 0} → (List ℕ → Outcome A) → List ℕ → ℕ → Outcome A
on_part call t g = record { answer = (call (graph_part t g)).answer; table = with_graph t g (call (graph_part t g)).table }

abbrev pub on_graph : {A : Type 0} → (Refusal → A) → (List ℕ → Outcome A) → List ℕ → ℕ → Outcome A
on_graph refuse call t g = only_if refuse (member_check t g) t (on_part call t g)

abbrev pub placed_on : (List ℕ → Outcome (Answer ℕ)) → List ℕ → ℕ → Outcome (Answer ℕ)
placed_on call t g = on_graph Err call t g

abbrev pub done_on : (List ℕ → Outcome (Answer ⊤)) → List ℕ → ℕ → Outcome (Answer ⊤)
done_on call t g = on_graph Err call t g

-- ---- the calls of a graph
abbrev pub new_var_on : List ℕ → ℕ → Val → Outcome (Answer ℕ)
new_var_on t g v = placed_on (λ (G : List ℕ). new_var_of G v) t g

abbrev pub new_clock_on : List ℕ → ℕ → Outcome (Answer ℕ)
new_clock_on t g = placed_on new_clock_of t g

abbrev pub new_process_on : List ℕ → ℕ → ℕ → Outcome (Answer ⊤)
new_process_on t g l = done_on (λ (G : List ℕ). new_process_of G l) t g

abbrev pub add_reset_on : List ℕ → ℕ → ℕ → ℕ → Outcome (Answer ⊤)
add_reset_on t g a clock = done_on (λ (G : List ℕ). add_reset_of G a clock) t g

abbrev pub add_effect_on : List ℕ → ℕ → ℕ → ℕ → List ℕ → Outcome (Answer ⊤)
add_effect_on t g a v ws = done_on (λ (G : List ℕ). add_effect_of G a v ws) t g

abbrev pub new_timed_location_on : List ℕ → ℕ → Limits → Outcome (Answer ℕ)
new_timed_location_on t g l = placed_on (λ (G : List ℕ). new_timed_location_of G l) t g

abbrev pub new_initial_on : List ℕ → ℕ → Limits → Outcome (Answer ℕ)
new_initial_on t g l = placed_on (λ (G : List ℕ). new_initial_of G l) t g

abbrev pub add_transition_on : List ℕ → ℕ → ℕ → ℕ → ℕ → Bool → List ℕ → Limits → Outcome (Answer ⊤)
add_transition_on t g pre a post guarded ws l = done_on (λ (G : List ℕ). add_transition_of G pre a post guarded ws l) t g

-- the kind of a variable of graph g
abbrev pub type_if : Answer ⊤ → Answer Kind → Answer Kind
type_if (Ok _) v = v
type_if (Err r) v = Err r

unfoldable pub var_type_in : List ℕ → ℕ → ℕ → Answer Kind
var_type_in t g v = type_if (member_check t g) (var_type_of (graph_part t g) v)

-- ---- an action that is added gets its communication in the same call
abbrev pub told : ℕ → Communication → Answer ℕ → List ℕ → List ℕ
told g c (Ok a) t = set t (communication_cell g a) (communication_word c)
told g c (Err r) t = t

abbrev pub telling : ℕ → Communication → Outcome (Answer ℕ) → Outcome (Answer ℕ)
telling g c o = record { answer = o.answer; table = told g c o.answer o.table }

-- a plain action has none
abbrev pub new_action_on : List ℕ → ℕ → Outcome (Answer ℕ)
new_action_on t g = telling g Plain (placed_on new_action_of t g)
