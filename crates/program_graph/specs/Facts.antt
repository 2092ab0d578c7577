-- What the theorems on a run speak of.
use Rattle.std.specs.Prelude.{ℕ, ◌<◌, ◌≡◌, true, false, ◌⊎◌, List, length, get_or, ⊤}
use Rattle.time.specs.Time.{in_range, lower_met, upper_met}
use Rattle.grammar.specs.Evaluation.{evaluation_of}
use Rattle.grammar.specs.declared.values.Val.{Val}
use Rattle.grammar.specs.declared.values.Slot.{Slot}
use Rattle.std.specs.Prelude.{Option, Some}
use Rattle.graph_tables.specs.Sizes.{process_room, variable_room, clock_room, plain_kind}
use Rattle.graph_tables.specs.Answers.{Answer, answer_number}
use Rattle.graph_tables.specs.Words.{location_count, action_count, transition_count, invariant_count, action_kind, effect_count, effect_items}
use Rattle.graph_tables.specs.Words.{key_of, limit_count, pre_of, action_of, post_of, invariant_group, clock_of, limit_range, epsilon}
use Rattle.run_steps.specs.Steps.{guard_holds, unchanged, effects_below}
use Rattle.run_steps.specs.Rows.{Has}
use Rattle.program_graph.specs.Running.{fits_table}
use Rattle.program_graph.specs.declared.record.ProgramGraphRun.{ProgramGraphRun}

-- the arrays of a run have their sizes, as every run that is handed in has
pub record Sized (run : ProgramGraphRun) : Type 0 where
  pub places : length run.places ≡ process_room
  pub vars : length run.vars ≡ variable_room
  pub times : length run.times ≡ clock_room

-- ---- answers, by their numbers
-- it is accepted
pub record Accepted (d : Answer ⊤) : Type 0 where
  pub number : answer_number d ≡ 0

-- it is not refused with this number
abbrev pub Not : ℕ → Answer ⊤ → Type 0
Not n d = answer_number d ≡ n → ⊥

-- ---- invariants
-- each invariant of location l holds on the clocks
abbrev pub InvariantsAt : List ℕ → List ℕ → ℕ → Type 0
InvariantsAt t clocks l =
    (i : ℕ) → i < invariant_count t l → in_range (limit_range t (invariant_group l) i) (get_or clocks (clock_of t (invariant_group l) i) 0) ≡ true

-- each invariant of every occupied location holds
abbrev pub Holding : List ℕ → ProgramGraphRun → Type 0
Holding t run = (p : ℕ) → p < run.processes → InvariantsAt t run.times (get_or run.places p 0)

-- ---- readiness
-- transition k leads from `pre` by the action to `post` and passes
pub record Passing (t : List ℕ) (vars : List Slot) (clocks after : List ℕ) (pre action post k : ℕ) : Type 0 where
  -- it is one of the table's
  pub known : k < transition_count t
  -- it leads from `pre`, by the action, to `post`
  pub from : pre_of (key_of t k) ≡ pre
  pub by : action_of (key_of t k) ≡ action
  pub to : post_of (key_of t k) ≡ post
  -- its guard holds on the variables, and each of its limits on the clocks
  pub guard : guard_holds t vars k ≡ true
  pub limits : (i : ℕ) → i < limit_count t k → in_range (limit_range t k i) (get_or clocks (clock_of t k i) 0) ≡ true
  -- each invariant of `post` holds on the clocks after
  pub invariants : InvariantsAt t after post

-- each process of a run has a transition from its place, by the action, to its post that passes
abbrev pub AllPass : List ℕ → ProgramGraphRun → ℕ → List ℕ → List ℕ → Type 0
AllPass t run a posts after =
    (p : ℕ) → p < run.processes → (k : ℕ) × Passing t run.vars run.times after (get_or run.places p 0) a (get_or posts p 0) k

-- a call's answer is not that a guard is unsatisfied (8): it gets past its guards
abbrev pub PastGuards : Answer ⊤ → Type 0
PastGuards d = Not 8 d

-- ---- what is not refused before the guards
-- a step that is not refused for its run or its posts: with 32, 7 or 3
pub record StepAsked (t : List ℕ) (run : ProgramGraphRun) (posts : List ℕ) : Type 0 where
  pub fits : fits_table t run ≡ true
  pub one_each : length posts ≡ run.processes
  pub known : (p : ℕ) → p < length posts → get_or posts p 0 < location_count t

-- nor for its action: with 1 or 13
pub record PlainAsked (t : List ℕ) (run : ProgramGraphRun) (a : ℕ) (posts : List ℕ) : Type 0 where
  pub step : StepAsked t run posts
  pub action : a < action_count t
  pub plain : action_kind t a ≡ plain_kind

-- a send or a receive that is not refused for its run, for EPSILON, or for its posts: with 32, 14 or 15, or 7
pub record MessageAsked (t : List ℕ) (run : ProgramGraphRun) (a : ℕ) (posts : List ℕ) : Type 0 where
  pub fits : fits_table t run ≡ true
  pub named : a ≡ epsilon → ⊥
  pub one_each : length posts ≡ run.processes

-- ---- effects
-- an evaluation has a value
abbrev pub Valued : Option Val → Type 0
Valued e = (x : Val) × (e ≡ Some x)

-- each effect of plain action a has a value in its turn: on the variables that the effects before it left, and on what they left of the
-- word
abbrev pub EffectsValued : List ℕ → ℕ → List Slot → ℕ → Type 0
EffectsValued t a vars word =
    (e : ℕ) → e < effect_count t a
    → Valued
    (evaluation_of (effects_below t a (unchanged vars word) e).vars (effects_below t a (unchanged vars word) e).word
    (effect_items t a e)).value

-- ---- waiting
-- among the n limits of group g some lower bound is not met yet, and no upper bound is passed
pub record Due (t : List ℕ) (g n : ℕ) (clocks : List ℕ) : Type 0 where
  pub limit : ℕ
  pub within : limit < n
  pub unmet : lower_met (limit_range t g limit).lower (get_or clocks (clock_of t g limit) 0) ≡ false
  pub not_passed : (i : ℕ) → i < n → upper_met (limit_range t g i).upper (get_or clocks (clock_of t g i) 0) ≡ true

-- some transition will be open later
pub record Awaited (t clocks places : List ℕ) (n : ℕ) : Type 0 where
  pub process : ℕ
  pub transition : ℕ
  pub here : process < n
  pub known : transition < transition_count t
  -- it leaves the location of the process
  pub from : pre_of (key_of t transition) ≡ get_or places process 0
  -- among its limits, or among the invariants of its post-location, a bound is to be met
  pub coming : Due t transition (limit_count t transition) clocks
      ⊎ Due t (invariant_group (post_of (key_of t transition))) (invariant_count t (post_of (key_of t transition))) clocks
  -- every process's location has its action
  pub shared : (q : ℕ) → q < n → Has t (get_or places q 0) (action_of (key_of t transition))
