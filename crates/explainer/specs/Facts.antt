-- What the inner functions ask for, and what the theorems on a cause speak of.
use Rattle.std.specs.Prelude.{ℕ, ◌+◌, ◌*◌, ◌<◌, ◌≤◌, ◌≡◌, true, false, cond, List, [], ◌∷◌, ◌⊎◌, eqb, length, get_or}
use Rattle.laws.specs.Below.{all_below}
use Rattle.time.specs.Time.{in_range}
use Rattle.graph_tables.specs.Words.{location_count, transition_count, invariant_count, key_of, limit_count, guard_items, pre_of, action_of, post_of}
use Rattle.graph_tables.specs.Words.{invariant_group, clock_of, lower_of, upper_of, limit_range, guard_length}
use Rattle.graph_tables.specs.Layout.{limit_width, group_start}
use Rattle.run_steps.specs.Steps.{guard_holds, guard_fails, limit_fails, invariant_fails}
use Rattle.run_steps.specs.Listing.{clocks_by}
use Rattle.program_graph.specs.Facts.{Passing}
use Rattle.program_graph.specs.declared.record.ProgramGraphRun.{ProgramGraphRun}
use Rattle.system_tables.specs.Words.{graph_count, graph_part}
use Rattle.explainer.specs.Layout.{all_guards, all_limits, guard_at, group_at}
use Rattle.explainer.specs.Same.{part}
use Rattle.explainer.specs.Cause.{ready_in, no_candidate}
use Rattle.explainer.specs.declared.causes.Cause.{Cause}
use Rattle.explainer.specs.declared.causes.Found.{Found}

-- ---- a step that answers 8: a post for each process, each a location, and not every process has a candidate that passes
pub record Asked (t : List ℕ) (run : ProgramGraphRun) (a : ℕ) (posts : List ℕ) : Type 0 where
  pub one_each : length posts ≡ run.processes
  pub known : (p : ℕ) → p < length posts → get_or posts p 0 < location_count t
  pub unready : all_below run.processes (ready_in t run a posts) ≡ false

-- ---- what a cause names is there: its transition, and its limit or its invariant
pub record Standing (t : List ℕ) (c : Cause) : Type 0 where
  pub guard : c.failing ≡ guard_fails → c.transition < transition_count t
  pub limit : c.failing ≡ limit_fails → (c.transition < transition_count t) × (c.number < limit_count t c.transition)
  pub invariant : c.failing ≡ invariant_fails
      → (c.transition < transition_count t) × (c.number < invariant_count t (post_of (key_of t c.transition)))

-- the part stands within its table
pub record Within (guards limits : List ℕ) (f : Found) : Type 0 where
  pub low : f.part.start + f.part.length ≤ all_guards
  pub guard : f.cause.failing ≡ guard_fails → f.part.start + f.part.length ≤ length guards
  pub limit : (f.cause.failing ≡ guard_fails → ⊥) → f.part.start + f.part.length ≤ length limits

-- ---- a candidate: a transition of the table from a location, by an action, to a post
pub record Candidate (t : List ℕ) (pre action post k : ℕ) : Type 0 where
  pub known : k < transition_count t
  pub from : pre_of (key_of t k) ≡ pre
  pub by : action_of (key_of t k) ≡ action
  pub to : post_of (key_of t k) ≡ post

-- the first in stored order
pub record FirstCandidate (t : List ℕ) (pre action post k : ℕ) : Type 0 where
  pub candidate : Candidate t pre action post k
  pub none_before : (j : ℕ) → j < k → Candidate t pre action post j → ⊥

-- ---- limits: i is the first of the n of a group that a clock is outside of
pub record FirstOutside (t : List ℕ) (group n : ℕ) (clocks : List ℕ) (i : ℕ) : Type 0 where
  pub there : i < n
  pub outside : in_range (limit_range t group i) (get_or clocks (clock_of t group i) 0) ≡ false
  pub before : (j : ℕ) → j < i → in_range (limit_range t group j) (get_or clocks (clock_of t group j) 0) ≡ true

-- each of them holds
abbrev pub AllInside : List ℕ → ℕ → ℕ → List ℕ → Type 0
AllInside t group n clocks = (i : ℕ) → i < n → in_range (limit_range t group i) (get_or clocks (clock_of t group i) 0) ≡ true

-- ---- what fails of transition k: its guard is not true; or it is, and a limit is the first that does not hold; or all of them hold, and an
-- invariant of its post-location is the first that does not, on the clocks after
abbrev pub Fails : List ℕ → ProgramGraphRun → List ℕ → Cause → Type 0
Fails t run after c =
    ((c.failing ≡ guard_fails) × (guard_holds t run.vars c.transition ≡ false))
    ⊎ (((c.failing ≡ limit_fails) × (guard_holds t run.vars c.transition ≡ true)
    × FirstOutside t c.transition (limit_count t c.transition) run.times c.number)
    ⊎ ((c.failing ≡ invariant_fails) × (guard_holds t run.vars c.transition ≡ true)
    × AllInside t c.transition (limit_count t c.transition) run.times
    × FirstOutside t (invariant_group (post_of (key_of t c.transition))) (invariant_count t (post_of (key_of t c.transition))) after c.number))

-- ---- a cause that is the real one, of a step by action a to the posts
pub record Real (t : List ℕ) (run : ProgramGraphRun) (a : ℕ) (posts : List ℕ) (c : Cause) : Type 0 where
  -- it names a process
  pub process : c.process < run.processes
  -- every lower one has a candidate that passes
  pub lower : (p : ℕ) → p < c.process
      → (k : ℕ) × Passing t run.vars run.times (clocks_by t a run.times) (get_or run.places p 0) a (get_or posts p 0) k
  -- it has none
  pub none : (k : ℕ)
      → Passing t run.vars run.times (clocks_by t a run.times) (get_or run.places c.process 0) a (get_or posts c.process 0) k → ⊥
  -- it has no candidate at all, or the first one is named, and what is named fails
  pub what : ((c.failing ≡ no_candidate)
      × ((k : ℕ) → Candidate t (get_or run.places c.process 0) a (get_or posts c.process 0) k → ⊥))
      ⊎ (FirstCandidate t (get_or run.places c.process 0) a (get_or posts c.process 0) c.transition
      × Fails t run (clocks_by t a run.times) c)

-- ---- the words of what fails, as the built table has them: the items of the guard, or a limit's clock and bounds
abbrev pub limit_words_of : List ℕ → ℕ → ℕ → List ℕ
limit_words_of t group i = clock_of t group i ∷ lower_of t group i ∷ upper_of t group i ∷ []

abbrev pub built_of : List ℕ → Cause → List ℕ
built_of t c =
    cond (eqb c.failing guard_fails) (guard_items t c.transition)
    (cond (eqb c.failing limit_fails) (limit_words_of t c.transition c.number)
    (cond (eqb c.failing invariant_fails) (limit_words_of t (invariant_group (post_of (key_of t c.transition))) c.number) []))

-- ---- lent tables that are the built ones: of the length that they have, and of each graph the items of each guard, the limits of each
-- transition and the invariants of each location
pub record GraphEqual (t guards limits : List ℕ) (g : ℕ) : Type 0 where
  pub guard : (k : ℕ) → k < transition_count t → part guards (guard_at g k) (guard_length t k) ≡ guard_items t k
  pub limit : (k : ℕ) → k < transition_count t
      → part limits (group_at g k) (limit_width * limit_count t k) ≡ part t (group_start k) (limit_width * limit_count t k)
  pub invariant : (l : ℕ) → l < location_count t
      → part limits (group_at g (invariant_group l)) (limit_width * invariant_count t l)
      ≡ part t (group_start (invariant_group l)) (limit_width * invariant_count t l)

pub record Equal (t guards limits : List ℕ) : Type 0 where
  pub guards_whole : length guards ≡ all_guards
  pub limits_whole : length limits ≡ all_limits
  pub graph : (g : ℕ) → g < graph_count t → GraphEqual (graph_part t g) guards limits g
