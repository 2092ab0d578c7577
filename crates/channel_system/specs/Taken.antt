-- What a step of a system is accepted for, beside what Asked.antt says.
use Rattle.std.specs.Prelude.{ℕ, ◌<◌, ◌≤◌, ◌≡◌, List, length, get_or}
use Rattle.grammar.specs.Evaluation.{evaluation_of}
use Rattle.grammar.specs.declared.values.Slot.{Slot}
use Rattle.graph_tables.specs.Sizes.{plain_kind}
use Rattle.graph_tables.specs.Words.{location_count, action_count, action_kind, effect_count, effect_items}
use Rattle.run_steps.specs.Steps.{clocks_after}
use Rattle.run_steps.specs.Messages.{spoken_below, unsaid}
use Rattle.program_graph.specs.Facts.{AllPass, Valued, EffectsValued}
use Rattle.program_graph.specs.declared.record.ProgramGraphRun.{ProgramGraphRun}
use Rattle.system_tables.specs.Words.{graph_part}
use Rattle.system_tables.specs.declared.ids.Message.{Message}
use Rattle.system_tables.specs.declared.ids.Message.TheVariants.{Send, Receive, ProbeEmptyQueue, ProbeFullQueue}
use Rattle.channel_system.specs.Steps.{locations_of, run_of}

-- a post for each process, each a location of the graph: neither 7 nor 3
pub record Posted (t : List ℕ) (run : ProgramGraphRun) (posts : List ℕ) : Type 0 where
  pub one_each : length posts ≡ run.processes
  pub known : (p : ℕ) → p < length posts → get_or posts p 0 < location_count t

-- some post is no location of the graph
pub record Lost (t posts : List ℕ) : Type 0 where
  pub post : ℕ
  pub handed : post < length posts
  pub unknown : location_count t ≤ get_or posts post 0

-- and a plain action of the graph: neither 1 nor 13
pub record PlainPosted (t : List ℕ) (run : ProgramGraphRun) (a : ℕ) (posts : List ℕ) : Type 0 where
  pub step : Posted t run posts
  pub action : a < action_count t
  pub plain : action_kind t a ≡ plain_kind

-- each expression of a send has a value, on the variables as they are, and on what those before it left of the word
abbrev pub AllSaid : List ℕ → ℕ → List Slot → ℕ → Type 0
AllSaid t a vars word =
    (e : ℕ) → e < effect_count t a → Valued (evaluation_of vars (spoken_below t a vars (unsaid word) e).word (effect_items t a e)).value

-- a send has something to say; a receive and a probe have not
abbrev pub SaidBy : Message → List ℕ → ℕ → List Slot → ℕ → Type 0
SaidBy Send t a vars word = AllSaid t a vars word
SaidBy Receive t a vars word = Unit {0}
SaidBy ProbeEmptyQueue t a vars word = Unit {0}
SaidBy ProbeFullQueue t a vars word = Unit {0}

-- ---- in a system
-- graph g has a post for each of its processes, each one of its locations
abbrev pub Handed : List ℕ → List ℕ → ℕ → List ℕ → Type 0
Handed t s g posts = Posted (graph_part t g) (run_of s g) (locations_of posts)

-- and a plain action
abbrev pub PlainHanded : List ℕ → List ℕ → ℕ → ℕ → List ℕ → Type 0
PlainHanded t s g a posts = PlainPosted (graph_part t g) (run_of s g) a (locations_of posts)

-- each process of graph g has a transition to its post that passes: its guard true, its limits met, and the invariants of its
-- post-location met on the clocks as they are; or with those that the action resets at 0
abbrev pub Ready : List ℕ → List ℕ → ℕ → ℕ → List ℕ → Type 0
Ready t s g a posts = AllPass (graph_part t g) (run_of s g) a (locations_of posts) (run_of s g).times

abbrev pub PlainReady : List ℕ → List ℕ → ℕ → ℕ → List ℕ → Type 0
PlainReady t s g a posts = AllPass (graph_part t g) (run_of s g) a (locations_of posts) (clocks_after (graph_part t g) a (run_of s g).times)

-- each effect of the action has a value in its turn
abbrev pub AllEffected : List ℕ → List ℕ → ℕ → ℕ → ℕ → Type 0
AllEffected t s g a word = EffectsValued (graph_part t g) a (run_of s g).vars word

-- each expression of a send has one
abbrev pub Uttered : Message → List ℕ → List ℕ → ℕ → ℕ → ℕ → Type 0
Uttered m t s g a word = SaidBy m (graph_part t g) a (run_of s g).vars word
