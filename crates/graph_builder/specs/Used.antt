-- The words that a table uses (docs/LAYOUT.md): those of its parts, up to their counts and lengths. All others may be any. What is in a
-- table is said in words, since a reading as a graph forgets some: a bound's word of no kind, for one, reads as no bound.
use Rattle.std.specs.Prelude.{ℕ, ◌+◌, ◌<◌, ◌≡◌, ◌≢◌, List, get_or}
use Rattle.graph_tables.specs.Layout.{kinds_start, resets_from, transition_width, limit_width, kind_cell, value_cell, place_cell, invariants_cell}
use Rattle.graph_tables.specs.Layout.{action_row, reset_cell, var_cell, length_cell, transition_row, limit_row, guard_slot, effect_slot}
use Rattle.graph_tables.specs.Sizes.{send_kind, receive_kind}
use Rattle.graph_tables.specs.Words.{Words, variable_count, location_count, action_count, process_count, transition_count, invariant_count}
use Rattle.graph_tables.specs.Words.{action_kind, reset_count, effect_count, effect_length, guard_length, limit_count, invariant_group}
use Rattle.graph_builder.specs.Building.{empty_of}
use Rattle.graph_builder.specs.Chains.{Call, after_all, AllFit}
use Rattle.graph_builder.specs.Built.{AllAccepted}

pub data Uses (t : List ℕ) : ℕ → Type 0 where
  -- the six counts
  count : (c : ℕ) → c < kinds_start → Uses t c
  -- variables: a kind and a value
  kind : (v : ℕ) → v < variable_count t → Uses t (kind_cell v)
  value : (v : ℕ) → v < variable_count t → Uses t (value_cell v)
  -- processes: a location
  place : (p : ℕ) → p < process_count t → Uses t (place_cell p)
  -- locations: how many invariants, and each of them
  invariants : (l : ℕ) → l < location_count t → Uses t (invariants_cell l)
  invariant : (l i j : ℕ) → l < location_count t → i < invariant_count t l → j < limit_width
      → Uses t (limit_row (invariant_group l) i + j)
  -- actions: a kind, two counts, resets
  action : (a j : ℕ) → a < action_count t → j < resets_from → Uses t (action_row a + j)
  reset : (a i : ℕ) → a < action_count t → i < reset_count t a → Uses t (reset_cell a i)
  -- a variable of each effect, and of each value that a receive takes
  var : (a e : ℕ) → a < action_count t → action_kind t a ≢ send_kind → e < effect_count t a → Uses t (var_cell a e)
  -- an expression of each effect, and of each value that a send sends
  long : (a e : ℕ) → a < action_count t → action_kind t a ≢ receive_kind → e < effect_count t a → Uses t (length_cell a e)
  item : (a e j : ℕ) → a < action_count t → action_kind t a ≢ receive_kind → e < effect_count t a → j < effect_length t a e
      → Uses t (effect_slot a e + j)
  -- transitions: a key and two counts, limits, a guard
  transition : (k j : ℕ) → k < transition_count t → j < transition_width → Uses t (transition_row k + j)
  limit : (k i j : ℕ) → k < transition_count t → i < limit_count t k → j < limit_width → Uses t (limit_row k i + j)
  guard : (k j : ℕ) → k < transition_count t → j < guard_length t k → Uses t (guard_slot k + j)

-- u has every word that t uses, in its place
abbrev pub HasWords : List ℕ → List ℕ → Type 0
HasWords t u = (i : ℕ) → Uses t i → get_or u i 0 ≡ get_or t i 0

-- these calls build what is in t: from the table that `new` leaves of s, each is accepted in its turn, and t has every word that the
-- table they leave uses
pub record BuiltBy (s t : List ℕ) (calls : List Call) : Type 0 where
  pub size : Words t
  pub fit : AllFit calls
  pub accepted : AllAccepted (empty_of s).table calls
  pub words : HasWords (after_all (empty_of s).table calls) t

-- some calls do
abbrev pub Buildable : List ℕ → List ℕ → Type 0
Buildable s t = (calls : List Call) × BuiltBy s t calls
