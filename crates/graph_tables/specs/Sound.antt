-- What a table that is well formed says of its parts, as facts. The inner functions require them.
use Rattle.std.specs.Prelude.{ℕ, ◌+◌, ◌/◌, ◌≤◌, ◌<◌, ◌≡◌, true, List}
use Rattle.laws.specs.Below.{sum_below}
use Rattle.time.specs.Time.{in_range}
use Rattle.grammar.specs.Values.{kind_word}
use Rattle.grammar.specs.Draws.{draws_of}
use Rattle.grammar.specs.Typing.{type_of}
use Rattle.grammar.specs.declared.values.«Type».{«Type» as Kind}
use Rattle.grammar.specs.declared.typing.Typed.TheVariants.{Known}
use Rattle.graph_tables.specs.Sizes.{process_room, location_room, action_room, transition_room, variable_room, clock_room, limit_room}
use Rattle.graph_tables.specs.Sizes.{effect_room, reset_room, draw_room, message_room, item_room, word32}
use Rattle.graph_tables.specs.Sizes.{boolean_kind, plain_kind, send_kind, receive_kind}
use Rattle.graph_tables.specs.Layout.{bound_span}
use Rattle.graph_tables.specs.Words.{Words, variable_count, clock_count, location_count, action_count, process_count, transition_count}
use Rattle.graph_tables.specs.Words.{kind_at, kinds_of, value_at, place_at, invariant_count, action_kind, reset_count, effect_count, reset_at}
use Rattle.graph_tables.specs.Words.{effect_var, effect_length, key_of, guard_length, limit_count, pre_of, action_of, post_of, clock_of}
use Rattle.graph_tables.specs.Words.{lower_of, upper_of, limit_range, guard_items, effect_items, epsilon, invariant_group}
use Rattle.graph_tables.specs.Formed.{effect_draws}

-- no count is above its size
pub record Counted (t : List ℕ) : Type 0 where
  pub variables : variable_count t ≤ variable_room
  pub clocks : clock_count t ≤ clock_room
  pub locations : location_count t ≤ location_room
  pub actions : action_count t ≤ action_room
  pub processes : process_count t ≤ process_room
  pub transitions : transition_count t ≤ transition_room

-- variable v
pub record VariableSound (t : List ℕ) (v : ℕ) : Type 0 where
  -- its kind is 0 or 1
  pub kind : kind_at t v < 2
  -- its value has 32 bits
  pub fits : value_at t v < word32
  -- a boolean is 0 or 1
  pub truth : kind_at t v ≡ boolean_kind → value_at t v < 2

-- each variable is of a kind
abbrev pub KindsFit : List ℕ → Type 0
KindsFit t = (v : ℕ) → v < variable_count t → kind_at t v < 2

-- the times of a limit's bounds fit
abbrev pub BoundsFit : List ℕ → ℕ → ℕ → Type 0
BoundsFit t g i = (lower_of t g i / bound_span < word32) × (upper_of t g i / bound_span < word32)

-- the n limits of group g
pub record LimitsSound (t : List ℕ) (g n : ℕ) : Type 0 where
  -- there is room for them
  pub few : n ≤ limit_room
  -- each is of a known clock
  pub clock : (i : ℕ) → i < n → clock_of t g i < clock_count t
  -- the times of its bounds fit
  pub fit : (i : ℕ) → i < n → BoundsFit t g i
  -- they stand in the order of their clocks
  pub ordered : (i : ℕ) → i + 1 < n → clock_of t g i ≤ clock_of t g (i + 1)

-- process p
pub record ProcessSound (t : List ℕ) (p : ℕ) : Type 0 where
  -- it starts at a known location
  pub place : place_at t p < location_count t
  -- whose invariants contain time 0
  pub zero_in_range : (i : ℕ) → i < invariant_count t (place_at t p) → in_range (limit_range t (invariant_group (place_at t p)) i) 0 ≡ true

-- the resets of action a
pub record ResetsSound (t : List ℕ) (a : ℕ) : Type 0 where
  -- there is room for them
  pub few : reset_count t a ≤ reset_room
  -- each is of a known clock
  pub clock : (i : ℕ) → i < reset_count t a → reset_at t a i < clock_count t
  -- they stand in order
  pub ordered : (i : ℕ) → i + 1 < reset_count t a → reset_at t a i ≤ reset_at t a (i + 1)

-- expression e of action a: of an effect, or of a message that is sent
pub record ExpressionSound (t : List ℕ) (a e : ℕ) : Type 0 where
  -- there is room for its items
  pub short : effect_length t a e ≤ item_room
  -- it has a kind
  pub kind : Kind
  pub typed : type_of (kinds_of t) (effect_items t a e) ≡ Known kind

-- effect e of action a
pub record EffectSound (t : List ℕ) (a e : ℕ) : Type 0 where
  -- it is of a known variable
  pub var : effect_var t a e < variable_count t
  -- its expression is typed
  pub expression : ExpressionSound t a e
  -- as the variable is
  pub same : kind_word expression.kind ≡ kind_at t (effect_var t a e)

-- plain action a
pub record PlainSound (t : List ℕ) (a : ℕ) : Type 0 where
  -- each effect is typed as its variable
  pub effect : (e : ℕ) → e < effect_count t a → EffectSound t a e
  -- a word has a bit for each draw
  pub draws : sum_below (effect_count t a) (effect_draws t a) ≤ draw_room

-- send a
pub record SendSound (t : List ℕ) (a : ℕ) : Type 0 where
  -- it resets nothing
  pub still : reset_count t a ≡ 0
  -- a message has room for its values
  pub few : effect_count t a ≤ message_room
  -- each expression is typed
  pub expression : (e : ℕ) → e < effect_count t a → ExpressionSound t a e
  -- a word has a bit for each draw
  pub draws : sum_below (effect_count t a) (effect_draws t a) ≤ draw_room

-- receive a
pub record ReceiveSound (t : List ℕ) (a : ℕ) : Type 0 where
  -- it resets nothing
  pub still : reset_count t a ≡ 0
  -- a message has room for its values
  pub few : effect_count t a ≤ message_room
  -- each value goes to a known variable
  pub var : (e : ℕ) → e < effect_count t a → effect_var t a e < variable_count t

-- action a
pub record ActionSound (t : List ℕ) (a : ℕ) : Type 0 where
  -- its kind is one of the three
  pub kind : action_kind t a ≤ receive_kind
  -- its resets are sound, whatever its kind
  pub resets : ResetsSound t a
  -- there is room for its effects, or for the values of its message
  pub few : effect_count t a ≤ effect_room
  -- and what its kind says
  pub plain : action_kind t a ≡ plain_kind → PlainSound t a
  pub send : action_kind t a ≡ send_kind → SendSound t a
  pub receive : action_kind t a ≡ receive_kind → ReceiveSound t a

-- the guard of transition k, which has no items where there is none
pub record GuardSound (t : List ℕ) (k : ℕ) : Type 0 where
  -- there is room for its items
  pub short : guard_length t k ≤ item_room
  -- a guard is a boolean
  pub typed : 0 < guard_length t k → type_of (kinds_of t) (guard_items t k) ≡ Known Kind.Boolean
  -- it draws nothing
  pub no_draws : draws_of (guard_items t k) ≡ 0

-- transition k
pub record TransitionSound (t : List ℕ) (k : ℕ) : Type 0 where
  -- it goes from a known location
  pub pre : pre_of (key_of t k) < location_count t
  -- to a known location
  pub post : post_of (key_of t k) < location_count t
  -- by the reserved action, else by a known one
  pub action : (action_of (key_of t k) ≡ epsilon → ⊥) → action_of (key_of t k) < action_count t
  -- its guard is sound
  pub guard : GuardSound t k
  -- its limits are sound
  pub limits : LimitsSound t k (limit_count t k)

-- the whole table
pub record Sound (t : List ℕ) : Type 0 where
  -- it has its number of words
  pub words : Words t
  -- no count is above its size
  pub counts : Counted t
  -- each part below its count is sound
  pub variable : (v : ℕ) → v < variable_count t → VariableSound t v
  pub invariants : (l : ℕ) → l < location_count t → LimitsSound t (invariant_group l) (invariant_count t l)
  pub process : (p : ℕ) → p < process_count t → ProcessSound t p
  pub action : (a : ℕ) → a < action_count t → ActionSound t a
  pub transition : (k : ℕ) → k < transition_count t → TransitionSound t k
  -- transitions stand in the order of their keys
  pub ordered : (k : ℕ) → k + 1 < transition_count t → key_of t k ≤ key_of t (k + 1)
