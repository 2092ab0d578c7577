-- What the layer above asks of a graph's action: whether it is plain, sends or receives, how many values its message has, and
-- the kind of each (docs/RULES.md, 'Systems').
use Rattle.std.specs.Prelude.{ℕ, Bool, cond, List, eqb}
use Rattle.grammar.specs.Values.{kind_word}
use Rattle.grammar.specs.Typing.{type_of}
use Rattle.grammar.specs.declared.typing.Typed.{Typed}
use Rattle.grammar.specs.declared.typing.Typed.TheVariants.{Known, IllTyped, TableFull, TooDeep}
use Rattle.graph_tables.specs.Sizes.{plain_kind, send_kind, receive_kind, no_kind}
use Rattle.graph_tables.specs.Words.{kind_at, kinds_of, action_kind, effect_count, effect_var, effect_items}

-- what action a is
unfoldable pub is_plain : List ℕ → ℕ → Bool
is_plain t a = eqb (action_kind t a) plain_kind

unfoldable pub is_send : List ℕ → ℕ → Bool
is_send t a = eqb (action_kind t a) send_kind

unfoldable pub is_receive : List ℕ → ℕ → Bool
is_receive t a = eqb (action_kind t a) receive_kind

-- how many values its message has
unfoldable pub message_count : List ℕ → ℕ → ℕ
message_count t a = effect_count t a

-- the word of an expression's kind
abbrev pub typed_word : Typed → ℕ
typed_word (Known k) = kind_word k
typed_word IllTyped = no_kind
typed_word TableFull = no_kind
typed_word (TooDeep k) = no_kind

-- the kind of value e: of the variable that takes it, or of the expression that is sent
unfoldable pub value_kind : List ℕ → ℕ → ℕ → ℕ
value_kind t a e = cond (is_receive t a) (kind_at t (effect_var t a e)) (typed_word (type_of (kinds_of t) (effect_items t a e)))
