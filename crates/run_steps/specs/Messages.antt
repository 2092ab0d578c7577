-- What a send says, and what a receive takes (docs/RULES.md, 'Messages').
use Rattle.std.specs.Prelude.{ℕ, zero, suc, Bool, true, false, cond, List, eqb, get_or, set, replicate}
use Rattle.laws.specs.Below.{◌and◌, all_below}
use Rattle.grammar.specs.Values.{kind_of, kind_word}
use Rattle.grammar.specs.Evaluation.{blank, evaluation_of}
use Rattle.grammar.specs.declared.values.Slot.{Slot}
use Rattle.std.specs.Prelude.{Option, Some, None}
use Rattle.grammar.specs.declared.values.Val.{Val}
use Rattle.graph_tables.specs.Sizes.{message_room}
use Rattle.graph_tables.specs.Words.{kind_at, effect_count, effect_var, effect_items}
use Rattle.graph_tables.specs.declared.handed.Message.{Message}
use Rattle.run_steps.specs.declared.inner.messages.Speech.{Speech}

-- value e of a send; where there is none, all stays but that it does not fit
abbrev pub voiced : Speech → ℕ → Option Val → ℕ → Speech
voiced s e (Some x) rest = record { values = set s.values e (record { value = x }); word = rest; fits = s.fits }
voiced s e None rest = record { values = s.values; word = rest; fits = false }

-- one more expression, on the variables as they are, drawing from what is left of the word: it is evaluated unless one before had no value
unfoldable pub spoken_next : List Slot → Speech → ℕ → List ℕ → Speech
spoken_next vars s e items =
    cond s.fits (voiced s e (evaluation_of vars s.word items).value (evaluation_of vars s.word items).rest) s

-- the first n expressions of action a
unfoldable pub spoken_below : List ℕ → ℕ → List Slot → Speech → ℕ → Speech
spoken_below t a vars s zero = s
spoken_below t a vars s (suc n) = spoken_next vars (spoken_below t a vars s n) n (effect_items t a n)

abbrev pub unsaid : ℕ → Speech
unsaid word = record { values = replicate message_room blank; word = word; fits = true }

abbrev pub spoken_of : List ℕ → ℕ → List Slot → ℕ → Speech
spoken_of t a vars word = spoken_below t a vars (unsaid word) (effect_count t a)

-- a message of the first n of these values
abbrev pub message_of : List Slot → ℕ → Message
message_of values n = record { values = values; count = n }

abbrev pub no_message : Message
no_message = record { values = replicate message_room blank; count = 0 }

-- value e of a message is of the kind of the variable that takes it
unfoldable pub value_fits : List ℕ → ℕ → Message → ℕ → Bool
value_fits t a m e = eqb (kind_word (kind_of (get_or m.values e blank).value)) (kind_at t (effect_var t a e))

-- a message has as many values as are taken, and of their kinds
unfoldable pub message_fits : List ℕ → ℕ → Message → Bool
message_fits t a m = eqb m.count (effect_count t a) and all_below (effect_count t a) (value_fits t a m)

-- The variables once the first n values are taken: where one stands twice, the later value stays.
unfoldable pub taken_below : List ℕ → ℕ → Message → List Slot → ℕ → List Slot
taken_below t a m vars zero = vars
taken_below t a m vars (suc n) = set (taken_below t a m vars n) (effect_var t a n) (get_or m.values n blank)

abbrev pub taken_of : List ℕ → ℕ → Message → List Slot → List Slot
taken_of t a m vars = taken_below t a m vars (effect_count t a)
