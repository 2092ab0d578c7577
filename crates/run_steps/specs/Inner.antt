-- Variables in lent words, a kind and a payload each: what a function that writes them leaves.
use Rattle.std.specs.Prelude.{ℕ, ◌+◌, ◌*◌, ◌<◌, ◌≡◌, List, length, get_or, drop}
use Rattle.grammar.specs.Evaluation.{blank}
use Rattle.grammar.specs.Slots.{kind_in, payload_in, slots_of}
use Rattle.grammar.specs.declared.values.Slot.{Slot}
use Rattle.graph_tables.specs.Sizes.{variable_room}

-- Each of the first n pairs of words is that of the value it stands for. What the others are is not said.
pub record VarWords (ws : List ℕ) (n : ℕ) : Type 0 where
  pub words : length ws ≡ 2 * variable_room
  pub kind : (v : ℕ) → v < n → get_or ws (2 * v) 0 ≡ kind_in (get_or (slots_of ws) v blank).value
  pub payload : (v : ℕ) → v < n → get_or ws (2 * v + 1) 0 ≡ payload_in (get_or (slots_of ws) v blank).value

-- Words of variables before and after, of which n are used: they stand for these values afterwards, as the words of values if they were so
-- before; the words that are not used are as they were.
pub record VarsLeft (n : ℕ) (before after : List ℕ) (values : List Slot) : Type 0 where
  pub words : length after ≡ length before
  pub slots : slots_of after ≡ values
  pub canonical : VarWords before n → VarWords after n
  pub frame : drop (2 * n) after ≡ drop (2 * n) before
