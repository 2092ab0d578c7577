-- A draw takes the lowest unused bit of the word, whatever the values are (docs/RULES.md, Expressions).
use Rattle.std.specs.Prelude.{ℕ, ◌+◌, List, [], ◌∷◌}
use Rattle.grammar.specs.Items.{Read, item, none, item_of}
use Rattle.grammar.specs.declared.items.Item.TheVariants as Item

-- How many draws an item is: 0 or 1.
abbrev pub draws_in : Read → ℕ
draws_in (item (Item.Constant v)) = 0
draws_in (item (Item.Variable n)) = 0
draws_in (item (Item.Unary u)) = 0
draws_in (item (Item.Binary b)) = 0
draws_in (item Item.Draw) = 1
draws_in none = 0

unfoldable pub draws_of : List ℕ → ℕ
draws_of [] = 0
draws_of (w ∷ ws) = draws_in (item_of w) + draws_of ws
