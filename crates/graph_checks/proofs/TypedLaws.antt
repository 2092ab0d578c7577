-- What the tests of a handed expression's kind say together.
use Prim.Native.Nat.{ℕ, ◌≤◌}
use mathlib.Core.Path.{◌≡◌, refl}
use mathlib.Core.Bool.{Bool, true, false, not}
use mathlib.Core.List.{List}
use borrow.Author.Tests.{leb-true}
use lib.Dec.{leb}
use lib.ListN.{length}
use Rattle.laws.specs.Ladder.{unless}
use Rattle.grammar.specs.Typing.{type_of, is_typed, kinded, kinded_as, too_deep, too_long, typed_as}
use Rattle.grammar.specs.declared.typing.Typed.{Typed}
use Rattle.grammar.specs.declared.typing.Typed.TheVariants.{Known, IllTyped, TableFull, TooDeep}
use Rattle.graph_tables.specs.Sizes.{item_room}
use Rattle.laws.proofs.Tests.{never}

-- of a kind and not too deep
pub as_typed : (w : ℕ) (x : Typed) → kinded_as w x ≡ true → not (too_deep x) ≡ true → typed_as w x ≡ true
as_typed w (Known k) h d = h
as_typed w IllTyped h d = h
as_typed w TableFull h d = h
as_typed w (TooDeep k) h d = never d

pub is_typed_lem : (x : Typed) → kinded x ≡ true → not (too_deep x) ≡ true → is_typed x ≡ true
is_typed_lem (Known k) h d = refl
is_typed_lem IllTyped h d = h
is_typed_lem TableFull h d = h
is_typed_lem (TooDeep k) h d = never d

short_rung : (b : Bool) (rest : Typed) → not (too_long (unless b TableFull rest)) ≡ true → b ≡ true
unfolding unless
short_rung true rest h = refl
short_rung false rest h = never h

-- an expression that is not too long has room for its items
pub short : (kinds ws : List ℕ) → not (too_long (type_of kinds ws)) ≡ true → length ws ≤ item_room
unfolding type_of
short kinds ws h = leb-true (length ws) item_room (short_rung (leb (length ws) item_room) _ h)
