-- Values, `b0`, `b1` or `iI`, and kinds, `b` or `i`.
use Rattle.std.specs.Prelude.{ℕ, true, false, cond, List, [], ◌∷◌, eqb, get_or, drop, ℤ, Option, Some, None, option_map}
use Rattle.grammar.specs.declared.values.Val.{Val}
use Rattle.grammar.specs.declared.values.Val.TheVariants.{Boolean, Integer as Integral}
use Rattle.text.specs.Tokens.{same_bytes}
use Rattle.text.specs.Numbers.{integer_of}

abbrev pub integer_value : Option ℤ → Option Val
integer_value = option_map Integral

unfoldable pub value_of : List ℕ → Option Val
value_of token =
    cond (same_bytes token (98 ∷ 48 ∷ [])) (Some (Boolean false))
    (cond (same_bytes token (98 ∷ 49 ∷ [])) (Some (Boolean true))
    (cond (eqb (get_or token 0 0) 105) (integer_value (integer_of (drop 1 token))) None))

abbrev pub kind_of : ℕ → Option ℕ
kind_of letter = cond (eqb letter 98) (Some 0) (cond (eqb letter 105) (Some 1) None)
