-- The end of a time range: `*` absent, `=N` included, `!N` excluded.
use Rattle.std.specs.Prelude.{ℕ, cond, List, [], ◌∷◌, eqb, get_or, drop, Option, Some, None, option_map}
use Rattle.time.specs.declared.Bound.{Bound}
use Rattle.time.specs.declared.Bound.TheVariants.{Included, Excluded, Unbounded}
use Rattle.text.specs.Tokens.{same_bytes}
use Rattle.text.specs.Numbers.{small_of}

abbrev pub included_at : Option ℕ → Option Bound
included_at = option_map Included

abbrev pub excluded_at : Option ℕ → Option Bound
excluded_at = option_map Excluded

unfoldable pub limit_of : List ℕ → Option Bound
limit_of token =
    cond (same_bytes token (42 ∷ [])) (Some Unbounded)
    (cond (eqb (get_or token 0 0) 61) (included_at (small_of (drop 1 token)))
    (cond (eqb (get_or token 0 0) 33) (excluded_at (small_of (drop 1 token))) None))
