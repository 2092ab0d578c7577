-- What is taken of a line.
use Rattle.std.specs.Prelude.{ℕ, Bool, true, false, cond, ltb, length, drop, List, Option, Some, None, Result, Ok, Err, ⊤}
use Rattle.graph_text.specs.declared.faults.Fault.{Fault}
use Rattle.graph_text.specs.declared.faults.Fault.TheVariants.{Bad}
use Rattle.text.specs.Tokens.{token_of, next_of}

-- the token at a place
abbrev pub token_at : List ℕ → ℕ → List ℕ
token_at line at = token_of (drop at line)

-- what a token reads as; the line is bad where it reads as nothing
unfoldable pub given : Option ℕ → Result ℕ Fault
given (Some n) = Ok n
given None = Err Bad

-- whether nothing is left
unfoldable pub at_end : List ℕ → ℕ → Bool
at_end line at = ltb (length line) at

-- the line is bad where it does not hold
unfoldable pub held : Bool → Result ⊤ Fault
held true = Ok tt
held false = Err Bad

-- where the line stands once a word was looked for: past it if it was there
abbrev pub past_if : Bool → List ℕ → ℕ → ℕ
past_if was line at = cond was (next_of line at) at

-- what the token at a place reads as, if it is the last one
unfoldable pub alone : List ℕ → ℕ → Option ℕ → Result ℕ Fault
alone line at read = cond (at_end line (next_of line at)) (given read) (Err Bad)
