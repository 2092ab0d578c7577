-- Examples with what they must give: one list, one statement.
use Rattle.std.specs.Prelude.{◌≡◌}

-- what a rule gives, and what it must give
pub data Examples : Type 1 where
  end : Examples
  gives : {A : Type 0} → A → A → Examples → Examples

-- each gives what it must
abbrev pub Hold : Examples → Type 0
Hold end = Unit {0}
Hold (gives a b rest) = (a ≡ b) × Hold rest
