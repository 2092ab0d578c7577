-- What the inner functions ask for.
use Rattle.std.specs.Prelude.{ℕ, ◌≡◌, true, false, List}
use Rattle.system_tables.specs.Formed.{system_formed}
use Rattle.system_state.specs.Fits.{StateSound}

-- a table that can be run, and a state of it
pub record Ready (t s : List ℕ) : Type 0 where
  pub table : system_formed t false ≡ true
  pub state : StateSound t s
