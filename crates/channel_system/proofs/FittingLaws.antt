-- What the test behind 32 says of a table and a state, and that a new instance passes it.
use Prim.Native.Nat.{ℕ}
use mathlib.Core.Path.{◌≡◌}
use mathlib.Core.Bool.{true, false}
use mathlib.Core.List.{List}
use Rattle.laws.proofs.BelowLaws.{and_first, and_rest, and_both}
use Rattle.system_tables.specs.Sound.{SystemSound}
use Rattle.system_tables.specs.Formed.{system_formed}
use Rattle.system_tables.proofs.SoundLaws.{system_sound}
use Rattle.system_state.specs.Words.{StateWords}
use Rattle.system_state.specs.Fits.{StateSound}
use Rattle.system_state.specs.Fresh.{fresh_state}
use Rattle.system_state.proofs.SoundLaws.{state_sound, sound_fits}
use Rattle.system_state.proofs.FreshLaws.{fresh_fits}
use Rattle.channel_system.specs.Steps.{system_fits}

module _ (t s : List ℕ) where
  pub fits_table_lem : system_fits t s ≡ true → SystemSound t
  unfolding system_fits
  fits_table_lem h = system_sound t false (and_first _ _ h)

  pub fits_state : system_fits t s ≡ true → StateSound t s
  unfolding system_fits
  fits_state h = state_sound t (fits_table_lem h) s (and_rest _ _ h)

  pub fits_both : system_fits t s ≡ true → SystemSound t × StateSound t s
  fits_both h = (fits_table_lem h, fits_state h)

  -- a table that can be run, and a state of it
  pub sound_pass : system_formed t false ≡ true → StateSound t s → system_fits t s ≡ true
  unfolding system_fits
  sound_pass formed h = and_both formed (sound_fits t (system_sound t false formed) s h)

  -- a new instance
  pub fresh_passes : system_formed t false ≡ true → StateWords s → system_fits t (fresh_state t s) ≡ true
  unfolding system_fits
  fresh_passes formed words = and_both formed (fresh_fits t (system_sound t false formed) s words)
