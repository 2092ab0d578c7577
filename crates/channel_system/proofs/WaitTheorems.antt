-- What a wait of a system leaves: a state of the table, and after an accepted one every clock and the time moved alike.
use Prim.Native.Nat.{ℕ}
use mathlib.Core.Path.{◌≡◌}
use mathlib.Core.Bool.{true}
use mathlib.Core.List.{List}
use Rattle.laws.specs.Below.{all_below}
use Rattle.laws.proofs.Ladder.{rung}
use Rattle.laws.proofs.BelowLaws.{and_first}
use Rattle.system_tables.specs.Words.{graph_count}
use Rattle.system_tables.specs.Sound.{SystemSound}
use Rattle.system_state.specs.Fits.{StateSound}
use Rattle.channel_system.specs.Steps.{system_fits}
use Rattle.channel_system.specs.Waits.{all_fit, graph_holds, Passed, passed_of, wait_of}
use Rattle.channel_system.proofs.LaterLaws.{later_sound}
use Rattle.channel_system.proofs.FittingLaws.{fits_table_lem, fits_state, sound_pass}

module _ (t s : List ℕ) (delta : ℕ) where
  -- a wait on a table and a state that fit leaves a state of the table
  pub passed_sound : SystemSound t → StateSound t s → StateSound t (passed_of t s delta).state
  unfolding passed_of
  passed_sound sound h =
      rung (λ (p : Passed). StateSound t p.state) (all_fit t s delta) _ _ h
      (λ fits. rung (λ (p : Passed). StateSound t p.state) (all_below (graph_count t) (graph_holds t s delta)) _ _ h
      (λ holds. later_sound t sound s h delta fits))

  -- so 32 is not answered after a wait where it was not before
  pub wait_passes : system_fits t s ≡ true → system_fits t (wait_of t s delta).state ≡ true
  unfolding wait_of system_fits
  wait_passes fits =
      rung (λ (p : Passed). system_fits t p.state ≡ true) (system_fits t s) _ _ fits
      (λ h. sound_pass t (passed_of t s delta).state (and_first _ _ fits) (passed_sound (fits_table_lem t s fits) (fits_state t s fits)))
