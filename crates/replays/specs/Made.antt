-- Calls on a system one after the other, of which some are replays: a replay that finishes makes the calls of its records, one that does
-- not makes none.
use Rattle.std.specs.Prelude.{ℕ, cond, List, [], ◌∷◌, ◌++◌}
use Rattle.channel_system.specs.Chains.{Call, state_after}
use Rattle.recordings.specs.Blocks.{entries_in}
use Rattle.replays.specs.Replay.{is_finished, replay_of}
use Rattle.replays.specs.Recorded.{calls_of}

pub data Made : Type 0 where
  call : Call → Made
  replay : List ℕ → Made

-- the state after it, and the calls that it makes
abbrev pub state_after_made : List ℕ → List ℕ → Made → List ℕ
state_after_made t s (call c) = state_after t s c
state_after_made t s (replay bytes) = (replay_of t s bytes).state

abbrev pub calls_made : List ℕ → List ℕ → Made → List Call
calls_made t s (call c) = c ∷ []
calls_made t s (replay bytes) = cond (is_finished (replay_of t s bytes).answer) (calls_of (entries_in bytes)) []

-- after a chain of them
abbrev pub state_after_made_all : List ℕ → List ℕ → List Made → List ℕ
state_after_made_all t s [] = s
state_after_made_all t s (m ∷ ms) = state_after_made_all t (state_after_made t s m) ms

abbrev pub calls_made_all : List ℕ → List ℕ → List Made → List Call
calls_made_all t s [] = []
calls_made_all t s (m ∷ ms) = calls_made t s m ++ calls_made_all t (state_after_made t s m) ms
