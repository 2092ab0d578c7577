-- What the theorems on replays speak of: the calls that a recording reads as, made one after the other.
use Rattle.std.specs.Prelude.{ℕ, ◌<◌, ◌≤◌, ◌≡◌, true, false, List, [], ◌∷◌, ◌++◌, length, Ok, Err}
use Rattle.replays.specs.declared.answers.ReplayError.{ReplayError}
use Rattle.std.specs.declared.result.Result.{Result}
use Rattle.graph_tables.specs.Refusals.{refusal}
use Rattle.channel_system.specs.Steps.{system_fits}
use Rattle.channel_system.specs.Chains.{Call, state_after_all}
use Rattle.recordings.specs.Records.{Entry, recorded_in}
use Rattle.recordings.specs.Blocks.{entries_of, blocks_in, block_at, good_at, entries_from, entries_in}
use Rattle.replays.specs.declared.answers.Difference.{Difference}
use Rattle.replays.specs.Replay.{call_of, given_to, after_entry}

-- the calls of records, and the state after them
abbrev pub calls_of : List Entry → List Call
calls_of [] = []
calls_of (e ∷ es) = call_of e ∷ calls_of es

abbrev pub after_all : List ℕ → List ℕ → List Entry → List ℕ
after_all t s es = state_after_all t s (calls_of es)

-- each of them, made after those before it, answers as recorded
abbrev pub Agreed : List ℕ → List ℕ → List Entry → Type 0
Agreed t s [] = Unit {0}
Agreed t s (e ∷ es) = (given_to t s e ≡ recorded_in e) × Agreed t (after_entry t s e) es

-- every block is good, the n records all answer as recorded, and the state is that after all of them
pub record FinishedAs (t s bytes : List ℕ) (n : ℕ) (u : List ℕ) : Type 0 where
  pub good : (k : ℕ) → k < blocks_in (length bytes) → good_at bytes k ≡ true
  pub agreed : Agreed t s (entries_in bytes)
  pub count : n ≡ length (entries_in bytes)
  pub state : u ≡ after_all t s (entries_in bytes)

-- block k is bad, those before it are good, and their records answer as recorded
pub record BadAt (t s bytes : List ℕ) (k : ℕ) : Type 0 where
  pub there : k < blocks_in (length bytes)
  pub good : (j : ℕ) → j < k → good_at bytes j ≡ true
  pub agreed : Agreed t s (entries_from bytes 0 k)
  pub bad : good_at bytes k ≡ false

-- the blocks up to the one named are good; all records before the one named answer as recorded; it does not, and both numbers are told
pub record DiffersFirst (t s bytes : List ℕ) (d : Difference) : Type 0 where
  pub there : d.block < blocks_in (length bytes)
  pub good : (j : ℕ) → j ≤ d.block → good_at bytes j ≡ true
  pub earlier : List Entry
  pub named : Entry
  pub later : List Entry
  pub split : entries_of (block_at bytes d.block) ≡ earlier ++ (named ∷ later)
  pub place : d.entry ≡ length earlier
  pub agreed : Agreed t s (entries_from bytes 0 d.block ++ earlier)
  pub recorded : d.recorded ≡ recorded_in named
  pub given : d.given ≡ given_to t (after_all t s (entries_from bytes 0 d.block ++ earlier)) named
  pub differ : d.given ≡ d.recorded → ⊥

-- what a replay says, and that a finding leaves every word
abbrev pub Says : List ℕ → List ℕ → List ℕ → Result ℕ ReplayError → List ℕ → Type 0
Says t s bytes (Ok n) u = FinishedAs t s bytes n u
Says t s bytes (Err (ReplayError.BadBlock k)) u = (u ≡ s) × BadAt t s bytes k
Says t s bytes (Err (ReplayError.Differs d)) u = (u ≡ s) × DiffersFirst t s bytes d
Says t s bytes (Err (ReplayError.Refused r)) u = (u ≡ s) × (r ≡ refusal 32) × (system_fits t s ≡ false)
