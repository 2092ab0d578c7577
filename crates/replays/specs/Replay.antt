-- A replay of a recording (docs/RULES.md, 'Recordings'): the answer, and the state afterwards. It speaks of the public calls alone.
use Rattle.std.specs.Prelude.{ℕ, zero, suc, ◌+◌, ◌*◌, Bool, true, false, cond, List, [], ◌∷◌, eqb, length, Ok, Err}
use Rattle.replays.specs.declared.answers.ReplayError.{ReplayError}
use Rattle.std.specs.declared.result.Result.{Result}
use Rattle.laws.specs.Ladder.{unless}
use Rattle.graph_tables.specs.Sizes.{word32}
use Rattle.graph_tables.specs.Refusals.{refusal}
use Rattle.channel_system.specs.Steps.{system_fits}
use Rattle.channel_system.specs.Chains as Chains
use Rattle.channel_system.specs.Chains.{Call, answer_to, state_after}
use Rattle.recordings.specs.Records.{Entry, step, wait, recorded_in}
use Rattle.recordings.specs.Blocks.{entries_of, blocks_in, block_at, good_at}

-- ---- a record as a call: its graph is that of the action and of each post
unfoldable pub post_words : ℕ → List ℕ → List ℕ
post_words g [] = []
post_words g (p ∷ ps) = (g * word32 + p) ∷ post_words g ps

abbrev pub call_of : Entry → Call
call_of (step g a posts word answer) = Chains.transition g g a (post_words g posts) word
call_of (wait delta answer) = Chains.wait delta

-- what the call answers, and the state after it
abbrev pub given_to : List ℕ → List ℕ → Entry → ℕ
given_to t s e = answer_to t s (call_of e)

abbrev pub after_entry : List ℕ → List ℕ → Entry → List ℕ
after_entry t s e = state_after t s (call_of e)

-- ---- an answer, and the state at which the replay stands
pub record Played : Type 0 where
  pub answer : Result ℕ ReplayError
  pub state : List ℕ

abbrev pub played : Result ℕ ReplayError → List ℕ → Played
played r s = record { answer = r; state = s }

-- whether it finished, and how many records were stepped then
abbrev pub is_finished : Result ℕ ReplayError → Bool
is_finished (Ok n) = true
is_finished (Err e) = false

abbrev pub stepped_by : Result ℕ ReplayError → ℕ
stepped_by (Ok n) = n
stepped_by (Err e) = 0

-- record i of block b has answered otherwise than it says
abbrev pub differs_at : ℕ → ℕ → ℕ → ℕ → Result ℕ ReplayError
differs_at b i recorded given = Err (ReplayError.Differs (record { block = b; entry = i; recorded = recorded; given = given }))

-- ---- the records of block b from record i on, so many having answered as recorded before: up to the first that does not
unfoldable pub records_played : List ℕ → List ℕ → ℕ → ℕ → ℕ → List Entry → Played
records_played t s b i done [] = played (Ok done) s
records_played t s b i done (e ∷ es) =
    cond (eqb (given_to t s e) (recorded_in e))
    (records_played t (after_entry t s e) b (i + 1) (done + 1) es)
    (played (differs_at b i (recorded_in e) (given_to t s e)) (after_entry t s e))

-- ---- block b: it is tested whole before any of its records is stepped
unfoldable pub block_played : List ℕ → List ℕ → List ℕ → ℕ → ℕ → Played
block_played t s bytes b done =
    unless (good_at bytes b) (played (Err (ReplayError.BadBlock b)) s) (records_played t s b 0 done (entries_of (block_at bytes b)))

-- a finding ends it
abbrev pub go_on : Played → (ℕ → List ℕ → Played) → Played
go_on p next = cond (is_finished p.answer) (next (stepped_by p.answer) p.state) p

-- ---- n blocks from block b on
unfoldable pub blocks_played : List ℕ → List ℕ → List ℕ → ℕ → ℕ → ℕ → Played
blocks_played t s bytes b done zero = played (Ok done) s
blocks_played t s bytes b done (suc n) = go_on (block_played t s bytes b done) (λ m u. blocks_played t u bytes (b + 1) m n)

abbrev pub all_played : List ℕ → List ℕ → List ℕ → Played
all_played t s bytes = blocks_played t s bytes 0 0 (blocks_in (length bytes))

-- ---- a finding undoes all
abbrev pub or_undone : List ℕ → Played → Played
or_undone s p = played p.answer (cond (is_finished p.answer) p.state s)

unfoldable pub replay_of : List ℕ → List ℕ → List ℕ → Played
replay_of t s bytes = unless (system_fits t s) (played (Err (ReplayError.Refused (refusal 32))) s) (or_undone s (all_played t s bytes))
