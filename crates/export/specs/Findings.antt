-- What a replay, a block that is written and a reason are in C (docs/RULES.md, 'Recordings' and 'Why a step answered 8'): a number, and the words that it
-- tells or the bytes that it leaves.
use Rattle.std.specs.Prelude.{ℕ, Bool, cond, List, [], ◌∷◌, eqb, Ok, Err}
use Rattle.replays.specs.declared.answers.ReplayError.TheVariants as ReplayError
use Rattle.replays.specs.declared.answers.ReplayError.{ReplayError}
use Rattle.std.specs.declared.result.Result.{Result}
use Rattle.recordings.specs.Putting.{Put}
use Rattle.explainer.specs.Why.{unsatisfied}
use Rattle.explainer.specs.declared.causes.Found.{Found}
use Rattle.c_words.specs.Told.{Told, saying, refusing}
use Rattle.c_words.specs.Given.{Given, malformed}

-- ---- sizes: how many words each result has
abbrev pub replay_words : ℕ
replay_words = 4

abbrev pub cause_words : ℕ
cause_words = 6

-- ---- a replay: the records stepped; with 37 the bad block; with 38 the block, the record, the recorded number and the one given
abbrev pub bad_block : ℕ
bad_block = 37

abbrev pub differs : ℕ
differs = 38

abbrev pub finding : ℕ → List ℕ → Told
finding n ws = record { number = n; words = ws }

abbrev pub replay_told : Result ℕ ReplayError → Told
replay_told (Ok n) = saying (n ∷ 0 ∷ 0 ∷ 0 ∷ [])
replay_told (Err (ReplayError.BadBlock b)) = finding bad_block (b ∷ 0 ∷ 0 ∷ 0 ∷ [])
replay_told (Err (ReplayError.Differs d)) = finding differs (d.block ∷ d.entry ∷ d.recorded ∷ d.given ∷ [])
replay_told (Err (ReplayError.Refused r)) = refusing r

-- ---- a block that is written: 36, and nothing is written, where the bytes are no block's, or have no room for the record, its posts or so many records
abbrev pub written_number : Bool → ℕ
written_number done = cond done 0 malformed

abbrev pub writing : Put → Given
writing p = record { number = written_number p.answer; memory = p.block; out = [] }

-- ---- a reason: with 8 the cause, and where the part that fails stands in its table; any other answer tells no word
abbrev pub cause_said : Found → List ℕ
cause_said f =
    f.cause.process ∷ f.cause.transition ∷ f.cause.failing ∷ f.cause.number ∷ f.part.start ∷ f.part.length ∷ []

abbrev pub cause_told : Found → Told
cause_told f = finding f.answer (cond (eqb f.answer unsatisfied) (cause_said f) [])
