-- The number of each refusal.
use Rattle.std.specs.Prelude.{ℕ, ◌-◌, List, [], ◌∷◌, get_or}
use Rattle.graph_tables.specs.declared.refusals.Refusal.{Refusal}
use Rattle.graph_tables.specs.declared.refusals.Refusal.TheVariants as R

abbrev pub number_of : Refusal → ℕ
number_of R.MissingAction = 1
number_of R.MissingClock = 2
number_of R.MissingLocation = 3
number_of R.MissingVar = 4
number_of R.TypeMismatch = 5
number_of R.«Type» = 6
number_of R.MismatchingPostStates = 7
number_of R.UnsatisfiedGuard = 8
number_of R.Invariant = 9
number_of R.NoEffects = 10
number_of R.EffectOnSend = 11
number_of R.EffectOnReceive = 12
number_of R.Communication = 13
number_of R.NotSend = 14
number_of R.NotReceive = 15
number_of R.Sync = 16
number_of R.MissingPg = 17
number_of R.ActionNotInPg = 18
number_of R.LocationNotInPg = 19
number_of R.OutOfCapacity = 20
number_of R.Empty = 21
number_of R.NotEmpty = 22
number_of R.NotFull = 23
number_of R.ProbingHandshakeChannel = 24
number_of R.ProbingInfiniteQueue = 25
number_of R.Overflow = 26
number_of R.NoRoom = 27
number_of R.TableFull = 28
number_of R.NoProcess = 29
number_of R.MissingChannel = 30
number_of R.ChannelTooLarge = 31
number_of R.BadState = 32

-- The refusals in the order of their numbers, and the one of a number from 1 to 32.
abbrev pub refusals : List Refusal
refusals =
    R.MissingAction ∷ R.MissingClock ∷ R.MissingLocation ∷ R.MissingVar ∷ R.TypeMismatch ∷ R.«Type» ∷
    R.MismatchingPostStates ∷ R.UnsatisfiedGuard ∷
    R.Invariant ∷ R.NoEffects ∷ R.EffectOnSend ∷ R.EffectOnReceive ∷ R.Communication ∷ R.NotSend ∷ R.NotReceive ∷ R.Sync ∷
    R.MissingPg ∷ R.ActionNotInPg ∷ R.LocationNotInPg ∷ R.OutOfCapacity ∷ R.Empty ∷ R.NotEmpty ∷ R.NotFull ∷ R.ProbingHandshakeChannel ∷
    R.ProbingInfiniteQueue ∷ R.Overflow ∷ R.NoRoom ∷ R.TableFull ∷ R.NoProcess ∷ R.MissingChannel ∷ R.ChannelTooLarge ∷ R.BadState ∷ []

abbrev pub refusal : ℕ → Refusal
refusal n = get_or refusals (n - 1) R.BadState
