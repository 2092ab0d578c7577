-- Refusals and their numbers are one to one, and so an answer's number says which refusal it is, or that it is none.
use Rattle.std.specs.Prelude.{Ok, Err, ⊤}
use mathlib.Core.Path.{◌≡◌, refl, sym, ap, ◌∙◌}
use native.Mathlib.Omega.{arith}
use Rattle.graph_tables.specs.Refusals.{number_of, refusal}
use Rattle.graph_tables.specs.Answers.{Answer, answer_number}
use Rattle.graph_tables.specs.declared.refusals.Refusal.{Refusal}
use Rattle.graph_tables.specs.declared.refusals.Refusal.TheVariants as R

pub refusal_back : (r : Refusal) → refusal (number_of r) ≡ r
refusal_back R.MissingAction = refl
refusal_back R.MissingClock = refl
refusal_back R.MissingLocation = refl
refusal_back R.MissingVar = refl
refusal_back R.TypeMismatch = refl
refusal_back R.«Type» = refl
refusal_back R.MismatchingPostStates = refl
refusal_back R.UnsatisfiedGuard = refl
refusal_back R.Invariant = refl
refusal_back R.NoEffects = refl
refusal_back R.EffectOnSend = refl
refusal_back R.EffectOnReceive = refl
refusal_back R.Communication = refl
refusal_back R.NotSend = refl
refusal_back R.NotReceive = refl
refusal_back R.Sync = refl
refusal_back R.MissingPg = refl
refusal_back R.ActionNotInPg = refl
refusal_back R.LocationNotInPg = refl
refusal_back R.OutOfCapacity = refl
refusal_back R.Empty = refl
refusal_back R.NotEmpty = refl
refusal_back R.NotFull = refl
refusal_back R.ProbingHandshakeChannel = refl
refusal_back R.ProbingInfiniteQueue = refl
refusal_back R.Overflow = refl
refusal_back R.NoRoom = refl
refusal_back R.TableFull = refl
refusal_back R.NoProcess = refl
refusal_back R.MissingChannel = refl
refusal_back R.ChannelTooLarge = refl
refusal_back R.BadState = refl

pub number_injective : (q r : Refusal) → number_of q ≡ number_of r → q ≡ r
number_injective q r e = sym (refusal_back q) ∙ ap refusal e ∙ refusal_back r

-- no refusal has the number of ok
pub above_ok : (r : Refusal) → number_of r ≡ 0 → ⊥
above_ok r e =
    let first : r ≡ R.MissingAction = sym (refusal_back r) ∙ ap refusal e in
    let one : number_of r ≡ 1 = ap number_of first in
    omega arith

pub done_injective : (d e : Answer ⊤) → answer_number d ≡ answer_number e → d ≡ e
done_injective (Ok _) (Ok _) h = refl
done_injective (Ok _) (Err r) h = absurd (above_ok r (sym h))
done_injective (Err q) (Ok _) h = absurd (above_ok q h)
done_injective (Err q) (Err r) h = ap Err (number_injective q r h)

pub answer_refusal : {A : Type 0} (a : Answer A) (r : Refusal) → answer_number a ≡ number_of r → a ≡ Err r
answer_refusal (Ok x) r h = absurd (above_ok r (sym h))
answer_refusal (Err q) r h = ap Err (number_injective q r h)
