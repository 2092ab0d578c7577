-- Laws of what a call leaves: one for each way in which it ends, and what is left of it where less is lent.
use Prim.Native.Nat.{ℕ, ◌≤◌, ◌<◌}
use mathlib.Core.Path.{◌≡◌, refl}
use mathlib.Core.Bool.{Bool, true, false}
use mathlib.Core.List.{List, []}
use lib.ListN.{length}
use borrow.Author.Tests.{le-leb, lt-leb}
use Rattle.laws.specs.Ladder.{unless}
use Rattle.c_words.specs.Told.{Told, put}
use Rattle.c_words.specs.Given.{Given, short, malformed, answering, Gives, Does, Tells}

-- 35: the result has no room
pub too_short : (n : ℕ) (known : Bool) (m out : List ℕ) (a : Told) (after : List ℕ) → length out < n → Gives short m out (answering n known m out a after)
unfolding answering unless
too_short n known m out a after h = rw (lt-leb n (length out) h) (refl, refl, refl)

-- 36: the arguments are not such
pub not_known : (n : ℕ) (known : Bool) (m out : List ℕ) (a : Told) (after : List ℕ) → n ≤ length out → known ≡ false → Gives malformed m out (answering n known m out a after)
unfolding answering unless
not_known n known m out a after h e = rw (le-leb n (length out) h, e) (refl, refl, refl)

-- the call's own answer
pub answered : (n : ℕ) (known : Bool) (m out : List ℕ) (a : Told) (after : List ℕ) → n ≤ length out → known ≡ true → Gives a.number after (put a.words out) (answering n known m out a after)
unfolding answering unless
answered n known m out a after h e = rw (le-leb n (length out) h, e) (refl, refl, refl)

-- where no result is lent
pub unknown : (known : Bool) (m : List ℕ) (a : Told) (after : List ℕ) → known ≡ false → Does malformed m (answering 0 known m [] a after)
unfolding answering unless
unknown known m a after e = rw e (refl, refl)

pub done : (known : Bool) (m : List ℕ) (a : Told) (after : List ℕ) → known ≡ true → Does a.number after (answering 0 known m [] a after)
unfolding answering unless
done known m a after e = rw e (refl, refl)

-- where a result alone is lent
pub tells : {r : ℕ} {m out : List ℕ} {g : Given} → Gives r m out g → Tells r out g
tells h = (h.0, h.2)
