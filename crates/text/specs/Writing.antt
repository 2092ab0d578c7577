-- Answers, written into a row of bytes from a place on. What has no room is left out.
use Rattle.std.specs.Prelude.{ℕ, zero, suc, ◌+◌, ◌/◌, ◌%◌, min, max, ◌≡◌, cond, List, [], ◌∷◌, ◌++◌, ltb, length, ℤ, pos, negsuc}
use Rattle.std.proofs.lemmas.List.Edits.{sets}
use Rattle.time.specs.declared.Bound.{Bound}
use Rattle.time.specs.declared.Bound.TheVariants.{Included, Excluded, Unbounded}
use Rattle.grammar.specs.declared.values.Val.{Val}
use Rattle.grammar.specs.declared.values.Val.TheVariants.{Boolean, Integer}

-- the place after n bytes from a place on
abbrev pub reached : ℕ → ℕ → ℕ → ℕ
reached room at n = max at (min (at + n) room)

-- the bytes were put at a place of a row of bytes
pub record Put (before : List ℕ) (at : ℕ) (bytes after : List ℕ) (next : ℕ) : Type 0 where
  pub stored : after ≡ sets before at bytes
  pub moved : next ≡ reached (length before) at (length bytes)

-- the digits of a number of at most so many
unfoldable pub spelled : ℕ → ℕ → List ℕ
spelled zero n = []
spelled (suc k) n = cond (ltb n 10) [] (spelled k (n / 10)) ++ ((48 + n % 10) ∷ [])

abbrev pub number_text : ℕ → List ℕ
number_text n = spelled 20 n

abbrev pub integer_text : ℤ → List ℕ
integer_text (pos n) = number_text n
integer_text (negsuc n) = 45 ∷ number_text (suc n)

abbrev pub value_text : Val → List ℕ
value_text (Boolean b) = 98 ∷ cond b 49 48 ∷ []
value_text (Integer i) = 105 ∷ integer_text i

abbrev pub bound_text : Bound → List ℕ
bound_text (Included t) = 61 ∷ number_text t
bound_text (Excluded t) = 33 ∷ number_text t
bound_text Unbounded = 42 ∷ []
