-- Values in words: a kind and a payload each.
use Rattle.std.specs.Prelude.{ℕ, ◌%◌, Bool, true, false, cond, List, [], ◌∷◌, eqb}
use Rattle.laws.specs.Below.{◌and◌}
use Rattle.std.specs.Int.{w32}
use Rattle.std.proofs.Common.{SFits}
use Rattle.grammar.specs.Values.{kind_of, kind_word}
use Rattle.grammar.specs.Bits.{bits_of, from_bits}
use Rattle.grammar.specs.declared.values.Val.{Val}
use Rattle.grammar.specs.declared.values.Val.TheVariants.{Boolean, Integer}
use Rattle.grammar.specs.declared.values.Slot.{Slot}

-- the value that a kind and a payload are; of a payload the low 32 bits
unfoldable pub val_of : ℕ → ℕ → Val
val_of kind payload = cond (eqb kind 0) (Boolean (eqb payload 1)) (Integer (from_bits (payload % 4294967296)))

abbrev pub kind_in : Val → ℕ
kind_in v = kind_word (kind_of v)

abbrev pub truth_word : Bool → ℕ
truth_word true = 1
truth_word false = 0

abbrev pub payload_in : Val → ℕ
payload_in (Boolean b) = truth_word b
payload_in (Integer n) = bits_of n

-- a kind and a payload are those of the value that they stand for
unfoldable pub is_value : ℕ → ℕ → Bool
is_value kind payload = eqb (kind_in (val_of kind payload)) kind and eqb (payload_in (val_of kind payload)) payload

-- words as values, two each, and back
unfoldable pub slots_of : List ℕ → List Slot
slots_of [] = []
slots_of (k ∷ []) = []
slots_of (k ∷ p ∷ ws) = record { value = val_of k p } ∷ slots_of ws

unfoldable pub words_in : List Slot → List ℕ
words_in [] = []
words_in (s ∷ ss) = kind_in s.value ∷ payload_in s.value ∷ words_in ss

-- an integer that a program holds has 32 bits
unfoldable pub FitVal : Val → Type 0
FitVal (Boolean b) = Unit
FitVal (Integer n) = SFits w32 n
