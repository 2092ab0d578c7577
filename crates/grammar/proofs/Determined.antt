-- Each public call's promise determines its answer: any two answers that it permits are equal. `Post` is the contract that stands in
-- the code, as the prover reads it, so a weaker one breaks this file.
use mathlib.Core.Path.{refl, sym, ◌∙◌}
use Rattle.laws.specs.Determined.{Determined}
use Rattle.grammar.proofs as calls

pub bits_of_lem : Determined calls.bits.bits_of.Kinds.ps calls.bits.bits_of.Kinds.r calls.bits.bits_of.Reads.Post
bits_of_lem κs a x y v w p q = (p ∙ sym q, refl)

pub from_bits_lem : Determined calls.bits.from_bits.Kinds.ps calls.bits.from_bits.Kinds.r calls.bits.from_bits.Reads.Post
from_bits_lem κs a x y v w p q = (p ∙ sym q, refl)

pub kind : Determined calls.values.Val.kind.Kinds.ps calls.values.Val.kind.Kinds.r calls.values.Val.kind.Reads.Post
kind κs a x y v w p q = (p ∙ sym q, refl)

pub equals : Determined calls.values.Val.equals.Kinds.ps calls.values.Val.equals.Kinds.r calls.values.Val.equals.Reads.Post
equals κs a x y v w p q = (p ∙ sym q, refl)

pub kind_word_lem : Determined calls.values.«Type».word.Kinds.ps calls.values.«Type».word.Kinds.r calls.values.«Type».word.Reads.Post
kind_word_lem κs a x y v w p q = (p ∙ sym q, refl)

pub item_word : Determined calls.items.Item.word.Kinds.ps calls.items.Item.word.Kinds.r calls.items.Item.word.Reads.Post
item_word κs a x y v w p q = (p ∙ sym q, refl)

pub unary_word_lem : Determined calls.items.Unary.word.Kinds.ps calls.items.Unary.word.Kinds.r calls.items.Unary.word.Reads.Post
unary_word_lem κs a x y v w p q = (p ∙ sym q, refl)

pub binary_word_lem : Determined calls.items.Binary.word.Kinds.ps calls.items.Binary.word.Kinds.r calls.items.Binary.word.Reads.Post
binary_word_lem κs a x y v w p q = (p ∙ sym q, refl)

pub count_draws : Determined calls.draws.count_draws.Kinds.ps calls.draws.count_draws.Kinds.r calls.draws.count_draws.Reads.Post
count_draws κs a x y v w p q = (p ∙ sym q, refl)

pub has_draws : Determined calls.draws.has_draws.Kinds.ps calls.draws.has_draws.Kinds.r calls.draws.has_draws.Reads.Post
has_draws κs a x y v w p q = (p ∙ sym q, refl)

pub type_of_lem : Determined calls.typing.type_of.Kinds.ps calls.typing.type_of.Kinds.r calls.typing.type_of.Reads.Post
type_of_lem κs a x y v w p q = (p ∙ sym q, refl)

pub judge : Determined calls.typing.judge.Kinds.ps calls.typing.judge.Kinds.r calls.typing.judge.Reads.Post
judge κs a x y v w p q = (p ∙ sym q, refl)

pub number : Determined calls.typing.Typed.number.Kinds.ps calls.typing.Typed.number.Kinds.r calls.typing.Typed.number.Reads.Post
number κs a x y v w p q = (p ∙ sym q, refl)

pub is_typed_lem : Determined calls.typing.Typed.is_typed.Kinds.ps calls.typing.Typed.is_typed.Kinds.r calls.typing.Typed.is_typed.Reads.Post
is_typed_lem κs a x y v w p q = (p ∙ sym q, refl)

pub typed_as_lem : Determined calls.typing.Typed.typed_as.Kinds.ps calls.typing.Typed.typed_as.Kinds.r calls.typing.Typed.typed_as.Reads.Post
typed_as_lem κs a x y v w p q = (p ∙ sym q, refl)

pub has_kind : Determined calls.typing.Typed.has_kind.Kinds.ps calls.typing.Typed.has_kind.Kinds.r calls.typing.Typed.has_kind.Reads.Post
has_kind κs a x y v w p q = (p ∙ sym q, refl)

pub kinded_as_lem :
    Determined calls.typing.Typed.kinded_as.Kinds.ps calls.typing.Typed.kinded_as.Kinds.r
    calls.typing.Typed.kinded_as.Reads.Post
kinded_as_lem κs a x y v w p q = (p ∙ sym q, refl)

pub too_long_lem : Determined calls.typing.Typed.too_long.Kinds.ps calls.typing.Typed.too_long.Kinds.r calls.typing.Typed.too_long.Reads.Post
too_long_lem κs a x y v w p q = (p ∙ sym q, refl)

pub too_deep_lem : Determined calls.typing.Typed.too_deep.Kinds.ps calls.typing.Typed.too_deep.Kinds.r calls.typing.Typed.too_deep.Reads.Post
too_deep_lem κs a x y v w p q = (p ∙ sym q, refl)

pub evaluate : Determined calls.evaluation.evaluate.Kinds.ps calls.evaluation.evaluate.Kinds.r calls.evaluation.evaluate.Reads.Post
evaluate κs a x y v w p q = (p ∙ sym q, refl)
