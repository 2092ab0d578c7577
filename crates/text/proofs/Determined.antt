-- Each call's promise determines its answer and every byte or word that it leaves: any two ends that it permits are equal. `Post` is the
-- contract that stands in the code, as the prover reads it, so a weaker one breaks this file. Calls that lend a part of what they were lent
-- are left out.
use Prim.Native.Nat.{ℕ}
use mathlib.Core.Path.{refl, sym, ap, ◌∙◌}
use mathlib.Core.List.{List}
use Rattle.laws.specs.Determined.{Determined}
use Rattle.text.proofs as calls

pub next : Determined calls.tokens.next.Kinds.ps calls.tokens.next.Kinds.r calls.tokens.next.Reads.Post
next κs a x y v w p q = (p ∙ sym q, refl)

pub ended : Determined calls.tokens.ended.Kinds.ps calls.tokens.ended.Kinds.r calls.tokens.ended.Reads.Post
ended κs a x y v w p q = (p ∙ sym q, refl)

pub is : Determined calls.tokens.is.Kinds.ps calls.tokens.is.Kinds.r calls.tokens.is.Reads.Post
is κs a x y v w p q = (p ∙ sym q, refl)

pub first : Determined calls.tokens.first.Kinds.ps calls.tokens.first.Kinds.r calls.tokens.first.Reads.Post
first κs a x y v w p q = (p ∙ sym q, refl)

pub read_number : Determined calls.numbers.read_number.Kinds.ps calls.numbers.read_number.Kinds.r calls.numbers.read_number.Reads.Post
read_number κs a x y v w p q = (p ∙ sym q, refl)

pub read_small : Determined calls.numbers.read_small.Kinds.ps calls.numbers.read_small.Kinds.r calls.numbers.read_small.Reads.Post
read_small κs a x y v w p q = (p ∙ sym q, refl)

pub read_wide : Determined calls.numbers.read_wide.Kinds.ps calls.numbers.read_wide.Kinds.r calls.numbers.read_wide.Reads.Post
read_wide κs a x y v w p q = (p ∙ sym q, refl)

pub read_integer : Determined calls.numbers.read_integer.Kinds.ps calls.numbers.read_integer.Kinds.r calls.numbers.read_integer.Reads.Post
read_integer κs a x y v w p q = (p ∙ sym q, refl)

pub read_limit : Determined calls.bounds.read_limit.Kinds.ps calls.bounds.read_limit.Kinds.r calls.bounds.read_limit.Reads.Post
read_limit κs a x y v w p q = (p ∙ sym q, refl)

pub read_value : Determined calls.values.read_value.Kinds.ps calls.values.read_value.Kinds.r calls.values.read_value.Reads.Post
read_value κs a x y v w p q = (p ∙ sym q, refl)

pub kind : Determined calls.values.kind.Kinds.ps calls.values.kind.Kinds.r calls.values.kind.Reads.Post
kind κs a x y v w p q = (p ∙ sym q, refl)

pub read_symbol : Determined calls.items.read_symbol.Kinds.ps calls.items.read_symbol.Kinds.r calls.items.read_symbol.Reads.Post
read_symbol κs a x y v w p q = (p ∙ sym q, refl)

pub read_word : Determined calls.items.read_word.Kinds.ps calls.items.read_word.Kinds.r calls.items.read_word.Reads.Post
read_word κs a x y v w p q = (p ∙ sym q, refl)

pub read_expression : Determined calls.items.read_expression.Kinds.ps calls.items.read_expression.Kinds.r calls.items.read_expression.Reads.Post
read_expression κs a x y v w p q = (p.0 ∙ sym q.0, ap (λ (t : List ℕ). (v.0, (v.1.0, (t, v.1.1.1)))) (p.1 ∙ sym q.1))

pub put : Determined calls.output.put.Kinds.ps calls.output.put.Kinds.r calls.output.put.Reads.Post
put κs a x y v w p q = (p.moved ∙ sym q.moved, ap (λ (t : List ℕ). (t, v.1)) (p.stored ∙ sym q.stored))

pub put_all : Determined calls.output.put_all.Kinds.ps calls.output.put_all.Kinds.r calls.output.put_all.Reads.Post
put_all κs a x y v w p q = (p.moved ∙ sym q.moved, ap (λ (t : List ℕ). (t, v.1)) (p.stored ∙ sym q.stored))

pub put_number : Determined calls.output.put_number.Kinds.ps calls.output.put_number.Kinds.r calls.output.put_number.Reads.Post
put_number κs a x y v w p q = (p.moved ∙ sym q.moved, ap (λ (t : List ℕ). (t, v.1)) (p.stored ∙ sym q.stored))

pub put_integer : Determined calls.output.put_integer.Kinds.ps calls.output.put_integer.Kinds.r calls.output.put_integer.Reads.Post
put_integer κs a x y v w p q = (p.moved ∙ sym q.moved, ap (λ (t : List ℕ). (t, v.1)) (p.stored ∙ sym q.stored))

pub put_value : Determined calls.output.put_value.Kinds.ps calls.output.put_value.Kinds.r calls.output.put_value.Reads.Post
put_value κs a x y v w p q = (p.moved ∙ sym q.moved, ap (λ (t : List ℕ). (t, v.1)) (p.stored ∙ sym q.stored))

pub put_bound : Determined calls.output.put_bound.Kinds.ps calls.output.put_bound.Kinds.r calls.output.put_bound.Reads.Post
put_bound κs a x y v w p q = (p.moved ∙ sym q.moved, ap (λ (t : List ℕ). (t, v.1)) (p.stored ∙ sym q.stored))
