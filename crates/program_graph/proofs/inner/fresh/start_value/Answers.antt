use Prim.Native.Nat.{ℕ}
use mathlib.Core.Path.{◌≡◌, ap, ◌∙◌}
use mir.Syntax.{w32}
use mir.Val.{to_z, of_z}
use lib.Dec.{eqb}
use native.Mathlib.Omega.{arith}
use borrow.Author.Rules.{rules}
use borrow.Author.Tests.{eq-eqb, ne_eqb}
use Rattle.grammar.specs.Bits.{from_bits}
use Rattle.grammar.specs.declared.values.Val.TheVariants.{Boolean, Integer}
use Rattle.program_graph.proofs.inner.fresh.start_value.Goals as goal

pub returns-then-kind_at-eq0 : goal.returns-then-kind_at-eq0
returns-then-kind_at-eq0 c =
    rw (eq-eqb _ _ (rw c.kind_at.ensures at c.if-kind_at-eq0.true)) (ap (λ (n : ℕ). Boolean (eqb n 1)) c.value_at-value.ensures)

pub overflow_cast-value : goal.overflow_cast-value
overflow_cast-value c = omega (arith, (c.requires.0.variable _ c.requires.1).fits)

pub returns : goal.returns
returns c =
    let n = c.from_bits.result in
    let e : to_z w32 (of_z w32 n) ≡ n = search rules in
    rw (ne_eqb _ _ (rw c.kind_at.ensures at c.if-kind_at-eq0.false)) (ap Integer
    (e ∙ c.from_bits.ensures ∙ ap from_bits c.value_at-value.ensures))
