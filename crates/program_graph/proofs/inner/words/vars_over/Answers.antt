use mathlib.Core.Path.{refl, ap, ◌∙◌}
use native.Mathlib.Omega.{arith}
use Rattle.program_graph.specs.Inner.{over_below}
use native.Mathlib.Numerals.{add-one}
use Rattle.grammar.proofs.SlotLaws.{slot_at}
use borrow.Author.Rules.{rules}
use Rattle.program_graph.proofs.inner.words.vars_over.Goals as goal

pub loop-v-init : goal.loop-v-init
unfolding over_below
loop-v-init c = (search rules, refl)

pub loop-v-preserved : goal.loop-v-preserved
unfolding over_below
loop-v-preserved c =
    (omega arith, rw add-one (cc (c.loop-v.invariant.1, slot_at c.args.ws.now c.loop-v.v (omega (arith, c.requires)), c.value_of-value.ensures)))

pub returns : goal.returns
returns c = c.loop-v.invariant.1 ∙ ap (over_below _ _) (omega arith)
