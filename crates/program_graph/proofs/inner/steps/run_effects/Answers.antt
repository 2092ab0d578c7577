use native.Mathlib.Omega.{arith}
use Rattle.program_graph.proofs.inner.steps.run_effects.Goals as goal

pub effect_count-requires : goal.effect_count-requires
effect_count-requires c =
    (c.requires.0.words, omega (arith, c.requires.2, c.requires.0.counts.actions))

pub run_single-requires : goal.run_single-requires
run_single-requires c =
    (c.requires.0, c.requires.1, c.requires.2, c.requires.3, omega (arith, c.effect_count.ensures, c.if-effect_count-le1.true))

pub returns-then-effect_count-le1 : goal.returns-then-effect_count-le1
returns-then-effect_count-le1 c = c.run_single.ensures

pub run_several-requires : goal.run_several-requires
run_several-requires c =
    (c.requires.0, c.requires.1, c.requires.2, c.requires.3)

pub returns : goal.returns
returns c = c.run_several.ensures
