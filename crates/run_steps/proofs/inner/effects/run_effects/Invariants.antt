use Prim.Native.Nat.{◌-◌, ◌≤◌}
use mathlib.Core.Path.{◌≡◌}
use mathlib.Core.Bool.{true}
use Rattle.grammar.specs.Slots.{slots_of}
use Rattle.graph_tables.specs.Words.{variable_count}
use Rattle.run_steps.specs.Steps.{unchanged, effects_below}
use Rattle.run_steps.specs.Inner.{VarsLeft}
use Rattle.run_steps.proofs.inner.effects.run_effects.Given as goal

abbrev pub invariant-loop-e : goal.invariant-loop-e
invariant-loop-e l =
    (l.e ≤ l.e-end)
    × ((effects_below l.t l.a (unchanged (slots_of l.initial.vars) l.word) l.e).fits ≡ true)
    × (l.left ≡ (effects_below l.t l.a (unchanged (slots_of l.initial.vars) l.word) l.e).word)
    × VarsLeft (variable_count l.t) l.initial.vars l.vars (effects_below l.t l.a (unchanged (slots_of l.initial.vars) l.word) l.e).vars

abbrev pub decreases-loop-e : goal.decreases-loop-e
decreases-loop-e l = l.e-end - l.e
