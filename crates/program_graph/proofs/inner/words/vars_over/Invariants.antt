use Prim.Native.Nat.{◌-◌, ◌≤◌}
use mathlib.Core.Path.{◌≡◌}
use Rattle.grammar.specs.Slots.{slots_of}
use Rattle.program_graph.specs.Inner.{over_below}
use Rattle.program_graph.proofs.inner.words.vars_over.Given as goal

abbrev pub invariant-loop-v : goal.invariant-loop-v
invariant-loop-v l = (l.v ≤ l.n) × (l.vars ≡ over_below l.initial.vars (slots_of l.ws) l.v)

abbrev pub decreases-loop-v : goal.decreases-loop-v
decreases-loop-v l = l.n - l.v
