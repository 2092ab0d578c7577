use Prim.Native.Nat.{◌-◌}
use Rattle.graph_tables.specs.Formed.{effect_formed, effect_draws}
use Rattle.graph_tables.proofs.FormedLaws.{Sums}
use Rattle.graph_tables.proofs.formed.effects_formed.Given as goal

abbrev pub invariant-loop-e : goal.invariant-loop-e
invariant-loop-e l = Sums (effect_formed l.t l.a) (effect_draws l.t l.a) l.n l.sum l.e

abbrev pub decreases-loop-e : goal.decreases-loop-e
decreases-loop-e l = l.n - l.e
