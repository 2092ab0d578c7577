use Prim.Native.Nat.{◌-◌, ◌≤◌}
use mathlib.Core.Path.{◌≡◌}
use lib.ListN.{length}
use Rattle.grammar.specs.Slots.{slots_of}
use Rattle.graph_tables.specs.Words.{variable_count}
use Rattle.graph_tables.specs.declared.handed.Message.{Message}
use Rattle.run_steps.specs.Messages.{taken_below}
use Rattle.run_steps.specs.Inner.{VarsLeft}
use Rattle.run_steps.proofs.inner.messages.take_in.Given as goal

-- the loop sees the message's values alone
abbrev pub invariant-loop-e : goal.invariant-loop-e
invariant-loop-e l =
    (l.e ≤ l.e-end) × (length l.vars ≡ length l.initial.vars) × ((m : Message) → l.values ≡ m.values → VarsLeft (variable_count l.t) l.initial.vars l.vars
    (taken_below l.t l.a m (slots_of l.initial.vars) l.e))

abbrev pub decreases-loop-e : goal.decreases-loop-e
decreases-loop-e l = l.e-end - l.e
