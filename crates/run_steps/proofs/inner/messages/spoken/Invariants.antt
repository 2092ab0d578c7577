use Prim.Native.Nat.{ℕ, ◌-◌, ◌≤◌}
use mathlib.Core.Path.{◌≡◌}
use mathlib.Core.Bool.{true}
use mathlib.Core.List.{List}
use Rattle.grammar.specs.Slots.{slots_of}
use Rattle.grammar.specs.declared.values.Slot.{Slot}
use Rattle.run_steps.specs.Messages.{spoken_below}
use Rattle.run_steps.specs.declared.inner.messages.Speech.{Speech}
use Rattle.run_steps.proofs.inner.messages.spoken.Given as goal

abbrev pub saying : List Slot → ℕ → Speech
saying values word = record { values = values; word = word; fits = true }

abbrev pub invariant-loop-e : goal.invariant-loop-e
invariant-loop-e l =
    (l.e ≤ l.e-end) × (saying l.values l.left ≡ spoken_below l.t l.a (slots_of l.vars) (saying l.initial.values l.word) l.e)

abbrev pub decreases-loop-e : goal.decreases-loop-e
decreases-loop-e l = l.e-end - l.e
