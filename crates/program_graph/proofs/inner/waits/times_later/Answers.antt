use Prim.Native.Nat.{ℕ}
use mathlib.Core.Path.{ap, ◌∙◌}
use native.Mathlib.Omega.{arith}
use mathlib.Core.List.{List}
use Rattle.graph_tables.specs.RunWords.{run_clocks}
use Rattle.run_steps.specs.Steps.{shifted_below}
use Rattle.program_graph.proofs.WordLaws.{times_length}
use Rattle.program_graph.proofs.LeaveLaws.{few_clocks}
use Rattle.program_graph.proofs.inner.waits.times_later.Goals as goal

pub shift-requires : goal.shift-requires
shift-requires c =
    let size = times_length c.args.r.now c.requires.1.words in
    rw c.copy.ensures (omega (arith, few_clocks c.args.t.now c.args.r.now c.requires.0 c.requires.1, size), c.requires.3)

pub returns : goal.returns
returns c =
    c.shift.ensures ∙ ap (λ (x : List ℕ). shifted_below x c.args.delta (run_clocks c.args.r.now)) c.copy.ensures
