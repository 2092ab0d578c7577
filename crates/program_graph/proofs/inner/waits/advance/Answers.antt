use mathlib.Core.Path.{◌∙◌}
use native.Mathlib.Omega.{arith}
use Rattle.run_steps.proofs.StepLaws.{shifted_length}
use Rattle.program_graph.proofs.WordLaws.{times_length, times_anew}
use Rattle.program_graph.proofs.LeaveLaws.{few_clocks, leaves_later}
use Rattle.program_graph.proofs.inner.waits.advance.Goals as goal

pub shift-requires : goal.shift-requires
shift-requires c =
    let size = times_length c.args.r.now c.requires.1.words in
    (omega (arith, few_clocks c.args.t.now c.args.r.now c.requires.0 c.requires.1, size), c.requires.2)

pub returns : goal.returns
returns c =
    let r = c.args.r.now in
    let words = c.requires.1.words in
    let size = shifted_length _ _ _ ∙ times_length r words in
    rw c.shift.ensures (leaves_later c.args.t.now r _ _ c.requires.1 (times_anew r words _ size))
