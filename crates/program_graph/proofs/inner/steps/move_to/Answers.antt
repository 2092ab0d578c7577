use Prim.Native.Nat.{◌+◌, ◌-◌}
use mathlib.Core.Path.{◌≡◌}
use native.Mathlib.Omega.{arith}
use lib.ListN.{length}
use Rattle.program_graph.proofs.WordLaws.{used_length, placed_anew}
use Rattle.program_graph.proofs.inner.steps.move_to.Goals as goal

pub returns : goal.returns
returns c =
    let n = length c.args.posts.now in
    let e : 3 + n - 3 ≡ n = omega arith in
    let size = used_length c.args.r.now c.requires.0 n c.requires.1 in
    let given = rw (e, size) at c.place.ensures in
    rw (e, given) (placed_anew c.args.r.now c.args.posts.now c.requires.0 n c.requires.1)
