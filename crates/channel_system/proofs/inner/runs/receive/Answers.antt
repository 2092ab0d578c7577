use Prim.Native.Nat.{◌+◌, ◌-◌}
use mathlib.Core.Path.{◌≡◌}
use native.Mathlib.Omega.{arith}
use Rattle.graph_tables.specs.RunWords.{run_words}
use Rattle.channel_system.proofs.RunLaws.{lent, ran_receive}
use Rattle.channel_system.proofs.inner.runs.receive.Goals as goal

pub receive_on-requires : goal.receive_on-requires
receive_on-requires c =
    let e : c.run_start-at.result + run_words - c.run_start-at.result ≡ run_words = omega arith in
    lent c.requires _ _ _ c.graph_at.ensures c.run_start-at.ensures e

pub returns : goal.returns
returns c =
    let e : c.run_start-at.result + run_words - c.run_start-at.result ≡ run_words = omega arith in
    ran_receive c.requires _ _ _ c.graph_at.ensures c.run_start-at.ensures e c.args.a c.args.posts.now _ c.args.message _
    c.receive_on.ensures
