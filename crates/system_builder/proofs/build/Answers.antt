use Rattle.std.proofs.Common.{rules, arith, true}
use Rattle.laws.proofs.Tests.{held}
use Rattle.system_tables.proofs.KeptLaws.{apart}
use Rattle.system_builder.proofs.build.Goals as goal

pub all_started-requires : goal.all_started-requires
all_started-requires c =
    let f = apart _ true (held c.system_formed.ensures (search rules)) in
    (f.words, omega (arith, c.graph_count.ensures, f.graphs))
