use Rattle.std.proofs.Common.{◌+◌, refl}
use Rattle.graph_tables.specs.Layout.{table_words}
use Rattle.system_builder.proofs.SystemLaws.{part_read, part_written}
use Rattle.system_builder.proofs.inner.graphs.on_part.Goals as goal

pub returns : goal.returns
returns g c =
    let t = c.args.t.now in
    let a = c.graph_start-a.result in (
      c.call.new.arg2,
      record {
        shown = _;
        shows = part_read t c.args.g a (a + table_words) c.graph_start-a.ensures refl;
        left = _;
        met = c.call.ensures;
        leaves = refl;
      },
      part_written t c.args.g a (a + table_words) c.graph_start-a.ensures refl c.call.new.arg2,
    )
