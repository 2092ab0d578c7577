use Rattle.std.proofs.lemmas.Result.{err_from_is_err_and}
use Rattle.std.specs.Prelude.{Ok, Err}
use Prim.Native.Nat.{◌<◌}
use mathlib.Core.Path.{ap, ◌∙◌}
use native.Mathlib.Omega.{arith}
use borrow.Author.Tests.{lt-ltb, le-ltb}
use Rattle.laws.specs.Ladder.{unless}
use Rattle.program_graph.specs.Used.{used_run}
use Rattle.program_graph.proofs.UsedLaws.{kept_readable}
use Rattle.system_tables.specs.Sizes.{graph_room}
use Rattle.system_tables.specs.Words.{graph_count}
use Rattle.channel_system.specs.Readers.{graph_run_of}
use Rattle.channel_system.proofs.FittingLaws.{fits_table_lem, fits_state}
use Rattle.channel_system.proofs.readers.program_graph.Goals as goal

pub returns-in_err-fitting : goal.returns-in_err-fitting
unfolding graph_run_of unless
returns-in_err-fitting c =
    let p = err_from_is_err_and c.from_residual.result c.from_residual.ensures.1 in
    rw c.in_err-fitting.ensures.1 (p.1 ∙ ap Err (p.2 ∙ c.in_err-fitting.ensures.0))

pub graph_count-requires : goal.graph_count-requires
graph_count-requires c =
    (fits_table_lem c.args.t.now c.args.s.now c.in_ok-fitting.ensures).words

pub returns-then-graph_count-g : goal.returns-then-graph_count-g
unfolding graph_run_of unless
returns-then-graph_count-g c =
    rw (c.in_ok-fitting.ensures, le-ltb _ _ (rw c.graph_count.ensures at c.if-graph_count-g.true))

pub run_at-requires : goal.run_at-requires
run_at-requires c =
    let fits = c.in_ok-fitting.ensures in
    let known : c.args.pg_id.0 < graph_count c.args.t.now = rw c.graph_count.ensures at c.if-graph_count-g.false in
    let small : c.args.pg_id.0 < graph_room = omega (arith, known, (fits_table_lem c.args.t.now c.args.s.now fits).graphs) in
    ((fits_state c.args.t.now c.args.s.now fits).words, small)

pub used_run-requires : goal.used_run-requires
used_run-requires c =
    let fits = c.in_ok-fitting.ensures in
    let known = rw c.graph_count.ensures at c.if-graph_count-g.false in
    rw c.run_at.ensures (kept_readable _ _ ((fits_table_lem _ _ fits).graph _ known) ((fits_state _ _ fits).run _ known))

pub returns : goal.returns
unfolding graph_run_of unless
returns c =
    rw (c.in_ok-fitting.ensures, lt-ltb _ _ (rw c.graph_count.ensures at c.if-graph_count-g.false))
    (ap Ok (c.used_run.ensures ∙ ap used_run c.run_at.ensures))
