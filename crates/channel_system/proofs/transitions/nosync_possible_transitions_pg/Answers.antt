use Rattle.std.proofs.lemmas.Result.{err_from_is_err_and}
use Rattle.std.specs.Prelude.{Err}
use Prim.Native.Nat.{◌<◌}
use mathlib.Core.Path.{◌≡◌, sym, ap, ◌∙◌}
use mathlib.Core.Bool.{true}
use native.Mathlib.Omega.{arith}
use borrow.Author.Tests.{lt-ltb, le-ltb, eq-eqb, ne_eqb}
use Rattle.laws.proofs.Ladder.{passed, stopped}
use Rattle.graph_tables.specs.Refusals.{refusal}
use Rattle.graph_tables.specs.Words.{process_count}
use Rattle.program_graph.specs.Transitions.{entry_or_end}
use Rattle.program_graph.proofs.RunLaws.{same_processes}
use Rattle.system_tables.specs.Sizes.{graph_room}
use Rattle.system_tables.specs.Words.{graph_count}
use Rattle.channel_system.specs.Steps.{system_fits, run_of}
use Rattle.channel_system.specs.Listing.{nosync_on}
use Rattle.channel_system.proofs.FittingLaws.{fits_table_lem, fits_state}
use Rattle.channel_system.proofs.transitions.nosync_possible_transitions_pg.Goals as goal
use Rattle.channel_system.proofs.transitions.nosync_possible_transitions_pg.Goals.{After-process_count}

pub returns-in_err-fitting : goal.returns-in_err-fitting
unfolding nosync_on
returns-in_err-fitting c =
    let p = err_from_is_err_and c.from_residual.result c.from_residual.ensures.1 in
    p.1 ∙ ap Err (p.2 ∙ c.in_err-fitting.ensures.0) ∙ stopped _ _ c.in_err-fitting.ensures.1

pub graph_count-requires : goal.graph_count-requires
graph_count-requires c =
    (fits_table_lem c.args.t.now c.args.s.now c.in_ok-fitting.ensures).words

pub returns-then-graph_count-g : goal.returns-then-graph_count-g
unfolding nosync_on
returns-then-graph_count-g c =
    passed (Err (refusal 32)) c.in_ok-fitting.ensures
    (stopped _ _ (le-ltb _ _ (rw c.graph_count.ensures at c.if-graph_count-g.true)))

pub graph_at-requires : goal.graph_at-requires
graph_at-requires c =
    let fits = c.in_ok-fitting.ensures in
    let known : c.args.pg_id.0 < graph_count c.args.t.now = rw c.graph_count.ensures at c.if-graph_count-g.false in
    let table = fits_table_lem c.args.t.now c.args.s.now fits in
    let small : c.args.pg_id.0 < graph_room = omega (arith, known, table.graphs) in
    (table.words, small)

pub process_count-requires : goal.process_count-requires
process_count-requires c =
    let fits = c.in_ok-fitting.ensures in
    let known = rw c.graph_count.ensures at c.if-graph_count-g.false in
    rw c.graph_at.ensures ((fits_table_lem _ _ fits).graph _ known).words

-- the run has as many processes as the graph
module _ (c : After-process_count) where
  fits : system_fits c.args.t.now c.args.s.now ≡ true
  fits = c.in_ok-fitting.ensures

  known : c.args.pg_id.0 < graph_count c.args.t.now
  known = omega (arith, c.graph_count.ensures, c.if-graph_count-g.false)

  counted : (run_of c.args.s.now c.args.pg_id.0).processes ≡ c.process_count.result
  counted =
      same_processes _ _ ((fits_state _ _ fits).run _ known).run.formed
      ∙ sym (c.process_count.ensures ∙ ap process_count c.graph_at.ensures)

pub returns-then-process_count-ne1 : goal.returns-then-process_count-ne1
unfolding nosync_on
returns-then-process_count-ne1 c =
    passed (Err (refusal 32)) (fits (goal.at.returns-then-process_count-ne1 c).After-process_count)
    (passed (Err (refusal 17)) (lt-ltb _ _ (known (goal.at.returns-then-process_count-ne1 c).After-process_count)) (stopped _ _ (ne_eqb _ _ (λ q. c.if-process_count-ne1.true (sym (counted (goal.at.returns-then-process_count-ne1 c).After-process_count) ∙ q)))))

pub seek_on-requires : goal.seek_on-requires
seek_on-requires c =
    record { table = fits_table_lem _ _ (fits (goal.at.seek_on-requires c).After-process_count); state = fits_state _ _ (fits (goal.at.seek_on-requires c).After-process_count); known = known (goal.at.seek_on-requires c).After-process_count }

pub returns : goal.returns
unfolding nosync_on
returns c =
    passed (Err (refusal 32)) (fits (goal.at.returns c).After-process_count)
    (passed (Err (refusal 17)) (lt-ltb _ _ (known (goal.at.returns c).After-process_count))
    (passed (Err (refusal 16)) (eq-eqb _ _ (counted (goal.at.returns c).After-process_count ∙ c.if-process_count-ne1.false))
    (c.entry_or_end.ensures ∙ ap entry_or_end c.seek_on.ensures)))
