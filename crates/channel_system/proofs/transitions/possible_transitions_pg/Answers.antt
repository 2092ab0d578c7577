use Rattle.std.proofs.lemmas.Result.{err_from_is_err_and}
use Rattle.std.specs.Prelude.{Err}
use mathlib.Core.Path.{ap, ◌∙◌}
use borrow.Author.Tests.{lt-ltb, le-ltb}
use Rattle.laws.proofs.Ladder.{passed, stopped}
use Rattle.graph_tables.specs.Refusals.{refusal}
use Rattle.program_graph.specs.Transitions.{entry_or_end}
use Rattle.channel_system.specs.Listing.{possible_on}
use Rattle.channel_system.proofs.FittingLaws.{fits_table_lem, fits_state}
use Rattle.channel_system.proofs.transitions.possible_transitions_pg.Goals as goal

pub returns-in_err-fitting : goal.returns-in_err-fitting
unfolding possible_on
returns-in_err-fitting c =
    let p = err_from_is_err_and c.from_residual.result c.from_residual.ensures.1 in
    p.1 ∙ ap Err (p.2 ∙ c.in_err-fitting.ensures.0) ∙ stopped _ _ c.in_err-fitting.ensures.1

pub graph_count-requires : goal.graph_count-requires
graph_count-requires c =
    (fits_table_lem c.args.t.now c.args.s.now c.in_ok-fitting.ensures).words

pub returns-then-graph_count-g : goal.returns-then-graph_count-g
unfolding possible_on
returns-then-graph_count-g c =
    passed (Err (refusal 32)) c.in_ok-fitting.ensures
    (stopped _ _ (le-ltb _ _ (rw c.graph_count.ensures at c.if-graph_count-g.true)))

pub seek_on-requires : goal.seek_on-requires
seek_on-requires c =
    let fits = c.in_ok-fitting.ensures in
    record { table = fits_table_lem _ _ fits; state = fits_state _ _ fits; known = rw c.graph_count.ensures at c.if-graph_count-g.false }

pub returns : goal.returns
unfolding possible_on
returns c =
    passed (Err (refusal 32)) c.in_ok-fitting.ensures
    (passed (Err (refusal 17)) (lt-ltb _ _ (rw c.graph_count.ensures at c.if-graph_count-g.false))
    (c.entry_or_end.ensures ∙ ap entry_or_end c.seek_on.ensures))
