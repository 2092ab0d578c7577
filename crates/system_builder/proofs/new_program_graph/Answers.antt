use Rattle.std.proofs.Common.{arith, sym, true}
use Rattle.system_builder.proofs.SystemLaws.{words_of, graph_ready}
use Rattle.system_builder.proofs.new_program_graph.Goals as goal

pub graph_count-g-requires : goal.graph_count-g-requires
graph_count-g-requires c = words_of _ true (graph_ready _ (sym c.in_ok-graph_check.ensures)).0

pub clear_graph-requires : goal.clear_graph-requires
clear_graph-requires c =
    let r = graph_ready _ (sym c.in_ok-graph_check.ensures) in
    (words_of _ true r.0, omega (arith, c.graph_count-g.ensures, r.1))

pub overflow_add-g : goal.overflow_add-g
overflow_add-g c = let r = graph_ready _ (sym c.in_ok-graph_check.ensures) in omega (arith, c.graph_count-g.ensures, r.1)

pub set_graph_count-requires : goal.set_graph_count-requires
set_graph_count-requires c = let r = graph_ready _ (sym c.in_ok-graph_check.ensures) in omega (arith, words_of _ true r.0)

pub overflow_cast-result : goal.overflow_cast-result
overflow_cast-result c = let r = graph_ready _ (sym c.in_ok-graph_check.ensures) in omega (arith, c.graph_count-g.ensures, r.1)
