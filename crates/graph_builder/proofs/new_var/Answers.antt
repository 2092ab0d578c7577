use Rattle.std.proofs.Common.{arith, sym, true}
use Rattle.graph_checks.proofs.ReadyParts.{var_ready}
use Rattle.graph_builder.proofs.BuildingLaws.{words_of}
use Rattle.graph_builder.proofs.new_var.Goals as goal

pub variable_count-n-requires : goal.variable_count-n-requires
variable_count-n-requires c = words_of _ true (var_ready _ (sym c.in_ok-var_check.ensures)).0

pub put_var-requires : goal.put_var-requires
put_var-requires c = let r = var_ready _ (sym c.in_ok-var_check.ensures) in (words_of _ true r.0, r.1)

pub overflow_cast-result : goal.overflow_cast-result
overflow_cast-result c = let r = var_ready _ (sym c.in_ok-var_check.ensures) in omega (arith, c.variable_count-n.ensures, r.1)
