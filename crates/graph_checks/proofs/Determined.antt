-- Each public call's promise determines its answer: any two answers that it permits are equal. `Post` is the contract that stands in
-- the code, as the prover reads it, so a weaker one breaks this file.
use mathlib.Core.Path.{refl, sym, ◌∙◌}
use Rattle.laws.specs.Determined.{Determined}
use Rattle.graph_checks.proofs.checks

pub var_check_lem : Determined checks.var_check.Kinds.ps checks.var_check.Kinds.r checks.var_check.Reads.Post
var_check_lem κs a x y v w p q = (p ∙ sym q, refl)

pub clock_check_lem : Determined checks.clock_check.Kinds.ps checks.clock_check.Kinds.r checks.clock_check.Reads.Post
clock_check_lem κs a x y v w p q = (p ∙ sym q, refl)

pub action_check_lem : Determined checks.action_check.Kinds.ps checks.action_check.Kinds.r checks.action_check.Reads.Post
action_check_lem κs a x y v w p q = (p ∙ sym q, refl)

pub process_check_lem : Determined checks.process_check.Kinds.ps checks.process_check.Kinds.r checks.process_check.Reads.Post
process_check_lem κs a x y v w p q = (p ∙ sym q, refl)

pub location_check_lem : Determined checks.location_check.Kinds.ps checks.location_check.Kinds.r checks.location_check.Reads.Post
location_check_lem κs a x y v w p q = (p ∙ sym q, refl)

pub initial_check_lem : Determined checks.initial_check.Kinds.ps checks.initial_check.Kinds.r checks.initial_check.Reads.Post
initial_check_lem κs a x y v w p q = (p ∙ sym q, refl)

pub reset_check_lem : Determined checks.reset_check.Kinds.ps checks.reset_check.Kinds.r checks.reset_check.Reads.Post
reset_check_lem κs a x y v w p q = (p ∙ sym q, refl)

pub effect_check_lem : Determined checks.effect_check.Kinds.ps checks.effect_check.Kinds.r checks.effect_check.Reads.Post
effect_check_lem κs a x y v w p q = (p ∙ sym q, refl)

pub send_check_lem : Determined checks.send_check.Kinds.ps checks.send_check.Kinds.r checks.send_check.Reads.Post
send_check_lem κs a x y v w p q = (p ∙ sym q, refl)

pub receive_check_lem : Determined checks.receive_check.Kinds.ps checks.receive_check.Kinds.r checks.receive_check.Reads.Post
receive_check_lem κs a x y v w p q = (p ∙ sym q, refl)

pub transition_check_lem : Determined checks.transition_check.Kinds.ps checks.transition_check.Kinds.r checks.transition_check.Reads.Post
transition_check_lem κs a x y v w p q = (p ∙ sym q, refl)
