-- Each public call's promise determines its answer and every word of the table afterwards: any two ends that it permits are equal.
-- `Post` is the contract that stands in the code, as the prover reads it, so a weaker one breaks this file.
use Prim.Native.Nat.{ℕ}
use mathlib.Core.Path.{refl, sym, ap, ◌∙◌}
use Rattle.laws.specs.Determined.{Determined}
use mathlib.Core.List.{List}
use Rattle.graph_builder.proofs as calls

pub new : Determined calls.new.Kinds.ps calls.new.Kinds.r calls.new.Reads.Post
new κs a x y v w p q = (p.0 ∙ sym q.0, ap (λ (t : List ℕ). (t, v.1)) (p.1 ∙ sym q.1))

pub new_var : Determined calls.new_var.Kinds.ps calls.new_var.Kinds.r calls.new_var.Reads.Post
new_var κs a x y v w p q = (p.0 ∙ sym q.0, ap (λ (t : List ℕ). (t, v.1)) (p.1 ∙ sym q.1))

pub var_type : Determined calls.var_type.Kinds.ps calls.var_type.Kinds.r calls.var_type.Reads.Post
var_type κs a x y v w p q = (p ∙ sym q, refl)

pub new_clock : Determined calls.new_clock.Kinds.ps calls.new_clock.Kinds.r calls.new_clock.Reads.Post
new_clock κs a x y v w p q = (p.0 ∙ sym q.0, ap (λ (t : List ℕ). (t, v.1)) (p.1 ∙ sym q.1))

pub new_action : Determined calls.new_action.Kinds.ps calls.new_action.Kinds.r calls.new_action.Reads.Post
new_action κs a x y v w p q = (p.0 ∙ sym q.0, ap (λ (t : List ℕ). (t, v.1)) (p.1 ∙ sym q.1))

pub add_reset : Determined calls.add_reset.Kinds.ps calls.add_reset.Kinds.r calls.add_reset.Reads.Post
add_reset κs a x y v w p q = (p.0 ∙ sym q.0, ap (λ (t : List ℕ). (t, v.1)) (p.1 ∙ sym q.1))

pub add_effect : Determined calls.add_effect.Kinds.ps calls.add_effect.Kinds.r calls.add_effect.Reads.Post
add_effect κs a x y v w p q = (p.0 ∙ sym q.0, ap (λ (t : List ℕ). (t, v.1)) (p.1 ∙ sym q.1))

pub new_send : Determined calls.new_send.Kinds.ps calls.new_send.Kinds.r calls.new_send.Reads.Post
new_send κs a x y v w p q = (p.0 ∙ sym q.0, ap (λ (t : List ℕ). (t, v.1)) (p.1 ∙ sym q.1))

pub new_receive : Determined calls.new_receive.Kinds.ps calls.new_receive.Kinds.r calls.new_receive.Reads.Post
new_receive κs a x y v w p q = (p.0 ∙ sym q.0, ap (λ (t : List ℕ). (t, v.1)) (p.1 ∙ sym q.1))

pub new_timed_location : Determined calls.new_timed_location.Kinds.ps calls.new_timed_location.Kinds.r calls.new_timed_location.Reads.Post
new_timed_location κs a x y v w p q = (p.0 ∙ sym q.0, ap (λ (t : List ℕ). (t, v.1)) (p.1 ∙ sym q.1))

pub new_location : Determined calls.new_location.Kinds.ps calls.new_location.Kinds.r calls.new_location.Reads.Post
new_location κs a x y v w p q = (p.0 ∙ sym q.0, ap (λ (t : List ℕ). (t, v.1)) (p.1 ∙ sym q.1))

pub new_process : Determined calls.new_process.Kinds.ps calls.new_process.Kinds.r calls.new_process.Reads.Post
new_process κs a x y v w p q = (p.0 ∙ sym q.0, ap (λ (t : List ℕ). (t, v.1)) (p.1 ∙ sym q.1))

pub new_initial_timed_location :
    Determined calls.new_initial_timed_location.Kinds.ps calls.new_initial_timed_location.Kinds.r
    calls.new_initial_timed_location.Reads.Post
new_initial_timed_location κs a x y v w p q = (p.0 ∙ sym q.0, ap (λ (t : List ℕ). (t, v.1)) (p.1 ∙ sym q.1))

pub new_initial_location :
    Determined calls.new_initial_location.Kinds.ps calls.new_initial_location.Kinds.r
    calls.new_initial_location.Reads.Post
new_initial_location κs a x y v w p q = (p.0 ∙ sym q.0, ap (λ (t : List ℕ). (t, v.1)) (p.1 ∙ sym q.1))

pub add_timed_transition :
    Determined calls.add_timed_transition.Kinds.ps calls.add_timed_transition.Kinds.r
    calls.add_timed_transition.Reads.Post
add_timed_transition κs a x y v w p q = (p.0 ∙ sym q.0, ap (λ (t : List ℕ). (t, v.1)) (p.1 ∙ sym q.1))

pub add_transition : Determined calls.add_transition.Kinds.ps calls.add_transition.Kinds.r calls.add_transition.Reads.Post
add_transition κs a x y v w p q = (p.0 ∙ sym q.0, ap (λ (t : List ℕ). (t, v.1)) (p.1 ∙ sym q.1))

pub add_autonomous_timed_transition :
    Determined calls.add_autonomous_timed_transition.Kinds.ps calls.add_autonomous_timed_transition.Kinds.r
    calls.add_autonomous_timed_transition.Reads.Post
add_autonomous_timed_transition κs a x y v w p q = (p.0 ∙ sym q.0, ap (λ (t : List ℕ). (t, v.1)) (p.1 ∙ sym q.1))

pub add_autonomous_transition :
    Determined calls.add_autonomous_transition.Kinds.ps calls.add_autonomous_transition.Kinds.r
    calls.add_autonomous_transition.Reads.Post
add_autonomous_transition κs a x y v w p q = (p.0 ∙ sym q.0, ap (λ (t : List ℕ). (t, v.1)) (p.1 ∙ sym q.1))

pub build : Determined calls.build.Kinds.ps calls.build.Kinds.r calls.build.Reads.Post
build κs a x y v w p q = (p ∙ sym q, refl)
