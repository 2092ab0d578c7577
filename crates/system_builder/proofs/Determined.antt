-- Each public call's promise determines its answer and every word of the table afterwards: any two ends that it permits are equal.
-- `Post` is the contract that stands in the code, as the prover reads it, so a weaker one breaks this file.
use Prim.Native.Nat.{ℕ}
use mathlib.Core.Path.{refl, sym, ap, ◌∙◌}
use Rattle.laws.specs.Determined.{Determined}
use mathlib.Core.List.{List}
use Rattle.system_builder.proofs as calls

pub no_kinds_lem : Determined calls.handed.Kinds.none.Kinds.ps calls.handed.Kinds.none.Kinds.r calls.handed.Kinds.none.Reads.Post
no_kinds_lem κs a x y v w p q = (p ∙ sym q, refl)

pub new : Determined calls.new.Kinds.ps calls.new.Kinds.r calls.new.Reads.Post
new κs a x y v w p q = (p.0 ∙ sym q.0, ap (λ (t : List ℕ). (t, v.1)) (p.1 ∙ sym q.1))

pub new_program_graph : Determined calls.new_program_graph.Kinds.ps calls.new_program_graph.Kinds.r calls.new_program_graph.Reads.Post
new_program_graph κs a x y v w p q = (p.0 ∙ sym q.0, ap (λ (t : List ℕ). (t, v.1)) (p.1 ∙ sym q.1))

pub new_channel : Determined calls.new_channel.Kinds.ps calls.new_channel.Kinds.r calls.new_channel.Reads.Post
new_channel κs a x y v w p q = (p.0 ∙ sym q.0, ap (λ (t : List ℕ). (t, v.1)) (p.1 ∙ sym q.1))

pub build : Determined calls.build.Kinds.ps calls.build.Kinds.r calls.build.Reads.Post
build κs a x y v w p q = (p ∙ sym q, refl)

pub channel : Determined calls.channel.Kinds.ps calls.channel.Kinds.r calls.channel.Reads.Post
channel κs a x y v w p q = (p ∙ sym q, refl)

pub new_var : Determined calls.on_graph.new_var.Kinds.ps calls.on_graph.new_var.Kinds.r calls.on_graph.new_var.Reads.Post
new_var κs a x y v w p q = (p.0 ∙ sym q.0, ap (λ (t : List ℕ). (t, v.1)) (p.1 ∙ sym q.1))

pub var_type : Determined calls.on_graph.var_type.Kinds.ps calls.on_graph.var_type.Kinds.r calls.on_graph.var_type.Reads.Post
var_type κs a x y v w p q = (p ∙ sym q, refl)

pub new_clock : Determined calls.on_graph.new_clock.Kinds.ps calls.on_graph.new_clock.Kinds.r calls.on_graph.new_clock.Reads.Post
new_clock κs a x y v w p q = (p.0 ∙ sym q.0, ap (λ (t : List ℕ). (t, v.1)) (p.1 ∙ sym q.1))

pub new_action : Determined calls.on_graph.new_action.Kinds.ps calls.on_graph.new_action.Kinds.r calls.on_graph.new_action.Reads.Post
new_action κs a x y v w p q = (p.0 ∙ sym q.0, ap (λ (t : List ℕ). (t, v.1)) (p.1 ∙ sym q.1))

pub new_process : Determined calls.on_graph.new_process.Kinds.ps calls.on_graph.new_process.Kinds.r calls.on_graph.new_process.Reads.Post
new_process κs a x y v w p q = (p.0 ∙ sym q.0, ap (λ (t : List ℕ). (t, v.1)) (p.1 ∙ sym q.1))

pub add_reset : Determined calls.on_graph.add_reset.Kinds.ps calls.on_graph.add_reset.Kinds.r calls.on_graph.add_reset.Reads.Post
add_reset κs a x y v w p q = (p.0 ∙ sym q.0, ap (λ (t : List ℕ). (t, v.1)) (p.1 ∙ sym q.1))

pub add_effect : Determined calls.on_graph.add_effect.Kinds.ps calls.on_graph.add_effect.Kinds.r calls.on_graph.add_effect.Reads.Post
add_effect κs a x y v w p q = (p.0 ∙ sym q.0, ap (λ (t : List ℕ). (t, v.1)) (p.1 ∙ sym q.1))

pub new_timed_location :
    Determined calls.on_graph.new_timed_location.Kinds.ps calls.on_graph.new_timed_location.Kinds.r
    calls.on_graph.new_timed_location.Reads.Post
new_timed_location κs a x y v w p q = (p.0 ∙ sym q.0, ap (λ (t : List ℕ). (t, v.1)) (p.1 ∙ sym q.1))

pub new_location :
    Determined calls.on_graph.new_location.Kinds.ps calls.on_graph.new_location.Kinds.r
    calls.on_graph.new_location.Reads.Post
new_location κs a x y v w p q = (p.0 ∙ sym q.0, ap (λ (t : List ℕ). (t, v.1)) (p.1 ∙ sym q.1))

pub new_initial_timed_location :
    Determined calls.on_graph.new_initial_timed_location.Kinds.ps calls.on_graph.new_initial_timed_location.Kinds.r
    calls.on_graph.new_initial_timed_location.Reads.Post
new_initial_timed_location κs a x y v w p q = (p.0 ∙ sym q.0, ap (λ (t : List ℕ). (t, v.1)) (p.1 ∙ sym q.1))

pub new_initial_location :
    Determined calls.on_graph.new_initial_location.Kinds.ps calls.on_graph.new_initial_location.Kinds.r
    calls.on_graph.new_initial_location.Reads.Post
new_initial_location κs a x y v w p q = (p.0 ∙ sym q.0, ap (λ (t : List ℕ). (t, v.1)) (p.1 ∙ sym q.1))

pub add_timed_transition :
    Determined calls.on_graph.add_timed_transition.Kinds.ps calls.on_graph.add_timed_transition.Kinds.r
    calls.on_graph.add_timed_transition.Reads.Post
add_timed_transition κs a x y v w p q = (p.0 ∙ sym q.0, ap (λ (t : List ℕ). (t, v.1)) (p.1 ∙ sym q.1))

pub add_transition :
    Determined calls.on_graph.add_transition.Kinds.ps calls.on_graph.add_transition.Kinds.r
    calls.on_graph.add_transition.Reads.Post
add_transition κs a x y v w p q = (p.0 ∙ sym q.0, ap (λ (t : List ℕ). (t, v.1)) (p.1 ∙ sym q.1))

pub add_autonomous_timed_transition :
    Determined calls.on_graph.add_autonomous_timed_transition.Kinds.ps calls.on_graph.add_autonomous_timed_transition.Kinds.r
    calls.on_graph.add_autonomous_timed_transition.Reads.Post
add_autonomous_timed_transition κs a x y v w p q = (p.0 ∙ sym q.0, ap (λ (t : List ℕ). (t, v.1)) (p.1 ∙ sym q.1))

pub add_autonomous_transition :
    Determined calls.on_graph.add_autonomous_transition.Kinds.ps calls.on_graph.add_autonomous_transition.Kinds.r
    calls.on_graph.add_autonomous_transition.Reads.Post
add_autonomous_transition κs a x y v w p q = (p.0 ∙ sym q.0, ap (λ (t : List ℕ). (t, v.1)) (p.1 ∙ sym q.1))

pub new_send : Determined calls.messages.new_send.Kinds.ps calls.messages.new_send.Kinds.r calls.messages.new_send.Reads.Post
new_send κs a x y v w p q = (p.0 ∙ sym q.0, ap (λ (t : List ℕ). (t, v.1)) (p.1 ∙ sym q.1))

pub new_receive : Determined calls.messages.new_receive.Kinds.ps calls.messages.new_receive.Kinds.r calls.messages.new_receive.Reads.Post
new_receive κs a x y v w p q = (p.0 ∙ sym q.0, ap (λ (t : List ℕ). (t, v.1)) (p.1 ∙ sym q.1))

pub new_probe_empty_queue :
    Determined calls.messages.new_probe_empty_queue.Kinds.ps calls.messages.new_probe_empty_queue.Kinds.r
    calls.messages.new_probe_empty_queue.Reads.Post
new_probe_empty_queue κs a x y v w p q = (p.0 ∙ sym q.0, ap (λ (t : List ℕ). (t, v.1)) (p.1 ∙ sym q.1))

pub new_probe_full_queue :
    Determined calls.messages.new_probe_full_queue.Kinds.ps calls.messages.new_probe_full_queue.Kinds.r
    calls.messages.new_probe_full_queue.Reads.Post
new_probe_full_queue κs a x y v w p q = (p.0 ∙ sym q.0, ap (λ (t : List ℕ). (t, v.1)) (p.1 ∙ sym q.1))
