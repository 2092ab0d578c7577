-- Each public call's promise determines its answer and every word of the state afterwards: any two ends that it permits are equal.
-- `Post` is the contract that stands in the code, as the prover reads it, so a weaker one breaks this file.
use Prim.Native.Nat.{ℕ}
use mathlib.Core.Path.{refl, sym, ap, ◌∙◌}
use mathlib.Core.List.{List}
use Rattle.laws.specs.Determined.{Determined}
use Rattle.channel_system.proofs as calls

pub new_instance : Determined calls.run.new_instance.Kinds.ps calls.run.new_instance.Kinds.r calls.run.new_instance.Reads.Post
new_instance κs a x y v w p q = (p.0 ∙ sym q.0, ap (λ (s : List ℕ). (v.0, (s, v.1.1))) (p.1 ∙ sym q.1))

pub transition : Determined calls.run.transition.Kinds.ps calls.run.transition.Kinds.r calls.run.transition.Reads.Post
transition κs a x y v w p q = (p.0 ∙ sym q.0, ap (λ (s : List ℕ). (v.0, (s, v.1.1))) (p.1 ∙ sym q.1))

pub wait : Determined calls.run.wait.Kinds.ps calls.run.wait.Kinds.r calls.run.wait.Reads.Post
wait κs a x y v w p q = (p.0 ∙ sym q.0, ap (λ (s : List ℕ). (v.0, (s, v.1.1))) (p.1 ∙ sym q.1))

pub system_fits_lem : Determined calls.run.system_fits.Kinds.ps calls.run.system_fits.Kinds.r calls.run.system_fits.Reads.Post
system_fits_lem κs a x y v w p q = (p ∙ sym q, refl)

pub can_wait : Determined calls.run.can_wait.Kinds.ps calls.run.can_wait.Kinds.r calls.run.can_wait.Reads.Post
can_wait κs a x y v w p q = (p ∙ sym q, refl)

pub is_waiting : Determined calls.run.is_waiting.Kinds.ps calls.run.is_waiting.Kinds.r calls.run.is_waiting.Reads.Post
is_waiting κs a x y v w p q = (p ∙ sym q, refl)

pub possible_transitions : Determined calls.transitions.possible_transitions.Kinds.ps calls.transitions.possible_transitions.Kinds.r
    calls.transitions.possible_transitions.Reads.Post
possible_transitions κs a x y v w p q = (p ∙ sym q, refl)

pub possible_transitions_pg : Determined calls.transitions.possible_transitions_pg.Kinds.ps
    calls.transitions.possible_transitions_pg.Kinds.r calls.transitions.possible_transitions_pg.Reads.Post
possible_transitions_pg κs a x y v w p q = (p ∙ sym q, refl)

pub nosync_possible_transitions_pg : Determined calls.transitions.nosync_possible_transitions_pg.Kinds.ps
    calls.transitions.nosync_possible_transitions_pg.Kinds.r calls.transitions.nosync_possible_transitions_pg.Reads.Post
nosync_possible_transitions_pg κs a x y v w p q = (p ∙ sym q, refl)

pub time : Determined calls.readers.time.Kinds.ps calls.readers.time.Kinds.r calls.readers.time.Reads.Post
time κs a x y v w p q = (p ∙ sym q, refl)

pub program_graph : Determined calls.readers.program_graph.Kinds.ps calls.readers.program_graph.Kinds.r
    calls.readers.program_graph.Reads.Post
program_graph κs a x y v w p q = (p ∙ sym q, refl)

pub queue_length : Determined calls.readers.queue_length.Kinds.ps calls.readers.queue_length.Kinds.r calls.readers.queue_length.Reads.Post
queue_length κs a x y v w p q = (p ∙ sym q, refl)

pub queue_value : Determined calls.readers.queue_value.Kinds.ps calls.readers.queue_value.Kinds.r calls.readers.queue_value.Reads.Post
queue_value κs a x y v w p q = (p ∙ sym q, refl)
