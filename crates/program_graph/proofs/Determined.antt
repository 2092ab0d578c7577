-- Each public call's promise determines its answer: any two answers that it permits are equal. `Post` is the contract that stands in
-- the code, as the prover reads it, so a weaker one breaks this file.
use Rattle.std.specs.Prelude.{Ok, Err, ⊤}
use mathlib.Core.Path.{◌≡◌, refl, sym, ap, ◌∙◌}
use Rattle.laws.specs.Determined.{Determined}
use Rattle.graph_tables.specs.Answers.{Answer}
use Rattle.graph_tables.specs.declared.handed.Message.{Message}
use Rattle.program_graph.specs.declared.answers.Places.{Places}
use Rattle.program_graph.specs.declared.record.ProgramGraphRun.{ProgramGraphRun}
use Rattle.program_graph.specs.Outcomes.{RunOutcome, Sent, States, sent, states}
use Rattle.program_graph.specs.Running.{made}
use Rattle.program_graph.proofs.record.ProgramGraphRun as run
use Rattle.program_graph.proofs.run.fits_table

-- ---- what a call told is known from what it came to
abbrev given : {A : Type 0} → Answer ⊤ → A → Answer A
given (Ok _) x = Ok x
given (Err r) x = Err r

made_same : (x y : Answer ProgramGraphRun) → made x ≡ made y → x ≡ y
made_same x y e = back x ∙ ap (λ (o : RunOutcome). given o.answer o.run) e ∙ sym (back y)
  where
    back : (x : Answer ProgramGraphRun) → x ≡ given (made x).answer (made x).run
    back (Ok run) = refl
    back (Err r) = refl

states_same : (x y : Answer Places) → states x ≡ states y → x ≡ y
states_same x y e = back x ∙ ap told e ∙ sym (back y)
  where
    told : States → Answer Places
    told s = given s.answer (record { places = s.places; count = s.count })

    back : (x : Answer Places) → x ≡ told (states x)
    back (Ok p) = refl
    back (Err r) = refl

sent_same : (x y : Answer Message) (before after : ProgramGraphRun) → sent x before ≡ sent y after → x ≡ y
sent_same x y before after e = back x before ∙ ap told e ∙ sym (back y after)
  where
    told : Sent → Answer Message
    told s = given s.answer s.message

    back : (x : Answer Message) (run : ProgramGraphRun) → x ≡ told (sent x run)
    back (Ok m) run = refl
    back (Err r) run = refl

pub fits_table_lem : Determined fits_table.Kinds.ps fits_table.Kinds.r fits_table.Reads.Post
fits_table_lem κs a x y v w p q = (p ∙ sym q, refl)

pub new : Determined run.new.Kinds.ps run.new.Kinds.r run.new.Reads.Post
new κs a x y v w p q = (made_same x y (p ∙ sym q), refl)

pub transition : Determined run.transition.Kinds.ps run.transition.Kinds.r run.transition.Reads.Post
transition κs a x y v w p q =
    let e = p ∙ sym q in
    (ap (λ (o : RunOutcome). o.answer) e, ap (λ (o : RunOutcome). (o.run, v.1)) e)

pub wait : Determined run.wait.Kinds.ps run.wait.Kinds.r run.wait.Reads.Post
wait κs a x y v w p q =
    let e = p ∙ sym q in
    (ap (λ (o : RunOutcome). o.answer) e, ap (λ (o : RunOutcome). (o.run, v.1)) e)

pub can_wait : Determined run.can_wait.Kinds.ps run.can_wait.Kinds.r run.can_wait.Reads.Post
can_wait κs a x y v w p q = (p ∙ sym q, refl)

pub send : Determined run.send.Kinds.ps run.send.Kinds.r run.send.Reads.Post
send κs a x y v w p q =
    let e = p ∙ sym q in
    (sent_same x y v.0 w.0 e, ap (λ (s : Sent). (s.run, v.1)) e)

pub receive : Determined run.receive.Kinds.ps run.receive.Kinds.r run.receive.Reads.Post
receive κs a x y v w p q =
    let e = p ∙ sym q in
    (ap (λ (o : RunOutcome). o.answer) e, ap (λ (o : RunOutcome). (o.run, v.1)) e)

pub is_waiting : Determined run.is_waiting.Kinds.ps run.is_waiting.Kinds.r run.is_waiting.Reads.Post
is_waiting κs a x y v w p q = (p ∙ sym q, refl)

pub current_states : Determined run.current_states.Kinds.ps run.current_states.Kinds.r run.current_states.Reads.Post
current_states κs a x y v w p q = (states_same x y (p ∙ sym q), refl)

pub value : Determined run.value.Kinds.ps run.value.Kinds.r run.value.Reads.Post
value κs a x y v w p q = (p ∙ sym q, refl)

pub time : Determined run.time.Kinds.ps run.time.Kinds.r run.time.Reads.Post
time κs a x y v w p q = (p ∙ sym q, refl)

pub possible_transitions : Determined run.possible_transitions.Kinds.ps run.possible_transitions.Kinds.r run.possible_transitions.Reads.Post
possible_transitions κs a x y v w p q = (p ∙ sym q, refl)

pub nosync_possible_transitions :
    Determined run.nosync_possible_transitions.Kinds.ps run.nosync_possible_transitions.Kinds.r
    run.nosync_possible_transitions.Reads.Post
nosync_possible_transitions κs a x y v w p q = (p ∙ sym q, refl)
