use borrow.Author.Tests.{not-true, not-false}
use Rattle.std.specs.Prelude.{Ok, Err}
use Rattle.graph_tables.specs.Refusals.{refusal}
use mathlib.Core.Path.{refl, ap, ◌∙◌}
use Rattle.run_steps.specs.declared.inner.messages.Speech.{Speech}
use Rattle.run_steps.proofs.VarLaws.{vars_same}
use Rattle.laws.proofs.Tests.{held, failed}
use Rattle.program_graph.specs.Messaging.{said_of}
use Rattle.program_graph.specs.Inner.{DidSend}
use Rattle.program_graph.proofs.LeaveLaws.{rung_stopped, rung_passed, leaves_same, few_places, leaves_moved}
use Rattle.program_graph.proofs.inner.messages.say.Goals as goal

pub returns-then-not-spoken : goal.returns-then-not-spoken
unfolding said_of
returns-then-not-spoken c =
    let none = failed (ap (λ (x : Speech). x.fits) c.spoken-spoken.ensures) (not-true _ c.if-not-spoken.true) in
    rung_stopped (DidSend c.args.t.now c.args.r.now (Err (refusal 26)) c.args.r.now) _ _ none
    (record { answer = refl; message = refl; words = leaves_same c.args.t.now c.args.r.now c.requires.1 })

pub move_to-requires : goal.move_to-requires
move_to-requires c =
    (c.requires.1.words, few_places c.args.t.now c.args.r.now c.requires.0 c.requires.1 _ c.requires.2)

pub returns : goal.returns
unfolding said_of
returns c =
    let all = held (ap (λ (x : Speech). x.fits) c.spoken-spoken.ensures) (not-false _ c.if-not-spoken.false) in
    let spoken = c.spoken-spoken.ensures in
    let count = c.effect_count-count.ensures in
    rung_passed (DidSend c.args.t.now c.args.r.now (Ok c.message-message.result)
    c.move_to.new.r) _ _ all
    (record {
      answer = refl;
      message = c.message-message.ensures ∙ cc (spoken, count);
      words =
          leaves_moved c.args.t.now c.args.r.now _ c.args.posts.now _ _ _ c.requires.1 c.requires.2 c.move_to.ensures
          (vars_same _ _);
    })
