use Rattle.std.proofs.lemmas.Result.{err_from_is_err_and}
use Rattle.std.specs.Prelude.{Ok, Err}
use Prim.Native.Nat.{◌<◌}
use mathlib.Core.Path.{ap, ◌∙◌}
use native.Mathlib.Omega.{arith}
use borrow.Author.Tests.{lt-ltb, le-ltb}
use Rattle.laws.proofs.Ladder.{passed, stopped}
use Rattle.graph_tables.specs.Refusals.{refusal}
use Rattle.queues.specs.Queues.{stored_of}
use Rattle.system_tables.specs.Sizes.{channel_room}
use Rattle.system_tables.specs.Words.{channel_count}
use Rattle.channel_system.specs.Readers.{length_of}
use Rattle.channel_system.proofs.FittingLaws.{fits_table_lem, fits_state}
use Rattle.channel_system.proofs.readers.queue_length.Goals as goal

pub returns-in_err-fitting : goal.returns-in_err-fitting
unfolding length_of
returns-in_err-fitting c =
    let p = err_from_is_err_and c.from_residual.result c.from_residual.ensures.1 in
    p.1 ∙ ap Err (p.2 ∙ c.in_err-fitting.ensures.0) ∙ stopped _ _ c.in_err-fitting.ensures.1

pub channel_count-requires : goal.channel_count-requires
channel_count-requires c =
    (fits_table_lem c.args.t.now c.args.s.now c.in_ok-fitting.ensures).words

pub returns-then-channel_count-q : goal.returns-then-channel_count-q
unfolding length_of
returns-then-channel_count-q c =
    passed (Err (refusal 32)) c.in_ok-fitting.ensures
    (stopped _ _ (le-ltb _ _ (rw c.channel_count.ensures at c.if-channel_count-q.true)))

pub queue_at-requires : goal.queue_at-requires
queue_at-requires c =
    let fits = c.in_ok-fitting.ensures in
    let known : c.args.channel.0 < channel_count c.args.t.now = rw c.channel_count.ensures at c.if-channel_count-q.false in
    let small : c.args.channel.0 < channel_room = omega (arith, known, (fits_table_lem c.args.t.now c.args.s.now fits).channels) in
    ((fits_state c.args.t.now c.args.s.now fits).words, small)

pub stored-requires : goal.stored-requires
stored-requires c =
    let fits = c.in_ok-fitting.ensures in
    let known = rw c.channel_count.ensures at c.if-channel_count-q.false in
    rw c.queue_at.ensures ((fits_state _ _ fits).queue _ known).formed.counted

pub returns : goal.returns
unfolding length_of
returns c =
    passed (Err (refusal 32)) c.in_ok-fitting.ensures
    (passed (Err (refusal 30)) (lt-ltb _ _ (rw c.channel_count.ensures at c.if-channel_count-q.false))
    (ap Ok (c.stored.ensures ∙ ap stored_of c.queue_at.ensures)))
