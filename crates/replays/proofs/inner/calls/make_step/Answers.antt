use Prim.Native.Nat.{ℕ, ◌-◌}
use mathlib.Core.Path.{◌≡◌, ap, ◌∙◌}
use native.Mathlib.Omega.{arith}
use lib.ListN.{get_or}
use lib.ListN.{take}
use Rattle.graph_tables.specs.Answers.{answer_number}
use Rattle.channel_system.specs.Steps.{Moved}
use Rattle.channel_system.proofs.SystemChains.{formed_sound}
use Rattle.recordings.specs.Numbers.{row}
use Rattle.recordings.specs.Records.{amount_in, post_in, word_in}
use Rattle.replays.specs.Replay.{post_words}
use Rattle.replays.proofs.PlayLaws.{carried_number, step_made}
use Rattle.replays.proofs.inner.calls.make_step.Goals as goal

pub overflow_cast-pg : goal.overflow_cast-pg
overflow_cast-pg c = omega (arith, c.shared_slice_known-4-1.given 1)

pub step-requires : goal.step-requires
step-requires c =
    (formed_sound _ c.requires.0.table, c.requires.0.state)

pub returns : goal.returns
returns c =
    let t = c.args.t.now in
    let s = c.args.s.now in
    let r = c.args.r.now in
    let g = get_or r 1 0 in
    let n = get_or r 2 0 in
    let minus : n - 0 ≡ n = omega arith in
    let posts = ap (λ (k : ℕ). take k c.post_words.new.to) minus ∙ c.post_words.ensures.0 in
    let same = step_made t s c.requires.0 g (amount_in r) (post_words g (row (post_in r) 0 n)) (word_in r)
    c.amount-a.ensures posts c.word-word.ensures in (
      c.answer_number.ensures ∙ ap answer_number c.step.ensures.0 ∙ carried_number _ _ ∙ ap (λ (x : Moved). answer_number x.told.answer) same,
      c.step.ensures.1 ∙ ap (λ (x : Moved). x.state) same,
    )
