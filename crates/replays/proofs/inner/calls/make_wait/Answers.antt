use mathlib.Core.Path.{sym, ap, ◌∙◌}
use Rattle.channel_system.specs.Waits.{Passed, passed_of}
use Rattle.channel_system.specs.Told.{waited_number}
use Rattle.channel_system.proofs.SystemChains.{formed_sound, wait_inner}
use Rattle.replays.proofs.inner.calls.make_wait.Goals as goal

pub wait-requires : goal.wait-requires
wait-requires c =
    (formed_sound _ c.requires.0.table, c.requires.0.state)

pub returns : goal.returns
returns c =
    let t = c.args.t.now in
    let s = c.args.s.now in
    let same = ap (passed_of t s) c.amount.ensures ∙ sym (wait_inner t c.requires.0.table s c.requires.0.state _) in (
      c.waited_number.ensures ∙ ap waited_number (c.wait.ensures.0 ∙ ap (λ (p : Passed). p.answer) same),
      c.wait.ensures.1 ∙ ap (λ (p : Passed). p.state) same,
    )
