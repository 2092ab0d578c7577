use Prim.Native.Nat.{ℕ}
use mathlib.Core.Path.{sym, ap, ◌∙◌}
use lib.ListN.{length, length-replicate}
use Rattle.laws.proofs.Tests.{held, failed}
use Rattle.recordings.specs.Blocks.{blocks_in}
use Rattle.replays.specs.Replay.{Played, is_finished, all_played}
use Rattle.replays.proofs.PlayLaws.{blocks_ready, fits_ready, replay_known, replay_unknown, finished_ok, finished_state, undone_state}
use Rattle.replays.proofs.run.replay.Goals as goal

pub returns-then-not-system_fits : goal.returns-then-not-system_fits
returns-then-not-system_fits c =
    let x = c.args in
    let e = replay_unknown x.t.now x.s.now x.bytes.now (failed c.system_fits.ensures c.if-not-system_fits.true) in
    (sym (ap (λ (p : Played). p.answer) e), sym (ap (λ (p : Played). p.state) e))

pub copy_from_slice-requires : goal.copy_from_slice-requires
copy_from_slice-requires c =
    let x = c.args in
    let ready = fits_ready x.t.now x.s.now (held c.system_fits.ensures c.if-not-system_fits.false) in
    length-replicate {A = ℕ} 1417 0 ∙ sym ready.state.words

pub play-r-requires : goal.play-r-requires
play-r-requires c =
    let x = c.args in
    fits_ready x.t.now x.s.now (held c.system_fits.ensures c.if-not-system_fits.false)

pub returns-then-is_ok : goal.returns-then-is_ok
returns-then-is_ok c =
    let x = c.args in
    let t = x.t.now in
    let s = x.s.now in
    let bytes = x.bytes.now in
    let e = replay_known t s bytes (held c.system_fits.ensures c.if-not-system_fits.false) in
    let yes = sym (c.is_ok.ensures.value ∙ finished_ok c.play-r.result ∙ ap is_finished c.play-r.ensures.0) ∙ c.if-is_ok.true in (
      c.play-r.ensures.0 ∙ sym (ap (λ (p : Played). p.answer) e),
      c.play-r.ensures.1 ∙ (sym (finished_state s (all_played t s bytes) yes) ∙ sym (ap (λ (p : Played). p.state) e)),
    )

pub copy_from_slice-requires-2 : goal.copy_from_slice-requires-2
copy_from_slice-requires-2 c =
    let x = c.args in
    let t = x.t.now in
    let s = x.s.now in
    let bytes = x.bytes.now in
    let ready = fits_ready t s (held c.system_fits.ensures c.if-not-system_fits.false) in
    (ap length c.play-r.ensures.1 ∙ (blocks_ready t bytes s 0 0 (blocks_in (length bytes)) ready).state.words)
    ∙ (sym ready.state.words ∙ sym (ap length c.copy_from_slice.ensures.after))

pub returns : goal.returns
returns c =
    let x = c.args in
    let t = x.t.now in
    let s = x.s.now in
    let bytes = x.bytes.now in
    let e = replay_known t s bytes (held c.system_fits.ensures c.if-not-system_fits.false) in
    let no = sym (c.is_ok.ensures.value ∙ finished_ok c.play-r.result ∙ ap is_finished c.play-r.ensures.0) ∙ c.if-is_ok.false in (
      c.play-r.ensures.0 ∙ sym (ap (λ (p : Played). p.answer) e),
      c.copy_from_slice-2.ensures.after ∙ (c.copy_from_slice.ensures.after ∙ (sym (undone_state s (all_played t s bytes) no) ∙ sym (ap (λ (p : Played). p.state) e))),
    )
