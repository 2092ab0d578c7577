use Prim.Native.Nat.{ℕ, ◌+◌, ◌-◌}
use mathlib.Core.Path.{◌≡◌, sym, ap, ◌∙◌, subst}
use mathlib.Core.List.{List}
use native.Mathlib.Omega.{arith}
use lib.ListN.{length}
use borrow.Author.Rules.{rules}
use Rattle.std.specs.Prelude.{Err}
use Rattle.std.proofs.lemmas.Result.{err_from_is_err_and}
use Rattle.recordings.specs.Blocks.{blocks_in}
use Rattle.replays.specs.Facts.{Ready}
use Rattle.replays.specs.Replay.{Played, is_finished, stepped_by, block_played, blocks_played}
use Rattle.replays.proofs.PlayLaws.{block_few, block_ready, blocks_start, blocks_turn, blocks_found, blocks_over}
use Rattle.replays.proofs.inner.blocks.play.Goals as goal

pub loop-b-init : goal.loop-b-init
loop-b-init c =
    let x = c.args in (
      search rules,
      c.blocks_in-b-end.ensures,
      c.requires,
      search rules,
      blocks_start x.t.now x.bytes.now (blocks_in (length x.bytes.now)) x.s.now,
    )

pub play_block-requires : goal.play_block-requires
play_block-requires c =
    (c.loop-b.invariant.2, omega (arith, c.loop-b-test.true, c.loop-b.invariant.1), c.loop-b.invariant.3)

pub returns-in_err-done : goal.returns-in_err-done
returns-in_err-done c =
    let p = err_from_is_err_and c.from_residual.result c.from_residual.ensures.1 in
    let x = c.args in
    let bytes = x.bytes.now in
    let not_yet = ap is_finished (sym c.play_block.ensures.0 ∙ c.in_err-done.was) in
    let e = sym c.loop-b.invariant.4 ∙ blocks_found x.t.now bytes (blocks_in (length bytes)) c.loop-b.s c.loop-b.b c.loop-b.done
    (omega (arith, c.loop-b-test.true, c.loop-b.invariant.1)) not_yet in
    (p.1 ∙ ap Err p.2 ∙ sym c.in_err-done.was ∙ c.play_block.ensures.0 ∙ sym (ap (λ (p : Played). p.answer) e), c.play_block.ensures.1 ∙ sym (ap (λ (p : Played). p.state) e))

pub loop-b-preserved : goal.loop-b-preserved
loop-b-preserved c =
    let x = c.args in
    let t = x.t.now in
    let bytes = x.bytes.now in
    let n = blocks_in (length bytes) in
    let s = c.loop-b.s in
    let b = c.loop-b.b in
    let done = c.loop-b.done in
    let yes = ap is_finished (sym c.play_block.ensures.0 ∙ c.in_ok-done.was) in
    let left = c.play_block.ensures.1 in
    let many : c.in_ok-done.done ≡ stepped_by (block_played t s bytes b done).answer = ap stepped_by (sym c.in_ok-done.was ∙ c.play_block.ensures.0) in
    let turn = blocks_turn t bytes n s b done (omega (arith, c.loop-b-test.true, c.loop-b.invariant.1)) yes in (
      omega (arith, c.loop-b-test.true),
      c.loop-b.invariant.1,
      subst (Ready t) (sym left) (block_ready t s bytes b done c.loop-b.invariant.2),
      omega (arith, many, block_few t s bytes b done yes, c.loop-b.invariant.3),
      ap (λ (u : List ℕ). blocks_played t u bytes (b + 1) c.in_ok-done.done (n - (b + 1))) left
          ∙ (ap (λ (k : ℕ). blocks_played t (block_played t s bytes b done).state bytes (b + 1) k (n - (b + 1))) many
          ∙ (sym turn ∙ c.loop-b.invariant.4)),
    )

pub returns : goal.returns
returns c =
    let x = c.args in
    let bytes = x.bytes.now in
    let e = sym c.loop-b.invariant.4 ∙ blocks_over x.t.now bytes (blocks_in (length bytes)) c.loop-b.s c.loop-b.b c.loop-b.done
    (omega (arith, c.loop-b-test.false, c.loop-b.invariant.1)) in
    (sym (ap (λ (p : Played). p.answer) e), sym (ap (λ (p : Played). p.state) e))
