use Prim.Native.Nat.{ℕ, ◌≤◌}
use mathlib.Core.Path.{sym, ap, ◌∙◌, subst}
use mathlib.Core.List.{List}
use native.Mathlib.Omega.{arith}
use lib.ListN.{length}
use Rattle.laws.specs.Below.{all_below}
use Rattle.laws.proofs.Tests.{held, failed}
use Rattle.recordings.specs.Blocks.{count_in, entries_of, good_slot, block_at, last_at}
use Rattle.recordings.proofs.BlockLaws.{good_parts, block_starts, short_block}
use Rattle.replays.specs.Replay.{Played, records_played}
use Rattle.replays.proofs.PlayLaws.{block_cut, block_tested, block_good, block_bad}
use Rattle.replays.proofs.inner.blocks.play_block.Goals as goal

pub overflow_mul-a : goal.overflow_mul-a
overflow_mul-a c =
    omega (arith, block_starts (length c.args.bytes.now) c.args.b c.requires.1)

pub overflow_sub-bytes : goal.overflow_sub-bytes
overflow_sub-bytes c =
    omega (arith, block_starts (length c.args.bytes.now) c.args.b c.requires.1)

pub returns-then-bytes-a-lt-BLOCK : goal.returns-then-bytes-a-lt-BLOCK
returns-then-bytes-a-lt-BLOCK c =
    let x = c.args in
    let e = block_bad x.t.now x.s.now x.bytes.now x.b x.done (short_block x.bytes.now x.b c.if-bytes-a-lt-BLOCK.true) in
    (sym (ap (λ (p : Played). p.answer) e), sym (ap (λ (p : Played). p.state) e))

pub returns-then-not-good_block : goal.returns-then-not-good_block
returns-then-not-good_block c =
    let x = c.args in
    let bytes = x.bytes.now in
    let e = block_bad x.t.now x.s.now bytes x.b x.done
    (failed (c.good_block.ensures ∙ block_tested bytes x.b) c.if-not-good_block.true) in
    (sym (ap (λ (p : Played). p.answer) e), sym (ap (λ (p : Played). p.state) e))

pub play_records-requires : goal.play_records-requires
play_records-requires c =
    let bytes = c.args.bytes.now in
    let b = c.args.b in
    let cut = block_cut bytes b in
    let good = good_parts (block_at bytes b) b (last_at bytes b) (held (c.good_block.ensures ∙ block_tested bytes b) c.if-not-good_block.false) in (
      c.requires.0,
      ap length cut ∙ good.size,
      subst (λ (l : List ℕ). count_in l ≤ 15) (sym cut) good.count,
      ap (λ (l : List ℕ). all_below 15 (good_slot l)) cut ∙ good.slots,
      c.requires.2,
      omega (arith, block_starts (length bytes) b c.requires.1),
    )

pub returns : goal.returns
returns c =
    let x = c.args in
    let t = x.t.now in
    let s = x.s.now in
    let bytes = x.bytes.now in
    let b = x.b in
    let good = held (c.good_block.ensures ∙ block_tested bytes b) c.if-not-good_block.false in
    let same = ap (λ (l : List ℕ). records_played t s b 0 x.done (entries_of l)) (block_cut bytes b)
    ∙ sym (block_good t s bytes b x.done good) in (
      c.play_records.ensures.0 ∙ ap (λ (p : Played). p.answer) same,
      c.play_records.ensures.1 ∙ ap (λ (p : Played). p.state) same,
    )
