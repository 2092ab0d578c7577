use Rattle.std.specs.Prelude.{Ok}
use Prim.Native.Nat.{ℕ, ◌+◌, ◌-◌}
use mathlib.Core.Path.{◌≡◌, sym, ap, ◌∙◌}
use native.Mathlib.Omega.{arith}
use lib.ListN.{get_or}
use borrow.Author.Rules.{rules}
use mathlib.Core.Path.{subst}
use mathlib.Core.List.{List}
use Rattle.recordings.specs.Numbers.{row}
use Rattle.recordings.specs.Records.{entry_of, good_record}
use Rattle.recordings.specs.Blocks.{record_part, entry_at}
use Rattle.recordings.proofs.RecordLaws.{recorded_in_lem}
use Rattle.recordings.proofs.BlockLaws.{slot_good}
use Rattle.replays.specs.Facts.{Ready}
use Rattle.replays.specs.Replay.{given_to, after_entry, Played, records_played}
use Rattle.replays.proofs.PlayLaws.{after_ready, records_start, records_turn, records_found, records_over, as_found}
use Rattle.replays.proofs.inner.blocks.play_records.Goals as goal

pub loop-i-init : goal.loop-i-init
loop-i-init c =
    let x = c.args in
    (search rules, c.requires.0, records_start x.t.now x.b x.done (entry_at x.block.now) (get_or x.block.now 4 0) x.s.now)

pub make_call-given-requires : goal.make_call-given-requires
make_call-given-requires c = (
  c.loop-i.invariant.1,
  c.record_at-r.ensures.1,
  ap good_record c.record_at-r.ensures.0 ∙ slot_good c.args.block.now c.loop-i.i c.requires.3 c.loop-i-test.true (omega arith),
)

pub returns-then-given-recorded : goal.returns-then-given-recorded
returns-then-given-recorded c =
    let x = c.args in
    let t = x.t.now in
    let block = x.block.now in
    let i = c.loop-i.i in
    let s = c.loop-i.s in
    let cut = c.record_at-r.ensures.0 in
    let given = c.make_call-given.ensures.0 ∙ ap (λ (y : List ℕ). given_to t s (entry_of y)) cut in
    let recorded = ap (λ (y : List ℕ). get_or y 24 0) cut ∙ sym (recorded_in_lem (record_part block i)) in
    let left = c.make_call-given.ensures.1 ∙ ap (λ (y : List ℕ). after_entry t s (entry_of y)) cut in
    let found = records_found t x.b x.done (entry_at block) (get_or block 4 0) s i c.loop-i-test.true
    (λ e. c.if-given-recorded.true (given ∙ (e ∙ sym recorded))) in
    as_found (sym c.loop-i.invariant.2 ∙ found) recorded given left

pub loop-i-preserved : goal.loop-i-preserved
loop-i-preserved c =
    let x = c.args in
    let t = x.t.now in
    let block = x.block.now in
    let f = entry_at block in
    let n = get_or block 4 0 in
    let i = c.loop-i.i in
    let s = c.loop-i.s in
    let cut = c.record_at-r.ensures.0 in
    let given = c.make_call-given.ensures.0 ∙ ap (λ (y : List ℕ). given_to t s (entry_of y)) cut in
    let recorded = ap (λ (y : List ℕ). get_or y 24 0) cut ∙ sym (recorded_in_lem (record_part block i)) in
    let left = c.make_call-given.ensures.1 ∙ ap (λ (y : List ℕ). after_entry t s (entry_of y)) cut in
    let turn = records_turn t x.b x.done f n s i c.loop-i-test.true (sym given ∙ (c.if-given-recorded.false ∙ recorded)) in (
      omega (arith, c.loop-i-test.true),
      subst (Ready t) (sym left) (after_ready t s c.loop-i.invariant.1 (f i)),
      ap (λ (u : List ℕ). records_played t u x.b (i + 1) (x.done + (i + 1)) (row f (i + 1) (n - (i + 1)))) left
          ∙ (sym turn ∙ c.loop-i.invariant.2),
    )

pub returns : goal.returns
returns c =
    let x = c.args in
    let block = x.block.now in
    let n = get_or block 4 0 in
    let i = c.loop-i.i in
    let whole : n ≡ i = omega (arith, c.loop-i-test.false, c.loop-i.invariant.0) in
    let over = sym c.loop-i.invariant.2
    ∙ records_over x.t.now x.b x.done (entry_at block) n c.loop-i.s i (omega (arith, whole)) in
    (ap (λ (k : ℕ). Ok (x.done + k)) whole ∙ sym (ap (λ (p : Played). p.answer) over), sym (ap (λ (p : Played). p.state) over))
