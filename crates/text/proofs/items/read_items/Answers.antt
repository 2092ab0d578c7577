use Rattle.std.proofs.Common.{◌≡◌, sym, ◌∙◌, false, drop, arith}
use Rattle.std.specs.Prelude.{Some}
use Rattle.text.specs.Tokens.{token_of}
use Rattle.text.specs.Items.{word_at, closes_at}
use Rattle.text.proofs.Readings.{onward}
use Rattle.text.proofs.items.read_items.Goals as goal

pub loop-count-preserved : goal.loop-count-preserved
loop-count-preserved c =
    let e : closes_at c.args.line.now c.loop-count.here ≡ false = cc in
    let f : word_at (token_of (drop c.loop-count.here c.args.line.now)) ≡ Some c.in_ok-words.field-0 = rw c.token.ensures at (sym c.read_word.ensures ∙ c.in_ok-words.was) in
    rw c.next-here.ensures (onward _ _ _ c.loop-count.invariant c.in_ok-words.field-0 (omega arith) e f)
