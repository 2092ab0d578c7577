use Rattle.std.proofs.Common.{rules, ◌≤◌, ◌+◌, ◌-◌, ◌≡◌, length, drop, ap, arith, length-drop}
use Rattle.text.specs.Tokens.{token_of}
use Rattle.text.proofs.Bytes.{bounded}
use Rattle.graph_text.proofs.lines.Line.next.Goals as goal

pub overflow_add-end : goal.overflow_add-end
overflow_add-end c =
    let s = c.args.self.now.bytes.now in
    let at = c.args.self.now.at in
    let few : length (token_of (drop at s)) ≤ length (drop at s) = bounded (drop at s) in
    let left : length (drop at s) ≡ length s - at = length-drop at s in
    let told : length c.token-token.result.now ≡ length (token_of (drop at s)) = ap length c.token-token.ensures in
    search (rules, arith)
