use mathlib.Core.Path.{◌≡◌, ap, ◌∙◌}
use Rattle.grammar.specs.Values.{kind_word}
use Rattle.grammar.specs.Slots.{kind_in}
use Rattle.grammar.proofs.inner.slots.put.Goals as goal

pub returns : goal.returns
returns c =
    let k : c.word.result ≡ kind_in c.args.x =
    c.word.ensures ∙ ap kind_word c.kind.ensures in
    (cc c.payload_of.ensures.0, c.payload_of.ensures.1)
