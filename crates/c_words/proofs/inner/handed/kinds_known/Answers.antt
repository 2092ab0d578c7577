use Rattle.std.proofs.Common.{rules, leb, length, ◌+◌, ◌≤◌, sym, ◌∙◌, arith}
use Rattle.std.proofs.lemmas.List.{take_all}
use Rattle.laws.proofs.Chains.{all_in_part}
use Rattle.c_words.proofs.HandedLaws.{kinds_same}
use Rattle.c_words.proofs.inner.handed.kinds_known.Goals as goal

pub returns : goal.returns
returns c =
    let ks = c.args.kinds.now in
    let fits : 0 + length ks ≤ length ks = omega arith in
    let all = c.iter.ensures.rest ∙ sym (take_all (length ks) ks (omega arith)) in
    all_in_part (λ k. leb k 1) 0 ks 0 (length ks) c.all.ensures.ran all fits (λ x b t k. search rules) ∙ kinds_same ks
