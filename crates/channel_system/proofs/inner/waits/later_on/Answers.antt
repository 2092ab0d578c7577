use Prim.Native.Nat.{ℕ, ◌+◌, ◌-◌}
use mathlib.Core.Path.{◌≡◌, ap, ◌∙◌}
use mathlib.Core.List.{List, ◌++◌}
use native.Mathlib.Omega.{arith}
use lib.ListN.{take, drop}
use Rattle.graph_tables.specs.RunWords.{run_words}
use Rattle.program_graph.specs.Running.{later}
use Rattle.program_graph.specs.Inner.{Leaves}
use Rattle.program_graph.specs.Written.{words_of}
use Rattle.program_graph.proofs.WrittenLaws.{leaves_words}
use Rattle.system_tables.specs.Words.{graph_part}
use Rattle.system_state.specs.Layout.{run_start}
use Rattle.system_state.specs.Words.{run_part}
use Rattle.channel_system.specs.Steps.{run_of}
use Rattle.channel_system.specs.Waits.{clocks_fit}
use Rattle.channel_system.proofs.inner.waits.later_on.Goals as goal

-- the words that are lent are those of the run
lent : (s : List ℕ) (g a : ℕ) → a ≡ run_start g → take (a + run_words - a) (drop a s) ≡ run_part s g
lent s g a e =
    let n : a + run_words - a ≡ run_words = omega arith in
    ap (λ (k : ℕ). take k (drop a s)) n ∙ ap (λ (k : ℕ). take run_words (drop k s)) e

pub advance-requires : goal.advance-requires
unfolding clocks_fit
advance-requires c =
    let f = c.requires.0 in
    rw (c.graph_at.ensures, lent c.args.s.now c.args.g c.run_start-a.result c.run_start-a.ensures)
    (f.table.graph c.args.g f.known, (f.state.run c.args.g f.known).run, c.requires.1)

pub returns : goal.returns
returns c =
    let s = c.args.s.now in
    let g = c.args.g in
    let G = graph_part c.args.t.now g in
    let a = c.run_start-a.result in
    let n : a + run_words - a ≡ run_words = omega arith in
    let W = words_of G (run_part s g) (later (run_of s g) c.args.delta) in
    let left : Leaves G (run_part s g) (later (run_of s g) c.args.delta) c.advance.new.r =
    rw (c.graph_at.ensures, lent s g a c.run_start-a.ensures) at c.advance.ensures
    in
    ap (λ (x : List ℕ). take a s ++ (x ++ drop (a + run_words - a) (drop a s)))
    (leaves_words (c.requires.0.table.graph g c.requires.0.known) left)
    ∙ ap (λ (m : ℕ). take a s ++ (W ++ drop m (drop a s))) n
    ∙ ap (λ (k : ℕ). take k s ++ (W ++ drop run_words (drop k s))) c.run_start-a.ensures
