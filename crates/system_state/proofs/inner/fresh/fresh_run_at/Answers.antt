use Prim.Native.Nat.{ℕ, ◌+◌, ◌-◌}
use mathlib.Core.Path.{◌≡◌, ap, ◌∙◌}
use mathlib.Core.List.{List, ◌++◌}
use native.Mathlib.Omega.{arith}
use lib.ListN.{take, drop}
use borrow.Author.Rules.{rules}
use Rattle.graph_tables.specs.RunWords.{run_words}
use Rattle.program_graph.specs.FreshWords.{fresh_words}
use Rattle.system_tables.specs.Words.{graph_part}
use Rattle.system_state.proofs.inner.fresh.fresh_run_at.Goals as goal

-- the state with a fresh run of the graph G in the m words from a on
abbrev started_at : List ℕ → List ℕ → ℕ → ℕ → List ℕ
started_at G s m a = take a s ++ (fresh_words G (take m (drop a s)) ++ drop m (drop a s))

pub fresh_words-requires : goal.fresh_words-requires
fresh_words-requires c =
    (rw c.graph_at.ensures (c.requires.0.graph c.args.g c.requires.2), search rules)

pub returns : goal.returns
returns c =
    let s = c.args.s.now in
    let part = graph_part c.args.t.now c.args.g in
    let a = c.run_start-a.result in
    let e : a + run_words - a ≡ run_words = omega arith in
    ap (λ (x : List ℕ). take a s ++ (x ++ drop (a + run_words - a) (drop a s))) c.fresh_words.ensures
    ∙ ap (λ (G : List ℕ). started_at G s (a + run_words - a) a) c.graph_at.ensures
    ∙ ap (λ (m : ℕ). started_at part s m a) e
    ∙ ap (started_at part s run_words) c.run_start-a.ensures
