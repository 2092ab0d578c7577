-- A graph that calls built and `build` accepted: no call on a run of it answers 32.
use Rattle.graph_tables.specs.Answers.{admitted}
use Prim.Native.Nat.{ℕ}
use mathlib.Core.Path.{◌≡◌}
use mathlib.Core.List.{List}
use Rattle.graph_tables.specs.Words.{Words}
use Rattle.graph_builder.specs.Building.{empty_of, build_of}
use Rattle.graph_builder.specs.Chains.{Call, after_all, AllFit}
use Rattle.graph_builder.proofs.Theorems.{chain_runnable}
use Rattle.program_graph.specs.Facts.{Not}
use Rattle.program_graph.specs.Running.{new_run_of}
use Rattle.program_graph.specs.RunChains.{RunCall, answer_to, run_after_all}
use Rattle.program_graph.proofs.RunChains.{chain_known}

module _ (t : List ℕ) (words : Words t) (calls more : List Call) (fit : AllFit calls) (also : AllFit more) where
  -- what the calls build from the empty graph
  abbrev built : List ℕ
  built = after_all (empty_of t).table calls

  -- and with more calls behind `build`
  abbrev whole : List ℕ
  whole = after_all built more

  -- From a fresh run of it, after any chain of calls, none answers 32.
  pub built_known : build_of built ≡ admitted → (done : List RunCall) (call : RunCall)
      → Not 32 (answer_to whole (run_after_all whole (new_run_of whole).run done) call)
  built_known e done call = chain_known whole (chain_runnable t words calls fit more also e) done call
