-- What holds of every building call on a well-formed system, and of chains of them.
use Prim.Native.Nat.{ℕ}
use mathlib.Core.Path.{◌≡◌}
use mathlib.Core.Logic.{◌≢◌}
use mathlib.Core.Bool.{true}
use mathlib.Core.List.{List, [], ◌∷◌}
use Rattle.graph_tables.specs.Answers.{answer_number}
use Rattle.system_tables.specs.Words.{SystemWords}
use Rattle.system_tables.specs.Formed.{system_formed}
use Rattle.system_tables.proofs.KeptLaws.{apart, together}
use Rattle.system_builder.specs.Systems.{empty_system_of, build_system_of}
use Rattle.system_builder.specs.Graphs.{var_type_in}
use Rattle.system_builder.specs.Chains.{Call, new_graph, new_channel, call_on_graph, after, answer_of, CallFits, after_all, AllFit}
use Rattle.system_builder.proofs.BuildTheorems.{new_formed}
use Rattle.system_builder.proofs.FormedCalls.{on_formed}
use Rattle.system_builder.proofs.NewMembers.{graph_formed_lem, channel_formed_lem}
use Rattle.system_builder.proofs.KnownCalls.{call_known, build_known, kind_known_lem}

-- Every building call leaves a well-formed system well formed, whatever it answers.
pub keeps_formed : (t : List ℕ) (c : Call) → CallFits c → system_formed t true ≡ true → system_formed (after t c) true ≡ true
keeps_formed t new_graph fit h = together (after t new_graph) true (graph_formed_lem t (apart t true h))
keeps_formed t (new_channel k c) fit h = together (after t (new_channel k c)) true (channel_formed_lem t k c fit (apart t true h))
keeps_formed t (call_on_graph g c) fit h = together (after t (call_on_graph g c)) true (on_formed t (apart t true h) g c fit)

-- So does every chain of them.
pub chain_keeps_formed : (t : List ℕ) (calls : List Call) → AllFit calls
    → system_formed t true ≡ true → system_formed (after_all t calls) true ≡ true
chain_keeps_formed t [] fit h = h
chain_keeps_formed t (c ∷ calls) fit h = chain_keeps_formed (after t c) calls fit.1 (keeps_formed t c fit.0 h)

-- ---- a chain of calls from `new`
module _ (t : List ℕ) (words : SystemWords t) (calls : List Call) (fit : AllFit calls) where
  abbrev built : List ℕ
  built = after_all (empty_system_of t).table calls

  pub chain_formed : system_formed built true ≡ true
  chain_formed = chain_keeps_formed (empty_system_of t).table calls fit (new_formed t words)

  -- No call after it answers 32: none that adds a part, no question for a variable's kind, nor `build`.
  pub chain_known : (c : Call) → answer_of built c ≢ 32
  chain_known = call_known built chain_formed

  pub chain_build_known : answer_number (build_system_of built) ≢ 32
  chain_build_known = build_known built chain_formed

  pub chain_kind_known : (g v : ℕ) → answer_number (var_type_in built g v) ≢ 32
  chain_kind_known = kind_known_lem built chain_formed
