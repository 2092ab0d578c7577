-- All that is demanded of a system that is run holds from every fresh state, for any calls.
use Prim.Native.Nat.{ℕ}
use mathlib.Core.Path.{◌≡◌}
use mathlib.Core.Bool.{true, false}
use mathlib.Core.List.{List}
use borrow.Author.Tests.{eqb-true}
use Rattle.laws.proofs.Ladder.{rung}
use Rattle.graph_checks.specs.Checks.{refused_by}
use Rattle.program_graph.specs.Facts.{Accepted}
use Rattle.program_graph.proofs.AnswerLaws.{not_ok}
use Rattle.system_tables.specs.Formed.{system_formed}
use Rattle.system_state.specs.Words.{StateWords}
use Rattle.system_state.specs.Fresh.{fresh_state}
use Rattle.channel_system.specs.Instances.{Made, new_instance_of}
use Rattle.channel_system.specs.Chains.{Call}
use Rattle.channel_system.specs.Demand.{Demanded}
use Rattle.channel_system.proofs.SystemChains.{chain_known}
use Rattle.channel_system.proofs.SystemInvariants.{chain_invariants, chain_throughout}
use Rattle.channel_system.proofs.SystemClocks.{chain_time, chain_clocks}
use Rattle.channel_system.proofs.SystemQueues.{chain_values, chain_sink, chain_shape}

-- From a fresh state of a table that can be run, over any words, and for any calls.
pub demand : (t : List ℕ) → system_formed t false ≡ true → (s : List ℕ) → StateWords s → (calls : List Call)
    → Demanded t (fresh_state t s) calls
demand t formed s words calls =
    record {
      known = chain_known t formed s words calls;
      invariants = chain_invariants t formed s words calls;
      throughout = chain_throughout t formed s words calls;
      time = chain_time t formed s words calls;
      clock = λ g l c k. chain_clocks t formed s words g l c k calls;
      values = λ q k stored. chain_values t formed q k s words stored calls;
      sink = λ q k sink. chain_sink t formed q k s words sink calls;
      queue = λ q k. chain_shape t formed q k s words calls;
    }

-- So it does from whatever state `new_instance` makes, where it does not refuse: for any table, any words, and any calls.
pub demand_from_new : (t s : List ℕ) → Accepted (new_instance_of t s).answer → (calls : List Call) → Demanded t (new_instance_of t s).state calls
unfolding new_instance_of
demand_from_new t s =
    let P : Made → Type 0 = λ m. Accepted m.answer → (calls : List Call) → Demanded t m.state calls in
    let bad : Made = record { answer = refused_by 32; state = s } in
    rung P _ bad _ not_ok (λ formed. rung P _ bad _ not_ok (λ words e. demand t formed s (eqb-true _ _ words)))
