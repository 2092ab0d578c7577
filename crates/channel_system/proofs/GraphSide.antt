-- The run of a graph in a state: it is one of its graph's, so what the graph's theorems say of its calls holds of it.
use Prim.Native.Nat.{ℕ, ◌<◌}
use mathlib.Core.Path.{◌≡◌, refl, sym, ◌∙◌}
use mathlib.Core.Bool.{true, false}
use mathlib.Core.List.{List}
use Rattle.laws.proofs.Ladder.{passed}
use Rattle.laws.proofs.BelowLaws.{and_both}
use Rattle.grammar.proofs.SlotLaws.{slots_length}
use Rattle.graph_tables.specs.Sizes.{variable_room}
use Rattle.graph_tables.specs.RunWords.{vars_in}
use Rattle.graph_tables.specs.Formed.{well_formed}
use Rattle.graph_tables.specs.declared.handed.Message as Values
use Rattle.program_graph.specs.Facts.{Sized}
use Rattle.program_graph.specs.Running as graph
use Rattle.program_graph.specs.Messaging as messages
use Rattle.program_graph.proofs.SpareLaws as public
use Rattle.program_graph.proofs.WordLaws.{places_length, vars_length, times_length}
use Rattle.system_tables.specs.Words.{graph_count, graph_part}
use Rattle.system_tables.specs.Formed.{graph_formed, system_formed}
use Rattle.system_tables.proofs.KeptLaws.{apart}
use Rattle.system_state.specs.Words.{run_part}
use Rattle.system_state.specs.Fits.{StateSound}
use Rattle.channel_system.specs.Steps.{run_of}

module _ (t : List ℕ) (formed : system_formed t false ≡ true) (s : List ℕ) (h : StateSound t s) (g : ℕ) (l : g < graph_count t) where
  graph_formed_lem : well_formed (graph_part t g) false ≡ true
  unfolding graph_formed
  graph_formed_lem = (apart t false formed).graph g l

  pub run_fits_lem : graph.fits_table (graph_part t g) (run_of s g) ≡ true
  unfolding graph.fits_table
  run_fits_lem = and_both graph_formed_lem (h.run g l).run.formed

  pub run_sized : Sized (run_of s g)
  run_sized =
      let words = (h.run g l).run.words in
      record {
        places = places_length (run_part s g) words;
        vars = slots_length (vars_in (run_part s g)) variable_room (vars_length (run_part s g) words);
        times = times_length (run_part s g) words;
      }

  -- the graph's public calls are its inner ones
  pub step_as_lem : (a : ℕ) (posts : List ℕ) (word : ℕ)
      → graph.transition_of (graph_part t g) (run_of s g) a posts word ≡ graph.step_of (graph_part t g) (run_of s g) a posts word
  step_as_lem = public.transition_inner (graph_part t g) (run_of s g) run_fits_lem

  pub send_as : (a : ℕ) (posts : List ℕ) (word : ℕ)
      → messages.send_of (graph_part t g) (run_of s g) a posts word ≡ messages.sent_of (graph_part t g) (run_of s g) a posts word
  send_as = public.send_inner (graph_part t g) (run_of s g) run_fits_lem

  pub receive_as : (a : ℕ) (posts : List ℕ) (m : Values.Message)
      → messages.receive_of (graph_part t g) (run_of s g) a posts m ≡ messages.received_of (graph_part t g) (run_of s g) a posts m
  receive_as = public.receive_inner (graph_part t g) (run_of s g) run_fits_lem

  -- a wait that the graph has nothing against
  pub wait_as : (delta : ℕ) → graph.wait_fits (run_of s g) delta ≡ true → graph.wait_holds (graph_part t g) (run_of s g) delta ≡ true
      → graph.wait_of (graph_part t g) (run_of s g) delta ≡ graph.accepted (graph.later (run_of s g) delta)
  unfolding graph.waited_of
  wait_as delta f k =
      public.wait_inner (graph_part t g) (run_of s g) run_fits_lem delta
      ∙ sym (passed (graph.refused 26 (run_of s g)) f (passed (graph.refused 9 (run_of s g)) k refl))
