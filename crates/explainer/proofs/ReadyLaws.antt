-- The walk of a step on one process alone: the process is ready, as it is among all.
use Prim.Native.Nat.{ℕ, ◌+◌, ◌<◌}
use mathlib.Core.Path.{◌≡◌, refl, sym, ap, subst, ◌∙◌}
use mathlib.Core.List.{List}
use native.Mathlib.Omega.{arith}
use lib.ListN.{length, get_or, take, drop, length-drop}
use lib.Seq.{length-take-le, get_or-take, get_or-drop}
use Rattle.laws.specs.Below.{◌and◌, all_below}
use Rattle.grammar.specs.declared.values.Slot.{Slot}
use Rattle.graph_tables.specs.Sizes.{process_room}
use Rattle.graph_tables.specs.RunWords.{run_places_start, run_processes, places_in}
use Rattle.graph_tables.specs.Words.{location_count}
use Rattle.graph_tables.specs.Sound.{Sound}
use Rattle.run_steps.specs.Steps.{process_ready, ready_of}
use Rattle.program_graph.specs.Inner.{run_at, RunOf}
use Rattle.program_graph.proofs.LeaveLaws.{few_places, places_known}

-- the first of what stands from a place on
front : (xs : List ℕ) (i : ℕ) → get_or (take 1 (drop i xs)) 0 0 ≡ get_or xs i 0
front xs i =
    let e : i + 0 ≡ i = omega arith in
    get_or-take 1 (drop i xs) 0 0 (omega arith) ∙ get_or-drop i xs 0 0 ∙ ap (λ (j : ℕ). get_or xs j 0) e

module _ (t r : List ℕ) (sound : Sound t) (h : RunOf t r) (p : ℕ) (l : p < run_processes r) where
  pub process_small : p < process_room
  process_small = omega (arith, few_places t r sound h (run_processes r) refl)

  pub one_length : length (take 1 (drop (run_places_start + p) r)) ≡ 1
  one_length =
      length-take-le 1 (drop (run_places_start + p) r)
      (rw (length-drop (run_places_start + p) r, h.words) (omega (arith, process_small)))

  pub place_here : get_or r (run_places_start + p) 0 ≡ get_or (places_in r) p 0
  place_here = sym (get_or-take process_room (drop run_places_start r) p 0 process_small ∙ get_or-drop run_places_start r p 0)

  one_place : get_or (take 1 (drop (run_places_start + p) r)) 0 0 ≡ get_or (places_in r) p 0
  one_place = front r (run_places_start + p) ∙ place_here

  pub place_known_lem : get_or (places_in r) p 0 < location_count t
  place_known_lem = places_known t (run_at r) h.formed p l

  pub one_known : (q : ℕ) → q < length (take 1 (drop (run_places_start + p) r))
      → get_or (take 1 (drop (run_places_start + p) r)) q 0 < location_count t
  one_known q m =
      let z : q ≡ 0 = omega (arith, one_length) in
      subst (λ (j : ℕ). get_or (take 1 (drop (run_places_start + p) r)) j 0 < location_count t) (sym z) (rw one_place place_known_lem)

  pub one_ready : (vars : List Slot) (clocks after : List ℕ) (a : ℕ) (posts : List ℕ)
      → ready_of t vars clocks after (take 1 (drop (run_places_start + p) r)) (length (take 1 (drop (run_places_start + p) r))) a
      (take 1 (drop p posts))
      ≡ process_ready t vars clocks after (places_in r) a posts p
  unfolding ready_of process_ready all_below ◌and◌
  one_ready vars clocks after a posts = rw (one_length, one_place, front posts p)
