-- Laws of a run's words: one part written leaves the others.
use Prim.Native.Nat.{ℕ, zero, suc, ◌+◌, ◌-◌, ◌*◌, ◌<◌, ◌≤◌}
use mathlib.Core.Path.{◌≡◌, refl, sym, ap, ◌∙◌}
use mathlib.Core.List.{List, [], ◌∷◌, ◌++◌}
use native.Mathlib.Omega.{arith}
use lib.ListN.{length, get_or, set, take, drop, length-drop, take-append-drop}
use lib.Seq.{get_or-take, length-take-le, take-add, take-append-add, take-take, take_all, drop-drop, drop_at, set-append_left}
use Rattle.grammar.specs.Slots.{slots_of}
use Rattle.graph_tables.specs.Sizes.{process_room, variable_room, clock_room}
use Rattle.graph_tables.specs.RunWords.{RunWords, run_words, run_places_start, run_values_start, run_clocks_start, places_in, vars_in, clocks_in}
use Rattle.run_steps.specs.Steps.{placed_below}
use Rattle.run_steps.proofs.StepLaws.{placed_length}
use Rattle.program_graph.specs.Inner.{run_at, Parts, Small, with_vars, VarsStored, Stored}
use Rattle.program_graph.specs.declared.record.ProgramGraphRun.{ProgramGraphRun}
use Rattle.program_graph.proofs.PartLaws.{anew, part_length, part_same, part_before, part_behind}

module _ (r : List ℕ) (h : RunWords r) where
  pub places_length : length (places_in r) ≡ process_room
  places_length = length-take-le process_room (drop run_places_start r) (rw (length-drop run_places_start r, h) (omega arith))

  pub vars_length : length (vars_in r) ≡ 2 * variable_room
  vars_length = length-take-le (2 * variable_room) (drop run_values_start r) (rw (length-drop run_values_start r, h) (omega arith))

  pub times_length : length (clocks_in r) ≡ clock_room
  times_length = length-take-le clock_room (drop run_clocks_start r) (rw (length-drop run_clocks_start r, h) (omega arith))

  -- ---- one part written
  pub places_anew : (x : List ℕ) → length x ≡ process_room
      → Parts (anew r run_places_start process_room x) (take run_places_start r) x (vars_in r) (clocks_in r)
  places_anew x size =
      let within : run_places_start + process_room ≤ length r = rw h (omega arith) in
      record {
        words = part_length r run_places_start process_room x size within ∙ h;
        counts = part_before r run_places_start process_room x size within 0 run_places_start (omega arith);
        places = part_same r run_places_start process_room x size within;
        vars = ap (take (2 * variable_room)) (part_behind r run_places_start process_room x size within run_values_start (omega arith));
        times = ap (take clock_room) (part_behind r run_places_start process_room x size within run_clocks_start (omega arith));
      }

  pub vars_anew : (x : List ℕ) → length x ≡ 2 * variable_room
      → Parts (anew r run_values_start (2 * variable_room) x) (take run_places_start r) (places_in r) x (clocks_in r)
  vars_anew x size =
      let within : run_values_start + 2 * variable_room ≤ length r = rw h (omega arith) in
      record {
        words = part_length r run_values_start (2 * variable_room) x size within ∙ h;
        counts = part_before r run_values_start (2 * variable_room) x size within 0 run_places_start (omega arith);
        places = part_before r run_values_start (2 * variable_room) x size within run_places_start process_room (omega arith);
        vars = part_same r run_values_start (2 * variable_room) x size within;
        times = ap (take clock_room) (part_behind r run_values_start (2 * variable_room) x size within run_clocks_start (omega arith));
      }

  pub times_anew : (x : List ℕ) → length x ≡ clock_room
      → Parts (anew r run_clocks_start clock_room x) (take run_places_start r) (places_in r) (vars_in r) x
  times_anew x size =
      let within : run_clocks_start + clock_room ≤ length r = rw h (omega arith) in
      record {
        words = part_length r run_clocks_start clock_room x size within ∙ h;
        counts = part_before r run_clocks_start clock_room x size within 0 run_places_start (omega arith);
        places = part_before r run_clocks_start clock_room x size within run_places_start process_room (omega arith);
        vars = part_before r run_clocks_start clock_room x size within run_values_start (2 * variable_room) (omega arith);
        times = part_same r run_clocks_start clock_room x size within;
      }

-- ---- the places of n processes written
pub used_length : (r : List ℕ) → RunWords r → (n : ℕ) → n ≤ process_room → length (take n (drop run_places_start r)) ≡ n
used_length r h n few = length-take-le n (drop run_places_start r) (rw (length-drop run_places_start r, h) (omega arith))

-- a part of a front
drop_take : (l : List ℕ) (n k : ℕ) → n ≤ length l → take k (drop n l) ≡ drop n (take (n + k) l)
drop_take l n k h = sym (ap (drop n) (take-add n k l) ∙ drop_at (take n l) (take k (drop n l)) n (length-take-le n l h))

-- places of the first n alone, in front of the others
placed_front : (places posts : List ℕ) (n : ℕ) → n ≤ length places → (m : ℕ) → m ≤ n
    → placed_below (take n places) posts m ++ drop n places ≡ placed_below places posts m
unfolding placed_below
placed_front places posts n h zero l = take-append-drop n places
placed_front places posts n h (suc m) l =
    let long : m < length (placed_below (take n places) posts m) =
    rw (placed_length (take n places) posts m, length-take-le n places h) (omega arith) in
    sym (set-append_left (placed_below (take n places) posts m) (drop n places) m (get_or posts m 0) long)
    ∙ ap (λ (xs : List ℕ). set xs m (get_or posts m 0)) (placed_front places posts n h m (omega arith))

module _ (r posts : List ℕ) (h : RunWords r) (n : ℕ) (few : n ≤ process_room) where
  abbrev moved : List ℕ
  moved = placed_below (take n (drop run_places_start r)) posts n

  pub placed_anew : Parts (anew r run_places_start n moved) (take run_places_start r) (placed_below (places_in r) posts n) (vars_in r) (clocks_in r)
  placed_anew =
      let room : length (drop run_places_start r) ≡ run_words - run_places_start = rw (length-drop run_places_start r, h) (omega arith) in
      let size : length moved ≡ n = placed_length (take n (drop run_places_start r)) posts n ∙ used_length r h n few in
      let within : run_places_start + n ≤ length r = rw h (omega arith) in
      let whole : n + (process_room - n) ≡ process_room = omega arith in
      let split : process_room ≡ length moved + (process_room - n) = rw size (omega arith) in
      record {
        words = part_length r run_places_start n moved size within ∙ h;
        counts = part_before r run_places_start n moved size within 0 run_places_start (omega arith);
        places =
            ap (take process_room)
            (drop_at (take run_places_start r) (moved ++ drop n (drop run_places_start r)) run_places_start
            (length-take-le run_places_start r (omega arith)))
            ∙ ap (λ (i : ℕ). take i (moved ++ drop n (drop run_places_start r))) split
            ∙ take-append-add moved (drop n (drop run_places_start r)) (process_room - n)
            ∙ ap (λ (w : List ℕ). moved ++ w) (drop_take (drop run_places_start r) n (process_room - n) (omega arith))
            ∙ ap (λ (i : ℕ). moved ++ drop n (take i (drop run_places_start r))) whole
            ∙ ap (λ (w : List ℕ). placed_below w posts n ++ drop n (places_in r)) (sym (take-take n process_room (drop run_places_start r) few))
            ∙ placed_front (places_in r) posts n (rw (places_length r h) few) n (omega arith);
        vars = ap (take (2 * variable_room)) (part_behind r run_places_start n moved size within run_values_start (omega arith));
        times = ap (take clock_room) (part_behind r run_places_start n moved size within run_clocks_start (omega arith));
      }

-- ---- the run that parts make
count_at_lem : (r counts : List ℕ) → take run_places_start r ≡ counts → (i : ℕ) → i < run_places_start → get_or r i 0 ≡ get_or counts i 0
count_at_lem r counts e i l = sym (get_or-take run_places_start r i 0 l) ∙ ap (λ (w : List ℕ). get_or w i 0) e

pub parts_run : {r counts places vars times : List ℕ} → Parts r counts places vars times
    → run_at r
    ≡ record {
      places = places;
      vars = slots_of vars;
      times = times;
      processes = get_or counts 0 0;
      variables = get_or counts 1 0;
      clocks = get_or counts 2 0;
    }
parts_run {r} {counts} p =
    let c = count_at_lem r counts p.counts in
    cc (p.places, p.vars, p.times, c 0 (omega arith), c 1 (omega arith), c 2 (omega arith))

-- ---- all words
-- counts and parts are all that there is
front : (w : List ℕ) → length w ≡ process_room + (2 * variable_room + clock_room)
    → w ≡ take process_room w ++ (take (2 * variable_room) (drop process_room w) ++ take clock_room (drop (process_room + 2 * variable_room) w))
front w h =
    let behind : drop (2 * variable_room) (drop process_room w) ≡ take clock_room (drop (process_room + 2 * variable_room) w) =
    drop-drop (2 * variable_room) process_room w
    ∙ sym (take_all clock_room (drop (process_room + 2 * variable_room) w)
    (rw (length-drop (process_room + 2 * variable_room) w, h) (omega arith)))
    in
    sym (take-append-drop process_room w)
    ∙ ap (λ (x : List ℕ). take process_room w ++ x) (sym (take-append-drop (2 * variable_room) (drop process_room w)))
    ∙ ap (λ (x : List ℕ). take process_room w ++ (take (2 * variable_room) (drop process_room w) ++ x)) behind

pub laid : (r : List ℕ) → RunWords r
    → r ≡ get_or r 0 0 ∷ get_or r 1 0 ∷ get_or r 2 0 ∷ (places_in r ++ (vars_in r ++ clocks_in r))
laid [] h = absurd (omega arith)
laid (x ∷ []) h = absurd (omega arith)
laid (x ∷ y ∷ []) h = absurd (omega arith)
laid (x ∷ y ∷ z ∷ w) h = ap (λ (l : List ℕ). x ∷ y ∷ z ∷ l) (front w (omega arith))

-- ---- a run by value in words
counts_told : (r : List ℕ) → RunWords r → (a b c : ℕ) → take run_places_start (set (set (set r 0 a) 1 b) 2 c) ≡ a ∷ b ∷ c ∷ []
counts_told [] h a b c = absurd (omega arith)
counts_told (x ∷ []) h a b c = absurd (omega arith)
counts_told (x ∷ y ∷ []) h a b c = absurd (omega arith)
counts_told (x ∷ y ∷ z ∷ r) h a b c = refl

-- counts, then places, then times, then variables
pub stored_all :
    (run : ProgramGraphRun) (r r₁ r₂ r₃ ws : List ℕ) → RunWords r
    → r₁ ≡ set (set (set r 0 run.processes) 1 run.variables) 2 run.clocks
    → Parts r₂ (take run_places_start r₁) run.places (vars_in r₁) (clocks_in r₁) → Small run.places
    → Parts r₃ (take run_places_start r₂) (places_in r₂) (vars_in r₂) run.times → Small run.times
    → VarsStored ws run.vars run.variables → length run.vars ≡ variable_room
    → Stored (anew r₃ run_values_start (2 * variable_room) ws) run
stored_all run r r₁ r₂ r₃ ws h e p f q g v size =
    let made = vars_anew r₃ q.words ws v.used.words in
    let counts =
    made.counts ∙ q.counts ∙ p.counts ∙ ap (take run_places_start) e ∙ counts_told r h run.processes run.variables run.clocks in
    let parts : Parts (anew r₃ run_values_start (2 * variable_room) ws) (run.processes ∷ run.variables ∷ run.clocks ∷ []) run.places ws
    run.times =
    record {
      words = made.words;
      counts = counts;
      places = made.places ∙ q.places ∙ p.places;
      vars = made.vars;
      times = made.times ∙ q.times;
    }
    in
    record {
      words = made.words;
      reads = parts_run parts ∙ ap (λ (x : List ℕ). with_vars run (slots_of x)) (sym made.vars);
      vars = rw made.vars v;
      sized = size;
      places = f;
      times = g;
    }
