-- A run of a table can be read out of its words: what is read is the run, as far as the table goes, and is one of the table's.
use Prim.Native.Nat.{ℕ, zero, suc, ◌≤◌, ◌<◌}
use mathlib.Core.Path.{◌≡◌, refl, ap, ◌∙◌}
use mathlib.Core.Bool.{true}
use mathlib.Core.List.{List}
use mathlib.Core.Logic.{⊎_elim}
use native.Mathlib.Nat.{le_of_suc-le-suc, not-suc-le-zero, eq-or-lt_of_le}
use native.Mathlib.Omega.{arith}
use lib.Dec.{ltb, eqb}
use lib.ListN.{length, get_or, replicate, length-set, length-replicate}
use lib.Seq.{get_or-set_same, get_or-set_other}
use Rattle.laws.proofs.BelowLaws.{and_first, and_rest, and_both, all_kept}
use Rattle.grammar.specs.Values.{kind_of, kind_word}
use Rattle.grammar.specs.Evaluation.{blank}
use Rattle.grammar.specs.Slots.{slots_of}
use Rattle.grammar.specs.declared.values.Slot.{Slot}
use Rattle.graph_tables.specs.Sizes.{process_room, variable_room, clock_room}
use Rattle.graph_tables.specs.Words.{location_count, kind_at}
use Rattle.graph_tables.specs.RunWords.{run_processes, run_variables, run_clocks, places_in, vars_in, clocks_in}
use Rattle.graph_tables.specs.Sound.{Sound}
use Rattle.program_graph.specs.Running.{place_known, var_fits, counts_same, run_formed}
use Rattle.program_graph.specs.Inner.{run_at, over_below}
use Rattle.program_graph.specs.Fits.{RunKept}
use Rattle.program_graph.specs.Used.{numbers_below, used_run, Readable}
use Rattle.program_graph.proofs.RunLaws.{same_clocks, few_processes, few_variables, few_clocks, places_below}

-- ---- it can be read
pub kept_readable : (t r : List ℕ) → Sound t → RunKept t r → Readable r
kept_readable t r sound kept =
    let f = kept.run.formed in
    let clocks = same_clocks t (run_at r) f in
    record {
      words = kept.run.words;
      processes = few_processes t (run_at r) sound f;
      variables = few_variables t (run_at r) sound f;
      clocks = few_clocks t (run_at r) sound f;
      place = λ p l. omega (arith, places_below t (run_at r) f p l, sound.counts.locations);
      time = λ c l. omega (arith, kept.times c (omega (arith, clocks)));
    }

-- ---- the first n numbers are those of the list
module _ (room : ℕ) (xs : List ℕ) where
  numbers_length : (n : ℕ) → length (numbers_below room xs n) ≡ room
  unfolding numbers_below
  numbers_length zero = length-replicate room 0
  numbers_length (suc n) = length-set (numbers_below room xs n) n (get_or xs n 0) ∙ numbers_length n

  numbers_at : (n i : ℕ) → i < n → n ≤ room → get_or (numbers_below room xs n) i 0 ≡ get_or xs i 0
  unfolding numbers_below
  numbers_at zero i l h = absurd (not-suc-le-zero l)
  numbers_at (suc n) i l h =
      ⊎_elim
      (λ (e : i ≡ n). rw e (get_or-set_same (numbers_below room xs n) n (get_or xs n 0) 0 (rw (numbers_length n) h)))
      (λ (m : i < n).
      get_or-set_other (numbers_below room xs n) n i (get_or xs n 0) 0 (λ e. omega arith) ∙ numbers_at n i m (omega arith))
      (eq-or-lt_of_le (le_of_suc-le-suc l))

-- ---- the first n values, alike
module _ (vars from : List Slot) where
  over_length : (n : ℕ) → length (over_below vars from n) ≡ length vars
  unfolding over_below
  over_length zero = refl
  over_length (suc n) = length-set (over_below vars from n) n (get_or from n blank) ∙ over_length n

  over_at : (n i : ℕ) → i < n → n ≤ length vars → get_or (over_below vars from n) i blank ≡ get_or from i blank
  unfolding over_below
  over_at zero i l h = absurd (not-suc-le-zero l)
  over_at (suc n) i l h =
      ⊎_elim
      (λ (e : i ≡ n). rw e (get_or-set_same (over_below vars from n) n (get_or from n blank) blank (rw (over_length n) h)))
      (λ (m : i < n).
      get_or-set_other (over_below vars from n) n i (get_or from n blank) blank (λ e. omega arith) ∙ over_at n i m (omega arith))
      (eq-or-lt_of_le (le_of_suc-le-suc l))

-- ---- what is read
module _ (t r : List ℕ) (readable : Readable r) where
  pub used_place : (p : ℕ) → p < run_processes r → get_or (used_run r).places p 0 ≡ get_or (places_in r) p 0
  used_place p l = numbers_at process_room (places_in r) (run_processes r) p l readable.processes

  pub used_var : (v : ℕ) → v < run_variables r → get_or (used_run r).vars v blank ≡ get_or (slots_of (vars_in r)) v blank
  used_var v l =
      over_at (replicate variable_room blank) (slots_of (vars_in r)) (run_variables r) v l
      (rw (length-replicate variable_room blank) readable.variables)

  pub used_time : (c : ℕ) → c < run_clocks r → get_or (used_run r).times c 0 ≡ get_or (clocks_in r) c 0
  used_time c l = numbers_at clock_room (clocks_in r) (run_clocks r) c l readable.clocks

  -- it is one of the table's
  pub used_formed : run_formed t (run_at r) ≡ true → run_formed t (used_run r) ≡ true
  unfolding run_formed counts_same place_known var_fits
  used_formed h =
      let rest = and_rest _ _ h in
      and_both (and_first _ _ h)
      (and_both
      (all_kept (place_known t (places_in r)) (place_known t (used_run r).places) (run_processes r)
      (λ p l k. ap (λ (x : ℕ). ltb x (location_count t)) (used_place p l) ∙ k) (and_first _ _ rest))
      (all_kept (var_fits t (slots_of (vars_in r))) (var_fits t (used_run r).vars) (run_variables r)
      (λ v l k. ap (λ (x : Slot). eqb (kind_word (kind_of x.value)) (kind_at t v)) (used_var v l) ∙ k) (and_rest _ _ rest)))
