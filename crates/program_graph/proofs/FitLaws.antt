-- Laws of the test of a run's words: what it finds is exactly a run of the table, and what a call leaves is found again.
use Prim.Native.Nat.{ℕ, ◌+◌, ◌*◌, ◌<◌, ◌≤◌}
use mathlib.Core.Path.{◌≡◌, sym, ap, subst, ◌∙◌}
use mathlib.Core.Bool.{true, false}
use mathlib.Core.List.{List}
use native.Mathlib.Omega.{arith}
use lib.ListN.{length, get_or}
use borrow.Author.Tests.{eqb-true, eq-eqb, lt-ltb, le-ltb}
use Rattle.laws.specs.Below.{all_below}
use Rattle.laws.proofs.BelowLaws.{and_first, and_rest, and_both, all_at, all_from}
use Rattle.grammar.specs.Evaluation.{blank}
use Rattle.grammar.specs.Slots.{kind_in, payload_in, slots_of}
use Rattle.grammar.specs.declared.values.Val.{Val}
use Rattle.grammar.proofs.SlotLaws.{slots_at}
use Rattle.graph_tables.specs.Sizes.{last_time}
use Rattle.graph_tables.specs.Words.{variable_count, clock_count, location_count, process_count}
use Rattle.graph_tables.specs.RunWords.{RunWords, run_processes, run_variables, places_in, vars_in, clocks_in}
use Rattle.graph_tables.specs.Sound.{Sound}
use Rattle.run_steps.specs.Steps.{clock_fits}
use Rattle.run_steps.proofs.StepLaws.{clock_fits_lem, fits_at}
use Rattle.grammar.specs.Slots.{is_value}
use Rattle.program_graph.specs.declared.record.ProgramGraphRun.{ProgramGraphRun}
use Rattle.program_graph.specs.Running.{place_known, var_fits, counts_same, run_formed}
use Rattle.program_graph.specs.Inner.{run_at, Leaves}
use Rattle.program_graph.specs.Fits.{var_words_fit, run_words_fit, RunKept}
use Rattle.program_graph.proofs.WordLaws.{vars_length}
use Rattle.program_graph.proofs.RunLaws.{same_processes, same_variables}

-- ---- a place
pub place_known_lem : (t places : List ℕ) (p : ℕ) → get_or places p 0 < location_count t → place_known t places p ≡ true
unfolding place_known
place_known_lem t places p h = lt-ltb _ _ h

pub place_unknown : (t places : List ℕ) (p : ℕ) → location_count t ≤ get_or places p 0 → place_known t places p ≡ false
unfolding place_known
place_unknown t places p h = le-ltb _ _ h

-- ---- a variable
module _ (t ws : List ℕ) (v : ℕ) (l : 2 * v + 1 < length ws) where
  abbrev stood : Val
  stood = (get_or (slots_of ws) v blank).value

  found_kind : var_words_fit t ws v ≡ true → get_or ws (2 * v) 0 ≡ kind_in stood
  unfolding var_words_fit is_value
  found_kind h = sym (eqb-true _ _ (and_first _ _ (and_rest _ _ h))) ∙ ap kind_in (sym (slots_at ws v l))

  found_payload : var_words_fit t ws v ≡ true → get_or ws (2 * v + 1) 0 ≡ payload_in stood
  unfolding var_words_fit is_value
  found_payload h = sym (eqb-true _ _ (and_rest _ _ (and_rest _ _ h))) ∙ ap payload_in (sym (slots_at ws v l))

  found_fits : var_words_fit t ws v ≡ true → var_fits t (slots_of ws) v ≡ true
  unfolding var_fits var_words_fit
  found_fits h = eq-eqb _ _ (sym (found_kind h) ∙ eqb-true _ _ (and_first _ _ h))

  fits_found : var_fits t (slots_of ws) v ≡ true → get_or ws (2 * v) 0 ≡ kind_in stood → get_or ws (2 * v + 1) 0 ≡ payload_in stood
      → var_words_fit t ws v ≡ true
  unfolding var_fits var_words_fit is_value
  fits_found h k p =
      and_both (eq-eqb _ _ (k ∙ eqb-true _ _ h))
      (and_both
      (eq-eqb _ _ (ap kind_in (sym (slots_at ws v l)) ∙ sym k))
      (eq-eqb _ _ (ap payload_in (sym (slots_at ws v l)) ∙ sym p)))

-- ---- a run
module _ (t : List ℕ) (sound : Sound t) (r : List ℕ) (words : RunWords r) where
  pair_in : (v : ℕ) → v < variable_count t → 2 * v + 1 < length (vars_in r)
  pair_in v l = omega (arith, vars_length r words, sound.counts.variables)

  -- the facts, from the test
  pub fits_kept : run_words_fit t r ≡ true → RunKept t r
  unfolding run_words_fit run_formed counts_same
  fits_kept h =
      let counts : counts_same t (run_at r) ≡ true = and_first _ _ h in
      let places : all_below (process_count t) (place_known t (places_in r)) ≡ true = and_first _ _ (and_rest _ _ h) in
      let vars : all_below (variable_count t) (var_words_fit t (vars_in r)) ≡ true = and_first _ _ (and_rest _ _ (and_rest _ _ h)) in
      let times : all_below (clock_count t) (clock_fits (clocks_in r) 0) ≡ true = and_rest _ _ (and_rest _ _ (and_rest _ _ h)) in
      let at : (v : ℕ) → v < variable_count t → var_words_fit t (vars_in r) v ≡ true = λ v l. all_at _ (variable_count t) v vars l in
      let processes : run_processes r ≡ process_count t = eqb-true _ _ (and_first _ _ counts) in
      let variables : run_variables r ≡ variable_count t = eqb-true _ _ (and_first _ _ (and_rest _ _ counts)) in
      record {
        run = record {
          words = words;
          formed = and_both counts
              (and_both
              (rw processes places)
              (rw variables (all_from _ (variable_count t) (λ v l. found_fits t (vars_in r) v (pair_in v l) (at v l)))));
          used = record {
            words = vars_length r words;
            kind = λ v l. found_kind t (vars_in r) v (pair_in v l) (at v l);
            payload = λ v l. found_payload t (vars_in r) v (pair_in v l) (at v l);
          };
        };
        times = λ c l. let e = fits_at (clocks_in r) 0 (clock_count t) c times l in omega arith;
      }

  -- and the test, from the facts
  pub kept_fits : RunKept t r → run_words_fit t r ≡ true
  unfolding run_words_fit run_formed
  kept_fits f =
      let h = f.run.formed in
      let processes = same_processes t (run_at r) h in
      let variables = same_variables t (run_at r) h in
      let vars : all_below (variable_count t) (var_fits t (slots_of (vars_in r))) ≡ true = rw variables at (and_rest _ _ (and_rest _ _ h)) in
      and_both (and_first _ _ h)
      (and_both (rw processes at (and_first _ _ (and_rest _ _ h)))
      (and_both
      (all_from _ (variable_count t) (λ v l.
      fits_found t (vars_in r) v (pair_in v l) (all_at _ (variable_count t) v vars l) (f.run.used.kind v l) (f.run.used.payload v l)))
      (all_from _ (clock_count t) (λ c l. clock_fits_lem (clocks_in r) 0 c (omega (arith, f.times c l))))))

-- ---- what a call leaves
pub leaves_kept : {t before after : List ℕ} {run : ProgramGraphRun} → Leaves t before run after → run_formed t run ≡ true
    → ((c : ℕ) → c < clock_count t → get_or run.times c 0 ≤ last_time) → RunKept t after
leaves_kept {t} {before} {after} {run} f formed times =
    record {
      run = record { words = f.words; formed = rw f.reads formed; used = f.used };
      times = λ c l. subst (λ (x : ProgramGraphRun). get_or x.times c 0 ≤ last_time) (sym f.reads) (times c l);
    }
