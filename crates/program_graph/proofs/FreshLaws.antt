-- Laws of a fresh run in words: what is written is read, every other word is as it was, and the words are a run of the table.
use Prim.Native.Nat.{ℕ, zero, suc, ◌+◌, ◌-◌, ◌*◌, ◌%◌, ◌<◌}
use mathlib.Core.Path.{◌≡◌, refl, sym, ap, ◌∙◌}
use mathlib.Core.Bool.{true}
use mathlib.Core.List.{List}
use mathlib.Core.Logic.{⊎_elim}
use native.Mathlib.Nat.{le_of_suc-le-suc, not-suc-le-zero, eq-or-lt_of_le}
use native.Mathlib.Omega.{arith}
use native.Mathlib.Decide.{dec_lt}
use lib.ListN.{length, get_or, set, take, drop, length-set}
use lib.Seq.{get_or-take, get_or-drop, get_or-set_same, get_or-set_other}
use borrow.Author.Tests.{eq-eqb}
use Rattle.laws.specs.Below.{◌and◌}
use Rattle.laws.proofs.BelowLaws.{and_both, all_from}
use Rattle.grammar.specs.Bits.{bits_of, from_bits}
use Rattle.grammar.specs.Slots.{val_of}
use Rattle.grammar.proofs.BitLaws.{from_low, from_high}
use Rattle.graph_tables.specs.Sizes.{variable_room, clock_room, word32}
use Rattle.graph_tables.specs.Words.{variable_count, clock_count, process_count, kind_at, value_at, place_at}
use Rattle.graph_tables.specs.RunWords.{RunWords, run_places_start, run_values_start, run_clocks_start, places_in, vars_in, clocks_in}
use Rattle.graph_tables.specs.Sound.{Sound}
use Rattle.run_steps.proofs.StepLaws.{clock_fits_lem}
use Rattle.grammar.specs.Slots.{is_value}
use Rattle.program_graph.specs.Running.{counts_same}
use Rattle.program_graph.specs.Fits.{var_words_fit, run_words_fit, RunKept}
use Rattle.program_graph.specs.FreshWords.{place_cell, kind_cell, payload_cell, clock_cell, put_below, zero_time}
use Rattle.program_graph.specs.FreshWords.{fresh_counts, fresh_places, fresh_kinds, fresh_payloads, fresh_words}
use Rattle.program_graph.proofs.FitLaws.{place_known_lem, fits_kept}

-- ---- words one after the other
module _ (r : List ℕ) (cell f : ℕ → ℕ) where
  pub put_length : (n : ℕ) → length (put_below r cell f n) ≡ length r
  unfolding put_below
  put_length zero = refl
  put_length (suc n) = length-set (put_below r cell f n) (cell n) (f n) ∙ put_length n

  -- a word that none of them is
  pub put_other : (n i : ℕ) → ((k : ℕ) → k < n → i ≡ cell k → ⊥) → get_or (put_below r cell f n) i 0 ≡ get_or r i 0
  unfolding put_below
  put_other zero i h = refl
  put_other (suc n) i h =
      get_or-set_other (put_below r cell f n) (cell n) i (f n) 0 (λ e. h n (omega arith) (omega arith))
      ∙ put_other n i (λ k l. h k (omega arith))

  -- word k of them, where no two are the same
  pub put_at : ((i j : ℕ) → cell i ≡ cell j → i ≡ j) → (n k : ℕ) → k < n → cell k < length r → get_or (put_below r cell f n) (cell k) 0 ≡ f k
  unfolding put_below
  put_at one zero k l h = absurd (not-suc-le-zero l)
  put_at one (suc n) k l h =
      ⊎_elim
      (λ (e : k ≡ n).
      ap (λ (j : ℕ). get_or (set (put_below r cell f n) (cell n) (f n)) (cell j) 0) e
      ∙ get_or-set_same (put_below r cell f n) (cell n) (f n) 0 (rw (put_length n) (rw e at h))
      ∙ ap f (sym e))
      (λ (m : k < n).
      get_or-set_other (put_below r cell f n) (cell n) (cell k) (f n) 0 (λ e. let z = one n k (omega arith) in omega arith)
      ∙ put_at one n k m h)
      (eq-or-lt_of_le (le_of_suc-le-suc l))

-- word i of a part
part_at : (w : List ℕ) (a n i : ℕ) → i < n → get_or (take n (drop a w)) i 0 ≡ get_or w (a + i) 0
part_at w a n i l = get_or-take n (drop a w) i 0 l ∙ get_or-drop a w i 0

-- ---- a kind and a value of a table are the words of a value
bits_back : (b : ℕ) → b < word32 → bits_of (from_bits (b % word32)) ≡ b
bits_back b h = rw low (by (dec_lt b 2147483648))
  where
    low : b % word32 ≡ b
    low = omega arith

    by : Dec (b < 2147483648) → bits_of (from_bits b) ≡ b
    by (yes l) = ap bits_of (from_low b l)
    by (no l) = let e : 4294967295 - (4294967295 - b) ≡ b = omega arith in ap bits_of (from_high b (omega arith)) ∙ e

value_words_lem : (k b : ℕ) → k < 2 → b < word32 → (k ≡ 0 → b < 2) → is_value k b ≡ true
unfolding is_value val_of ◌and◌
value_words_lem zero zero few fits truth = refl
value_words_lem zero (suc zero) few fits truth = refl
value_words_lem zero (suc (suc b)) few fits truth = absurd (omega (arith, truth refl))
value_words_lem (suc zero) b few fits truth = eq-eqb _ _ (bits_back b fits)
value_words_lem (suc (suc k)) b few fits truth = absurd (omega arith)

-- ---- a fresh run
module _ (t : List ℕ) (sound : Sound t) (r : List ℕ) (words : RunWords r) where
  abbrev counted : List ℕ
  counted = fresh_counts t r

  -- after the first count, and after the second
  abbrev first : List ℕ
  first = set r 0 (process_count t)

  abbrev second : List ℕ
  second = set first 1 (variable_count t)

  abbrev placed : List ℕ
  placed = fresh_places t counted

  abbrev kinded : List ℕ
  kinded = fresh_kinds t placed

  abbrev valued : List ℕ
  valued = fresh_payloads t kinded

  counted_words : RunWords counted
  counted_words = simp length-set words

  placed_words : RunWords placed
  placed_words = put_length counted place_cell (place_at t) (process_count t) ∙ counted_words

  kinded_words : RunWords kinded
  kinded_words = put_length placed kind_cell (kind_at t) (variable_count t) ∙ placed_words

  valued_words : RunWords valued
  valued_words = put_length kinded payload_cell (value_at t) (variable_count t) ∙ kinded_words

  pub fresh_words_lem : RunWords (fresh_words t r)
  unfolding fresh_words
  fresh_words_lem = put_length valued clock_cell zero_time (clock_count t) ∙ valued_words

  -- a count is left by the other words
  count_left : (i : ℕ) → i < run_places_start → get_or (fresh_words t r) i 0 ≡ get_or counted i 0
  unfolding fresh_words
  count_left i l =
      put_other valued clock_cell zero_time (clock_count t) i (λ k h e. omega arith)
      ∙ put_other kinded payload_cell (value_at t) (variable_count t) i (λ k h e. omega arith)
      ∙ put_other placed kind_cell (kind_at t) (variable_count t) i (λ k h e. omega arith)
      ∙ put_other counted place_cell (place_at t) (process_count t) i (λ k h e. omega arith)

  processes_read : get_or (fresh_words t r) 0 0 ≡ process_count t
  processes_read =
      count_left 0 (omega arith)
      ∙ get_or-set_other second 2 0 (clock_count t) 0 (λ e. omega arith)
      ∙ get_or-set_other first 1 0 (variable_count t) 0 (λ e. omega arith)
      ∙ get_or-set_same r 0 (process_count t) 0 (omega (arith, words))

  variables_read : get_or (fresh_words t r) 1 0 ≡ variable_count t
  variables_read =
      count_left 1 (omega arith)
      ∙ get_or-set_other second 2 1 (clock_count t) 0 (λ e. omega arith)
      ∙ get_or-set_same first 1 (variable_count t) 0 (simp length-set (omega (arith, words)))

  clocks_read : get_or (fresh_words t r) 2 0 ≡ clock_count t
  clocks_read =
      count_left 2 (omega arith)
      ∙ get_or-set_same second 2 (clock_count t) 0 (simp length-set (omega (arith, words)))

  -- each process is where it starts
  pub fresh_place : (p : ℕ) → p < process_count t → get_or (places_in (fresh_words t r)) p 0 ≡ place_at t p
  unfolding fresh_words
  fresh_place p l =
      let few = sound.counts.processes in
      let w = counted_words in
      part_at (fresh_words t r) run_places_start 4 p (omega arith)
      ∙ put_other valued clock_cell zero_time (clock_count t) (place_cell p) (λ k h e. omega arith)
      ∙ put_other kinded payload_cell (value_at t) (variable_count t) (place_cell p) (λ k h e. omega arith)
      ∙ put_other placed kind_cell (kind_at t) (variable_count t) (place_cell p) (λ k h e. omega arith)
      ∙ put_at counted place_cell (place_at t) (λ i j e. omega arith) (process_count t) p l (omega arith)

  -- each variable has the words of its value
  pub fresh_kind : (v : ℕ) → v < variable_count t → get_or (vars_in (fresh_words t r)) (2 * v) 0 ≡ kind_at t v
  unfolding fresh_words
  fresh_kind v l =
      let few = sound.counts.variables in
      let w = placed_words in
      part_at (fresh_words t r) run_values_start (2 * variable_room) (2 * v) (omega arith)
      ∙ put_other valued clock_cell zero_time (clock_count t) (kind_cell v) (λ k h e. omega arith)
      ∙ put_other kinded payload_cell (value_at t) (variable_count t) (kind_cell v) (λ k h e. omega arith)
      ∙ put_at placed kind_cell (kind_at t) (λ i j e. omega arith) (variable_count t) v l (omega arith)

  pub fresh_payload : (v : ℕ) → v < variable_count t → get_or (vars_in (fresh_words t r)) (2 * v + 1) 0 ≡ value_at t v
  unfolding fresh_words
  fresh_payload v l =
      let few = sound.counts.variables in
      let w = kinded_words in
      let e : run_values_start + (2 * v + 1) ≡ payload_cell v = omega arith in
      part_at (fresh_words t r) run_values_start (2 * variable_room) (2 * v + 1) (omega arith)
      ∙ ap (λ (k : ℕ). get_or (fresh_words t r) k 0) e
      ∙ put_other valued clock_cell zero_time (clock_count t) (payload_cell v) (λ k h e. omega arith)
      ∙ put_at kinded payload_cell (value_at t) (λ i j e. omega arith) (variable_count t) v l (omega arith)

  -- each clock is at 0
  pub fresh_time : (c : ℕ) → c < clock_count t → get_or (clocks_in (fresh_words t r)) c 0 ≡ 0
  unfolding fresh_words
  fresh_time c l =
      let few = sound.counts.clocks in
      let w = valued_words in
      part_at (fresh_words t r) run_clocks_start clock_room c (omega arith)
      ∙ put_at valued clock_cell zero_time (λ i j e. omega arith) (clock_count t) c l (omega arith)

  var_fits_lem : (v : ℕ) → v < variable_count t → var_words_fit t (vars_in (fresh_words t r)) v ≡ true
  unfolding var_words_fit
  var_fits_lem v l =
      let f = sound.variable v l in
      and_both (eq-eqb _ _ (fresh_kind v l))
      (rw (fresh_kind v l, fresh_payload v l) (value_words_lem (kind_at t v) (value_at t v) f.kind f.fits f.truth))

  -- it fits its table
  pub fresh_fits : run_words_fit t (fresh_words t r) ≡ true
  unfolding run_words_fit counts_same
  fresh_fits =
      and_both (and_both (eq-eqb _ _ processes_read) (and_both (eq-eqb _ _ variables_read) (eq-eqb _ _ clocks_read)))
      (and_both
      (all_from _ (process_count t) (λ p l.
      place_known_lem t (places_in (fresh_words t r)) p (omega (arith, fresh_place p l, (sound.process p l).place))))
      (and_both
      (all_from _ (variable_count t) var_fits_lem)
      (all_from _ (clock_count t) (λ c l. clock_fits_lem (clocks_in (fresh_words t r)) 0 c (omega (arith, fresh_time c l))))))

  pub fresh_kept : RunKept t (fresh_words t r)
  fresh_kept = fits_kept t sound (fresh_words t r) fresh_words_lem fresh_fits
