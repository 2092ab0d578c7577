-- The words of a fresh run stand for the fresh run: all that the table has reads alike.
use Prim.Native.Nat.{ℕ, zero, suc, ◌%◌, ◌<◌, ◌≤◌}
use mathlib.Core.Path.{◌≡◌, sym, ap, ◌∙◌}
use mathlib.Core.Bool.{cond}
use mathlib.Core.List.{List}
use mathlib.Core.Logic.{⊎_elim}
use native.Mathlib.Nat.{le_of_suc-le-suc, not-suc-le-zero, eq-or-lt_of_le}
use native.Mathlib.Omega.{arith}
use lib.Dec.{eqb}
use lib.ListN.{length, get_or, length-set, length-replicate, get_or-replicate}
use lib.Seq.{get_or-set_same, get_or-set_other}
use Rattle.grammar.specs.Bits.{from_bits}
use Rattle.grammar.specs.Evaluation.{blank}
use Rattle.grammar.specs.Slots.{val_of}
use Rattle.grammar.specs.declared.values.Val.{Val}
use Rattle.grammar.specs.declared.values.Val.TheVariants.{Boolean, Integer}
use Rattle.grammar.proofs.SlotLaws.{slot_at}
use Rattle.graph_tables.specs.Sizes.{variable_room, clock_room, word32}
use Rattle.graph_tables.specs.Words.{variable_count, clock_count, process_count, kind_at, value_at, place_at, invariant_group, clock_of}
use Rattle.graph_tables.specs.RunWords.{RunWords, vars_in}
use Rattle.graph_tables.specs.Sound.{Sound}
use Rattle.program_graph.specs.Running.{start_value, start_vars, fresh_run}
use Rattle.program_graph.specs.Facts.{Holding}
use Rattle.program_graph.specs.Inner.{run_at}
use Rattle.program_graph.specs.FreshWords.{fresh_words}
use Rattle.program_graph.specs.declared.record.ProgramGraphRun.{ProgramGraphRun}
use Rattle.program_graph.proofs.WordLaws.{vars_length}
use Rattle.program_graph.proofs.RunLaws.{same_processes, same_variables, same_clocks}
use Rattle.program_graph.proofs.RunKept.{start_at}
use Rattle.program_graph.proofs.FreshLaws.{fresh_words_lem, fresh_place, fresh_kind, fresh_payload, fresh_time, fresh_kept}

-- ---- two runs agree on what a table has
pub record SameRun (t : List ℕ) (x y : ProgramGraphRun) : Type 0 where
  pub processes : x.processes ≡ y.processes
  pub variables : x.variables ≡ y.variables
  pub clocks : x.clocks ≡ y.clocks
  pub places : (p : ℕ) → p < process_count t → get_or x.places p 0 ≡ get_or y.places p 0
  pub vars : (v : ℕ) → v < variable_count t → get_or x.vars v blank ≡ get_or y.vars v blank
  pub times : (c : ℕ) → c < clock_count t → get_or x.times c 0 ≡ get_or y.times c 0

-- ---- the variables of a fresh run
module _ (t : List ℕ) where
  vars_room : (n : ℕ) → length (start_vars t n) ≡ variable_room
  unfolding start_vars
  vars_room zero = length-replicate variable_room blank
  vars_room (suc n) = length-set (start_vars t n) n (record { value = start_value t n }) ∙ vars_room n

  -- each of the first n has its value
  start_value_at : (n v : ℕ) → v < n → n ≤ variable_room → get_or (start_vars t n) v blank ≡ record { value = start_value t v }
  unfolding start_vars
  start_value_at zero v l h = absurd (not-suc-le-zero l)
  start_value_at (suc n) v l h =
      ⊎_elim
      (λ (e : v ≡ n). rw e (get_or-set_same (start_vars t n) n (record { value = start_value t n }) blank (rw (vars_room n) h)))
      (λ (m : v < n).
      get_or-set_other (start_vars t n) n v (record { value = start_value t n }) blank (λ e. omega arith) ∙ start_value_at n v m (omega arith))
      (eq-or-lt_of_le (le_of_suc-le-suc l))

-- the words of a variable are those of its value
word_value : (k b : ℕ) → b < word32 → val_of k b ≡ cond (eqb k 0) (Boolean (eqb b 1)) (Integer (from_bits b))
unfolding val_of
word_value k b h =
    let low : b % 4294967296 ≡ b = omega arith in
    ap (λ (n : ℕ). cond (eqb k 0) (Boolean (eqb b 1)) (Integer (from_bits n))) low

-- ---- the words
module _ (t : List ℕ) (sound : Sound t) (r : List ℕ) (words : RunWords r) where
  abbrev fresh : List ℕ
  fresh = fresh_words t r

  pub fresh_reads : SameRun t (run_at (fresh_words t r)) (fresh_run t)
  fresh_reads =
      let formed = (fresh_kept t sound r words).run.formed in
      let pairs = vars_length fresh (fresh_words_lem t sound r words) in
      record {
        processes = same_processes t (run_at fresh) formed;
        variables = same_variables t (run_at fresh) formed;
        clocks = same_clocks t (run_at fresh) formed;
        places = λ p l. fresh_place t sound r words p l ∙ sym (start_at t (process_count t) p l sound.counts.processes);
        vars = λ v l.
            slot_at (vars_in fresh) v (omega (arith, sound.counts.variables))
            ∙ rw (fresh_kind t sound r words v l, fresh_payload t sound r words v l)
            (ap (λ (x : Val). record { value = x }) (word_value (kind_at t v) (value_at t v) (sound.variable v l).fits))
            ∙ sym (start_value_at t (variable_count t) v l sound.counts.variables);
        times = λ c l.
            fresh_time t sound r words c l ∙ sym (get_or-replicate clock_room c 0 0 (omega (arith, sound.counts.clocks)));
      }

  -- every invariant of every place where a process starts holds
  pub fresh_holding : Holding t (run_at (fresh_words t r))
  fresh_holding p l =
      let few : p < process_count t = omega (arith, fresh_reads.processes) in
      let at = sound.process p few in
      rw (fresh_place t sound r words p few) (λ i m.
      let known = (sound.invariants (place_at t p) at.place).clock i m in
      rw (fresh_time t sound r words (clock_of t (invariant_group (place_at t p)) i) known) (at.zero_in_range i m))
