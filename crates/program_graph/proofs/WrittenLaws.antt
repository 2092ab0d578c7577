-- What a call leaves is all words: those that stand for the run, over the words that were there.
use Prim.Native.Nat.{ℕ, ◌+◌, ◌*◌, ◌/◌, ◌<◌, ◌≤◌}
use mathlib.Core.Path.{◌≡◌, refl, sym, ap, subst, ◌∙◌}
use mathlib.Core.List.{List, ◌∷◌, ◌++◌}
use native.Mathlib.Decide.{ℕ_discrete}
use native.Mathlib.Omega.{arith}
use lib.ListN.{length, get_or, take, drop, take-append-drop}
use lib.Seq.{length-take-le, get_or-take, ext_get_or}
use Rattle.grammar.specs.Evaluation.{blank}
use Rattle.grammar.specs.Slots.{kind_in, payload_in, slots_of, words_in}
use Rattle.grammar.specs.declared.values.Slot.{Slot}
use Rattle.grammar.proofs.SlotLaws.{slots_length, words_length, kind_at_lem, payload_at}
use Rattle.graph_tables.specs.Sizes.{variable_room}
use Rattle.graph_tables.specs.Words.{variable_count}
use Rattle.graph_tables.specs.RunWords.{places_in, vars_in, clocks_in}
use Rattle.graph_tables.specs.Sound.{Sound}
use Rattle.run_steps.specs.Inner.{VarWords}
use Rattle.program_graph.specs.Inner.{run_at, RunOf, Leaves}
use Rattle.program_graph.specs.Written.{var_words_of, words_of}
use Rattle.program_graph.specs.declared.record.ProgramGraphRun.{ProgramGraphRun}
use Rattle.program_graph.proofs.WordLaws.{laid}
use Rattle.program_graph.proofs.LeaveLaws.{leaves_same}

-- ---- the words of n variables, each pair that of its value, are the words of the n values
module _ (ws : List ℕ) (n : ℕ) (few : n ≤ variable_room) (w : VarWords ws n) where
  abbrev values : List Slot
  values = take n (slots_of ws)

  values_length : length values ≡ n
  values_length = length-take-le n (slots_of ws) (omega (arith, slots_length ws variable_room w.words))

  front_length : length (take (2 * n) ws) ≡ 2 * n
  front_length = length-take-le (2 * n) ws (omega (arith, w.words))

  value_at_lem : (v : ℕ) → v < n → get_or (slots_of ws) v blank ≡ get_or values v blank
  value_at_lem v l = sym (get_or-take n (slots_of ws) v blank l)

  pair_at : (v i : ℕ) → v < n → v ≡ i / 2 → Dec (i ≡ 2 * v) → get_or ws i 0 ≡ get_or (words_in values) i 0
  pair_at v i l h (yes e) =
      rw e (w.kind v l ∙ ap (λ (s : Slot). kind_in s.value) (value_at_lem v l) ∙ sym (kind_at_lem values v (omega (arith, values_length))))
  pair_at v i l h (no d) =
      let e : i ≡ 2 * v + 1 = omega arith in
      rw e (w.payload v l ∙ ap (λ (s : Slot). payload_in s.value) (value_at_lem v l)
      ∙ sym (payload_at values v (omega (arith, values_length))))

  pub used_words : take (2 * n) ws ≡ words_in values
  used_words =
      ext_get_or 0 (take (2 * n) ws) (words_in values)
      (front_length ∙ sym (words_length values ∙ ap (λ (k : ℕ). 2 * k) values_length))
      (λ i l.
      let m : i < 2 * n = omega (arith, front_length) in
      get_or-take (2 * n) ws i 0 m ∙ pair_at (i / 2) i (omega arith) refl (ℕ_discrete i (2 * (i / 2))))

-- ---- all words
-- what a call leaves
pub leaves_words : {t before after : List ℕ} {run : ProgramGraphRun} → Sound t → Leaves t before run after
    → after ≡ words_of t before run
unfolding words_of
leaves_words {t} {before} {after} {run} sound l =
    let n = variable_count t in
    let used = used_words (vars_in after) n sound.counts.variables l.used in
    let vars : vars_in after ≡ var_words_of t before (slots_of (vars_in after)) =
    sym (take-append-drop (2 * n) (vars_in after))
    ∙ ap (λ (x : List ℕ). x ++ drop (2 * n) (vars_in after)) used
    ∙ ap (λ (x : List ℕ). words_in (take n (slots_of (vars_in after))) ++ x) l.spare
    in
    laid after l.words
    ∙ ap (λ (x : List ℕ). get_or after 0 0 ∷ get_or after 1 0 ∷ get_or after 2 0 ∷ (places_in after ++ (x ++ clocks_in after))) vars
    ∙ ap (words_of t before) l.reads

-- a run's own words: a refusal leaves every word
pub words_back : {t r : List ℕ} → Sound t → RunOf t r → words_of t r (run_at r) ≡ r
words_back {t} {r} sound h = sym (leaves_words sound (leaves_same t r h))

-- where a call left the words of a run, they stand for it
pub words_leave : {t before after : List ℕ} {run : ProgramGraphRun} → Sound t → Leaves t before run after
    → Leaves t before run (words_of t before run)
words_leave {t} {before} {after} {run} sound l = subst (Leaves t before run) (leaves_words sound l) l

pub reads_back : {t before after : List ℕ} {run : ProgramGraphRun} → Sound t → Leaves t before run after
    → run_at (words_of t before run) ≡ run
reads_back sound l = (words_leave sound l).reads
