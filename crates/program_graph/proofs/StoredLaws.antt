-- Laws of a run's variables put into words, and read back over the run's.
use Prim.Native.Nat.{ℕ, zero, suc, ◌+◌, ◌*◌, ◌<◌, ◌≤◌}
use mathlib.Core.Path.{◌≡◌, refl, sym, ◌∙◌}
use mathlib.Core.List.{List}
use mathlib.Core.Logic.{⊎_elim}
use native.Mathlib.Decide.{dec_lt}
use native.Mathlib.Nat.{eq-or-lt_of_le, le_of_suc-le-suc, not-suc-le-zero}
use native.Mathlib.Omega.{arith}
use lib.ListN.{length, get_or, set, length-set, get_or-eq_default}
use lib.Seq.{get_or-set_same, get_or-set_other, ext_get_or}
use Rattle.laws.proofs.Copies.{one_more}
use Rattle.grammar.specs.Evaluation.{blank}
use Rattle.grammar.specs.Slots.{kind_in, payload_in, slots_of, FitVal}
use Rattle.grammar.specs.declared.values.Val.{Val}
use Rattle.grammar.specs.declared.values.Slot.{Slot}
use Rattle.graph_tables.specs.Sizes.{variable_room, word32}
use Rattle.run_steps.proofs.VarLaws.{value_here, value_there, put_extends}
use Rattle.program_graph.specs.Inner.{Small, over_below, VarsStored}

-- ---- numbers of 32 bits
-- past the end a list reads 0
pub small_all : (xs : List ℕ) → ((i : ℕ) → i < length xs → get_or xs i 0 < word32) → Small xs
small_all xs h i = by (dec_lt i (length xs))
  where
    by : Dec (i < length xs) → get_or xs i 0 < word32
    by (yes l) = h i l
    by (no l) = let e : get_or xs i 0 ≡ 0 = get_or-eq_default xs 0 (omega arith) in omega arith

-- ---- put into words
pub stored_none : (ws : List ℕ) (vars : List Slot) → length ws ≡ 2 * variable_room → VarsStored ws vars 0
stored_none ws vars h =
    record {
      used = record { words = h; kind = λ v l. absurd (omega arith); payload = λ v l. absurd (omega arith) };
      values = λ v l. absurd (omega arith);
    }

pub stored_more :
    (ws : List ℕ) (vars : List Slot) (v : ℕ) (x : Val) → v < variable_room → FitVal x → record { value = x } ≡ get_or vars v blank →
    VarsStored ws vars v → {after : List ℕ} → after ≡ set (set ws (2 * v) (kind_in x)) (2 * v + 1) (payload_in x) → VarsStored after vars
    (v + 1)
stored_more ws vars v x room f e s q =
    let size = s.used.words in
    let last : v < v + 1 = omega arith in
    let few : v + 1 ≤ variable_room = omega arith in
    rw q record {
      used = put_extends ws (v + 1) v x size last few f refl s.used;
      values =
          one_more (λ (u : ℕ). get_or (slots_of (set (set ws (2 * v) (kind_in x)) (2 * v + 1) (payload_in x))) u blank ≡ get_or vars u blank) v
          (λ u l. value_there ws (v + 1) v x size last few f u (λ q. omega arith) ∙ s.values u l)
          (value_here ws (v + 1) v x size last few f ∙ e);
    }

-- ---- read back
module _ (vars from : List Slot) where
  pub over_length : (n : ℕ) → length (over_below vars from n) ≡ length vars
  unfolding over_below
  over_length zero = refl
  over_length (suc n) = length-set (over_below vars from n) n (get_or from n blank) ∙ over_length n

  over_at : (n v : ℕ) → v < n → n ≤ length vars → get_or (over_below vars from n) v blank ≡ get_or from v blank
  unfolding over_below
  over_at zero v l h = absurd (not-suc-le-zero l)
  over_at (suc n) v l h =
      ⊎_elim
      (λ (e : v ≡ n). rw e (get_or-set_same (over_below vars from n) n (get_or from n blank) blank (rw (over_length n) h)))
      (λ (m : v < n). get_or-set_other (over_below vars from n) n v (get_or from n blank) blank (λ e. omega arith) ∙ over_at n v m (omega arith))
      (eq-or-lt_of_le (le_of_suc-le-suc l))

  over_past : (n v : ℕ) → n ≤ v → get_or (over_below vars from n) v blank ≡ get_or vars v blank
  unfolding over_below
  over_past zero v l = refl
  over_past (suc n) v l =
      get_or-set_other (over_below vars from n) n v (get_or from n blank) blank (λ q. omega arith) ∙ over_past n v (omega arith)

  -- values that are the other's below n, and these from there on
  pub over_is : (n : ℕ) (values : List Slot) → n ≤ length vars → length values ≡ length vars
      → ((v : ℕ) → v < n → get_or from v blank ≡ get_or values v blank) → ((v : ℕ) → n ≤ v → get_or values v blank ≡ get_or vars v blank)
      → over_below vars from n ≡ values
  over_is n values few size same past =
      ext_get_or blank (over_below vars from n) values (over_length n ∙ sym size) (λ v l. by v (dec_lt v n))
    where
      by : (v : ℕ) → Dec (v < n) → get_or (over_below vars from n) v blank ≡ get_or values v blank
      by v (yes l) = over_at n v l few ∙ same v l
      by v (no l) = over_past n v (omega arith) ∙ sym (past v (omega arith))
