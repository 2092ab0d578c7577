-- Laws of variables in lent words: none written, one more written, and what stands where afterwards.
use Prim.Native.Nat.{ℕ, ◌+◌, ◌-◌, ◌*◌, ◌/◌, ◌<◌, ◌≤◌}
use mathlib.Core.Path.{◌≡◌, refl, sym, ap, ◌∙◌}
use mathlib.Core.List.{List}
use native.Mathlib.Decide.{ℕ_discrete, dec_lt}
use native.Mathlib.Omega.{arith}
use lib.ListN.{length, get_or, set, drop, length-set}
use lib.Seq.{get_or-set_same, get_or-set_other, get_or-drop, drop-set-lt, ext_get_or}
use Rattle.grammar.specs.Evaluation.{blank}
use Rattle.grammar.specs.Slots.{kind_in, payload_in, slots_of, FitVal}
use Rattle.grammar.specs.declared.values.Val.{Val}
use Rattle.grammar.specs.declared.values.Slot.{Slot}
use Rattle.grammar.proofs.SlotLaws.{slots_length, put_slots}
use Rattle.graph_tables.specs.Sizes.{variable_room}
use Rattle.run_steps.specs.Inner.{VarWords, VarsLeft}

-- nothing is written
pub vars_same : (n : ℕ) (ws : List ℕ) → VarsLeft n ws ws (slots_of ws)
vars_same n ws = record { words = refl; slots = refl; canonical = λ w. w; frame = refl }

-- ---- variable v gets a value
module _ (ws : List ℕ) (n v : ℕ) (x : Val) (size : length ws ≡ 2 * variable_room) (h : v < n) (few : n ≤ variable_room) (f : FitVal x) where
  abbrev written : List ℕ
  written = set (set ws (2 * v) (kind_in x)) (2 * v + 1) (payload_in x)

  slots_written : slots_of written ≡ set (slots_of ws) v (record { value = x })
  slots_written = put_slots ws v x (omega arith) f

  long : length (set ws (2 * v) (kind_in x)) ≡ length ws
  long = length-set ws (2 * v) (kind_in x)

  pub value_here : get_or (slots_of written) v blank ≡ record { value = x }
  value_here =
      ap (λ (ss : List Slot). get_or ss v blank) slots_written
      ∙ get_or-set_same (slots_of ws) v (record { value = x }) blank (omega (arith, slots_length ws variable_room size))

  pub value_there : (u : ℕ) → (u ≡ v → ⊥) → get_or (slots_of written) u blank ≡ get_or (slots_of ws) u blank
  value_there u d = ap (λ (ss : List Slot). get_or ss u blank) slots_written ∙ get_or-set_other (slots_of ws) v u (record { value = x }) blank d

  word_there : (i : ℕ) → (i ≡ 2 * v → ⊥) → (i ≡ 2 * v + 1 → ⊥) → get_or written i 0 ≡ get_or ws i 0
  word_there i d e =
      get_or-set_other (set ws (2 * v) (kind_in x)) (2 * v + 1) i (payload_in x) 0 e ∙ get_or-set_other ws (2 * v) i (kind_in x) 0 d

  kind_here : get_or written (2 * v) 0 ≡ kind_in x
  kind_here =
      get_or-set_other (set ws (2 * v) (kind_in x)) (2 * v + 1) (2 * v) (payload_in x) 0 (λ e. omega arith)
      ∙ get_or-set_same ws (2 * v) (kind_in x) 0 (omega arith)

  payload_here : get_or written (2 * v + 1) 0 ≡ payload_in x
  payload_here = get_or-set_same (set ws (2 * v) (kind_in x)) (2 * v + 1) (payload_in x) 0 (omega (arith, long))

  -- written, every pair is that of its value, if the others were
  put_fills :
      ((u : ℕ) → u < n → (u ≡ v → ⊥)
      → (get_or ws (2 * u) 0 ≡ kind_in (get_or (slots_of ws) u blank).value) × (get_or ws
      (2 * u + 1) 0 ≡ payload_in (get_or (slots_of ws) u blank).value))
      → VarWords written n
  put_fills w =
      record {
        words = length-set (set ws (2 * v) (kind_in x)) (2 * v + 1) (payload_in x) ∙ long ∙ size;
        kind = λ u l. kind u l (ℕ_discrete u v);
        payload = λ u l. payload u l (ℕ_discrete u v);
      }
    where
      kind : (u : ℕ) → u < n → Dec (u ≡ v) → get_or written (2 * u) 0 ≡ kind_in (get_or (slots_of written) u blank).value
      kind u l (yes e) = rw (e, value_here) kind_here
      kind u l (no d) =
          word_there (2 * u) (λ e. d (omega arith)) (λ e. omega arith) ∙ (w u l d).0
          ∙ ap (λ (s : Slot). kind_in s.value) (sym (value_there u d))

      payload : (u : ℕ) → u < n → Dec (u ≡ v) → get_or written (2 * u + 1) 0 ≡ payload_in (get_or (slots_of written) u blank).value
      payload u l (yes e) = rw (e, value_here) payload_here
      payload u l (no d) =
          word_there (2 * u + 1) (λ e. omega arith) (λ e. d (omega arith)) ∙ (w u l d).1
          ∙ ap (λ (s : Slot). payload_in s.value) (sym (value_there u d))

  put_canonical : VarWords ws n → VarWords written n
  put_canonical w = put_fills (λ u l d. (w.kind u l, w.payload u l))

  -- one more pair
  pub put_extends : n ≡ v + 1 → VarWords ws v → VarWords written n
  put_extends e w = put_fills (λ u l d. let m : u < v = omega (arith, d) in (w.kind u m, w.payload u m))

  put_frame : drop (2 * n) written ≡ drop (2 * n) ws
  put_frame =
      drop-set-lt (2 * n) (set ws (2 * v) (kind_in x)) (2 * v + 1) (payload_in x) (omega arith)
      ∙ drop-set-lt (2 * n) ws (2 * v) (kind_in x) (omega arith)

  pub vars_put : {before : List ℕ} {values : List Slot} → VarsLeft n before ws values
      → VarsLeft n before written (set values v (record { value = x }))
  vars_put left =
      record {
        words = length-set (set ws (2 * v) (kind_in x)) (2 * v + 1) (payload_in x) ∙ long ∙ left.words;
        slots = slots_written ∙ ap (λ (ss : List Slot). set ss v (record { value = x })) left.slots;
        canonical = λ w. put_canonical (left.canonical w);
        frame = put_frame ∙ left.frame;
      }

  -- so it is with whatever equals the words and the values
  pub vars_more :
      {before : List ℕ} {values : List Slot} → VarsLeft n before ws values → {after : List ℕ} → after ≡ written → {left : List Slot} →
      left ≡ set values v (record { value = x }) → VarsLeft n before after left
  vars_more given e q = rw (e, q) (vars_put given)

-- ---- what stands where: the words of each variable in use are those of its value, every other word is what it was
module _ {n : ℕ} {before after : List ℕ} {values : List Slot} (left : VarsLeft n before after values) where
  pub left_kind : VarWords before n → (v : ℕ) → v < n → get_or after (2 * v) 0 ≡ kind_in (get_or values v blank).value
  left_kind w v h = (left.canonical w).kind v h ∙ ap (λ (ss : List Slot). kind_in (get_or ss v blank).value) left.slots

  pub left_payload : VarWords before n → (v : ℕ) → v < n → get_or after (2 * v + 1) 0 ≡ payload_in (get_or values v blank).value
  left_payload w v h = (left.canonical w).payload v h ∙ ap (λ (ss : List Slot). payload_in (get_or ss v blank).value) left.slots

  pub left_other : (i : ℕ) → 2 * n ≤ i → get_or after i 0 ≡ get_or before i 0
  left_other i h =
      let e : i ≡ 2 * n + (i - 2 * n) = omega arith in
      rw e (sym (get_or-drop (2 * n) after (i - 2 * n) 0) ∙ ap (λ (l : List ℕ). get_or l (i - 2 * n) 0) left.frame
      ∙ get_or-drop (2 * n) before (i - 2 * n) 0)

-- where the values are as before, so are the words
pub left_back : {n : ℕ} {before after : List ℕ} → VarWords before n → VarsLeft n before after (slots_of before) → after ≡ before
left_back {n} {before} {after} w left = ext_get_or 0 after before left.words (λ i l. by i (dec_lt i (2 * n)))
  where
    pair : (v i : ℕ) → v < n → Dec (i ≡ 2 * v) → v ≡ i / 2 → get_or after i 0 ≡ get_or before i 0
    pair v i l (yes e) h = rw e (left_kind left w v l ∙ sym (w.kind v l))
    pair v i l (no d) h =
        let e : i ≡ 2 * v + 1 = omega arith in
        rw e (left_payload left w v l ∙ sym (w.payload v l))

    by : (i : ℕ) → Dec (i < 2 * n) → get_or after i 0 ≡ get_or before i 0
    by i (yes l) = pair (i / 2) i (omega arith) (ℕ_discrete i (2 * (i / 2))) refl
    by i (no l) = left_other left i (omega arith)
