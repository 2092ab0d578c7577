-- Over variables that agree where the table has them, a sound table asks the same and does the same: what a run by value and its words
-- by counts have in common.
use Prim.Native.Nat.{ℕ, zero, suc, ◌<◌, ◌≤◌}
use mathlib.Core.Path.{◌≡◌, refl, sym, ap, ◌∙◌}
use mathlib.Core.Bool.{Bool, true, false, cond}
use mathlib.Core.List.{List, []}
use native.Mathlib.Decide.{ℕ_discrete, dec_lt}
use native.Mathlib.Omega.{arith}
use lib.Dec.{eqb}
use lib.ListN.{length, get_or, set, length-set, length-drop, get_or-eq_default}
use lib.Seq.{get_or-set_same, get_or-set_other, length-take-le}
use borrow.Author.Tests.{eq-eqb}
use Rattle.laws.specs.Below.{all_below, any_below}
use Rattle.grammar.specs.Evaluation.{blank, evaluation_of}
use Rattle.grammar.specs.Typing.{type_of}
use Rattle.grammar.specs.declared.values.«Type».{«Type» as Kind}
use Rattle.grammar.specs.declared.values.Slot.{Slot}
use Rattle.grammar.specs.declared.typing.Typed.TheVariants as Typed
use Rattle.grammar.specs.declared.evaluation.Evaluation.{Evaluation}
use Rattle.std.specs.Prelude.{Option, Some, None}
use Rattle.grammar.specs.declared.values.Val.{Val}
use Rattle.grammar.proofs.AgreeLaws.{evaluation_agree}
use Rattle.graph_tables.specs.Sizes.{plain_kind, send_kind, receive_kind}
use Rattle.graph_tables.specs.Words.{variable_count, action_count, transition_count, action_kind, kinds_of, effect_count, effect_var, effect_items}
use Rattle.graph_tables.specs.Words.{guard_length, guard_items, epsilon}
use Rattle.graph_tables.specs.Sound.{Sound}
use Rattle.graph_tables.specs.declared.answers.Entry.{Entry}
use Rattle.run_steps.specs.Steps.{satisfied, invariants_hold, guard_holds, passes_of, leads_of, process_ready, ready_of, place_holds}
use Rattle.run_steps.specs.Steps.{Effected, assigned, unchanged, effect_next, effects_below, effected_of}
use Rattle.graph_tables.specs.declared.handed.Message.{Message}
use Rattle.run_steps.specs.Messages.{spoken_next, spoken_below, spoken_of, unsaid, taken_below, taken_of}
use Rattle.run_steps.proofs.MessageLaws.{taken_length, taken_kept}
use Rattle.run_steps.specs.Waiting.{shared_of}
use Rattle.run_steps.specs.Listing.{clocks_by, opens_by, process_entries, shared_entries, listing_of}
use Rattle.run_steps.proofs.AnyLaws.{all_same_lem, any_same}
use Rattle.run_steps.proofs.UsedLaws.{join_same}
use Rattle.run_steps.proofs.StepLaws.{next_runs, next_stops, effects_other}

-- the first n variables are the same
abbrev pub Agree : ℕ → List Slot → List Slot → Type 0
Agree n vars others = (v : ℕ) → v < n → get_or vars v blank ≡ get_or others v blank

-- ---- a store into variables that agree
set_agree : (n : ℕ) (vars others : List Slot) → length vars ≡ length others → Agree n vars others → (v : ℕ) (x : Slot)
    → Agree n (set vars v x) (set others v x)
set_agree n vars others size same v x u l = by (ℕ_discrete u v)
  where
    here : Dec (v < length vars) → get_or (set vars v x) v blank ≡ get_or (set others v x) v blank
    here (yes h) = get_or-set_same vars v x blank h ∙ sym (get_or-set_same others v x blank (omega arith))
    here (no h) =
        get_or-eq_default (set vars v x) blank (simp length-set (omega arith))
        ∙ sym (get_or-eq_default (set others v x) blank (simp length-set (omega arith)))

    by : Dec (u ≡ v) → get_or (set vars v x) u blank ≡ get_or (set others v x) u blank
    by (yes e) = rw e (here (dec_lt v (length vars)))
    by (no d) = get_or-set_other vars v u x blank d ∙ same u l ∙ sym (get_or-set_other others v u x blank d)

-- ---- effects that are alike
record Alike (n : ℕ) (r s : Effected) : Type 0 where
  fits : r.fits ≡ s.fits
  word : r.word ≡ s.word
  size : length r.vars ≡ length s.vars
  vars : Agree n r.vars s.vars

module _ (n : ℕ) (r s : Effected) (h : Alike n r s) where
  assigned_alike : (v : ℕ) (e : Option Val) (rest : ℕ) → Alike n (assigned r v e rest) (assigned s v e rest)
  assigned_alike v (Some x) rest =
      record {
        fits = h.fits;
        word = refl;
        size = length-set r.vars v (record { value = x }) ∙ h.size ∙ sym (length-set s.vars v (record { value = x }));
        vars = set_agree n r.vars s.vars h.size h.vars v (record { value = x });
      }
  assigned_alike v None rest = record { fits = refl; word = refl; size = h.size; vars = h.vars }

  next_alike : (v : ℕ) (items : List ℕ) → evaluation_of r.vars r.word items ≡ evaluation_of s.vars s.word items
      → Alike n (effect_next r v items) (effect_next s v items)
  next_alike v items e = by r.fits refl
    where
      by : (b : Bool) → r.fits ≡ b → Alike n (effect_next r v items) (effect_next s v items)
      by true q =
          let f = next_runs r v items q in
          let g = next_runs s v items (sym h.fits ∙ q) ∙ ap (λ (y : Evaluation). assigned s v y.value y.rest) (sym e) in
          rw (f, g) (assigned_alike v (evaluation_of r.vars r.word items).value (evaluation_of r.vars r.word items).rest)
      by false q =
          let f = next_stops r v items q in
          let g = next_stops s v items (sym h.fits ∙ q) in
          rw (f, g) h

-- ---- over a sound table
-- what the guard of transition k comes to by an evaluation
abbrev answered : List ℕ → ℕ → Evaluation → Bool
answered t k y = cond (eqb (guard_length t k) 0) true (satisfied y.value)

-- there is a kind for each variable
pub kinds_length : (t : List ℕ) → Sound t → length (kinds_of t) ≡ variable_count t
kinds_length t sound = length-take-le (variable_count t) _ (simp length-drop (omega (arith, sound.words, sound.counts.variables)))

module _ (t : List ℕ) (sound : Sound t) (vars others : List Slot) (same : Agree (variable_count t) vars others) where
  typed_agree :
      (vars others : List Slot) → Agree (variable_count t) vars others → (items : List ℕ) (k : Kind) (word : ℕ) →
      type_of (kinds_of t) items ≡ Typed.Known k → evaluation_of vars word items ≡ evaluation_of others word items
  typed_agree vars others same items k word e =
      evaluation_agree (kinds_of t) vars others (λ v l. same v (rw (kinds_length t sound) at l)) items k word e

  pub guard_agree : (k : ℕ) → k < transition_count t → guard_holds t vars k ≡ guard_holds t others k
  unfolding guard_holds
  guard_agree k l = by (ℕ_discrete (guard_length t k) 0)
    where
      by : Dec (guard_length t k ≡ 0)
          → answered t k (evaluation_of vars 0 (guard_items t k)) ≡ answered t k (evaluation_of others 0 (guard_items t k))
      by (yes e) = rw (eq-eqb (guard_length t k) 0 e)
      by (no d) = ap (answered t k) (typed_agree vars others same (guard_items t k) _ 0 ((sound.transition k l).guard.typed (omega arith)))

  pub passes_agree : (clocks after : List ℕ) (k : ℕ) → k < transition_count t
      → passes_of t vars clocks after k ≡ passes_of t others clocks after k
  unfolding passes_of
  passes_agree clocks after k l = rw (guard_agree k l)

  pub leads_agree : (clocks after : List ℕ) (pre action post k : ℕ) → k < transition_count t
      → leads_of t vars clocks after pre action post k ≡ leads_of t others clocks after pre action post k
  unfolding leads_of
  leads_agree clocks after pre action post k l = rw (passes_agree clocks after k l)

  pub ready_agree : (clocks after places : List ℕ) (n action : ℕ) (posts : List ℕ)
      → ready_of t vars clocks after places n action posts ≡ ready_of t others clocks after places n action posts
  unfolding ready_of process_ready
  ready_agree clocks after places n action posts =
      all_same_lem _ _ n
      (λ p l. any_same _ _ (transition_count t) (λ k m. leads_agree clocks after (get_or places p 0) action (get_or posts p 0) k m))

  -- the same is listed
  entries_agree : (clocks : List ℕ) (pre action p : ℕ)
      → process_entries t vars clocks pre action p ≡ process_entries t others clocks pre action p
  unfolding opens_by
  entries_agree clocks pre action p = join_same _ _ (transition_count t) (λ k l. rw (passes_agree clocks (clocks_by t action clocks) k l))

  pub shared_agree : (clocks places : List ℕ) (n action : ℕ)
      → shared_entries t vars clocks places n action ≡ shared_entries t others clocks places n action
  unfolding shared_entries
  shared_agree clocks places n action =
      ap (λ (es : List Entry). cond (shared_of t places n action) es [])
      (join_same _ _ n (λ p l. entries_agree clocks (get_or places p 0) action p))

  pub listing_agree : (clocks places : List ℕ) (n : ℕ) → listing_of t vars clocks places n ≡ listing_of t others clocks places n
  listing_agree clocks places n =
      let shared = shared_agree clocks places n in
      cc (
        join_same (shared_entries t vars clocks places n) (shared_entries t others clocks places n) (action_count t) (λ a l. shared a),
        shared epsilon,
      )

  -- a send says the same
  pub spoken_agree : (a word : ℕ) → a < action_count t → action_kind t a ≡ send_kind → spoken_of t a vars word ≡ spoken_of t a others word
  unfolding spoken_below spoken_next
  spoken_agree a word known send = below (effect_count t a) (omega arith)
    where
      below : (n : ℕ) → n ≤ effect_count t a → spoken_below t a vars (unsaid word) n ≡ spoken_below t a others (unsaid word) n
      below zero l = refl
      below (suc n) l =
          let expression = ((sound.action a known).send send).expression n (omega arith) in
          rw (
            below n (omega arith),
            typed_agree vars others same (effect_items t a n) expression.kind
                (spoken_below t a others (unsaid word) n).word expression.typed,
          )

  -- effects are alike
  module _ (size : length vars ≡ length others) (a word : ℕ) (known : a < action_count t) (plain : action_kind t a ≡ plain_kind) where
    effects_alike : (n : ℕ) → n ≤ effect_count t a
        → Alike (variable_count t) (effects_below t a (unchanged vars word) n) (effects_below t a (unchanged others word) n)
    unfolding effects_below
    effects_alike zero l = record { fits = refl; word = refl; size = size; vars = same }
    effects_alike (suc n) l =
        let expression = (((sound.action a known).plain plain).effect n (omega arith)).expression in
        let before = effects_alike n (omega arith) in
        let r = effects_below t a (unchanged vars word) n in
        let s = effects_below t a (unchanged others word) n in
        next_alike (variable_count t) r s before (effect_var t a n) (effect_items t a n)
        (typed_agree r.vars s.vars before.vars (effect_items t a n) expression.kind r.word expression.typed
        ∙ ap (λ (w : ℕ). evaluation_of s.vars w (effect_items t a n)) before.word)

    pub effected_fits : (effected_of t a vars word).fits ≡ (effected_of t a others word).fits
    effected_fits = (effects_alike (effect_count t a) (omega arith)).fits

    pub effected_agree : Agree (variable_count t) (effected_of t a vars word).vars (effected_of t a others word).vars
    effected_agree = (effects_alike (effect_count t a) (omega arith)).vars

-- what is past the variables of the table is as it was
pub effected_past : (t : List ℕ) → Sound t → (vars : List Slot) (a word v : ℕ) → a < action_count t → action_kind t a ≡ plain_kind
    → variable_count t ≤ v
    → get_or (effected_of t a vars word).vars v blank ≡ get_or vars v blank
effected_past t sound vars a word v known plain h =
    effects_other t a (unchanged vars word) (effect_count t a) v
    (λ e l q. omega (arith, (((sound.action a known).plain plain).effect e l).var))

-- ---- what a receive takes
taken_same :
    (t : List ℕ) (n : ℕ) (vars others : List Slot) → Agree n vars others → length vars ≡ length others → (a : ℕ) (m : Message) (k : ℕ)
    → Agree n (taken_below t a m vars k) (taken_below t a m others k)
unfolding taken_below
taken_same t n vars others same size a m zero = same
taken_same t n vars others same size a m (suc k) =
    set_agree n (taken_below t a m vars k) (taken_below t a m others k)
    (taken_length t a m vars k ∙ size ∙ sym (taken_length t a m others k)) (taken_same t n vars others same size a m k) (effect_var t a k)
    (get_or m.values k blank)

pub taken_agree :
    (t : List ℕ) (vars others : List Slot) → Agree (variable_count t) vars others → length vars ≡ length others → (a : ℕ) (m : Message)
    → Agree (variable_count t) (taken_of t a m vars) (taken_of t a m others)
taken_agree t vars others same size a m = taken_same t (variable_count t) vars others same size a m (effect_count t a)

pub taken_past :
    (t : List ℕ) → Sound t → (vars : List Slot) (a v : ℕ) (m : Message) → a < action_count t → action_kind t a ≡ receive_kind
    → variable_count t ≤ v
    → get_or (taken_of t a m vars) v blank ≡ get_or vars v blank
taken_past t sound vars a v m known receive h =
    taken_kept t a m vars (effect_count t a) v (λ e l q. omega (arith, ((sound.action a known).receive receive).var e l))

-- ---- Places that are the same for n processes: those past them are not read.
module _ (t xs ys : List ℕ) (n : ℕ) (same : (p : ℕ) → p < n → get_or xs p 0 ≡ get_or ys p 0) where
  pub ready_places : (vars : List Slot) (clocks after : List ℕ) (action : ℕ) (posts : List ℕ)
      → ready_of t vars clocks after xs n action posts ≡ ready_of t vars clocks after ys n action posts
  unfolding ready_of process_ready
  ready_places vars clocks after action posts =
      all_same_lem _ _ n
      (λ p l. ap (λ (x : ℕ). any_below (transition_count t) (leads_of t vars clocks after x action (get_or posts p 0))) (same p l))

  pub hold_places : (clocks : List ℕ) → all_below n (place_holds t xs clocks) ≡ all_below n (place_holds t ys clocks)
  unfolding place_holds
  hold_places clocks = all_same_lem _ _ n (λ p l. ap (invariants_hold t clocks) (same p l))
