-- What was in a table is in it after an edit, as lists, and how each list of parts grows.
use Prim.Native.Nat.{ℕ, ◌+◌, ◌<◌, ◌≤◌}
use mathlib.Core.Path.{◌≡◌, refl, sym, subst, ◌∙◌}
use mathlib.Core.Logic.{◌≢◌}
use mathlib.Core.Bool.{Bool, true, false, cond}
use mathlib.Core.List.{List, [], ◌∷◌, ◌++◌}
use native.Mathlib.Nat.{add-zero}
use native.Mathlib.Omega.{arith}
use borrow.Author.Tests.{eqb-true, eqb-false, ne_eqb}
use lib.Dec.{eqb}
use lib.ListN.{get_or, set, length-set}
use lib.Seq.{get_or-set_same, get_or-set_other}
use Rattle.graph_tables.specs.Layout.{variables_cell, locations_cell, actions_cell, processes_cell, transitions_cell, kinds_start, resets_from}
use Rattle.graph_tables.specs.Layout.{vars_from, lengths_from, kind_cell, value_cell, action_row, effect_slot}
use Rattle.graph_tables.specs.Sizes.{action_room, effect_room, reset_room, item_room, plain_kind, send_kind, receive_kind}
use Rattle.graph_tables.specs.Words.{Words, variable_count, location_count, action_count, process_count, transition_count, place_at}
use Rattle.graph_tables.specs.Words.{invariant_count, action_kind, reset_count, effect_count, reset_at, effect_var, effect_length, effect_items}
use Rattle.graph_tables.specs.Words.{invariant_group}
use Rattle.graph_tables.specs.Sound.{Sound}
use Rattle.graph_tables.proofs.SoundLaws.{sound}
use Rattle.graph_tables.proofs.KeptLaws.{Formed, together, ItemsKept, items_moved}
use Rattle.graph_edits.specs.Lists.{changed_at, variable_at, variables_of, places_of, invariants_of, locations_of, resets_of, effect_at}
use Rattle.graph_edits.specs.Lists.{effects_of, expressions_of, targets_of, StoredAction, plain, send, receive, action_at, actions_of}
use Rattle.graph_edits.specs.Lists.{transition_of, transitions_of}
use Rattle.graph_edits.proofs.LimitLaws.{sides}
use Rattle.graph_edits.proofs.GrownFormed.{LocationStands, ActionStands, TransitionStands, Around, front, stands, transition_stands}
use Rattle.graph_edits.proofs.SpareFormed.{Spare, Agrees}
use Rattle.graph_edits.proofs.ListLaws.{list_same, list_grown, list_changed, group_list, transition_same_lem}

-- ---- u has the parts of t under their numbers
-- no number
abbrev pub none : ℕ → Bool
none i = false

-- one part more for each count that grows; all others are as they were, but for actions that are changed
pub record Kept (grows changed : ℕ → Bool) (t u : List ℕ) : Type 0 where
  pub counts : (c : ℕ) → c < kinds_start → get_or u c 0 ≡ cond (grows c) (get_or t c 0 + 1) (get_or t c 0)
  pub variables : (v : ℕ) → v < variable_count t → variable_at u v ≡ variable_at t v
  pub locations : (l : ℕ) → l < location_count t → invariants_of u l ≡ invariants_of t l
  pub places : (p : ℕ) → p < process_count t → place_at u p ≡ place_at t p
  pub actions : (a : ℕ) → a < action_count t → changed a ≡ false → action_at u a ≡ action_at t a
  pub transitions : grows transitions_cell ≡ false → transitions_of u ≡ transitions_of t

-- so each list is as it was, or has one part more at its end
abbrev pub perhaps : {A : Type 0} → Bool → List A → A → List A
perhaps more xs x = cond more (xs ++ (x ∷ [])) xs

module _ (grows changed : ℕ → Bool) (t u : List ℕ) (k : Kept grows changed t u) where
  pub variables_read : variables_of u ≡ perhaps (grows variables_cell) (variables_of t) (variable_at u (variable_count t))
  variables_read = list_grown (variable_at t) (variable_at u) _ _ (grows variables_cell) (k.counts variables_cell (omega arith)) k.variables

  pub locations_read : locations_of u ≡ perhaps (grows locations_cell) (locations_of t) (invariants_of u (location_count t))
  locations_read =
      list_grown (invariants_of t) (invariants_of u) _ _ (grows locations_cell) (k.counts locations_cell (omega arith)) k.locations

  pub places_read : places_of u ≡ perhaps (grows processes_cell) (places_of t) (place_at u (process_count t))
  places_read = list_grown (place_at t) (place_at u) _ _ (grows processes_cell) (k.counts processes_cell (omega arith)) k.places

  pub actions_read : ((a : ℕ) → changed a ≡ false) → actions_of u ≡ perhaps (grows actions_cell) (actions_of t) (action_at u (action_count t))
  actions_read still =
      list_grown (action_at t) (action_at u) _ _ (grows actions_cell) (k.counts actions_cell (omega arith)) (λ a l. k.actions a l (still a))

-- action a alone is changed
pub actions_changed : (t u : List ℕ) (a : ℕ) (f : StoredAction → StoredAction) → Kept none (eqb a) t u
    → a < action_count t → action_at u a ≡ f (action_at t a) → actions_of u ≡ changed_at a f (actions_of t)
actions_changed t u a f k known here =
    rw (k.counts actions_cell (omega arith))
    (list_changed (action_at t) (action_at u) (action_count t) a f known (λ b l other. k.actions b l (apart b other)) here)
  where
    apart : (b : ℕ) → b ≢ a → eqb a b ≡ false
    apart b other = ne_eqb a b (λ e. other (sym e))

-- ---- an action, by its kind
module _ (t : List ℕ) (a : ℕ) where
  pub plain_at : action_kind t a ≡ plain_kind → action_at t a ≡ plain (resets_of t a) (effects_of t a)
  unfolding action_at
  plain_at k = rw k

  pub send_at_lem : action_kind t a ≡ send_kind → action_at t a ≡ send (expressions_of t a)
  unfolding action_at
  send_at_lem k = rw k

  pub receive_at_lem : action_kind t a ≡ receive_kind → action_at t a ≡ receive (targets_of t a)
  unfolding action_at
  receive_at_lem k = rw k

-- it has the same effects, or the same message
pub record EffectsKept (t u : List ℕ) (a : ℕ) : Type 0 where
  pub of_plain : action_kind t a ≡ plain_kind → effects_of u a ≡ effects_of t a
  pub of_send : action_kind t a ≡ send_kind → expressions_of u a ≡ expressions_of t a
  pub of_receive : action_kind t a ≡ receive_kind → targets_of u a ≡ targets_of t a

-- ---- parts of t that stand in u are the same lists there
module _ (t u : List ℕ) (f : Formed t) (words : Words u) where
  pub was : Sound t
  was = sound t true (together t f)

  pub invariants_same : (l : ℕ) → l < location_count t → LocationStands t u l → invariants_of u l ≡ invariants_of t l
  invariants_same l known s =
      rw s.count (group_list t u (invariant_group l) (invariant_group l) (invariant_count t l) s.group (was.invariants l known).few)

  pub resets_same : (a : ℕ) → a < action_count t → reset_count u a ≡ reset_count t a
      → ((i : ℕ) → i < reset_room → reset_at u a i ≡ reset_at t a i)
      → resets_of u a ≡ resets_of t a
  resets_same a known count each =
      let few : reset_count t a ≤ reset_room = (was.action a known).resets.few in
      rw count (list_same (reset_at t a) (reset_at u a) (reset_count t a) (λ i l. each i (omega arith)))

  pub effects_same : (a : ℕ) → a < action_count t → effect_count u a ≡ effect_count t a
      → ((e : ℕ) → e < effect_room → (effect_var u a e ≡ effect_var t a e) × (effect_length u a e ≡ effect_length t a e) × ItemsKept t u a e)
      → EffectsKept t u a
  effects_same a known count each = record {
    of_plain = λ k.
        rw count
        (list_same (effect_at t a) (effect_at u a) n
        (λ e l. rw (vars e l, items e l (((was.action a known).plain k).effect e l).expression.short)));
    of_send = λ k.
        rw count (list_same (effect_items t a) (effect_items u a) n (λ e l. items e l (((was.action a known).send k).expression e l).short));
    of_receive = λ k. rw count (list_same (effect_var t a) (effect_var u a) n vars);
  }
    where
      n : ℕ
      n = effect_count t a

      few : n ≤ effect_room
      few = (was.action a known).few

      vars : (e : ℕ) → e < n → effect_var u a e ≡ effect_var t a e
      vars e l = (each e (omega (arith, few))).0

      items : (e : ℕ) → e < n → effect_length t a e ≤ item_room → effect_items u a e ≡ effect_items t a e
      items e l short =
          let at = effect_slot a e in
          let same = each e (omega (arith, few)) in
          rw same.1 (items_moved t u at at item_room (effect_length t a e) short (omega (arith, few)) (omega (arith, few)) same.2)

  pub transitions_same : transition_count u ≡ transition_count t → ((k : ℕ) → k < transition_count t → TransitionStands t u k)
      → transitions_of u ≡ transitions_of t
  transitions_same count each =
      rw count
      (list_same (transition_of t) (transition_of u) (transition_count t)
      (λ k l. transition_same_lem t u k k f words l (omega arith) (each k l).row (each k l).group (each k l).guard))

  action_same : (a : ℕ) → a < action_count t → action_kind u a ≡ action_kind t a → resets_of u a ≡ resets_of t a → EffectsKept t u a
      → action_at u a ≡ action_at t a
  action_same a known kind resets effects =
      by_kind (action_kind t a) (was.action a known).kind
      (λ k. plain_at u a (kind ∙ k) ∙ rw (resets, effects.of_plain k) (sym (plain_at t a k)))
      (λ k. send_at_lem u a (kind ∙ k) ∙ rw (effects.of_send k) (sym (send_at_lem t a k)))
      (λ k. receive_at_lem u a (kind ∙ k) ∙ rw (effects.of_receive k) (sym (receive_at_lem t a k)))
    where
      by_kind : {A : Type 0} (n : ℕ) → n ≤ receive_kind → (n ≡ plain_kind → A) → (n ≡ send_kind → A) → (n ≡ receive_kind → A) → A
      by_kind n few p s r = sides n send_kind (λ m. p (omega arith)) s (λ m. r (omega arith))

  -- a whole action
  pub action_stays : (a : ℕ) → a < action_count t → ActionStands t u a → action_at u a ≡ action_at t a
  action_stays a known s =
      action_same a known (simp add-zero at (s.row 0 (omega arith)))
      (resets_same a known (s.row 1 (omega arith)) (λ i l. s.row (resets_from + i) (omega arith)))
      (effects_same a known (s.row 2 (omega arith))
      (λ e l. (s.row (vars_from + e) (omega arith), s.row (lengths_from + e) (omega arith), s.items e l)))

-- ---- u has the words of t that are not spare, and counts that may have grown
module _ (grows : ℕ → Bool) (t u : List ℕ) (f : Formed t) (words : Words u)
    (counts : (c : ℕ) → c < kinds_start → get_or u c 0 ≡ cond (grows c) (get_or t c 0 + 1) (get_or t c 0))
    (same : (j : ℕ) → transitions_cell ≤ j → (Spare t j → ⊥) → get_or u j 0 ≡ get_or t j 0) where
  pub same_kept : Kept grows none t u
  same_kept = record {
    counts = counts;
    variables = λ v l.
        rw (same (kind_cell v) (omega arith) (λ s. s.kinds v l refl), same (value_cell v) (omega arith) (λ s. s.values v l refl));
    locations = λ l m. invariants_same t u f words l m (record {
      count = same _ (omega arith) (λ s. s.invariants l m refl);
      group = λ j n. same _ (omega arith) (λ s. s.groups l j m n refl);
    });
    places = λ p l. same _ (omega arith) (λ s. s.places p l refl);
    actions = λ a l still. action_stays t u f words a l (record {
      row = λ j m. same _ (omega arith) (λ s. s.actions a j l m refl);
      items = λ e n j m. same _ (omega arith) (λ s. s.items a e j l n m refl);
    });
    transitions = λ still. transitions_same t u f words (same transitions_cell (omega arith) (λ s. omega arith)) (λ k l. record {
      row = λ j m. same _ (omega arith) (λ s. s.transitions k j l m refl);
      group = λ j m. same _ (omega arith) (λ s. s.limits k j l m refl);
      guard = λ j m. same _ (omega arith) (λ s. s.guards k j l m refl);
    });
  }

-- ---- w has the words of t that are not spare, and u is w with one of its counts raised
module _ (t w : List ℕ) (c : ℕ) (f : Formed t) (known : c < transitions_cell) (whole : Words w) (agrees : Agrees t w) where
  abbrev raised : List ℕ
  raised = set w c (get_or t c 0 + 1)

  raised_counts : (i : ℕ) → i < kinds_start → get_or raised i 0 ≡ cond (eqb c i) (get_or t i 0 + 1) (get_or t i 0)
  raised_counts i l = by (eqb c i) refl
    where
      by : (b : Bool) → eqb c i ≡ b → get_or raised i 0 ≡ cond b (get_or t i 0 + 1) (get_or t i 0)
      by true e =
          subst (λ (j : ℕ). get_or raised j 0 ≡ get_or t j 0 + 1) (eqb-true c i e) (get_or-set_same w c (get_or t c 0 + 1) 0 (omega arith))
      by false e = get_or-set_other w c i (get_or t c 0 + 1) 0 (λ q. eqb-false c i e (sym q)) ∙ agrees i (λ s. omega arith)

  pub raised_kept : Kept (eqb c) none t raised
  raised_kept =
      same_kept (eqb c) t raised f (length-set w c (get_or t c 0 + 1) ∙ whole) raised_counts
      (λ j l used. get_or-set_other w c j (get_or t c 0 + 1) 0 (omega arith) ∙ agrees j used)

-- ---- u has t's words but for those of action a
pub around_kept : (t u : List ℕ) (a : ℕ) → a < action_room → Formed t → Around t u a → action_count u ≡ action_count t → Kept none (eqb a) t u
around_kept t u a low f around count = record {
  counts = λ c l.
      sides c actions_cell (λ m. front t u a low f around c (omega arith)) (λ e. rw e count) (λ m. front t u a low f around c (omega arith));
  variables = λ v l. rw (front t u a low f around (kind_cell v) (omega arith), (stands t u a low f around).values v l);
  locations = λ l m. invariants_same t u f around.words l m ((stands t u a low f around).locations l m);
  places = (stands t u a low f around).places;
  actions = λ b l other. action_stays t u f around.words b l (stay b l (λ e. eqb-false a b other (sym e)));
  transitions = λ still.
      transitions_same t u f around.words (front t u a low f around transitions_cell (omega arith))
      (transition_stands t u a low f around);
}
  where
    stay : (b : ℕ) → b < action_count t → b ≢ a → ActionStands t u b
    stay b l out = record {
      row = λ j h. around.row (action_row b + j) (omega arith) (omega arith) (omega arith);
      items = λ e h. around.items b e (omega arith) out;
    }
