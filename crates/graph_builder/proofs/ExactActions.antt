-- The calls of a well-formed table's actions make them, with their resets and effects, or their messages.
use Prim.Native.Nat.{ℕ, zero, suc, ◌+◌, ◌<◌, ◌≤◌}
use mathlib.Core.Path.{◌≡◌, refl, sym, ap, subst, ◌∙◌}
use mathlib.Core.Bool.{Bool, true, false, cond}
use mathlib.Core.List.{List, [], ◌∷◌, ◌++◌}
use native.Mathlib.Omega.{arith}
use lib.Dec.{eqb}
use borrow.Author.Tests.{eqb-true}
use Rattle.laws.specs.Below.{sum_below}
use Rattle.laws.proofs.BelowLaws.{sum_same}
use Rattle.grammar.specs.Slots.{val_of, kind_in}
use Rattle.grammar.specs.Draws.{draws_of}
use Rattle.grammar.specs.Typing.{type_of}
use Rattle.graph_tables.specs.Layout.{kinds_start}
use Rattle.graph_tables.specs.Sizes.{action_room, draw_room, plain_kind, send_kind, receive_kind}
use Rattle.graph_tables.specs.Words.{variable_count, clock_count, action_count, kind_at, kinds_of, value_at, action_kind, reset_count, effect_count}
use Rattle.graph_tables.specs.Words.{reset_at, effect_var, effect_items}
use Rattle.graph_tables.specs.Formed.{well_formed, effect_draws}
use Rattle.graph_tables.specs.Sound.{Sound, SendSound}
use Rattle.graph_tables.proofs.SoundLaws.{sound}
use Rattle.graph_edits.specs.Lists.{list_of, changed_at, variable_at, variables_of, resets_of, StoredEffect, effect_at, effects_of}
use Rattle.graph_edits.specs.Lists.{expressions_of, targets_of, StoredAction, plain, send, receive, action_at, actions_of}
use Rattle.graph_edits.proofs.LimitLaws.{sides}
use Rattle.graph_edits.proofs.ListLaws.{list_same, list_length}
use Rattle.graph_edits.proofs.PartsKept.{plain_at, send_at_lem, receive_at_lem}
use Rattle.graph_edits.proofs.ReadLaws.{moved_items}
use Rattle.graph_checks.specs.Checks.{message_draws}
use Rattle.graph_builder.specs.Reading.{Graph, graph_of, with_clock_reset, with_assignment}
use Rattle.graph_builder.specs.Chains.{new_action, add_reset, add_effect, new_send, new_receive, answer_of}
use Rattle.graph_builder.specs.Built.{each_of, vars_back, message_back, reset_calls, effect_calls, plain_calls, action_calls}
use Rattle.graph_builder.proofs.ExactLaws.{list_last, same_count, same_row, insert_next, last_row, change_last, ascending}
use Rattle.graph_builder.proofs.ExactLaws.{Makes, makes_one, makes_both, makes_each}
use Rattle.graph_builder.proofs.ExactChecks.{action_ok, reset_ok, effect_ok, send_ok, receive_ok}
use Rattle.graph_builder.proofs.ExactHanded.{expression_back, var_back_lem, vars_back_lem}
use Rattle.graph_builder.proofs.ExactParts.{actions_first, some_actions, variable_count_lem}

-- ---- tables with the same variables
kind_back : (k p : ℕ) → k < 2 → kind_in (val_of k p) ≡ k
unfolding val_of
kind_back zero p l = refl
kind_back (suc zero) p l = refl
kind_back (suc (suc k)) p l = absurd (omega arith)

module _ (t u : List ℕ) (s : Sound t) (r : Sound u) (e : variables_of u ≡ variables_of t) where
  pub same_variables : variable_count u ≡ variable_count t
  same_variables = variable_count_lem u (variable_at t) (variable_count t) e

  -- have the same kinds
  pub same_kind_lem : (v : ℕ) → v < variable_count t → kind_at u v ≡ kind_at t v
  same_kind_lem v l =
      let m : v < variable_count u = omega (arith, same_variables) in
      sym (kind_back (kind_at u v) (value_at u v) (r.variable v m).kind)
      ∙ ap kind_in (same_row (variable_at u) (variable_at t) _ _ e v m)
      ∙ kind_back (kind_at t v) (value_at t v) (s.variable v l).kind

  pub same_kinds : kinds_of u ≡ kinds_of t
  same_kinds =
      rw same_variables
      (moved_items t u kinds_start kinds_start (variable_count t) (variable_count t) (omega arith)
      (omega (arith, s.words, s.counts.variables)) (omega (arith, r.words, s.counts.variables)) same_kind_lem)

-- ---- an action that reads as a plain one
plain_parts : (u : List ℕ) (a : ℕ) (resets : List ℕ) (effects : List StoredEffect) → action_at u a ≡ plain resets effects
    → (action_kind u a ≡ plain_kind) × (resets_of u a ≡ resets) × (effects_of u a ≡ effects)
unfolding action_at
plain_parts u a resets effects h = by (eqb (action_kind u a) plain_kind) refl (eqb (action_kind u a) send_kind) h
  where
    by : (x : Bool) → eqb (action_kind u a) plain_kind ≡ x → (y : Bool)
        → cond x (plain (resets_of u a) (effects_of u a)) (cond y (send (expressions_of u a)) (receive (targets_of u a))) ≡ plain resets effects
        → (action_kind u a ≡ plain_kind) × (resets_of u a ≡ resets) × (effects_of u a ≡ effects)
    by true k y h = (eqb-true _ _ k, cc, cc)
    by false k true h = let z : ◌≡◌ {A = ℕ} 0 1 = cc in absurd (omega arith)
    by false k false h = let z : ◌≡◌ {A = ℕ} 0 1 = cc in absurd (omega arith)

-- a sum of fewer is no greater
sum_fewer : (f : ℕ → ℕ) (n m : ℕ) → n < m → sum_below n f + f n ≤ sum_below m f
unfolding sum_below
sum_fewer f n zero l = absurd (omega arith)
sum_fewer f n (suc m) l =
    sides n m (λ q. omega (arith, sum_fewer f n m q)) (λ e. rw e (omega arith)) (λ q. absurd (omega arith))

module _ (t : List ℕ) (s : Sound t) (a : ℕ) (known : a < action_count t) where
  low : a < action_room
  low = omega (arith, s.counts.actions)

  -- the actions before a, and a plain one with these resets and effects behind them
  abbrev begun : List ℕ → List StoredEffect → List StoredAction
  begun resets effects = list_of (action_at t) a ++ (plain resets effects ∷ [])

  -- a table that reads so
  pub record Begun (u resets : List ℕ) (effects : List StoredEffect) : Type 0 where
    pub kind : action_kind u a ≡ plain_kind
    pub there : a < action_count u
    pub resets_are : resets_of u a ≡ resets
    pub effects_are : effects_of u a ≡ effects

  is_begun : (u resets : List ℕ) (effects : List StoredEffect) → graph_of u ≡ actions_first t (begun resets effects) → Begun u resets effects
  is_begun u resets effects e =
      let all : actions_of u ≡ begun resets effects = ap (λ (g : Graph). g.actions) e in
      let row = last_row (action_at u) (action_count u) a (list_of (action_at t) a) (plain resets effects) all (list_length (action_at t) a) in
      let is = plain_parts u a resets effects row.1 in
      record { kind = is.0; there = omega (arith, row.0); resets_are = is.1; effects_are = is.2 }

  -- a call that changes it
  changed : (f : StoredAction → StoredAction) (resets : List ℕ) (effects : List StoredEffect)
      → changed_at a f (begun resets effects) ≡ list_of (action_at t) a ++ (f (plain resets effects) ∷ [])
  changed f resets effects = change_last f (list_of (action_at t) a) (plain resets effects) a (list_length (action_at t) a)

  -- a new action stands behind the others
  finished : (x : StoredAction) → action_at t a ≡ x → actions_first t (list_of (action_at t) a ++ (x ∷ [])) ≡ some_actions t (suc a)
  finished x e =
      ap (λ (y : StoredAction). actions_first t (list_of (action_at t) a ++ (y ∷ []))) (sym e)
      ∙ ap (actions_first t) (sym (list_last (action_at t) a))

  -- where it is to stand there is room
  free : (u : List ℕ) → graph_of u ≡ some_actions t a → action_count u < action_room
  free u e =
      let count : action_count u ≡ a = same_count (action_at u) (action_at t) (action_count u) a (ap (λ (g : Graph). g.actions) e) in
      omega (arith, low)

  -- ---- resets
  makes_resets : action_kind t a ≡ plain_kind
      → Makes (each_of (reset_calls t a) (reset_count t a)) (actions_first t (begun (list_of (reset_at t a) 0) []))
      (actions_first t (begun (resets_of t a) []))
  makes_resets kind =
      let so = (s.action a known).resets in
      makes_each (reset_calls t a) (λ (i : ℕ). actions_first t (begun (list_of (reset_at t a) i) [])) (reset_count t a)
      (λ i l.
      makes_one (add_reset a (reset_at t a i)) _ _ tt
      (λ u f e.
      let b = is_begun u (list_of (reset_at t a) i) [] e in
      let clocks : clock_count u ≡ clock_count t = ap (λ (g : Graph). g.clocks) e in
      let count : reset_count u a ≡ i = same_count (reset_at u a) (reset_at t a) (reset_count u a) i b.resets_are in
      reset_ok u f a (reset_at t a i) low (omega (arith, so.clock i l)) b.there b.kind (omega (arith, so.few)))
      (ap (actions_first t) (changed (with_clock_reset (reset_at t a i)) (list_of (reset_at t a) i) [])
      ∙ ap (λ (resets : List ℕ). actions_first t (begun resets []))
      (insert_next (λ (c : ℕ). c) (reset_at t a) i
      (λ j q. ascending (reset_at t a) (reset_count t a) so.ordered j i (omega arith) l))))

  -- ---- effects
  -- there is room for the draws of effect i among those before it
  draws_fit : action_kind t a ≡ plain_kind → (i : ℕ) → i < effect_count t a → (u : List ℕ) → effects_of u a ≡ list_of (effect_at t a) i
      → sum_below (effect_count u a) (effect_draws u a) + draws_of (effect_items t a i) ≤ draw_room
  unfolding effect_draws
  draws_fit kind i l u e =
      let count : effect_count u a ≡ i = same_count (effect_at u a) (effect_at t a) (effect_count u a) i e in
      let same : sum_below (effect_count u a) (effect_draws u a) ≡ sum_below (effect_count u a) (effect_draws t a) =
      sum_same (effect_draws u a) (effect_draws t a) (effect_count u a)
      (λ j q. ap (λ (x : StoredEffect). draws_of x.items) (same_row (effect_at u a) (effect_at t a) _ _ e j q))
      in
      let up : sum_below (effect_count u a) (effect_draws t a) ≡ sum_below i (effect_draws t a) =
      ap (λ (n : ℕ). sum_below n (effect_draws t a)) count
      in
      omega (arith, same, up, sum_fewer (effect_draws t a) i (effect_count t a) l, ((s.action a known).plain kind).draws)

  effect_accepted : action_kind t a ≡ plain_kind → (i : ℕ) → i < effect_count t a → (u : List ℕ) → well_formed u true ≡ true
      → graph_of u ≡ actions_first t (begun (resets_of t a) (list_of (effect_at t a) i))
      → answer_of u (add_effect a (effect_var t a i) (effect_items t a i)) ≡ 0
  effect_accepted kind i l u f e =
      let b = is_begun u (resets_of t a) (list_of (effect_at t a) i) e in
      let vars : variables_of u ≡ variables_of t = ap (λ (g : Graph). g.variables) e in
      let x = ((s.action a known).plain kind).effect i l in
      let r = sound u true f in
      let count : effect_count u a ≡ i = same_count (effect_at u a) (effect_at t a) (effect_count u a) i b.effects_are in
      effect_ok u f a (effect_var t a i) (effect_items t a i) x.expression.kind low b.there b.kind
      (omega (arith, (s.action a known).few))
      (omega (arith, x.var, same_variables t u s r vars))
      (ap (λ (kinds : List ℕ). type_of kinds (effect_items t a i)) (same_kinds t u s r vars) ∙ x.expression.typed)
      (x.same ∙ sym (same_kind_lem t u s r vars (effect_var t a i) x.var))
      (draws_fit kind i l u b.effects_are)

  makes_effects : action_kind t a ≡ plain_kind
      → Makes (each_of (effect_calls t a) (effect_count t a)) (actions_first t (begun (resets_of t a) (list_of (effect_at t a) 0)))
      (actions_first t (begun (resets_of t a) (effects_of t a)))
  makes_effects kind =
      makes_each (effect_calls t a) (λ (i : ℕ). actions_first t (begun (resets_of t a) (list_of (effect_at t a) i))) (effect_count t a)
      (λ i l.
      makes_one (add_effect a (effect_var t a i) (effect_items t a i)) _ _ tt
      (effect_accepted kind i l)
      (ap (actions_first t) (changed (with_assignment (effect_var t a i) (effect_items t a i)) (resets_of t a) (list_of (effect_at t a) i))
      ∙ ap (λ (effects : List StoredEffect). actions_first t (begun (resets_of t a) effects)) (sym (list_last (effect_at t a) i))))

  -- ---- a whole action, by its kind
  makes_plain : action_kind t a ≡ plain_kind → Makes (plain_calls t a) (some_actions t a) (some_actions t (suc a))
  unfolding list_of
  makes_plain kind =
      makes_both (new_action ∷ []) (each_of (reset_calls t a) (reset_count t a) ++ each_of (effect_calls t a) (effect_count t a)) _
      (actions_first t (begun [] [])) _
      (makes_one new_action _ _ tt (λ u f e. action_ok u f (free u e)) refl)
      (subst (Makes (each_of (reset_calls t a) (reset_count t a) ++ each_of (effect_calls t a) (effect_count t a)) (actions_first t (begun [] [])))
      (finished (plain (resets_of t a) (effects_of t a)) (plain_at t a kind))
      (makes_both (each_of (reset_calls t a) (reset_count t a)) (each_of (effect_calls t a) (effect_count t a)) _
      (actions_first t (begun (resets_of t a) [])) _
      (makes_resets kind) (makes_effects kind)))

  makes_send : action_kind t a ≡ send_kind
      → Makes (new_send (message_back t a) (effect_count t a) ∷ []) (some_actions t a) (some_actions t (suc a))
  unfolding message_draws effect_draws
  makes_send kind =
      makes_one (new_send (message_back t a) (effect_count t a)) _ _ tt
      (λ u f e.
      let vars : variables_of u ≡ variables_of t = ap (λ (g : Graph). g.variables) e in
      send_ok u f (message_back t a) (effect_count t a) (λ i l. (so.expression i l).kind) so.few
      (λ i l.
      ap (type_of (kinds_of u)) (back i l)
      ∙ ap (λ (kinds : List ℕ). type_of kinds (effect_items t a i)) (same_kinds t u s (sound u true f) vars) ∙ (so.expression i l).typed)
      (rw (sum_same (message_draws (message_back t a)) (effect_draws t a) (effect_count t a) (λ i l. ap draws_of (back i l))) so.draws)
      (free u e))
      (ap (λ (expressions : List (List ℕ)). actions_first t (list_of (action_at t) a ++ (send expressions ∷ [])))
      (list_same (effect_items t a) (message_back t a) (effect_count t a) back)
      ∙ finished (send (expressions_of t a)) (send_at_lem t a kind))
    where
      so : SendSound t a
      so = (s.action a known).send kind

      back : (i : ℕ) → i < effect_count t a → message_back t a i ≡ effect_items t a i
      back i l = expression_back t a i (omega (arith, so.few))

  makes_receive : action_kind t a ≡ receive_kind
      → Makes (new_receive (vars_back t a (effect_count t a)) ∷ []) (some_actions t a) (some_actions t (suc a))
  makes_receive kind =
      let so = (s.action a known).receive kind in
      makes_one (new_receive (vars_back t a (effect_count t a))) _ _ tt
      (λ u f e.
      let vars : variables_of u ≡ variables_of t = ap (λ (g : Graph). g.variables) e in
      receive_ok u f (vars_back t a (effect_count t a)) so.few
      (λ i l.
      omega (arith, so.var i l, var_back_lem t a (effect_count t a) so.few i l, same_variables t u s (sound u true f) vars)) (free u e))
      (ap (λ (vars : List ℕ). actions_first t (list_of (action_at t) a ++ (receive vars ∷ []))) (vars_back_lem t a (effect_count t a) so.few)
      ∙ finished (receive (targets_of t a)) (receive_at_lem t a kind))

  makes_action : Makes (action_calls t a) (some_actions t a) (some_actions t (suc a))
  unfolding action_calls
  makes_action =
      sides (action_kind t a) send_kind
      (λ m. let e : action_kind t a ≡ plain_kind = omega arith in rw e (makes_plain e))
      (λ e. rw e (makes_send e))
      (λ m. let e : action_kind t a ≡ receive_kind = omega (arith, (s.action a known).kind) in rw e (makes_receive e))

-- all actions
pub makes_actions : (t : List ℕ) → Sound t
    → Makes (each_of (action_calls t) (action_count t)) (some_actions t 0) (some_actions t (action_count t))
makes_actions t s = makes_each (action_calls t) (some_actions t) (action_count t) (makes_action t s)
