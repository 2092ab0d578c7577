-- A reset that is added counts from then on: no later building call takes it away.
use Rattle.graph_tables.specs.Answers.{Answer}
use Rattle.std.specs.Prelude.{⊤}
use Prim.Native.Nat.{ℕ, zero, suc, ◌<◌}
use mathlib.Core.Path.{◌≡◌, sym, ap, subst}
use mathlib.Core.Logic.{◌≢◌, inl, inr, ⊎_elim}
use mathlib.Core.Bool.{true, not}
use mathlib.Core.List.{List}
use native.Mathlib.Nat.{not-suc-le-zero}
use native.Mathlib.Omega.{arith}
use borrow.Author.Tests.{eqb-true, eq-eqb, ne_eqb}
use lib.Dec.{eqb}
use Rattle.laws.proofs.BelowLaws.{and_rest, and_both}
use Rattle.graph_tables.specs.Words.{action_count, reset_count, reset_at, epsilon}
use Rattle.graph_tables.specs.Formed.{well_formed}
use Rattle.graph_tables.specs.Sound.{Sound}
use Rattle.graph_tables.proofs.NumberLaws.{above_ok}
use Rattle.graph_tables.proofs.SoundLaws.{sound}
use Rattle.graph_tables.proofs.KeptLaws.{Formed, apart}
use Rattle.graph_edits.specs.Edits.{with_reset}
use Rattle.graph_edits.specs.Lists.{list_of, resets_of, action_at}
use Rattle.graph_edits.proofs.ListLaws.{resets_list}
use Rattle.graph_checks.specs.Checks.{reset_check}
use Rattle.graph_checks.proofs.ReadyActions.{reset_ready}
use Rattle.graph_builder.specs.Building.{Outcome, add_reset_of}
use Rattle.graph_builder.specs.Chains.{Call, add_reset, after, Fits}
use Rattle.graph_builder.specs.Reading.{graph_of}
use Rattle.graph_builder.proofs.BuildingLaws.{done_if_lem}
use Rattle.graph_builder.proofs.KeptParts.{Has, put_has, resets_in, resets_in_lem, Kept, resets_kept}
use Rattle.graph_builder.proofs.Theorems.{parts_stay, none_fewer, stays_formed}
use Rattle.run_steps.proofs.AnyLaws.{any_some, any_found}
use Rattle.program_graph.specs.RunChains.{is_accepted, reset_is, resets_clock}

-- ---- a number among rows
listed_has : (f : ℕ → ℕ) (n i c : ℕ) → i < n → f i ≡ c → Has c (list_of f n)
unfolding list_of
listed_has f zero i c l e = absurd (not-suc-le-zero l)
listed_has f (suc n) zero c l e = inl e
listed_has f (suc n) (suc i) c l e = inr (listed_has (λ (j : ℕ). f (suc j)) n i c (omega arith) e)

has_listed : (f : ℕ → ℕ) (n c : ℕ) → Has c (list_of f n) → (i : ℕ) × (i < n) × (f i ≡ c)
unfolding list_of
has_listed f zero c h = absurd h
has_listed f (suc n) c h =
    ⊎_elim (λ e. (zero, omega arith, e)) (λ k. let r = has_listed (λ (j : ℕ). f (suc j)) n c k in (suc r.0, omega (arith, r.1), r.2)) h

-- ---- the resets of an action
resets_has : (t : List ℕ) (a c : ℕ) → resets_clock t a c ≡ true → Has c (resets_of t a)
unfolding resets_clock reset_is
resets_has t a c r =
    let s = any_some (reset_is t a c) (reset_count t a) (and_rest (not (eqb a epsilon)) _ r) in
    listed_has (reset_at t a) (reset_count t a) s.0 c s.1 (eqb-true _ _ s.2)

has_resets : (t : List ℕ) (a c : ℕ) → a ≢ epsilon → Has c (resets_of t a) → resets_clock t a c ≡ true
unfolding resets_clock reset_is
has_resets t a c n h =
    let s = has_listed (reset_at t a) (reset_count t a) c h in
    and_both (ap not (ne_eqb a epsilon n)) (any_found (reset_is t a c) (reset_count t a) s.0 s.1 (eq-eqb _ _ s.2))

module _ (t : List ℕ) (a c : ℕ) (formed : well_formed t true ≡ true) where
  f : Formed t
  f = apart t true formed

  not_epsilon : a < action_count t → a ≢ epsilon
  not_epsilon l e = omega (arith, f.counts.actions)

  -- What an action resets it resets after every building call.
  pub reset_kept : (call : Call) → Fits call → a < action_count t → resets_clock t a c ≡ true → resets_clock (after t call) a c ≡ true
  reset_kept call fit l r = has_resets u a c (not_epsilon l) (subst (Has c) (resets_in_lem u a (now.action a known)) there)
    where
      u : List ℕ
      u = after t call

      k : Kept (graph_of t) (graph_of u)
      k = parts_stay t call fit

      now : Sound u
      now = sound u true (stays_formed t call fit formed)

      known : a < action_count u
      known = omega (arith, l, none_fewer t call fit)

      here : Has c (resets_in (action_at t a))
      here = subst (Has c) (sym (resets_in_lem t a ((sound t true formed).action a l))) (resets_has t a c r)

      there : Has c (resets_in (action_at u a))
      there = resets_kept t u k a l c here

  -- An accepted reset is one of its action's.
  pub reset_added : is_accepted (add_reset_of t a c).answer ≡ true → (a < action_count t) × (resets_clock (after t (add_reset a c)) a c ≡ true)
  unfolding add_reset_of
  reset_added =
      done_if_lem (λ (o : Outcome (Answer ⊤)). is_accepted o.answer ≡ true → (a < action_count t) × (resets_clock o.table a c ≡ true))
      (reset_check t a c) t (with_reset t a c)
      (λ r q. absurd (above_ok r (eqb-true _ _ q)))
      (λ e q.
      let r = reset_ready t a c e in
      let l : a < action_count t = r.action.0 in (
        l,
        has_resets (with_reset t a c) a c (not_epsilon l)
            (subst (Has c) (sym (resets_list t a c f.words (omega (arith, l, f.counts.actions)) r.room)) (put_has c (resets_of t a))),
      ))
