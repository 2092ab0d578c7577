-- A table that is well formed is sound: from the tests to the facts, part by part.
use Prim.Native.Nat.{ℕ, suc, ◌+◌, ◌≤◌, ◌<◌}
use mathlib.Core.Path.{◌≡◌, refl, ap, ◌∙◌}
use mathlib.Core.Bool.{Bool, true, false, cond}
use mathlib.Core.List.{List}
use native.Mathlib.Omega.{arith}
use native.Mathlib.Numerals.{add-one}
use borrow.Author.Tests.{ltb-true, leb-true, eqb-true, ne_eqb}
use lib.Dec.{eqb}
use Rattle.laws.proofs.BelowLaws.{and_first, and_rest, all_at}
use Rattle.laws.proofs.Tests.{never}
use Rattle.grammar.specs.Values.{kind_word}
use Rattle.grammar.specs.Draws.{draws_of}
use Rattle.grammar.specs.Typing.{type_of, is_typed, typed_as}
use Rattle.grammar.specs.declared.values.«Type».{«Type» as Kind}
use Rattle.grammar.specs.declared.typing.Typed.{Typed}
use Rattle.grammar.specs.declared.typing.Typed.TheVariants.{Known, IllTyped, TableFull, TooDeep}
use Rattle.graph_tables.specs.Sizes.{message_room, plain_kind, send_kind, receive_kind}
use Rattle.graph_tables.specs.Words.{action_count, process_count, transition_count, kind_at, kinds_of, value_at, place_at, action_kind}
use Rattle.graph_tables.specs.Words.{reset_count, effect_count, reset_at, effect_var, key_of, guard_length, clock_of, guard_items}
use Rattle.graph_tables.specs.Words.{effect_items, epsilon, invariant_group}
use Rattle.graph_tables.specs.Formed.{variable_formed, clock_before, limit_formed, limits_formed, location_formed, zero_inside}
use Rattle.graph_tables.specs.Formed.{process_formed, reset_before, reset_formed, resets_formed, effect_formed, plain_formed}
use Rattle.graph_tables.specs.Formed.{expression_formed, send_formed, target_formed, receive_formed, action_formed, action_known, key_formed}
use Rattle.graph_tables.specs.Formed.{key_before, guard_formed, transition_formed, parts_formed, started_of, well_formed}
use Rattle.graph_tables.specs.Sound.{VariableSound, LimitsSound, ProcessSound, ResetsSound, ExpressionSound, EffectSound, ActionSound}
use Rattle.graph_tables.specs.Sound.{GuardSound, TransitionSound, Sound}
use Rattle.graph_tables.proofs.FormedLaws.{few_limits, limits_fit, counted}

-- a choice that holds, by its test
pub by_test : {P : Type 0} (t a b : Bool) → cond t a b ≡ true → (t ≡ true → a ≡ true → P) → (t ≡ false → b ≡ true → P) → P
by_test true a b h first second = first refl h
by_test false a b h first second = second refl h

-- numbers of which each is at least the one before
in_order_lem : (f before : ℕ → ℕ) (n : ℕ) → ((i : ℕ) → before (suc i) ≡ f i) → ((i : ℕ) → i < n → before i ≤ f i) → (i : ℕ) → i + 1 < n
    → f i ≤ f (i + 1)
in_order_lem f before n same h i l =
    let e : before (suc i) ≤ f (suc i) = h (suc i) (omega arith) in
    let s : before (suc i) ≡ f i = same i in
    rw add-one (omega arith)

-- ---- variables
variable : (t : List ℕ) (v : ℕ) → variable_formed t v ≡ true → VariableSound t v
unfolding variable_formed
variable t v h =
    by_test (eqb (kind_at t v) 0) _ _ h
    (λ z b.
    let k : kind_at t v ≡ 0 = eqb-true _ _ z in
    let l : value_at t v < 2 = ltb-true _ _ b in
    record { kind = omega arith; fits = omega arith; truth = λ e. l })
    (λ z b.
    let k : kind_at t v ≡ 1 = eqb-true _ _ (and_first _ _ b) in
    record { kind = omega arith; fits = ltb-true _ _ (and_rest _ _ b); truth = λ e. absurd (omega arith) })

-- ---- limits, of a transition and of a location
limits : (t : List ℕ) (g n : ℕ) → limits_formed t g n ≡ true → LimitsSound t g n
unfolding limits_formed limit_formed
limits t g n h =
    let each : (i : ℕ) → i < n → limit_formed t g i ≡ true = λ i l. all_at (limit_formed t g) n i (and_rest _ _ h) l in
    record {
      few = few_limits t g n h;
      clock = λ i l. ltb-true _ _ (and_first _ _ (each i l));
      fit = limits_fit t g n h;
      ordered =
          in_order_lem (clock_of t g) (clock_before t g) n (λ i. refl)
          (λ i l. leb-true _ _ (and_rest _ _ (and_rest _ _ (and_rest _ _ (each i l)))));
    }

-- ---- processes
process : (t : List ℕ) (p : ℕ) → process_formed t p ≡ true → ProcessSound t p
unfolding process_formed zero_inside
process t p h =
    record {
      place = ltb-true _ _ (and_first _ _ h);
      zero_in_range = λ i l. all_at (zero_inside t (invariant_group (place_at t p))) _ i (and_rest _ _ h) l;
    }

-- ---- actions
resets : (t : List ℕ) (a : ℕ) → resets_formed t a ≡ true → ResetsSound t a
unfolding resets_formed reset_formed
resets t a h =
    let each : (i : ℕ) → i < reset_count t a → reset_formed t a i ≡ true = λ i l. all_at (reset_formed t a) _ i (and_rest _ _ h) l in
    record {
      few = leb-true _ _ (and_first _ _ h);
      clock = λ i l. ltb-true _ _ (and_first _ _ (each i l));
      ordered = in_order_lem (reset_at t a) (reset_before t a) _ (λ i. refl) (λ i l. leb-true _ _ (and_rest _ _ (each i l)));
    }

no_resets : (t : List ℕ) (a : ℕ) → reset_count t a ≡ 0 → ResetsSound t a
no_resets t a e = record { few = omega arith; clock = λ i l. absurd (omega arith); ordered = λ i l. absurd (omega arith) }

-- an answer that is a kind, and one of this word
known : (x : Typed) → is_typed x ≡ true → (k : Kind) × (x ≡ Known k)
known (Known k) h = (k, refl)
known IllTyped h = never h
known TableFull h = never h
known (TooDeep k) h = never h

known_as : (w : ℕ) (x : Typed) → typed_as w x ≡ true → (k : Kind) × ((x ≡ Known k) × (kind_word k ≡ w))
known_as w (Known k) h = (k, (refl, eqb-true _ _ h))
known_as w IllTyped h = never h
known_as w TableFull h = never h
known_as w (TooDeep k) h = never h

effect : (t : List ℕ) (a e : ℕ) → effect_formed t a e ≡ true → EffectSound t a e
unfolding effect_formed
effect t a e h =
    let x = known_as (kind_at t (effect_var t a e)) (type_of (kinds_of t) (effect_items t a e)) (and_rest _ _ (and_rest _ _ h)) in
    record {
      var = ltb-true _ _ (and_first _ _ h);
      expression = record { short = leb-true _ _ (and_first _ _ (and_rest _ _ h)); kind = x.0; typed = x.1.0 };
      same = x.1.1;
    }

expression : (t : List ℕ) (a e : ℕ) → expression_formed t a e ≡ true → ExpressionSound t a e
unfolding expression_formed
expression t a e h =
    let x = known (type_of (kinds_of t) (effect_items t a e)) (and_rest _ _ h) in
    record { short = leb-true _ _ (and_first _ _ h); kind = x.0; typed = x.1 }

plain : (t : List ℕ) (a : ℕ) → action_kind t a ≡ plain_kind → plain_formed t a ≡ true → ActionSound t a
unfolding plain_formed
plain t a k h =
    record {
      kind = omega arith;
      resets = resets t a (and_first _ _ h);
      few = leb-true _ _ (and_first _ _ (and_rest _ _ h));
      plain = λ e.
          record {
            effect = λ i l. effect t a i (all_at (effect_formed t a) _ i (and_first _ _ (and_rest _ _ (and_rest _ _ h))) l);
            draws = leb-true _ _ (and_rest _ _ (and_rest _ _ (and_rest _ _ h)));
          };
      send = λ e. absurd (omega arith);
      receive = λ e. absurd (omega arith);
    }

send : (t : List ℕ) (a : ℕ) → action_kind t a ≡ send_kind → send_formed t a ≡ true → ActionSound t a
unfolding send_formed
send t a k h =
    let z : reset_count t a ≡ 0 = eqb-true _ _ (and_first _ _ h) in
    let n : effect_count t a ≤ message_room = leb-true _ _ (and_first _ _ (and_rest _ _ h)) in
    record {
      kind = omega arith;
      resets = no_resets t a z;
      few = omega arith;
      plain = λ e. absurd (omega arith);
      send = λ e.
          record {
            still = z;
            few = n;
            expression = λ i l. expression t a i (all_at (expression_formed t a) _ i (and_first _ _ (and_rest _ _ (and_rest _ _ h))) l);
            draws = leb-true _ _ (and_rest _ _ (and_rest _ _ (and_rest _ _ h)));
          };
      receive = λ e. absurd (omega arith);
    }

receive : (t : List ℕ) (a : ℕ) → action_kind t a ≡ receive_kind → receive_formed t a ≡ true → ActionSound t a
unfolding receive_formed target_formed
receive t a k h =
    let z : reset_count t a ≡ 0 = eqb-true _ _ (and_first _ _ h) in
    let n : effect_count t a ≤ message_room = leb-true _ _ (and_first _ _ (and_rest _ _ h)) in
    record {
      kind = omega arith;
      resets = no_resets t a z;
      few = omega arith;
      plain = λ e. absurd (omega arith);
      send = λ e. absurd (omega arith);
      receive =
          λ e. record { still = z; few = n; var = λ i l. ltb-true _ _ (all_at (target_formed t a) _ i (and_rest _ _ (and_rest _ _ h)) l) };
    }

action : (t : List ℕ) (a : ℕ) → action_formed t a ≡ true → ActionSound t a
unfolding action_formed
action t a h =
    by_test (eqb (action_kind t a) plain_kind) _ _ h
    (λ z f. plain t a (eqb-true _ _ z) f)
    (λ z g.
    by_test (eqb (action_kind t a) send_kind) _ _ g
    (λ y f. send t a (eqb-true _ _ y) f)
    (λ y f. receive t a (eqb-true _ _ (and_first _ _ f)) (and_rest _ _ f)))

-- ---- transitions
action_known_lem : (t : List ℕ) (a : ℕ) → action_known t a ≡ true → (a ≡ epsilon → ⊥) → a < action_count t
unfolding action_known
action_known_lem t a h other = let e : eqb a epsilon ≡ false = ne_eqb _ _ other in ltb-true _ _ (rw e at h)

guard : (t : List ℕ) (k : ℕ) → guard_formed t k ≡ true → GuardSound t k
unfolding guard_formed draws_of
guard t k h =
    by_test (eqb (guard_length t k) 0) _ _ h
    (λ z b.
    let e : guard_length t k ≡ 0 = eqb-true _ _ z in
    record { short = omega arith; typed = λ l. absurd (omega arith); no_draws = rw e })
    (λ z b.
    let x = known_as 0 (type_of (kinds_of t) (guard_items t k)) (and_first _ _ (and_rest _ _ b)) in
    record {
      short = leb-true _ _ (and_first _ _ b);
      typed = λ l. x.1.0 ∙ ap (λ (j : Kind). Known j) (boolean x.0 x.1.1);
      no_draws = eqb-true _ _ (and_rest _ _ (and_rest _ _ b));
    })
  where
    boolean : (j : Kind) → kind_word j ≡ 0 → j ≡ Kind.Boolean
    boolean Kind.Boolean e = refl
    boolean Kind.Integer e = absurd (omega arith)

transition : (t : List ℕ) (k : ℕ) → transition_formed t k ≡ true → TransitionSound t k
unfolding transition_formed key_formed
transition t k h =
    let key = and_first _ _ h in
    record {
      pre = ltb-true _ _ (and_first _ _ key);
      post = ltb-true _ _ (and_first _ _ (and_rest _ _ key));
      action = action_known_lem t _ (and_rest _ _ (and_rest _ _ key));
      guard = guard t k (and_first _ _ (and_rest _ _ (and_rest _ _ h)));
      limits = limits t k _ (and_rest _ _ (and_rest _ _ (and_rest _ _ h)));
    }

key_order : (t : List ℕ) (k : ℕ) → transition_formed t k ≡ true → key_before t k ≤ key_of t k
unfolding transition_formed
key_order t k h = leb-true _ _ (and_first _ _ (and_rest _ _ h))

-- ---- the whole table
pub sound : (t : List ℕ) (building : Bool) → well_formed t building ≡ true → Sound t
unfolding well_formed parts_formed location_formed
sound t building h =
    let p : parts_formed t ≡ true = and_rest _ _ (and_rest _ _ (and_rest _ _ h)) in
    let each : (k : ℕ) → k < transition_count t → transition_formed t k ≡ true =
    λ k l. all_at (transition_formed t) _ k (and_rest _ _ (and_rest _ _ (and_rest _ _ (and_rest _ _ p)))) l
    in
    record {
      words = eqb-true _ _ (and_first _ _ h);
      counts = counted t (and_first _ _ (and_rest _ _ h));
      variable = λ v l. variable t v (all_at (variable_formed t) _ v (and_first _ _ p) l);
      invariants = λ i l. limits t (invariant_group i) _ (all_at (location_formed t) _ i (and_first _ _ (and_rest _ _ p)) l);
      process = λ i l. process t i (all_at (process_formed t) _ i (and_first _ _ (and_rest _ _ (and_rest _ _ p))) l);
      action = λ a l. action t a (all_at (action_formed t) _ a (and_first _ _ (and_rest _ _ (and_rest _ _ (and_rest _ _ p)))) l);
      transition = λ k l. transition t k (each k l);
      ordered = in_order_lem (key_of t) (key_before t) _ (λ k. refl) (λ k l. key_order t k (each k l));
    }

-- a table that is not being built has a process
pub started : (t : List ℕ) → well_formed t false ≡ true → 0 < process_count t
unfolding well_formed started_of
started t h = ltb-true _ _ (and_first _ _ (and_rest _ _ (and_rest _ _ h)))
