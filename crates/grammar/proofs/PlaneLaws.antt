-- Operands that wait as bits, and what a step leaves of them.
use Prim.Native.Nat.{ℕ, zero, suc, ◌+◌, ◌-◌, ◌*◌, ◌/◌, ◌%◌, ◌^◌, ◌≤◌, ◌<◌}
use mathlib.Core.Path.{◌≡◌, refl, sym, ap, ◌∙◌, subst}
use mathlib.Core.List.{List, [], ◌∷◌}
use native.Mathlib.Decide.{dec_lt}
use native.Mathlib.Numerals.{add-one}
use native.Mathlib.Omega.{arith}
use borrow.Author.Tests.{eqb-false}
use lib.Dec.{lit<, lit≤}
use lib.Pow.{pow_mono, pow-add, shr_lt, mod-pow-add}
use Rattle.grammar.specs.Items.{Read, item_of}
use Rattle.grammar.specs.Run.{Step, push, change, join, gives, stuck, run_of, size_of, made}
use Rattle.grammar.specs.Typing.{Kinded, of, ill, takes2, alike, kinded_at, kind_step, kind_steps, judged}
use Rattle.grammar.specs.Inner.{plane_of, Left}
use Rattle.grammar.specs.declared.values.«Type».{«Type» as Kind}
use Rattle.grammar.specs.declared.values.«Type».TheVariants.{Boolean, Integer}
use Rattle.grammar.specs.declared.typing.Typed.TheVariants.{IllTyped}
use Rattle.grammar.specs.declared.waiting.Waiting.{Waiting}
use Rattle.grammar.proofs.ItemLaws.{low_any}
use Rattle.grammar.proofs.IllLaws.{ill_typed}

-- ---- two kinds that an operation does not take
not_ones : (r : Kind) (a b : ℕ) → (a ≡ 1 → b ≡ 1 → ⊥) → takes2 Integer r (kinded_at a) (kinded_at b) ≡ ill
not_ones r zero zero n = refl
not_ones r zero (suc zero) n = refl
not_ones r zero (suc (suc b)) n = refl
not_ones r (suc zero) zero n = refl
not_ones r (suc zero) (suc zero) n = absurd (n refl refl)
not_ones r (suc zero) (suc (suc b)) n = refl
not_ones r (suc (suc a)) b n = refl

not_zeros : (r : Kind) (a b : ℕ) → (a ≡ 0 → b ≡ 0 → ⊥) → takes2 Boolean r (kinded_at a) (kinded_at b) ≡ ill
not_zeros r zero zero n = absurd (n refl refl)
not_zeros r zero (suc zero) n = refl
not_zeros r zero (suc (suc b)) n = refl
not_zeros r (suc zero) zero n = refl
not_zeros r (suc zero) (suc zero) n = refl
not_zeros r (suc zero) (suc (suc b)) n = refl
not_zeros r (suc (suc a)) b n = refl

not_same : (a b : ℕ) → (a ≡ 0 → b ≡ 0 → ⊥) → (a ≡ 1 → b ≡ 1 → ⊥) → alike (kinded_at a) (kinded_at b) ≡ ill
not_same zero zero n m = absurd (n refl refl)
not_same zero (suc zero) n m = refl
not_same zero (suc (suc b)) n m = refl
not_same (suc zero) zero n m = refl
not_same (suc zero) (suc zero) n m = absurd (m refl refl)
not_same (suc zero) (suc (suc b)) n m = refl
not_same (suc (suc a)) b n m = refl

-- the two lowest bits
module _ (bits : ℕ) where
  four : bits % 4 ≡ bits / 2 % 2 * 2 + bits % 2
  four = mod-pow-add bits 1 1

  pub not_integers : (r : Kind) → (bits % 4 ≡ 3 → ⊥) → takes2 Integer r (kinded_at (bits / 2 % 2)) (kinded_at (bits % 2)) ≡ ill
  not_integers r n = not_ones r (bits / 2 % 2) (bits % 2) (λ a b. n (omega (arith, four)))

  pub not_booleans : (r : Kind) → (bits % 4 ≡ 0 → ⊥) → takes2 Boolean r (kinded_at (bits / 2 % 2)) (kinded_at (bits % 2)) ≡ ill
  not_booleans r n = not_zeros r (bits / 2 % 2) (bits % 2) (λ a b. n (omega (arith, four)))

  pub not_alike : (bits % 4 ≡ 3 → ⊥) → (bits % 4 ≡ 0 → ⊥) → alike (kinded_at (bits / 2 % 2)) (kinded_at (bits % 2)) ≡ ill
  not_alike m n = not_same (bits / 2 % 2) (bits % 2) (λ a b. n (omega (arith, four))) (λ a b. m (omega (arith, four)))

-- ---- how many wait, by their bits
pub two_wait : (n bits : ℕ) → 2 ≤ bits → bits < 2 ^ n → 2 ≤ n
two_wait n bits h l = by (dec_lt 1 n)
  where
    by : Dec (1 < n) → 2 ≤ n
    by (yes m) = m
    by (no m) = let p : 2 ^ n ≤ 2 ^ 1 = pow_mono {j = 1} (omega arith) in absurd (omega arith)

halved : (n bits : ℕ) → 1 ≤ n → bits < 2 ^ n → bits / 2 < 2 ^ (n - 1)
halved n bits h l =
    let q : n ≡ n - 1 + 1 = omega arith in
    shr_lt (n - 1) 1 (subst (λ (k : ℕ). bits < 2 ^ k) q l)

-- ---- steps
joined : (f : Kinded → Kinded → Kinded) (n bits after : ℕ) → 2 ≤ n
    → f (kinded_at (bits / 2 % 2)) (kinded_at (bits % 2)) ≡ kinded_at (after % 2) → after / 2 ≡ bits / 2 / 2
    → (steps : List (Step Kinded)) → run_of steps (plane_of (n - 1) after) ≡ run_of (join f ∷ steps) (plane_of n bits)
unfolding run_of plane_of
joined f zero bits after h e q steps = absurd (omega arith)
joined f (suc zero) bits after h e q steps = absurd (omega arith)
joined f (suc (suc m)) bits after h e q steps =
    let p : suc (suc m) - 1 ≡ suc m = omega arith in
    ap (λ (k : ℕ). run_of steps (plane_of k after)) p
    ∙ ap (λ (k : Kinded). run_of steps (k ∷ plane_of m (after / 2))) (sym e)
    ∙ ap (λ (k : ℕ). run_of steps (f (kinded_at (bits / 2 % 2)) (kinded_at (bits % 2)) ∷ plane_of m k)) q

-- a step that no operands with these bits fit
abbrev Fails : Step Kinded → ℕ → ℕ → Type 0
Fails i n bits = (deep : ℕ) (kinds ws : List ℕ) → judged (run_of (i ∷ kind_steps kinds ws) (plane_of n bits)) deep ≡ IllTyped

join_fails : (f : Kinded → Kinded → Kinded) (n bits : ℕ) → (2 ≤ n → f (kinded_at (bits / 2 % 2)) (kinded_at (bits % 2)) ≡ ill)
    → Fails (join f) n bits
unfolding run_of plane_of
join_fails f zero bits e deep kinds ws = refl
join_fails f (suc zero) bits e deep kinds ws = refl
join_fails f (suc (suc m)) bits e deep kinds ws =
    ap (λ (k : Kinded). judged (run_of (kind_steps kinds ws) (k ∷ plane_of m (bits / 2 / 2))) deep) (e (omega arith))
    ∙ ill_typed deep kinds ws ill (plane_of m (bits / 2 / 2)) (lit< tt)

change_fails : (f : Kinded → Kinded) (n bits : ℕ) → f (kinded_at (bits % 2)) ≡ ill → Fails (change f) n bits
unfolding run_of plane_of
change_fails f zero bits e deep kinds ws = refl
change_fails f (suc m) bits e deep kinds ws =
    ap (λ (k : Kinded). judged (run_of (kind_steps kinds ws) (k ∷ plane_of m (bits / 2))) deep) e
    ∙ ill_typed deep kinds ws ill (plane_of m (bits / 2)) (lit< tt)

push_fails : (n bits : ℕ) → Fails (push ill) n bits
unfolding run_of
push_fails n bits deep kinds ws = ill_typed deep kinds ws ill (plane_of n bits) (lit< tt)

-- ---- what the code leaves
module _ {i : Step Kinded} {n bits : ℕ} where
  left_none : (r : Waiting) → (r.depth ≡ 0) × (r.integers ≡ 0) → Fails i n bits → Left i n bits r
  left_none r e f =
      record {
        small = rw (e.0, e.1) (lit< tt);
        fewer = omega (arith, e.0);
        exact = λ h. absurd (omega (arith, e.0));
        goes = λ h. absurd (omega (arith, e.0));
        fails = λ z. f;
      }

module _ {f : Kinded → Kinded → Kinded} {n bits : ℕ} where
  pub none_joined : (r : Waiting) → (r.depth ≡ 0) × (r.integers ≡ 0) → (2 ≤ n → f (kinded_at (bits / 2 % 2)) (kinded_at (bits % 2)) ≡ ill)
      → Left (join f) n bits r
  none_joined r e z = left_none r e (join_fails f n bits z)

  left_joined : (after : ℕ) → bits < 2 ^ n → 2 ≤ n → after ≤ bits / 2
      → f (kinded_at (bits / 2 % 2)) (kinded_at (bits % 2)) ≡ kinded_at (after % 2) → after / 2 ≡ bits / 2 / 2
      → Left (join f) n bits (record { depth = n - 1; integers = after })
  left_joined after s h l e q =
      record {
        small = omega (arith, halved n bits (omega arith) s);
        fewer = omega arith;
        exact = λ x. omega arith;
        goes = λ x. joined f n bits after h e q;
        fails = λ z. absurd (omega arith);
      }

-- two integers whose result has the word k as its kind, and two booleans that give one
module _ (f : Kinded → Kinded → Kinded) (n bits : ℕ) (s : bits < 2 ^ n) where
  pub both_integers : (k after : ℕ) → bits % 4 ≡ 3 → f (of Integer) (of Integer) ≡ kinded_at k → after % 2 ≡ k → after / 2 ≡ bits / 2 / 2
      → after ≤ bits / 2
      → Left (join f) n bits (record { depth = n - 1; integers = after })
  both_integers k after e g r q l =
      let a : bits / 2 % 2 ≡ 1 = omega arith in
      let b : bits % 2 ≡ 1 = omega arith in
      left_joined after s (two_wait n bits (omega arith) s) l (rw (a, b, r) g) q

  pub both_booleans : 2 ≤ n → bits % 4 ≡ 0 → f (of Boolean) (of Boolean) ≡ of Boolean
      → Left (join f) n bits (record { depth = n - 1; integers = bits / 2 })
  both_booleans h e g =
      let a : bits / 2 % 2 ≡ 0 = omega arith in
      let b : bits % 2 ≡ 0 = omega arith in
      left_joined (bits / 2) s h (omega arith) (rw (a, b) g) refl

module _ (f : Kinded → Kinded) (bits : ℕ) where
  goes_changed : (n : ℕ) → 1 ≤ n → f (kinded_at (bits % 2)) ≡ kinded_at (bits % 2) → (steps : List (Step Kinded))
      → run_of steps (plane_of n bits) ≡ run_of (change f ∷ steps) (plane_of n bits)
  unfolding run_of plane_of
  goes_changed zero h e steps = absurd (omega arith)
  goes_changed (suc m) h e steps = ap (λ (k : Kinded). run_of steps (k ∷ plane_of m (bits / 2))) (sym e)

  fails_empty : (n : ℕ) → n ≡ 0 → Fails (change f) n bits
  unfolding run_of plane_of
  fails_empty zero e deep kinds ws = refl
  fails_empty (suc m) e deep kinds ws = absurd (omega arith)

module _ {f : Kinded → Kinded} {n bits : ℕ} where
  pub none_changed : (r : Waiting) → (r.depth ≡ 0) × (r.integers ≡ 0) → f (kinded_at (bits % 2)) ≡ ill → Left (change f) n bits r
  none_changed r e z = left_none r e (change_fails f n bits z)

  pub left_changed : bits < 2 ^ n → f (kinded_at (bits % 2)) ≡ kinded_at (bits % 2)
      → Left (change f) n bits (record { depth = n; integers = bits })
  left_changed s e =
      record {
        small = s;
        fewer = omega arith;
        exact = λ x. omega arith;
        goes = λ x. goes_changed f bits n x e;
        fails = λ z. fails_empty f bits n z;
      }

pub none_left : (n bits w : ℕ) (r : Waiting) → (r.depth ≡ 0) × (r.integers ≡ 0) → w ≡ 0 → Left (kind_step [] (item_of w)) n bits r
unfolding item_of
none_left n bits w r e z = rw z (left_none r e (push_fails n bits))

-- ---- the operation of a word
pub arithmetic : (w : ℕ) → 5 ≤ w → w < 10 → kind_step [] (item_of w) ≡ join (takes2 Integer Integer)
arithmetic w h l =
    low_any 10 (lit≤ tt) (λ (w : ℕ) (r : Read). 5 ≤ w → kind_step [] r ≡ join (takes2 Integer Integer)) (
      (λ h. absurd (omega arith)),
      (
        (λ h. absurd (omega arith)),
        (
          (λ h. absurd (omega arith)),
          (
            (λ h. absurd (omega arith)),
            ((λ h. absurd (omega arith)), ((λ h. refl), ((λ h. refl), ((λ h. refl), ((λ h. refl), ((λ h. refl), tt)))))),
          ),
        ),
      ),
    )
    w l h

pub order : (w : ℕ) → 11 ≤ w → w < 13 → kind_step [] (item_of w) ≡ join (takes2 Integer Boolean)
order w h l =
    low_any 13 (lit≤ tt) (λ (w : ℕ) (r : Read). 11 ≤ w → kind_step [] r ≡ join (takes2 Integer Boolean)) (
      (λ h. absurd (omega arith)),
      (
        (λ h. absurd (omega arith)),
        (
          (λ h. absurd (omega arith)),
          (
            (λ h. absurd (omega arith)),
            (
              (λ h. absurd (omega arith)),
              (
                (λ h. absurd (omega arith)),
                (
                  (λ h. absurd (omega arith)),
                  (
                    (λ h. absurd (omega arith)),
                    ((λ h. absurd (omega arith)), ((λ h. absurd (omega arith)), ((λ h. absurd (omega arith)), ((λ h. refl), ((λ h. refl), tt))))),
                  ),
                ),
              ),
            ),
          ),
        ),
      ),
    )
    w l h

pub logic : (w : ℕ) → w < 5 → (w ≡ 4 → ⊥) → (w ≡ 1 → ⊥) → (w ≡ 0 → ⊥) → kind_step [] (item_of w) ≡ join (takes2 Boolean Boolean)
logic =
    low_any 5 (lit≤ tt) (λ (w : ℕ) (r : Read). (w ≡ 4 → ⊥) → (w ≡ 1 → ⊥) → (w ≡ 0 → ⊥) → kind_step [] r ≡ join (takes2 Boolean Boolean))
    ((λ x y z. absurd (z refl)), ((λ x y z. absurd (y refl)), ((λ x y z. refl), ((λ x y z. refl), ((λ x y z. absurd (x refl)), tt)))))

-- an operation does not look at the variables
pub no_variables : (kinds : List ℕ) (w : ℕ) → w < 13 → kind_step [] (item_of w) ≡ kind_step kinds (item_of w)
no_variables kinds =
    low_any 13 (lit≤ tt) (λ (w : ℕ) (r : Read). kind_step [] r ≡ kind_step kinds r)
    (refl, (refl, (refl, (refl, (refl, (refl, (refl, (refl, (refl, (refl, (refl, (refl, (refl, tt)))))))))))))

-- ---- a step that takes none adds its operand
pub added : (i : Step Kinded) (rest : List (Step Kinded)) (n bits after k : ℕ) → size_of i ≡ 0 → (x y : Kinded) → kinded_at k ≡ made i x y
    → after % 2 ≡ k → after / 2 ≡ bits
    → run_of rest (plane_of (n + 1) after) ≡ run_of (i ∷ rest) (plane_of n bits)
unfolding run_of plane_of
added (push a) rest n bits after k z x y e r q =
    ap (λ (m : ℕ). run_of rest (plane_of m after)) (add-one n)
    ∙ ap (λ (j : ℕ). run_of rest (kinded_at j ∷ plane_of n (after / 2))) r
    ∙ ap (λ (j : ℕ). run_of rest (kinded_at k ∷ plane_of n j)) q
    ∙ ap (λ (a : Kinded). run_of rest (a ∷ plane_of n bits)) e
added (change f) rest n bits after k z x y e r q = absurd (eqb-false 1 0 refl z)
added (join f) rest n bits after k z x y e r q = absurd (eqb-false 2 0 refl z)

pub taken : (i : Step Kinded) (rest : List (Step Kinded)) (waiting : List Kinded) → size_of i ≡ 0
    → run_of rest (made i ill ill ∷ waiting) ≡ run_of (i ∷ rest) waiting
unfolding run_of
taken (push a) rest waiting z = refl
taken (change f) rest waiting z = absurd (eqb-false 1 0 refl z)
taken (join f) rest waiting z = absurd (eqb-false 2 0 refl z)

pub doubled : (n bits after : ℕ) → bits < 2 ^ n → after ≤ 2 * bits + 1 → after < 2 ^ (n + 1)
doubled n bits after h l = omega (arith, twice n)
  where
    twice : (n : ℕ) → 2 ^ (n + 1) ≡ 2 ^ n * 2
    twice n = pow-add 2 n 1

-- ---- the end
pub ends : (n bits : ℕ) → (n ≡ 1 → ⊥) → run_of [] (plane_of n bits) ≡ stuck
unfolding run_of plane_of
ends zero bits h = refl
ends (suc zero) bits h = absurd (h refl)
ends (suc (suc n)) bits h = refl

pub ended : (n bits : ℕ) → n ≡ 1 → bits < 2 ^ n → run_of [] (plane_of n bits) ≡ gives (kinded_at bits)
unfolding run_of plane_of
ended n bits e h =
    let l : bits < 2 ^ 1 = subst (λ (k : ℕ). bits < 2 ^ k) e h in
    let q : bits % 2 ≡ bits = omega arith in
    ap (λ (k : ℕ). run_of [] (plane_of k bits)) e ∙ ap (λ (k : ℕ). gives (kinded_at k)) q
