-- Laws of an integer as the difference of two numbers: one that waits is x - 2147483648.
use Prim.Native.Nat.{ℕ, zero, suc, ◌+◌, ◌-◌, ◌≤◌, ◌<◌}
use mathlib.Core.Path.{◌≡◌, refl, sym, ap, ◌∙◌, subst}
use mathlib.Core.Bool.{Bool, true, false}
use native.Mathlib.Decide.{dec_lt}
use native.Mathlib.Omega.{arith}
use borrow.Author.Tests.{lt-ltb, le-ltb, le-leb, lt-leb, ne_eqb}
use Rattle.laws.proofs.Tests.{eqb_same}
use lib.Dec.{eqb, leb, ltb}
use lib.IntN.{ℤ, pos, negsuc, neg_ℤ, sub_ℕ, ◌+ℤ◌, ◌-ℤ◌}
use lib.Signed.{lt_z, le_z}
use mir.Syntax.{w32}
use mir.Val.{SFits}
use Rattle.laws.proofs.Tests.{leb_same}
use Rattle.grammar.specs.Values.{eq_z}
use Rattle.grammar.specs.Arith.{least, most, fitted}
use Rattle.grammar.specs.Inner.{whole_of}
use Rattle.grammar.specs.declared.values.Val.TheVariants.{Integer}
use Rattle.std.specs.Prelude.{Some, None}

fitted_low : (z : ℤ) → lt_z z least ≡ true → fitted z ≡ None
fitted_low z e = rw e

fitted_high : (z : ℤ) → lt_z z least ≡ false → lt_z most z ≡ true → fitted z ≡ None
fitted_high z e f = rw (e, f)

up : (a b : ℕ) → b ≤ a → sub_ℕ a b ≡ pos (a - b)
up a b h = rw (le-ltb a b h)

down : (a b : ℕ) → a < b → sub_ℕ a b ≡ negsuc (b - suc a)
down a b h = rw (lt-ltb a b h)

-- a difference is one of two numbers
data Side (a b : ℕ) : Type 0 where
  above : b ≤ a → sub_ℕ a b ≡ pos (a - b) → Side a b
  below : a < b → sub_ℕ a b ≡ negsuc (b - suc a) → Side a b

side : (a b : ℕ) → Side a b
side a b = by (dec_lt a b)
  where
    by : Dec (a < b) → Side a b
    by (yes h) = below h (down a b h)
    by (no h) = above (omega arith) (up a b (omega arith))

same : (a b c d : ℕ) → a + d ≡ c + b → sub_ℕ a b ≡ sub_ℕ c d
same a b c d e = by (side a b)
  where
    by : Side a b → sub_ℕ a b ≡ sub_ℕ c d
    by (above h p) = p ∙ ap pos (omega arith) ∙ sym (up c d (omega arith))
    by (below h p) = p ∙ ap negsuc (omega arith) ∙ sym (down c d (omega arith))

plus : (a b c d : ℕ) → sub_ℕ a b +ℤ sub_ℕ c d ≡ sub_ℕ (a + c) (b + d)
plus a b c d = by (side a b) (side c d)
  where
    by : Side a b → Side c d → sub_ℕ a b +ℤ sub_ℕ c d ≡ sub_ℕ (a + c) (b + d)
    by (above h p) (above k q) =
        ap (λ (z : ℤ). z +ℤ sub_ℕ c d) p ∙ ap (λ (z : ℤ). pos (a - b) +ℤ z) q ∙ ap pos (omega arith) ∙ sym (up (a + c) (b + d) (omega arith))
    by (above h p) (below k q) =
        ap (λ (z : ℤ). z +ℤ sub_ℕ c d) p ∙ ap (λ (z : ℤ). pos (a - b) +ℤ z) q ∙ same (a - b) (suc (d - suc c)) (a + c) (b + d) (omega arith)
    by (below h p) (above k q) =
        ap (λ (z : ℤ). z +ℤ sub_ℕ c d) p ∙ ap (λ (z : ℤ). negsuc (b - suc a) +ℤ z) q
        ∙ same (c - d) (suc (b - suc a)) (a + c) (b + d) (omega arith)
    by (below h p) (below k q) =
        ap (λ (z : ℤ). z +ℤ sub_ℕ c d) p ∙ ap (λ (z : ℤ). negsuc (b - suc a) +ℤ z) q ∙ ap negsuc (omega arith)
        ∙ sym (down (a + c) (b + d) (omega arith))

negated : (n : ℕ) → neg_ℤ (pos n) ≡ sub_ℕ 0 n
negated zero = refl
negated (suc n) = ap negsuc (omega arith) ∙ sym (down 0 (suc n) (omega arith))

opposite : (a b : ℕ) → neg_ℤ (sub_ℕ a b) ≡ sub_ℕ b a
opposite a b = by (side a b)
  where
    by : Side a b → neg_ℤ (sub_ℕ a b) ≡ sub_ℕ b a
    by (above h p) = ap neg_ℤ p ∙ negated (a - b) ∙ same 0 (a - b) b a (omega arith)
    by (below h p) = ap neg_ℤ p ∙ ap pos (omega arith) ∙ sym (up b a (omega arith))

pub sum : (x y : ℕ) → sub_ℕ (x + y) 4294967296 ≡ whole_of x +ℤ whole_of y
sum x y = sym (plus x 2147483648 y 2147483648)

pub difference : (x y : ℕ) → y ≤ x + 4294967296 → sub_ℕ (x + 4294967296 - y) 4294967296 ≡ whole_of x -ℤ whole_of y
difference x y h =
    same (x + 4294967296 - y) 4294967296 (x + 2147483648) (2147483648 + y) (omega arith)
    ∙ sym (ap (λ (z : ℤ). whole_of x +ℤ z) (opposite y 2147483648) ∙ plus x 2147483648 2147483648 y)

-- the order is the numbers' own
record Order (t : ℤ → ℤ → Bool) (u : ℕ → ℕ → Bool) : Type 0 where
  both_above : (a b : ℕ) → t (pos a) (pos b) ≡ u a b
  both_below : (a b : ℕ) → t (negsuc a) (negsuc b) ≡ u b a
  more : (a b c d : ℕ) → d < c → t (pos a) (negsuc b) ≡ u c d
  less : (a b c d : ℕ) → c < d → t (negsuc a) (pos b) ≡ u c d
  shift : (a b c d : ℕ) → a + d ≡ c + b → u a b ≡ u c d

ordered : (t : ℤ → ℤ → Bool) (u : ℕ → ℕ → Bool) → Order t u → (x y : ℕ) → t (whole_of x) (whole_of y) ≡ u x y
ordered t u o x y = by (side x 2147483648) (side y 2147483648)
  where
    by : Side x 2147483648 → Side y 2147483648 → t (whole_of x) (whole_of y) ≡ u x y
    by (above h p) (above k q) = ap (λ (z : ℤ). t z (whole_of y)) p ∙ ap (t _) q ∙ o.both_above _ _ ∙ o.shift _ _ x y (omega arith)
    by (above h p) (below k q) = ap (λ (z : ℤ). t z (whole_of y)) p ∙ ap (t _) q ∙ o.more _ _ x y (omega arith)
    by (below h p) (above k q) = ap (λ (z : ℤ). t z (whole_of y)) p ∙ ap (t _) q ∙ o.less _ _ x y (omega arith)
    by (below h p) (below k q) = ap (λ (z : ℤ). t z (whole_of y)) p ∙ ap (t _) q ∙ o.both_below _ _ ∙ o.shift _ _ x y (omega arith)

pub less_as : (x y : ℕ) → ltb x y ≡ lt_z (whole_of x) (whole_of y)
less_as x y =
    sym
    (ordered lt_z ltb
    (record {
      both_above = λ a b. refl;
      both_below = λ a b. refl;
      more = λ a b c d h. sym (le-ltb c d (omega arith));
      less = λ a b c d h. sym (lt-ltb c d h);
      shift = λ a b c d e. leb_same (suc a) b (suc c) d (λ h. omega arith) (λ h. omega arith);
    })
    x y)

pub most_as : (x y : ℕ) → leb x y ≡ le_z (whole_of x) (whole_of y)
most_as x y =
    sym
    (ordered le_z leb
    (record {
      both_above = λ a b. refl;
      both_below = λ a b. refl;
      more = λ a b c d h. sym (lt-leb c d h);
      less = λ a b c d h. sym (le-leb c d (omega arith));
      shift = λ a b c d e. leb_same a b c d (λ h. omega arith) (λ h. omega arith);
    })
    x y)

pub equal_as : (x y : ℕ) → eqb x y ≡ eq_z (whole_of x) (whole_of y)
equal_as x y =
    sym
    (ordered eq_z eqb
    (record {
      both_above = λ a b. refl;
      both_below = λ a b. eqb_same a b b a sym sym;
      more = λ a b c d h. sym (ne_eqb c d (λ e. omega arith));
      less = λ a b c d h. sym (ne_eqb c d (λ e. omega arith));
      shift = λ a b c d e. eqb_same a b c d (λ h. omega arith) (λ h. omega arith);
    })
    x y)

-- 32 bits from a number that waits, and back
pub whole_fits : (x : ℕ) → x < 4294967296 → SFits w32 (whole_of x)
whole_fits x h = by (side x 2147483648)
  where
    by : Side x 2147483648 → SFits w32 (whole_of x)
    by (above k p) = subst (λ (z : ℤ). SFits w32 z) (sym p) (record { sfits = omega arith })
    by (below k p) = subst (λ (z : ℤ). SFits w32 z) (sym p) (record { sfits = omega arith })

pub record Waits (n : ℤ) : Type 0 where
  pub x : ℕ
  pub small : x < 4294967296
  pub is : n +ℤ pos 2147483648 ≡ pos x
  pub back : whole_of x ≡ n

pub waits : (n : ℤ) → SFits w32 n → Waits n
waits (pos k) f =
    record {
      x = k + 2147483648;
      small = omega (arith, f.sfits);
      is = refl;
      back = up (k + 2147483648) 2147483648 (omega arith) ∙ ap pos (omega arith);
    }
waits (negsuc k) f =
    record {
      x = 2147483648 - suc k;
      small = omega arith;
      is = up 2147483648 (suc k) (omega (arith, f.sfits));
      back = down (2147483648 - suc k) 2147483648 (omega (arith, f.sfits)) ∙ ap negsuc (omega (arith, f.sfits));
    }

-- the range test of a number that waits twice as far
module _ (s : ℕ) where
  pub too_low : s < 2147483648 → fitted (sub_ℕ s 4294967296) ≡ None
  too_low h =
      fitted_low (sub_ℕ s 4294967296)
      (ap (λ (z : ℤ). lt_z z least) (down s 4294967296 (omega arith)) ∙ lt-ltb 2147483647 (4294967296 - suc s) (omega arith))

  pub too_high : 6442450944 ≤ s → fitted (sub_ℕ s 4294967296) ≡ None
  too_high h =
      fitted_high (sub_ℕ s 4294967296) (ap (λ (z : ℤ). lt_z z least) (up s 4294967296 (omega arith)))
      (ap (λ (z : ℤ). lt_z most z) (up s 4294967296 (omega arith)) ∙ lt-ltb 2147483647 (s - 4294967296) (omega arith))

  pub in_between : 2147483648 ≤ s → s < 6442450944 → fitted (sub_ℕ s 4294967296) ≡ Some (Integer (whole_of (s - 2147483648)))
  in_between h k = by (side s 4294967296)
    where
      by : Side s 4294967296 → fitted (sub_ℕ s 4294967296) ≡ Some (Integer (whole_of (s - 2147483648)))
      by (above l p) =
          ap fitted p
          ∙ rw (le-ltb 2147483647 (s - 4294967296) (omega arith)) (ap (λ (z : ℤ). Some (Integer z))
          (sym p ∙ same s 4294967296 (s - 2147483648) 2147483648 (omega arith)))
      by (below l p) =
          ap fitted p
          ∙ rw (le-ltb 2147483647 (4294967296 - suc s) (omega arith)) (ap (λ (z : ℤ). Some (Integer z))
          (sym p ∙ same s 4294967296 (s - 2147483648) 2147483648 (omega arith)))
