-- What holds of every expression. Further: FailTheorems (when one has a value), TreeTheorems and TreeForms (its tree), OneToOne (its words).
use Prim.Native.Nat.{ℕ, ◌+◌, ◌*◌, ◌/◌, ◌%◌, ◌^◌, ◌≤◌, ◌<◌, ◌∣◌}
use mathlib.Core.Path.{◌≡◌, refl, sym, ap, ◌∙◌, subst}
use native.Mathlib.Omega.{arith}
use mathlib.Core.Bool.{Bool, true, false}
use mathlib.Core.List.{List, [], ◌∷◌}
use borrow.Author.Tests.{leb-true, le-leb, lt-ltb}
use lib.Arith.{mod-mul, digits_div, digits_mod}
use lib.Dec.{leb, eqb, lit<, lit≤}
use lib.IntN.{ℤ}
use lib.Pow.{pow-add, pow_pos}
use native.Mathlib.Nat.{dvd-mul_right, mul_comm, mod-lt, mod-mod_of_dvd}
use lib.ListN.{length}
use Rattle.laws.specs.Ladder.{unless}
use Rattle.laws.specs.Examples.{Hold}
use Rattle.grammar.specs.Items.{Read, item, none, constant, operand_of, word_of, item_of, deepest}
use Rattle.grammar.specs.Bits.{bits_of}
use Rattle.grammar.specs.Draws.{draws_in, draws_of}
use Rattle.grammar.specs.Run.{Step, push, Ran, gives, stuck, run_of}
use Rattle.grammar.specs.Typing.{Kinded, of, ill, kind_steps, judged, type_of}
use Rattle.grammar.specs.Evaluation.{boolean, result_of, value_step, value_steps, value_of, evaluation_of}
use Rattle.grammar.specs.Marked.{examples}
use Rattle.grammar.specs.declared.values.«Type».{«Type» as Kind}
use Rattle.grammar.specs.declared.values.Val.TheVariants.{Boolean, Integer}
use Rattle.grammar.specs.declared.values.Slot.{Slot}
use Rattle.grammar.specs.declared.items.Unary.TheVariants.{Not, Negate}
use Rattle.grammar.specs.declared.items.Binary.TheVariants.{And, Or, Add, Subtract, Multiply, Divide, Remainder, Equal, Less}
use Rattle.grammar.specs.declared.items.Binary.TheVariants.{LessOrEqual}
use Rattle.grammar.specs.declared.items.Item.{Item}
use Rattle.grammar.specs.declared.typing.Typed.{Typed}
use Rattle.grammar.specs.declared.typing.Typed.TheVariants.{Known, TableFull, TooDeep}
use Rattle.std.specs.Prelude.{Option, None}
use Rattle.grammar.specs.declared.values.Val.{Val}
use Rattle.grammar.proofs.BitLaws.{bits_small, from_bits_of}
use Rattle.grammar.proofs.ItemLaws.{high}
use Rattle.grammar.proofs.EvaluationLaws.{value_given}
use mir.Syntax.{w32}
use mir.Val.{SFits}
use Rattle.grammar.proofs.Sound.{HasKind, Fit, Agree, agree}

-- what a kind that was found says: few items, few operands, and a run of the kinds that gives it
record Found (kinds ws : List ℕ) (k : Kind) : Type 0 where
  short : length ws ≤ 64
  shallow : deepest ws 0 ≤ 16
  run : run_of (kind_steps kinds ws) [] ≡ gives (of k)

-- a ladder that ends in a kind was climbed
climbed : (t : Bool) (refused rest : Typed) (k : Kind) → (refused ≡ Known k → ⊥) → unless t refused rest ≡ Known k
    → (t ≡ true) × (rest ≡ Known k)
unfolding unless
climbed true refused rest k not e = (refl, e)
climbed false refused rest k not e = absurd (not e)

not_full : (k : Kind) → TableFull ≡ Known k → ⊥
not_full k e = let z : ◌≡◌ {A = ℕ} 0 1 = cc in absurd (omega arith)

not_deep : (j k : Kind) → TooDeep j ≡ Known k → ⊥
not_deep j k e = let z : ◌≡◌ {A = ℕ} 0 1 = cc in absurd (omega arith)

judged_known : (r : Ran Kinded) (deep : ℕ) (k : Kind) → judged r deep ≡ Known k → (deep ≤ 16) × (r ≡ gives (of k))
judged_known (gives (of j)) deep k e =
    let c = climbed (leb deep 16) (TooDeep j) (Known j) k (not_deep j k) e in
    let f : Known j ≡ Known k = c.1 in
    (leb-true deep 16 c.0, cc)
judged_known (gives ill) deep k e = let z : ◌≡◌ {A = ℕ} 0 1 = cc in absurd (omega arith)
judged_known stuck deep k e = let z : ◌≡◌ {A = ℕ} 0 1 = cc in absurd (omega arith)

found : (kinds ws : List ℕ) (k : Kind) → type_of kinds ws ≡ Known k → Found kinds ws k
unfolding type_of
found kinds ws k e =
    let c = climbed (leb (length ws) 64) TableFull (judged (run_of (kind_steps kinds ws) []) (deepest ws 0)) k (not_full k) e in
    let j = judged_known (run_of (kind_steps kinds ws) []) (deepest ws 0) k c.1 in
    record { short = leb-true (length ws) 64 c.0; shallow = j.0; run = j.1 }

-- a run of the values beside one of the kinds that gives a kind
given : (r : Ran (Option Val)) (q : Ran Kinded) (k : Kind) → Agree r q → q ≡ gives (of k) → (v : Option Val) × ((r ≡ gives v) × HasKind v k)
given (gives v) q k h e = (v, (refl, subst (Agree (gives v)) e h))
given stuck q k h e = absurd (subst (Agree stuck) e h)

module _ (vars : List Slot) (kinds : List ℕ) (fit : Fit vars kinds) (ws : List ℕ) (k : Kind) (typed : type_of kinds ws ≡ Known k)
    (word : ℕ) where
  -- An expression typed as a kind never sticks on variables of their kinds,
  pub typed_runs : (v : Option Val) × ((run_of (value_steps vars word ws) [] ≡ gives v) × HasKind v k)
  typed_runs =
      given (run_of (value_steps vars word ws) []) (run_of (kind_steps kinds ws) []) k (agree vars kinds fit ws word)
      (found kinds ws k typed).run

  -- and has a value of that kind or none.
  pub typed_value : HasKind (value_of vars word ws) k
  typed_value =
      let r = typed_runs in
      subst (λ (e : Option Val). HasKind e k)
      (value_given vars word ws {v = r.0} (le-leb (deepest ws 0) 16 (found kinds ws k typed).shallow) r.1.0) r.1.1

module _ (kinds ws : List ℕ) (k : Kind) (typed : type_of kinds ws ≡ Known k) where
  -- It never has more than 16 operands waiting,
  pub typed_operands : deepest ws 0 ≤ 16
  typed_operands = (found kinds ws k typed).shallow

  -- and it has 1 to 64 items.
  pub typed_items : (1 ≤ length ws) × (length ws ≤ 64)
  unfolding run_of kind_steps
  typed_items = (some ws (found kinds ws k typed).run, (found kinds ws k typed).short)
    where
      some : (l : List ℕ) → run_of (kind_steps kinds l) [] ≡ gives (of k) → 1 ≤ length l
      some [] e = let z : ◌≡◌ {A = ℕ} 0 1 = cc in absurd (omega arith)
      some (w ∷ l) e = omega arith

-- The bits that an expression takes are the number of its draws.
pub bits_taken : (vars : List Slot) (word : ℕ) (ws : List ℕ) → (evaluation_of vars word ws).rest ≡ word / 2 ^ draws_of ws
unfolding evaluation_of
bits_taken vars word ws = refl

-- 2 ^ (m + n) as a multiple of 2 ^ m, and the digits above the lowest m
divides : (m n : ℕ) → 2 ^ m ∣ 2 ^ (m + n)
divides m n = rw (pow-add 2 m n) (dvd-mul_right (2 ^ m) (2 ^ n))

upper : (m n x : ℕ) → x % 2 ^ (m + n) / 2 ^ m ≡ x / 2 ^ m % 2 ^ n
upper m n x =
    ap (λ (p : ℕ). x % p / 2 ^ m) (pow-add 2 m n ∙ mul_comm (2 ^ m) (2 ^ n))
    ∙ ap (λ (y : ℕ). y / 2 ^ m) (mod-mul x {m = 2 ^ n} {c = 2 ^ m} (pow_pos n) (pow_pos m))
    ∙ digits_div (x / 2 ^ m % 2 ^ n) (mod-lt x (pow_pos m))

-- Only those bits are read: two words that agree in them give one value. Without draws the word is not read at all.
module _ (vars : List Slot) where
  -- the bits of the first item, and of the items after it
  here : (m n u v : ℕ) → u % 2 ^ (m + n) ≡ v % 2 ^ (m + n) → u % 2 ^ m ≡ v % 2 ^ m
  here m n u v e =
      sym (mod-mod_of_dvd (2 ^ m) u (divides m n)) ∙ ap (λ (x : ℕ). x % 2 ^ m) e ∙ mod-mod_of_dvd (2 ^ m) v (divides m n)

  after : (m n u v : ℕ) → u % 2 ^ (m + n) ≡ v % 2 ^ (m + n) → u / 2 ^ m % 2 ^ n ≡ v / 2 ^ m % 2 ^ n
  after m n u v e = sym (upper m n u) ∙ ap (λ (x : ℕ). x / 2 ^ m) e ∙ upper m n v

  same_step : (r : Read) (u v : ℕ) → u % 2 ^ draws_in r ≡ v % 2 ^ draws_in r → value_step vars u r ≡ value_step vars v r
  same_step (item (Item.Constant x)) u v e = refl
  same_step (item (Item.Variable n)) u v e = refl
  same_step (item (Item.Unary o)) u v e = refl
  same_step (item (Item.Binary o)) u v e = refl
  same_step (item Item.Draw) u v e = ap (λ (b : ℕ). push (boolean (eqb b 1))) e
  same_step none u v e = refl

  same_steps : (ws : List ℕ) (u v : ℕ) → u % 2 ^ draws_of ws ≡ v % 2 ^ draws_of ws → value_steps vars u ws ≡ value_steps vars v ws
  unfolding value_steps draws_of
  same_steps [] u v e = refl
  same_steps (w ∷ ws) u v e =
      let m = draws_in (item_of w) in
      ap (λ (s : Step (Option Val)). s ∷ value_steps vars (u / 2 ^ m) ws) (same_step (item_of w) u v (here m (draws_of ws) u v e))
      ∙ ap (λ (l : List (Step (Option Val))). value_step vars v (item_of w) ∷ l)
      (same_steps ws (u / 2 ^ m) (v / 2 ^ m) (after m (draws_of ws) u v e))

  pub bits_read : (ws : List ℕ) (u v : ℕ) → u % 2 ^ draws_of ws ≡ v % 2 ^ draws_of ws → value_of vars u ws ≡ value_of vars v ws
  unfolding value_of
  bits_read ws u v e =
      ap (λ (l : List (Step (Option Val))). unless (leb (deepest ws 0) 16) None (result_of (run_of l []))) (same_steps ws u v e)

  pub word_unread : (ws : List ℕ) (u v : ℕ) → draws_of ws ≡ 0 → value_of vars u ws ≡ value_of vars v ws
  word_unread ws u v e = bits_read ws u v (rw e (omega arith))

-- an item whose payload has its 32 bits
abbrev pub Proper : Item → Type 0
Proper (Item.Constant (Boolean b)) = Unit {0}
Proper (Item.Constant (Integer n)) = SFits w32 n
Proper (Item.Variable n) = Unit {0}
Proper (Item.Unary u) = Unit {0}
Proper (Item.Binary b) = Unit {0}
Proper Item.Draw = Unit {0}

-- The word of an item says that item.
operand_back : (p op : ℕ) → 14 ≤ op → op < 256 → item_of (p * 256 + op) ≡ operand_of op p
operand_back p op l h =
    high (p * 256 + op) (omega arith) ∙ ap (λ (o : ℕ). operand_of o ((p * 256 + op) / 256)) (digits_mod p h)
    ∙ ap (operand_of op) (digits_div p h)

number_back : (n : ℤ) → SFits w32 n → operand_of 15 (bits_of n) ≡ constant (Integer n)
number_back n f = rw (lt-ltb (bits_of n) 4294967296 (bits_small n f)) (ap (λ (z : ℤ). constant (Integer z)) (from_bits_of n f))

pub read_back : (i : Item) → Proper i → item_of (word_of i) ≡ item i
unfolding item_of
read_back (Item.Constant (Boolean true)) p = refl
read_back (Item.Constant (Boolean false)) p = refl
read_back (Item.Constant (Integer n)) p = operand_back (bits_of n) 15 (lit≤ tt) (lit< tt) ∙ number_back n p
read_back (Item.Variable n) p = operand_back n 16 (lit≤ tt) (lit< tt)
read_back (Item.Unary Not) p = refl
read_back (Item.Unary Negate) p = refl
read_back (Item.Binary And) p = refl
read_back (Item.Binary Or) p = refl
read_back (Item.Binary Add) p = refl
read_back (Item.Binary Subtract) p = refl
read_back (Item.Binary Multiply) p = refl
read_back (Item.Binary Divide) p = refl
read_back (Item.Binary Remainder) p = refl
read_back (Item.Binary Equal) p = refl
read_back (Item.Binary Less) p = refl
read_back (Item.Binary LessOrEqual) p = refl
read_back Item.Draw p = refl

-- The marked examples.
pub marked : Hold examples
unfolding item_of draws_of deepest run_of unless kind_steps type_of value_steps value_of evaluation_of
marked = (
  refl,
  (
    refl,
    (
      refl,
      (
        refl,
        (
          refl,
          (
            refl,
            (
              refl,
              (
                refl,
                (
                  refl,
                  (
                    refl,
                    (
                      refl,
                      (
                        refl,
                        (
                          refl,
                          (
                            refl,
                            (
                              refl,
                              (
                                refl,
                                (
                                  refl,
                                  (
                                    refl,
                                    (
                                      refl,
                                      (
                                        refl,
                                        (
                                          refl,
                                          (refl, (refl, (refl, (refl, (refl, (refl, (refl, (refl, (refl, (refl, (refl, (refl, (refl, (refl, tt)))))))))))))),
                                        ),
                                      ),
                                    ),
                                  ),
                                ),
                              ),
                            ),
                          ),
                        ),
                      ),
                    ),
                  ),
                ),
              ),
            ),
          ),
        ),
      ),
    ),
  ),
)
