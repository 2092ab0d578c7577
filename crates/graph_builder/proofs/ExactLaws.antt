-- Chains of which every call is accepted, from a graph to another, and rows that are put in where they stand.
use Prim.Native.Nat.{ℕ, zero, suc, ◌+◌, ◌<◌, ◌≤◌}
use mathlib.Core.Path.{◌≡◌, refl, sym, ap, ◌∙◌}
use mathlib.Core.Bool.{true}
use mathlib.Core.List.{List, [], ◌∷◌, ◌++◌}
use native.Mathlib.Numerals.{add-one}
use native.Mathlib.Omega.{arith}
use borrow.Author.Tests.{le-ltb}
use lib.ListN.{length, get_or, length-append}
use Rattle.graph_tables.specs.Formed.{well_formed}
use Rattle.graph_edits.specs.Lists.{list_of, insert_sorted, changed_at}
use Rattle.graph_edits.proofs.LimitLaws.{sides}
use Rattle.graph_edits.proofs.ListLaws.{list_more, list_length}
use Rattle.graph_builder.specs.Chains.{Call, after, answer_of, Fits, after_all, AllFit}
use Rattle.graph_builder.specs.Reading.{Graph, graph_of, added}
use Rattle.graph_builder.specs.Built.{each_of, AllAccepted}
use Rattle.graph_builder.proofs.Theorems.{reads_as, chain_stays_formed}

-- ---- rows
module _ {A : Type 0} where
  -- the last row by itself
  pub list_last : (f : ℕ → A) (n : ℕ) → list_of f (suc n) ≡ list_of f n ++ (f n ∷ [])
  list_last f n = ap (list_of f) (sym (add-one n)) ∙ list_more f f n (f n) (λ i l. refl) refl

  -- row i
  pub list_at : (f : ℕ → A) (d : A) (n i : ℕ) → i < n → get_or (list_of f n) i d ≡ f i
  unfolding list_of
  list_at f d zero i l = absurd (omega arith)
  list_at f d (suc n) zero l = refl
  list_at f d (suc n) (suc i) l = list_at (λ (j : ℕ). f (suc j)) d n i (omega arith)

  -- equal lists have as many rows,
  pub same_count : (f h : ℕ → A) (n m : ℕ) → list_of f n ≡ list_of h m → n ≡ m
  same_count f h n m e = sym (list_length f n) ∙ ap length e ∙ list_length h m

  -- and the same ones
  pub same_row : (f h : ℕ → A) (n m : ℕ) → list_of f n ≡ list_of h m → (i : ℕ) → i < n → f i ≡ h i
  same_row f h n m e i l =
      sym (list_at f (f i) n i l) ∙ ap (λ (xs : List A). get_or xs i (f i)) e
      ∙ list_at h (f i) m i (omega (arith, same_count f h n m e))

  -- a row behind all that are not above it
  pub insert_last : (number : A → ℕ) (f : ℕ → A) (n : ℕ) (x : A) → ((i : ℕ) → i < n → number (f i) ≤ number x)
      → insert_sorted number x (list_of f n) ≡ list_of f n ++ (x ∷ [])
  unfolding list_of insert_sorted
  insert_last number f zero x below = refl
  insert_last number f (suc n) x below =
      rw (
        le-ltb (number x) (number (f zero)) (below zero (omega arith)),
        insert_last number (λ (i : ℕ). f (suc i)) n x (λ i l. below (suc i) (omega arith)),
      )

  -- rows in order, put in one by one, stand as they stood
  pub insert_next : (number : A → ℕ) (f : ℕ → A) (n : ℕ) → ((i : ℕ) → i < n → number (f i) ≤ number (f n))
      → insert_sorted number (f n) (list_of f n) ≡ list_of f (suc n)
  insert_next number f n below = insert_last number f n (f n) below ∙ sym (list_last f n)

  -- the last of a list
  abbrev last : A → List A → A
  last d [] = d
  last d (x ∷ xs) = last x xs

  last_of : (xs : List A) (d x : A) → last d (xs ++ (x ∷ [])) ≡ x
  last_of [] d x = refl
  last_of (y ∷ xs) d x = last_of xs y x

  -- rows that are a list and one behind it
  pub last_row : (f : ℕ → A) (n a : ℕ) (xs : List A) (x : A) → list_of f n ≡ xs ++ (x ∷ []) → length xs ≡ a → (n ≡ suc a) × (f a ≡ x)
  last_row f n a xs x e long = (count, here)
    where
      count : n ≡ suc a
      count = sym (list_length f n) ∙ ap length e ∙ length-append xs (x ∷ []) ∙ omega arith

      here : f a ≡ x
      here =
          sym (last_of (list_of f a) x (f a)) ∙ ap (last x) (sym (list_last f a) ∙ ap (list_of f) (sym count) ∙ e) ∙ last_of xs x x

  pub change_last : (f : A → A) (xs : List A) (x : A) (a : ℕ) → length xs ≡ a → changed_at a f (xs ++ (x ∷ [])) ≡ xs ++ (f x ∷ [])
  unfolding changed_at
  change_last f [] x zero e = refl
  change_last f [] x (suc a) e = absurd (omega arith)
  change_last f (y ∷ xs) x zero e = absurd (omega arith)
  change_last f (y ∷ xs) x (suc a) e = ap (λ (ys : List A). y ∷ ys) (change_last f xs x a (omega arith))

-- numbers of which none is above the next
pub ascending : (f : ℕ → ℕ) (n : ℕ) → ((i : ℕ) → i + 1 < n → f i ≤ f (i + 1)) → (i j : ℕ) → i ≤ j → j < n → f i ≤ f j
ascending f n order i zero l m = let e : i ≡ 0 = omega arith in rw e (omega arith)
ascending f n order i (suc j) l m =
    sides i (suc j)
    (λ q. let next : f j ≤ f (j + 1) = order j (omega arith) in
    let e : f (j + 1) ≡ f (suc j) = ap f (add-one j) in
    omega (arith, ascending f n order i j (omega arith) (omega arith)))
    (λ e. rw e (omega arith))
    (λ q. absurd (omega arith))

-- ---- chains
fit_both : (xs ys : List Call) → AllFit xs → AllFit ys → AllFit (xs ++ ys)
fit_both [] ys f g = g
fit_both (c ∷ xs) ys f g = (f.0, fit_both xs ys f.1 g)

after_both : (u : List ℕ) (xs ys : List Call) → after_all u (xs ++ ys) ≡ after_all (after_all u xs) ys
after_both u [] ys = refl
after_both u (c ∷ xs) ys = after_both (after u c) xs ys

accepted_both : (u : List ℕ) (xs ys : List Call) → AllAccepted u xs → AllAccepted (after_all u xs) ys → AllAccepted u (xs ++ ys)
accepted_both u [] ys f g = g
accepted_both u (c ∷ xs) ys f g = (f.0, accepted_both (after u c) xs ys f.1 g)

-- these calls are accepted by every table that reads as g, and make one that reads as h of it
pub record Makes (calls : List Call) (g h : Graph) : Type 0 where
  pub fit : AllFit calls
  pub accepted : (u : List ℕ) → well_formed u true ≡ true → graph_of u ≡ g → AllAccepted u calls
  pub makes : (u : List ℕ) → well_formed u true ≡ true → graph_of u ≡ g → graph_of (after_all u calls) ≡ h

pub makes_none : (g : Graph) → Makes [] g g
makes_none g = record { fit = tt; accepted = λ u f e. tt; makes = λ u f e. e }

pub makes_one : (c : Call) (g h : Graph) → Fits c → ((u : List ℕ) → well_formed u true ≡ true → graph_of u ≡ g → answer_of u c ≡ 0)
    → added c g ≡ h → Makes (c ∷ []) g h
makes_one c g h fit ok e = record {
  fit = (fit, tt);
  accepted = λ u f r. (ok u f r, tt);
  makes = λ u f r. reads_as u c fit (ok u f r) ∙ ap (added c) r ∙ e;
}

pub makes_both : (xs ys : List Call) (g h k : Graph) → Makes xs g h → Makes ys h k → Makes (xs ++ ys) g k
makes_both xs ys g h k m n = record {
  fit = fit_both xs ys m.fit n.fit;
  accepted = λ u f r. accepted_both u xs ys (m.accepted u f r) (n.accepted (after_all u xs) (stays u f) (m.makes u f r));
  makes = λ u f r. ap graph_of (after_both u xs ys) ∙ n.makes (after_all u xs) (stays u f) (m.makes u f r);
}
  where
    stays : (u : List ℕ) → well_formed u true ≡ true → well_formed (after_all u xs) true ≡ true
    stays u f = chain_stays_formed u xs m.fit f

pub makes_each : (f : ℕ → List Call) (stage : ℕ → Graph) (n : ℕ) → ((i : ℕ) → i < n → Makes (f i) (stage i) (stage (suc i)))
    → Makes (each_of f n) (stage 0) (stage n)
unfolding each_of
makes_each f stage zero each = makes_none (stage 0)
makes_each f stage (suc n) each =
    makes_both (each_of f n) (f n) (stage 0) (stage n) (stage (suc n)) (makes_each f stage n (λ i l. each i (omega arith)))
    (each n (omega arith))
