-- Lists in order whose members are known, and how they are made a part at a time.
use Prim.Native.Nat.{ℕ, zero, suc, ◌<◌}
use mathlib.Core.Path.{◌≡◌, refl, sym}
use mathlib.Core.Bool.{Bool, true, false, cond}
use mathlib.Core.List.Memᴰ
use mathlib.Core.List.{List, [], ◌∷◌, ◌++◌, map, map-append, Memᴰ}
use mathlib.Core.Logic.{◌⊎◌, inl, inr, ⊎_elim, ⊎_map}
use native.Mathlib.Nat.{le_of_suc-le-suc, not-suc-le-zero, eq-or-lt_of_le}
use native.Mathlib.Omega.{arith}
use Rattle.laws.proofs.Tests.{never}
use Rattle.graph_tables.specs.declared.answers.Entry.{Entry}
use Rattle.run_steps.specs.Listing.{join_below}
use Rattle.run_steps.specs.Rows.{Ascending, Catalog}

-- ---- two lists in a row, and the image of a list
module _ {A : Type 0} (Before : A → A → Type 0) where
  ascending_append : (xs ys : List A) → Ascending Before xs → Ascending Before ys
      → ((x y : A) → Memᴰ x xs → Memᴰ y ys → Before x y) → Ascending Before (xs ++ ys)
  ascending_append [] ys a b h = b
  ascending_append (x ∷ xs) ys a b h = (
    λ y m. ⊎_elim (a.0 y) (h x y (Memᴰ.head refl)) (Memᴰ.append_cases xs m),
    ascending_append xs ys a.1 b
        (λ u v m. h u v (Memᴰ.tail m)),
  )

pub in_map : {A B : Type 0} (image : A → B) {e : B} (rows : List A) → Memᴰ e (map image rows)
    → (r : A) × Memᴰ r rows × (e ≡ image r)
in_map image [] m = absurd (Memᴰ.not-nil m)
in_map image (x ∷ rows) (Memᴰ.head q) = (x, Memᴰ.head refl, q)
in_map image (x ∷ rows) (Memᴰ.tail m) = let i = in_map image rows m in (i.0, Memᴰ.tail i.1, i.2)

pub ascending_map :
    {A B : Type 0} (Before : A → A → Type 0) (After : B → B → Type 0) (image : A → B) (rows : List A) →
    ((r s : A) → Memᴰ r rows → Memᴰ s rows → Before r s → After (image r) (image s)) →
    Ascending Before rows → Ascending After (map image rows)
ascending_map Before After image [] h a = tt
ascending_map Before After image (x ∷ rows) h a = (
  λ y m. let i = in_map image rows m in rw i.2 (h x i.0 (Memᴰ.head refl) (Memᴰ.tail i.1) (a.0 i.0 i.1)),
  ascending_map Before After image rows (λ r s m k. h r s (Memᴰ.tail m) (Memᴰ.tail k)) a.1,
)

-- ---- catalogs
module _ {A B : Type 0} (Before : A → A → Type 0) (image : A → B) where
  pub catalog_one : (x : A) → Catalog Before image (λ r. r ≡ x) (image x ∷ [])
  catalog_one x =
      record {
        rows = x ∷ [];
        entries = refl;
        only = λ r m. Memᴰ.eq_of_singleton m;
        every = λ r e. Memᴰ.head e;
        ascending = (λ y m. absurd (Memᴰ.not-nil m), tt);
      }

  pub catalog_if : {P : A → Type 0} {list : List B} (b : Bool) → Catalog Before image P list
      → Catalog Before image (λ r. (b ≡ true) × P r) (cond b list [])
  catalog_if true c =
      record {
        rows = c.rows;
        entries = c.entries;
        only = λ r m. (refl, c.only r m);
        every = λ r p. c.every r p.1;
        ascending = c.ascending;
      }
  catalog_if false c =
      record { rows = []; entries = refl; only = λ r m. absurd (Memᴰ.not-nil m); every = λ r p. never p.0; ascending = tt }

  pub catalog_same : {P Q : A → Type 0} {list : List B} → ((r : A) → P r → Q r) → ((r : A) → Q r → P r) → Catalog Before image P list
      → Catalog Before image Q list
  catalog_same f g c =
      record {
        rows = c.rows;
        entries = c.entries;
        only = λ r m. f r (c.only r m);
        every = λ r q. c.every r (g r q);
        ascending = c.ascending;
      }

  pub catalog_two :
      {P Q : A → Type 0} {xs ys : List B} → Catalog Before image P xs → Catalog Before image Q ys →
      ((r s : A) → P r → Q s → Before r s) → Catalog Before image (λ r. P r ⊎ Q r) (xs ++ ys)
  catalog_two c d before =
      record {
        rows = c.rows ++ d.rows;
        entries = rw (c.entries, d.entries) (sym (map-append image c.rows d.rows));
        only = λ r m. ⊎_map (c.only r) (d.only r) (Memᴰ.append_cases c.rows m);
        every = λ r. ⊎_elim (λ p. Memᴰ.append_left d.rows (c.every r p)) (λ q. Memᴰ.append_right c.rows (d.every r q));
        ascending =
            ascending_append Before c.rows d.rows c.ascending d.ascending (λ r s m k. before r s (c.only r m) (d.only s k));
      }

-- ---- lists joined, list i being the catalog g i of the rows of which Q i holds
module _ {A : Type 0} (Before : A → A → Type 0) (image : A → Entry) (g : ℕ → List Entry) (Q : ℕ → A → Type 0) where
  abbrev Below : ℕ → A → Type 0
  Below n r = (i : ℕ) × (i < n) × Q i r

  one_more : (n : ℕ) (r : A) → Below n r ⊎ Q n r → Below (suc n) r
  one_more n r (inl s) = (s.0, omega arith, s.2)
  one_more n r (inr q) = (n, omega arith, q)

  one_less : (n : ℕ) (r : A) → Below (suc n) r → Below n r ⊎ Q n r
  one_less n r s =
      ⊎_elim (λ (e : s.0 ≡ n). inr (rw e at s.2)) (λ (l : s.0 < n). inl (s.0, l, s.2)) (eq-or-lt_of_le (le_of_suc-le-suc s.1))

  pub catalog_join :
      (n : ℕ) → ((i : ℕ) → i < n → Catalog Before image (Q i) (g i)) →
      ((i j : ℕ) → i < j → j < n → (r s : A) → Q i r → Q j s → Before r s) →
      Catalog Before image (λ r. (i : ℕ) × (i < n) × Q i r) (join_below n g)
  unfolding join_below
  catalog_join zero part before =
      record {
        rows = [];
        entries = refl;
        only = λ r m. absurd (Memᴰ.not-nil m);
        every = λ r s. absurd (not-suc-le-zero s.1);
        ascending = tt;
      }
  catalog_join (suc n) part before =
      catalog_same Before image (one_more n) (one_less n)
      (catalog_two Before image
      (catalog_join n (λ i l. part i (omega arith)) (λ i j l m. before i j l (omega arith)))
      (part n (omega arith))
      (λ r s x q. before x.0 n x.1 (omega arith) r s x.2 q))
