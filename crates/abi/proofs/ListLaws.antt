-- The list of a function's first values, as calls of a closure or a loop give it, and runs of stores one behind the other.
use Prim.Native.Nat.{ℕ, zero, suc, ◌+◌, ◌*◌, ◌≤◌, ◌<◌}
use mathlib.Core.Path.{◌≡◌, refl, sym, ap, ◌∙◌, subst}
use mathlib.Core.List.{List, [], ◌∷◌, ◌++◌, append-nil}
use mathlib.Core.Logic.{⊎_elim}
use native.Mathlib.Numerals.{add-one}
use native.Mathlib.Nat.{suc-mul, mul-le-mul_right, eq-or-lt_of_le}
use native.Mathlib.Omega.{arith}
use borrow.Author.Count.{below_more, below_none}
use lib.ListN.{length, get_or, set, length-append, length-set, drop_of_length-le, get_or-append}
use lib.Seq.{ext_get_or, get_or-set_same, get_or-set_other, get_or-append-add, sets, length-sets, sets-eq}
use Rattle.std.specs.Array.{IsFromFnResult, IsFromFnResultFrom}
use denote.Param.Members.{Mut, Called}
use Rattle.abi.specs.Abi.{list_of, joined}

module _ {A : Type 0} where
  pub length_list_of : (f : ℕ → A) (n : ℕ) → length (list_of f n) ≡ n
  unfolding list_of
  length_list_of f zero = refl
  length_list_of f (suc n) = ap suc (length_list_of (λ i. f (suc i)) n)

  pub get_or_list_of : (f : ℕ → A) (n k : ℕ) (d : A) → k < n → get_or (list_of f n) k d ≡ f k
  unfolding list_of
  get_or_list_of f zero k d h = absurd (omega arith)
  get_or_list_of f (suc n) zero d h = refl
  get_or_list_of f (suc n) (suc k) d h = get_or_list_of (λ i. f (suc i)) n k d (omega arith)

  pub joined_more : (f : ℕ → List A) (n : ℕ) → joined f n ++ f n ≡ joined f (n + 1)
  unfolding joined
  joined_more f n = rw add-one

  -- the first i of n places hold f's values
  pub record Filled (f : ℕ → A) (d : A) (n i : ℕ) (xs : List A) : Type 0 where
    pub size : length xs ≡ n
    pub values : (k : ℕ) → k < i → get_or xs k d ≡ f k

  pub filled_none : (f : ℕ → A) (d : A) (n : ℕ) (xs : List A) → length xs ≡ n → Filled f d n 0 xs
  filled_none f d n xs e = record { size = e; values = below_none (λ k. get_or xs k d ≡ f k) }

  pub filled_more : (f : ℕ → A) (d : A) (n i : ℕ) (xs : List A) (x : A) → Filled f d n i xs → i < n → x ≡ f i → Filled f d n (i + 1) (set xs i x)
  filled_more f d n i xs x h l e =
      let s = h.size in
      record {
        size = length-set xs i x ∙ s;
        values =
            below_more (λ k. get_or (set xs i x) k d ≡ f k) i
            (λ k b. get_or-set_other xs i k x d (λ q. omega arith) ∙ h.values k b)
            (get_or-set_same xs i x d (omega arith) ∙ e);
      }

  pub filled_all : (f : ℕ → A) (d : A) (n i : ℕ) (xs : List A) → Filled f d n i xs → n ≤ i → xs ≡ list_of f n
  filled_all f d n i xs h l =
      let s = h.size in
      ext_get_or d xs (list_of f n) (s ∙ sym (length_list_of f n))
      (λ k b. h.values k (omega arith) ∙ sym (get_or_list_of f n k d (omega arith)))

  -- a run of stores behind another
  pub sets_append : (l : List A) (i : ℕ) (xs ys : List A) → sets (sets l i xs) (i + length xs) ys ≡ sets l i (xs ++ ys)
  sets_append l i [] ys = ap (λ (k : ℕ). sets l k ys) (omega arith)
  sets_append l i (x ∷ xs) ys =
      ap (λ (k : ℕ). sets (sets (set l i x) (suc i) xs) k ys) (omega arith) ∙ sets_append (set l i x) (suc i) xs ys

  -- a run of stores over the whole list
  pub sets_whole : (l xs : List A) → length l ≡ length xs → sets l 0 xs ≡ xs
  sets_whole l xs e =
      sets-eq xs l 0 (omega arith) ∙ ap (λ (r : List A). xs ++ r) (drop_of_length-le l {i = 0 + length xs} (omega arith)) ∙ append-nil xs

  pub length_joined : (f : ℕ → List A) (m n : ℕ) → ((k : ℕ) → k < n → length (f k) ≡ m) → length (joined f n) ≡ n * m
  unfolding joined
  length_joined f m zero h = omega arith
  length_joined f m (suc n) h =
      let a = length_joined f m n (λ k l. h k (omega arith)) in let b = h n (omega arith) in
      omega (arith, length-append (joined f n) (f n), suc-mul n m)

  -- one list more behind n lists of m values, in a run of stores from i on
  pub sets_joined : (f : ℕ → List A) (m n : ℕ) (l : List A) (i : ℕ) → ((k : ℕ) → k < n → length (f k) ≡ m)
      → sets (sets l i (joined f n)) (n * m + i) (f n) ≡ sets l i (joined f (n + 1))
  sets_joined f m n l i h =
      let e = length_joined f m n h in
      ap (λ (k : ℕ). sets (sets l i (joined f n)) k (f n)) (omega arith) ∙ sets_append l i (joined f n) (f n)
      ∙ ap (λ (k : List A). sets l i k) (joined_more f n)

  -- the first i of n lists stored one behind the other from place at on
  pub record Run (f : ℕ → List A) (n : ℕ) (l : List A) (at i : ℕ) (out : List A) : Type 0 where
    pub most : i ≤ n
    pub holds : out ≡ sets l at (joined f i)

  pub run_none : (f : ℕ → List A) (n : ℕ) (l : List A) (at : ℕ) → Run f n l at 0 l
  unfolding joined
  run_none f n l at = record { most = omega arith; holds = refl }

  pub run_length : (f : ℕ → List A) (n : ℕ) (l : List A) (at i : ℕ) (out : List A) → Run f n l at i out → length out ≡ length l
  run_length f n l at i out r = ap length r.holds ∙ length-sets l at (joined f i)

  pub run_more : (f : ℕ → List A) (m n : ℕ) (l : List A) (at i : ℕ) (out : List A) (xs after : List A) → ((k : ℕ) → length (f k) ≡ m)
      → Run f n l at i out → i < n → after ≡ sets out (i * m + at) xs → xs ≡ f i → Run f n l at (i + 1) after
  run_more f m n l at i out xs after h r b w e =
      record {
        most = omega arith;
        holds =
            w ∙ ap (λ (ys : List A). sets out (i * m + at) ys) e ∙ ap (λ (o : List A). sets o (i * m + at) (f i)) r.holds
            ∙ sets_joined f m i l at (λ k d. h k);
      }

  pub run_all : (f : ℕ → List A) (n : ℕ) (l : List A) (at i : ℕ) (out : List A) → Run f n l at i out → n ≤ i → out ≡ sets l at (joined f n)
  run_all f n l at i out r b = r.holds ∙ ap (λ (k : ℕ). sets l at (joined f k)) (let m = r.most in omega arith)

  -- a list that a function gives value by value
  pub list_of_is : (f : ℕ → A) (d : A) (n : ℕ) (xs : List A) → length xs ≡ n → ((k : ℕ) → k < n → f k ≡ get_or xs k d) → list_of f n ≡ xs
  list_of_is f d n xs e h =
      let s = length_list_of f n in
      ext_get_or d (list_of f n) xs (s ∙ sym e) (λ k b. get_or_list_of f n k d (omega arith) ∙ h k (omega arith))

  -- value j of list k of n lists of m values
  pub get_or_joined : (f : ℕ → List A) (m n : ℕ) (d : A) → ((k : ℕ) → length (f k) ≡ m) → (k j : ℕ) → k < n → j < m
      → get_or (joined f n) (k * m + j) d ≡ get_or (f k) j d
  unfolding joined
  get_or_joined f m zero d h k j a b = absurd (omega arith)
  get_or_joined f m (suc n) d h k j a b =
      let e = length_joined f m n (λ i l. h i) in
      ⊎_elim
      (λ q.
      ap (λ (i : ℕ). get_or (joined f n ++ f n) (i * m + j) d) q
      ∙ ap (λ (i : ℕ). get_or (joined f n ++ f n) (i + j) d) (sym e)
      ∙ get_or-append-add (joined f n) (f n) j d
      ∙ ap (λ (i : ℕ). get_or (f i) j d) (sym q))
      (λ l.
      get_or-append (joined f n) (f n) d (k * m + j) (let q = mul-le-mul_right {m = suc k} {n = n} m l in omega (arith, suc-mul k m))
      ∙ get_or_joined f m n d h k j l b)
      (eq-or-lt_of_le {n = k} {m = n} (omega arith))

  -- two functions that agree below n have the same first n values
  pub list_of_same : (f g : ℕ → A) (n : ℕ) → ((k : ℕ) → k < n → f k ≡ g k) → list_of f n ≡ list_of g n
  unfolding list_of
  list_of_same f g zero h = refl
  list_of_same f g (suc n) h =
      λ i. h 0 (omega arith) i ∷ list_of_same (λ (k : ℕ). f (suc k)) (λ (k : ℕ). g (suc k)) n (λ k b. h (suc k) (omega arith)) i

  -- value k of three
  pub get_or_three : (a b c d : A) (f : ℕ → A) → f 0 ≡ a → f 1 ≡ b → f 2 ≡ c → (k : ℕ) → k < 3 → get_or (a ∷ b ∷ c ∷ []) k d ≡ f k
  get_or_three a b c d f p q r zero l = sym p
  get_or_three a b c d f p q r (suc zero) l = sym q
  get_or_three a b c d f p q r (suc (suc zero)) l = sym r
  get_or_three a b c d f p q r (suc (suc (suc k))) l = absurd (omega arith)

-- the list that calls of a closure give at 0, 1 and so on, where each call gives f's value and leaves the closure as it is
module _ {F B : Type 0} (g : Mut F (ℕ × Unit {0}) B) (s : F) (f : ℕ → B) (call : (i : ℕ) (y : B) (t : F) → Called g s (i, tt) y t → (y ≡ f i) × (t ≡ s)) where
  called_values : (ys : List B) (i n : ℕ) → IsFromFnResultFrom g s ys i n → (k : ℕ) (d : B) → k < n → get_or ys (i + k) d ≡ f (i + k)
  called_values ys i zero r k d l = absurd (omega arith)
  called_values ys i (suc n) r zero d l =
      let e : i + 0 ≡ i = omega arith in
      ap (λ (j : ℕ). get_or ys j d) e ∙ r.2.1 d ∙ (call i r.1 r.0 r.3).0 ∙ sym (ap f e)
  called_values ys i (suc n) r (suc k) d l =
      let e : i + suc k ≡ i + 1 + k = omega arith in
      let rest = subst (λ (t : F). IsFromFnResultFrom g t ys (i + 1) n) (call i r.1 r.0 r.3).1 r.4 in
      ap (λ (j : ℕ). get_or ys j d) e ∙ called_values ys (i + 1) n rest k d (omega arith) ∙ sym (ap f e)

  pub called_list : (ys : List B) (n : ℕ) → IsFromFnResult g s ys n → (d : B) → ys ≡ list_of f n
  called_list ys n r d =
      sym
      (list_of_is f d n ys r.long
      (λ k l. let e : 0 + k ≡ k = omega arith in sym (ap (λ (j : ℕ). get_or ys j d) (sym e) ∙ called_values ys 0 n r.each k d l ∙ ap f e)))
