-- Reading and writing decimals undo each other, and how long the text of a number is.
use Prim.Native.Nat.{ℕ, zero, suc, ◌+◌, ◌-◌, ◌*◌, ◌/◌, ◌%◌, ◌^◌, ◌<◌, ◌≤◌}
use mathlib.Core.Path.{◌≡◌, refl, sym, ap, ◌∙◌}
use mathlib.Core.Bool.{Bool, true, false, cond}
use mathlib.Core.List.{List, [], ◌∷◌, ◌++◌, append-nil, append_assoc}
use mathlib.Core.Option.{Option, none, some}
use native.Mathlib.Nat.{pow-suc}
use native.Mathlib.Decide.{dec_lt}
use native.Mathlib.Omega.{arith}
use lib.Dec.{eqb, leb}
use lib.ListN.{length, length-append}
use lib.IntN.{ℤ, pos, negsuc, nat_abs}
use borrow.Author.Tests.{eqb-true, eqb-false, ne_eqb, lt-ltb, le-ltb, le-leb, leb-true}
use Rattle.numbers.proofs.Bools.{and_left, and_right}
use Rattle.text.specs.Decimal.{is_digit, digits_from, read_nat, above, below, read_int, decimal_in, decimal, int_text}
use Rattle.text.proofs.PartLaws.{Free, Free-append}

-- ---- the text of a number, digit by digit

-- more places than are needed change nothing
enough : (f g n : ℕ) → n < f → n < g → decimal_in f n ≡ decimal_in g n
enough zero g n h k = absurd (omega arith)
enough (suc f) zero n h k = absurd (omega arith)
enough (suc f) (suc g) n h k = elim (dec_lt n 10) [ yes l ↦ rw (lt-ltb n 10 l) | no l ↦ more (omega arith) (λ u v. enough f g (n / 10) u v) ]
  where
    more : 10 ≤ n → (n / 10 < f → n / 10 < g → decimal_in f (n / 10) ≡ decimal_in g (n / 10)) → decimal_in (suc f) n ≡ decimal_in (suc g) n
    more l r = rw (le-ltb n 10 l, r (omega arith) (omega arith))

pub decimal_digit : (n : ℕ) → n < 10 → decimal n ≡ (48 + n) ∷ []
unfolding decimal
decimal_digit n h = rw (lt-ltb n 10 h)

pub decimal_more : (n : ℕ) → 10 ≤ n → decimal n ≡ decimal (n / 10) ++ ((48 + n % 10) ∷ [])
unfolding decimal
decimal_more n h = rw (le-ltb n 10 h, enough n (suc (n / 10)) (n / 10) (omega arith) (omega arith))

-- induction along the digits: what holds of one digit, and of n where it holds of n / 10
pub digit_ind : (P : ℕ → Type 0) → ((n : ℕ) → n < 10 → P n) → ((n : ℕ) → 10 ≤ n → P (n / 10) → P n) → (n : ℕ) → P n
digit_ind P one more n = go (suc n) n (omega arith)
  where
    go : (f n : ℕ) → n < f → P n
    go zero n h = absurd (omega arith)
    go (suc f) n h = elim (dec_lt n 10) [ yes l ↦ one n l | no l ↦ more n (omega arith) (go f (n / 10) (omega arith)) ]

-- ---- reading what was written

-- one more digit at the end
abbrev push : Option ℕ → ℕ → Option ℕ
push none d = none
push (some m) d = cond (is_digit d) (some (m * 10 + (d - 48))) none

digits_from_snoc : (xs : List ℕ) (n d : ℕ) → digits_from n (xs ++ (d ∷ [])) ≡ push (digits_from n xs) d
digits_from_snoc [] n d = refl
digits_from_snoc (x ∷ xs) n d = go (is_digit x) (digits_from_snoc xs (n * 10 + (x - 48)) d)
  where
    go : (b : Bool) → digits_from (n * 10 + (x - 48)) (xs ++ (d ∷ [])) ≡ push (digits_from (n * 10 + (x - 48)) xs) d
        → cond b (digits_from (n * 10 + (x - 48)) (xs ++ (d ∷ []))) none ≡ push (cond b (digits_from (n * 10 + (x - 48)) xs) none) d
    go true e = e
    go false e = refl

pub digit_yes : (d : ℕ) → 48 ≤ d → d ≤ 57 → is_digit d ≡ true
digit_yes d l h = rw (le-leb 48 d l, le-leb d 57 h)

-- the digits of n read as n
digits_from_decimal : (n : ℕ) → digits_from 0 (decimal n) ≡ some n
digits_from_decimal =
    digit_ind (λ n. digits_from 0 (decimal n) ≡ some n)
    (λ n h. rw (decimal_digit n h, digit_yes (48 + n) (omega arith) (omega arith)) (ap some (omega arith)))
    (λ n h e. rw (decimal_more n h, digits_from_snoc, e, digit_yes (48 + n % 10) (omega arith) (omega arith)) (ap some (omega arith)))

-- a number's text begins with a digit, which is 0 for 0 alone
record Lead (n : ℕ) (t : List ℕ) : Type 0 where
  first : ℕ
  rest : List ℕ
  text : t ≡ first ∷ rest
  low : 48 ≤ first
  plain : 0 < n → 48 < first

lead : (n : ℕ) → Lead n (decimal n)
lead =
    digit_ind (λ n. Lead n (decimal n))
    (λ n h. record { first = 48 + n; rest = []; text = decimal_digit n h; low = omega arith; plain = λ z. omega arith })
    (λ n h l. record { first = l.first; rest = l.rest ++ ((48 + n % 10) ∷ []); text = rw (decimal_more n h, l.text); low = l.low; plain = λ z. l.plain (omega arith) })

read_nat_lead : (d : ℕ) (ds : List ℕ) → 48 < d → read_nat (d ∷ ds) ≡ digits_from 0 (d ∷ ds)
read_nat_lead d [] h = refl
read_nat_lead d (e ∷ es) h = rw (ne_eqb d 48 (omega arith))

read_nat_decimal : (n : ℕ) → read_nat (decimal n) ≡ some n
read_nat_decimal zero = rw (decimal_digit 0 (omega arith))
read_nat_decimal (suc n) =
    let l = lead (suc n) in
    ap read_nat l.text ∙ read_nat_lead l.first l.rest (l.plain (omega arith)) ∙ ap (digits_from 0) (sym l.text) ∙ digits_from_decimal (suc n)

-- number → text → number
pub read_int_int_text : (z : ℤ) → read_int (int_text z) ≡ some z
read_int_int_text (pos n) =
    let l = lead n in
    let e : read_nat (l.first ∷ l.rest) ≡ some n = ap read_nat (sym l.text) ∙ read_nat_decimal n in
    let h = l.low in
    rw (l.text, ne_eqb l.first 45 (omega arith), e)
read_int_int_text (negsuc n) = rw (read_nat_decimal (suc n))

-- ---- writing what was read

cond_some : (b : Bool) (o : Option ℕ) (n : ℕ) → cond b o none ≡ some n → (b ≡ true) × (o ≡ some n)
cond_some true o n e = (refl, e)
cond_some false o n e = let z : ◌≡◌ {A = ℕ} 0 1 = cc in absurd (omega arith)

cond_none : (b : Bool) (o : Option ℕ) (n : ℕ) → cond b none o ≡ some n → (b ≡ false) × (o ≡ some n)
cond_none true o n e = let z : ◌≡◌ {A = ℕ} 0 1 = cc in absurd (omega arith)
cond_none false o n e = (refl, e)

digit_range : (d : ℕ) → is_digit d ≡ true → (48 ≤ d) × (d ≤ 57)
digit_range d e = (leb-true 48 d (and_left (leb 48 d) (leb d 57) e), leb-true d 57 (and_right (leb 48 d) (leb d 57) e))

-- digits that follow a number that is not 0 follow its text
digits_follow : (s : List ℕ) (m n : ℕ) → digits_from m s ≡ some n → 0 < m → decimal n ≡ decimal m ++ s
digits_follow [] m n e z = let q : m ≡ n = cc in rw (← q) (sym (append-nil (decimal m)))
digits_follow (d ∷ ds) m n e z =
    let c = cond_some (is_digit d) (digits_from (m * 10 + (d - 48)) ds) n e in
    let r = digit_range d c.0 in
    let m' : ℕ = m * 10 + (d - 48) in
    let ih = digits_follow ds m' n c.1 (omega arith) in
    let q : m' / 10 ≡ m = omega arith in
    let p : 48 + m' % 10 ≡ d = omega arith in
    let step = decimal_more m' (omega arith) in
    ih ∙ ap (λ (l : List ℕ). l ++ ds) (step ∙ ap (λ (k : ℕ). decimal k ++ ((48 + m' % 10) ∷ [])) q ∙ ap (λ (k : ℕ). decimal m ++ (k ∷ [])) p) ∙ append_assoc (decimal m) (d ∷ []) ds

decimal_read_nat : (s : List ℕ) (n : ℕ) → read_nat s ≡ some n → decimal n ≡ s
decimal_read_nat [] n e = let z : ◌≡◌ {A = ℕ} 0 1 = cc in absurd (omega arith)
decimal_read_nat (d ∷ []) n e =
    let c = cond_some (is_digit d) (some (0 * 10 + (d - 48))) n e in
    let r = digit_range d c.0 in
    let q : 0 * 10 + (d - 48) ≡ n = ap (λ (o : Option ℕ). value o) c.1 in
    let k : 48 + n ≡ d = omega arith in
    decimal_digit n (omega arith) ∙ ap (λ (x : ℕ). x ∷ []) k
  where
    value : Option ℕ → ℕ
    value none = 0
    value (some x) = x
decimal_read_nat (d ∷ e ∷ ds) n q =
    let a = cond_none (eqb d 48) (digits_from 0 (d ∷ e ∷ ds)) n q in
    let c = cond_some (is_digit d) (digits_from (0 * 10 + (d - 48)) (e ∷ ds)) n a.1 in
    let r = digit_range d c.0 in
    let z = eqb-false d 48 a.0 in
    let k : 48 + (0 * 10 + (d - 48)) ≡ d = omega arith in
    let low : 0 < 0 * 10 + (d - 48) = omega arith in
    digits_follow (e ∷ ds) (0 * 10 + (d - 48)) n c.1 low
    ∙ ap (λ (l : List ℕ). l ++ e ∷ ds) (decimal_digit (0 * 10 + (d - 48)) (omega arith) ∙ ap (λ (x : ℕ). x ∷ []) k)

-- text → number → text
pub int_text_read_int : (s : List ℕ) (z : ℤ) → read_int s ≡ some z → int_text z ≡ s
int_text_read_int [] z e = let q : ◌≡◌ {A = ℕ} 0 1 = cc in absurd (omega arith)
int_text_read_int (d ∷ ds) z e = go (eqb d 45) refl e
  where
    neg : (o : Option ℕ) → read_nat ds ≡ o → d ≡ 45 → below o ≡ some z → int_text z ≡ d ∷ ds
    neg none r q f = let x : ◌≡◌ {A = ℕ} 0 1 = cc in absurd (omega arith)
    neg (some zero) r q f = let x : ◌≡◌ {A = ℕ} 0 1 = cc in absurd (omega arith)
    neg (some (suc n)) r q f =
        let k : negsuc n ≡ z = cc in
        rw (← k, ← q) (ap (λ (l : List ℕ). d ∷ l) (decimal_read_nat ds (suc n) r))

    up : (o : Option ℕ) → read_nat (d ∷ ds) ≡ o → above o ≡ some z → int_text z ≡ d ∷ ds
    up none r f = let x : ◌≡◌ {A = ℕ} 0 1 = cc in absurd (omega arith)
    up (some n) r f =
        let k : pos n ≡ z = cc in
        rw (← k) (decimal_read_nat (d ∷ ds) n r)

    go : (b : Bool) → eqb d 45 ≡ b → cond b (below (read_nat ds)) (above (read_nat (d ∷ ds))) ≡ some z → int_text z ≡ d ∷ ds
    go true q f = neg (read_nat ds) refl (eqb-true d 45 q) f
    go false q f = up (read_nat (d ∷ ds)) refl f

-- ---- a number's text has no tab and no line feed

decimal_free : (c n : ℕ) → c < 45 → Free c (decimal n)
decimal_free c n l =
    digit_ind (λ m. Free c (decimal m))
    (λ m h. rw (decimal_digit m h) (ne_eqb (48 + m) c (omega arith), tt))
    (λ m h f. rw (decimal_more m h) (Free-append c (decimal (m / 10)) ((48 + m % 10) ∷ []) f (ne_eqb (48 + m % 10) c (omega arith), tt)))
    n

pub int_text_free : (c : ℕ) (z : ℤ) → c < 45 → Free c (int_text z)
int_text_free c (pos n) l = decimal_free c n l
int_text_free c (negsuc n) l = (ne_eqb 45 c (omega arith), decimal_free c (suc n) l)

-- ---- lengths

pub length_digit : (n : ℕ) → n < 10 → length (decimal n) ≡ 1
length_digit n h = ap length (decimal_digit n h)

pub length_more : (n : ℕ) → 10 ≤ n → length (decimal n) ≡ length (decimal (n / 10)) + 1
length_more n h = ap length (decimal_more n h) ∙ length-append (decimal (n / 10)) ((48 + n % 10) ∷ [])

-- a number below 10 ^ (d + 1) has at most d + 1 digits
length_below : (d n : ℕ) → n < 10 ^ suc d → length (decimal n) ≤ suc d
length_below zero n h = let k : n < 10 = h in omega (arith, length_digit n k)
length_below (suc d) n h = elim (dec_lt n 10) [ yes l ↦ omega (arith, length_digit n l) | no l ↦ more (omega arith) (λ k. length_below d (n / 10) k) ]
  where
    more : 10 ≤ n → (n / 10 < 10 ^ suc d → length (decimal (n / 10)) ≤ suc d) → length (decimal n) ≤ suc (suc d)
    more l r = let k : n < 10 ^ suc d * 10 = rw pow-suc at h in let e = length_more n l in let i = r (omega arith) in omega arith

-- a sign and at most d + 1 digits
pub int_text_length : (d : ℕ) (z : ℤ) → nat_abs z < 10 ^ suc d → length (int_text z) ≤ suc (suc d)
int_text_length d (pos n) h = let k = length_below d n h in omega arith
int_text_length d (negsuc n) h = let k = length_below d (suc n) h in omega arith

pub pos_text_length : (d n : ℕ) → n < 10 ^ suc d → length (int_text (pos n)) ≤ suc d
pos_text_length = length_below
