-- Laws of the keys: eight bytes as one number, keys stored in lists, and keys that agree exactly where two grids share what they may not.
use Prim.Native.Nat.{ℕ, zero, suc, ◌+◌, ◌*◌, ◌-◌, ◌<◌, ◌≤◌}
use mathlib.Core.Path.{◌≡◌, refl, sym, ap, ◌∙◌}
use mathlib.Core.Bool.{Bool, true, false, ◌&&◌, ◌||◌}
use mathlib.Core.List.{List}
use native.Mathlib.Decide.{dec_lt}
use native.Mathlib.Omega.{arith}
use borrow.Author.Count.{below_more}
use borrow.Author.Tests.{eqb-true, eq-eqb}
use lib.Dec.{leb, eqb}
use lib.ListN.{length, get_or, set, length-set}
use lib.Seq.{get_or-set_same, get_or-set_other}
use Rattle.std.specs.Int.{w64, from_be_bytes}
use Rattle.abi.specs.Abi.{list_of}
use Rattle.numbers.specs.First.{every}
use Rattle.numbers.proofs.Bools.{and_left, and_right, both, same_test}
use Rattle.numbers.proofs.FirstLaws.{none_by, every_at, all_every}
use Rattle.group.specs.declared.Name.{Name}
use Rattle.group.specs.declared.Group.{Group}
use Rattle.group.specs.Numbers.{name_most}
use Rattle.group.specs.Record.{grid_at}
use Rattle.extent.specs.declared.Sides.{Sides}
use Rattle.extent.specs.Extent.{meet}
use Rattle.extent.specs.Sides.{sides_of, Edges, lon_first, lon_last, sides_meet, turns_meet, reaches}
use Rattle.extent.proofs.MeetLaws.{meet_turns, meet_written}
use Rattle.flat.specs.Rects.{rect_at}
use Rattle.flat.specs.Lists.{Sided}
use Rattle.judge.specs.Judge.{same_byte, same_name, same_rank}
use Rattle.judge.specs.Keys.{packed, word_at, keys_of, put_four, KeysListed, some_reaches, clash}
use Rattle.judge.specs.declared.Keys.{Keys}
use Rattle.judge.specs.declared.Shared.TheVariants as S

-- eight bytes of a name as one number, as std reads them
pub word_read : (n : Name) (from : ℕ) → from_be_bytes w64 (list_of (λ j. get_or n.bytes (from + j) 0) 8) ≡ word_at n from
unfolding packed list_of
word_read n from =
    let e : from + 0 ≡ from = omega arith in
    let first = ap (λ (j : ℕ). get_or n.bytes j 0) e in
    omega (arith, first)

-- the number tells the bytes
module _ (p q : ℕ → ℕ) where
  packed_same : (n : ℕ) → ((j : ℕ) → j < n → p j ≡ q j) → packed p n ≡ packed q n
  unfolding packed
  packed_same zero h = refl
  packed_same (suc n) h = rw (packed_same n (λ j l. h j (omega arith)), h n (omega arith))

  packed_tells : (n : ℕ) → ((j : ℕ) → j < n → p j < 256) → ((j : ℕ) → j < n → q j < 256) → packed p n ≡ packed q n → (j : ℕ) → j < n → p j ≡ q j
  unfolding packed
  packed_tells zero f g e j l = absurd (omega arith)
  packed_tells (suc n) f g e j l =
      let a = f n (omega arith) in
      let b = g n (omega arith) in
      let high : packed p n ≡ packed q n = omega arith in
      let low : p n ≡ q n = omega arith in
      elim (dec_lt j n) [
        | yes lt ↦ packed_tells n (λ k m. f k (omega arith)) (λ k m. g k (omega arith)) high j lt
        | no ge ↦ let i : j ≡ n = omega arith in rw i low
      ]

-- keys stored for one grid
module _ (fours : List ℕ) (i : ℕ) (m : Keys) (h : i * 4 + 3 < length fours) where
  abbrev x1 : List ℕ
  x1 = set fours (i * 4) m.a

  abbrev x2 : List ℕ
  x2 = set x1 (i * 4 + 1) m.b

  abbrev x3 : List ℕ
  x3 = set x2 (i * 4 + 2) m.c

  put_a : get_or (put_four fours i m) (i * 4) 0 ≡ m.a
  put_a =
      get_or-set_other x3 (i * 4 + 3) (i * 4) m.d 0 (λ e. omega arith) ∙ get_or-set_other x2 (i * 4 + 2) (i * 4) m.c 0 (λ e. omega arith)
      ∙ get_or-set_other x1 (i * 4 + 1) (i * 4) m.b 0 (λ e. omega arith) ∙ get_or-set_same fours (i * 4) m.a 0 (omega arith)

  put_b : get_or (put_four fours i m) (i * 4 + 1) 0 ≡ m.b
  put_b =
      get_or-set_other x3 (i * 4 + 3) (i * 4 + 1) m.d 0 (λ e. omega arith)
      ∙ get_or-set_other x2 (i * 4 + 2) (i * 4 + 1) m.c 0 (λ e. omega arith)
      ∙ get_or-set_same x1 (i * 4 + 1) m.b 0 (simp length-set (omega arith))

  put_c : get_or (put_four fours i m) (i * 4 + 2) 0 ≡ m.c
  put_c =
      get_or-set_other x3 (i * 4 + 3) (i * 4 + 2) m.d 0 (λ e. omega arith)
      ∙ get_or-set_same x2 (i * 4 + 2) m.c 0 (simp length-set (omega arith))

  put_d : get_or (put_four fours i m) (i * 4 + 3) 0 ≡ m.d
  put_d = get_or-set_same x3 (i * 4 + 3) m.d 0 (simp length-set (omega arith))

  -- what stands before stays
  put_before : (j : ℕ) → j < i * 4 → get_or (put_four fours i m) j 0 ≡ get_or fours j 0
  put_before j l =
      get_or-set_other x3 (i * 4 + 3) j m.d 0 (λ e. omega arith) ∙ get_or-set_other x2 (i * 4 + 2) j m.c 0 (λ e. omega arith)
      ∙ get_or-set_other x1 (i * 4 + 1) j m.b 0 (λ e. omega arith) ∙ get_or-set_other fours (i * 4) j m.a 0 (λ e. omega arith)

pub listed_none : (keysAt : ℕ → Keys) (fours keys : List ℕ) → KeysListed keysAt 0 fours keys
listed_none keysAt fours keys =
    record {
      key = λ k l. absurd (omega arith);
      a = λ k l. absurd (omega arith);
      b = λ k l. absurd (omega arith);
      c = λ k l. absurd (omega arith);
      d = λ k l. absurd (omega arith);
    }

pub listed_more : (keysAt : ℕ → Keys) (i : ℕ) (fours keys fours' keys' : List ℕ) (m : Keys) → i * 4 + 3 < length fours → i < length keys
    → KeysListed keysAt i fours keys → m ≡ keysAt i → fours' ≡ put_four fours i m → keys' ≡ set keys i m.key → KeysListed keysAt (i + 1) fours' keys'
listed_more keysAt i fours keys fours' keys' m h l s e p q =
    rw (p, q)
    (record {
      key = below_more (λ k. get_or (set keys i m.key) k 0 ≡ (keysAt k).key) i (λ k n. get_or-set_other keys i k m.key 0 (omega arith) ∙ s.key k n) (get_or-set_same keys i m.key 0 l ∙ rw e);
      a = below_more (λ k. get_or (put_four fours i m) (k * 4) 0 ≡ (keysAt k).a) i (λ k n. put_before fours i m h (k * 4) (omega arith) ∙ s.a k n) (put_a fours i m h ∙ rw e);
      b = below_more (λ k. get_or (put_four fours i m) (k * 4 + 1) 0 ≡ (keysAt k).b) i (λ k n. put_before fours i m h (k * 4 + 1) (omega arith) ∙ s.b k n) (put_b fours i m h ∙ rw e);
      c = below_more (λ k. get_or (put_four fours i m) (k * 4 + 2) 0 ≡ (keysAt k).c) i (λ k n. put_before fours i m h (k * 4 + 2) (omega arith) ∙ s.c k n) (put_c fours i m h ∙ rw e);
      d = below_more (λ k. get_or (put_four fours i m) (k * 4 + 3) 0 ≡ (keysAt k).d) i (λ k n. put_before fours i m h (k * 4 + 3) (omega arith) ∙ s.d k n) (put_d fours i m h ∙ rw e);
    })

-- sides and ranks are the keys by which ranks are compared
pub sided_listed : (g : Group) (n : ℕ) (sides ranks : List ℕ) → Sided g n sides ranks → KeysListed (λ k. keys_of S.Rank (grid_at g k)) n sides ranks
unfolding rect_at
sided_listed g n sides ranks s =
    record {
      key = s.rank;
      a = λ k l. ap (λ (t : Sides). t.west) (s.side k l);
      b = λ k l. ap (λ (t : Sides). t.east) (s.side k l);
      c = λ k l. ap (λ (t : Sides). t.south) (s.side k l);
      d = λ k l. ap (λ (t : Sides). t.north) (s.side k l);
    }

-- where no grid of the list of sides reaches the ends of the admitted longitudes, none of the group does
pub none_reaches : (g : Group) (n : ℕ) (sides ranks : List ℕ) → Sided g n sides ranks → some_reaches sides n ≡ false
    → (k : ℕ) → k < n → reaches (sides_of (grid_at g k)) ≡ false
unfolding some_reaches rect_at
none_reaches g n sides ranks s e k l =
    ap reaches (sym (s.side k l)) ∙ none_by (λ i. leb (get_or sides (i * 4) 0) lon_first || leb lon_last (get_or sides (i * 4 + 1) 0)) n k e l

-- names are the same exactly where their words are
module _ (m n : Name) (f : (j : ℕ) → j < name_most → get_or m.bytes j 0 < 256) (g : (j : ℕ) → j < name_most → get_or n.bytes j 0 < 256) where
  byte : (x : Name) (from j : ℕ) → ℕ
  byte x from j = get_or x.bytes (from + j) 0

  words : ((j : ℕ) → j < name_most → get_or m.bytes j 0 ≡ get_or n.bytes j 0) → (from : ℕ) → from ≤ 16 → eqb (word_at m from) (word_at n from) ≡ true
  words e from h = eq-eqb (word_at m from) (word_at n from) (packed_same _ _ 8 (λ j l. e (from + j) (omega arith)))

  bytes : (from : ℕ) → from ≤ 16 → eqb (word_at m from) (word_at n from) ≡ true → (j : ℕ) → j < 8 → get_or m.bytes (from + j) 0 ≡ get_or n.bytes (from + j) 0
  bytes from h e j l =
      packed_tells _ _ 8 (λ k a. f (from + k) (omega arith)) (λ k a. g (from + k) (omega arith)) (eqb-true (word_at m from) (word_at n from) e) j l

  -- each byte by the word that it stands in
  each_byte : eqb (word_at m 0) (word_at n 0) ≡ true → eqb (word_at m 8) (word_at n 8) ≡ true → eqb (word_at m 16) (word_at n 16) ≡ true
      → (j : ℕ) → j < name_most → get_or m.bytes j 0 ≡ get_or n.bytes j 0
  each_byte a b c j l =
      elim (dec_lt j 8) [
        | yes x ↦ let k : 0 + j ≡ j = omega arith in rw k at (bytes 0 (omega arith) a j x)
        | no x ↦
            elim (dec_lt j 16) [
              | yes y ↦ let k : 8 + (j - 8) ≡ j = omega arith in rw k at (bytes 8 (omega arith) b (j - 8) (omega arith))
              | no y ↦ let k : 16 + (j - 16) ≡ j = omega arith in rw k at (bytes 16 (omega arith) c (j - 16) (omega arith))
            ]
      ]

  same_words : every (same_byte m n) name_most ≡ (eqb (word_at m 0) (word_at n 0) && eqb (word_at m 8) (word_at n 8) && eqb (word_at m 16) (word_at n 16) && eqb 0 0)
  same_words =
      same_test (every (same_byte m n) name_most) (a && b && c && eqb 0 0)
      (λ e.
      let s = words (λ j l. eqb-true (get_or m.bytes j 0) (get_or n.bytes j 0) (every_at (same_byte m n) name_most j e l)) in
      both
      (both (both (s 0 (omega arith)) (s 8 (omega arith))) (s 16 (omega arith))) (eq-eqb 0 0 refl))
      (λ e.
      let abc = and_left (a && b && c) (eqb 0 0) e in
      let ab = and_left (a && b) c abc in
      all_every (same_byte m n) name_most
      (λ j l.
      eq-eqb (get_or m.bytes j 0) (get_or n.bytes j 0)
      (each_byte (and_left a b ab) (and_right a b ab) (and_right (a && b) c abc) j l)))
    where
      a : Bool
      a = eqb (word_at m 0) (word_at n 0)

      b : Bool
      b = eqb (word_at m 8) (word_at n 8)

      c : Bool
      c = eqb (word_at m 16) (word_at n 16)

-- two grids of a group, by the lists of their keys
module _ (g : Group) (n : ℕ) (fours keys : List ℕ) (j k : ℕ) (hj : j < n) (hk : k < n) where
  pub clash_name : KeysListed (λ i. keys_of S.Name (grid_at g i)) n fours keys
      → ((i b : ℕ) → i < n → b < name_most → get_or (grid_at g i).name.bytes b 0 < 256)
      → clash S.Name fours keys k j ≡ same_name (grid_at g j).name (grid_at g k).name
  unfolding clash same_name
  clash_name s f =
      rw (
        s.key j hj,
        s.key k hk,
        s.a j hj,
        s.a k hk,
        s.b j hj,
        s.b k hk,
        s.c j hj,
        s.c k hk,
        s.d j hj,
        s.d k hk,
        sym (same_words (grid_at g j).name (grid_at g k).name (λ b. f j b hj) (λ b. f k b hk)),
      )

  -- ranks, by any test of the sides that tells whether the two meet
  ranks_by : (t : Sides → Sides → Bool) → KeysListed (λ i. keys_of S.Rank (grid_at g i)) n fours keys
      → meet (grid_at g j) (grid_at g k) ≡ t (sides_of (grid_at g j)) (sides_of (grid_at g k))
      → (eqb (get_or keys j 0) (get_or keys k 0) && t (rect_at fours j) (rect_at fours k)) ≡ same_rank (grid_at g j) (grid_at g k)
  unfolding same_rank rect_at
  ranks_by t s e =
      (λ i. eqb (s.key j hj i) (s.key k hk i) && t (side j hj i) (side k hk i))
      ∙ ap (λ (m : Bool). eqb (grid_at g j).rank (grid_at g k).rank && m) (sym e)
    where
      side : (i : ℕ) → i < n → rect_at fours i ≡ sides_of (grid_at g i)
      side i l = λ x. record { west = s.a i l x; east = s.b i l x; south = s.c i l x; north = s.d i l x }

  module _ (a : Edges (grid_at g j)) (b : Edges (grid_at g k)) where
    -- as they are written
    pub clash_rank : KeysListed (λ i. keys_of S.Rank (grid_at g i)) n fours keys
        → reaches (sides_of (grid_at g j)) ≡ false → reaches (sides_of (grid_at g k)) ≡ false
        → clash S.Rank fours keys k j ≡ same_rank (grid_at g j) (grid_at g k)
    unfolding clash rect_at
    clash_rank s r t = ranks_by sides_meet s (meet_written (grid_at g j) (grid_at g k) a b r t)

    -- round the earth
    pub clash_turn : KeysListed (λ i. keys_of S.Turn (grid_at g i)) n fours keys
        → clash S.Turn fours keys k j ≡ same_rank (grid_at g j) (grid_at g k)
    unfolding clash rect_at
    clash_turn s = ranks_by turns_meet s (meet_turns (grid_at g j) (grid_at g k) a b)
