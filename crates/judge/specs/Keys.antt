-- The grids of a group as flat lists of numbers, by which each is compared with the earlier ones: a key, and four more.
use Rattle.std.specs.Prelude.{ℕ, zero, suc, ◌+◌, ◌-◌, ◌*◌, ◌<◌, ◌≡◌, Bool, false, cond, ◌&&◌, ◌||◌, List, leb, eqb, get_or, set}
use Rattle.numbers.specs.First.{some}
use Rattle.group.specs.declared.Name.{Name}
use Rattle.group.specs.declared.Grid.{Grid}
use Rattle.group.specs.declared.Group.{Group}
use Rattle.group.specs.Record.{grid_at}
use Rattle.extent.specs.declared.Sides.{Sides}
use Rattle.extent.specs.Sides.{sides_of, Edges, lon_first, lon_last, ahead, reaches}
use Rattle.judge.specs.Judge.{named_earlier, ranked_earlier}
use Rattle.judge.specs.declared.Keys.{Keys}
use Rattle.judge.specs.declared.Shared.{Shared}
use Rattle.judge.specs.declared.Shared.TheVariants as S

-- n bytes as one number, the first the highest
unfoldable pub packed : (ℕ → ℕ) → ℕ → ℕ
packed byte zero = 0
packed byte (suc n) = packed byte n * 256 + byte n

-- the eight bytes of a name from one on
abbrev pub word_at : Name → ℕ → ℕ
word_at n from = packed (λ j. get_or n.bytes (from + j) 0) 8

-- a name by its length and its 24 bytes
abbrev pub name_keys : Name → Keys
name_keys n = record { key = n.len; a = word_at n 0; b = word_at n 8; c = word_at n 16; d = 0 }

-- a rank with the extent's four sides
abbrev pub rank_keys : ℕ → Sides → Keys
rank_keys rank s = record { key = rank; a = s.west; b = s.east; c = s.south; d = s.north }

abbrev pub keys_of : Shared → Grid → Keys
keys_of S.Name g = name_keys g.name
keys_of S.Rank g = rank_keys g.rank (sides_of g)
keys_of S.Turn g = rank_keys g.rank (sides_of g)

-- grid k shares with an earlier one what it may not
abbrev pub shares_earlier : Shared → Group → ℕ → Bool
shares_earlier S.Name = named_earlier
shares_earlier S.Rank = ranked_earlier
shares_earlier S.Turn = ranked_earlier

-- the sides are true distances where ranks are compared, and compared as they are written only where no grid reaches the admitted
-- longitudes' ends
abbrev pub Comparable : Shared → Group → Type 0
Comparable S.Name g = Unit {0}
Comparable S.Rank g = (k : ℕ) → k < g.grids → Edges (grid_at g k) × (reaches (sides_of (grid_at g k)) ≡ false)
Comparable S.Turn g = (k : ℕ) → k < g.grids → Edges (grid_at g k)

-- the four keys behind the first, stored for grid i
abbrev pub put_four : List ℕ → ℕ → Keys → List ℕ
put_four fours i m = set (set (set (set fours (i * 4) m.a) (i * 4 + 1) m.b) (i * 4 + 2) m.c) (i * 4 + 3) m.d

-- the keys of n grids in two lists
pub record KeysListed (keysAt : ℕ → Keys) (n : ℕ) (fours keys : List ℕ) : Type 0 where
  pub key : (k : ℕ) → k < n → get_or keys k 0 ≡ (keysAt k).key
  pub a : (k : ℕ) → k < n → get_or fours (k * 4) 0 ≡ (keysAt k).a
  pub b : (k : ℕ) → k < n → get_or fours (k * 4 + 1) 0 ≡ (keysAt k).b
  pub c : (k : ℕ) → k < n → get_or fours (k * 4 + 2) 0 ≡ (keysAt k).c
  pub d : (k : ℕ) → k < n → get_or fours (k * 4 + 3) 0 ≡ (keysAt k).d

-- the keys of two grids agree: all four equal, or two rectangles that share a point, as they are written or round the earth
abbrev pub agree : Shared → List ℕ → ℕ → ℕ → Bool
agree S.Name fours j k =
    eqb (get_or fours (j * 4) 0) (get_or fours (k * 4) 0) && eqb (get_or fours (j * 4 + 1) 0) (get_or fours (k * 4 + 1) 0)
    && eqb (get_or fours (j * 4 + 2) 0) (get_or fours (k * 4 + 2) 0) && eqb (get_or fours (j * 4 + 3) 0) (get_or fours (k * 4 + 3) 0)
agree S.Rank fours j k =
    leb (get_or fours (j * 4) 0) (get_or fours (k * 4 + 1) 0) && leb (get_or fours (k * 4) 0) (get_or fours (j * 4 + 1) 0)
    && (leb (get_or fours (j * 4 + 2) 0) (get_or fours (k * 4 + 3) 0) && leb (get_or fours (k * 4 + 2) 0) (get_or fours (j * 4 + 3) 0))
agree S.Turn fours j k =
    (leb (ahead (get_or fours (k * 4) 0) (get_or fours (j * 4) 0)) (get_or fours (k * 4 + 1) 0 - get_or fours (k * 4) 0)
    || leb (ahead (get_or fours (j * 4) 0) (get_or fours (k * 4) 0)) (get_or fours (j * 4 + 1) 0 - get_or fours (j * 4) 0))
    && (leb (get_or fours (j * 4 + 2) 0) (get_or fours (k * 4 + 3) 0) && leb (get_or fours (k * 4 + 2) 0) (get_or fours (j * 4 + 3) 0))

-- some grid of the list of sides reaches the ends of the admitted longitudes
unfoldable pub some_reaches : List ℕ → ℕ → Bool
some_reaches sides n = some (λ k. leb (get_or sides (k * 4) 0) lon_first || leb lon_last (get_or sides (k * 4 + 1) 0)) n

-- how ranks are compared
abbrev pub rank_rule : List ℕ → ℕ → Shared
rank_rule sides n = cond (some_reaches sides n) S.Turn S.Rank

-- grid j shares with grid k what it may not
unfoldable pub clash : Shared → List ℕ → List ℕ → ℕ → ℕ → Bool
clash s fours keys k j = eqb (get_or keys j 0) (get_or keys k 0) && agree s fours j k
