-- A list of bytes parted at a separator byte.
use Rattle.std.specs.Prelude.{ℕ, zero, suc, ◌+◌, ◌-◌, ◌≤◌, ◌<◌, cond, List, [], ◌∷◌, ◌++◌, ◌≡◌, eqb, length, take, drop, get_or}

-- x put in front of the first part
abbrev pub glue : ℕ → List (List ℕ) → List (List ℕ)
glue x [] = (x ∷ []) ∷ []
glue x (p ∷ ps) = (x ∷ p) ∷ ps

-- the parts between the separators: always one more than there are separators
abbrev pub split : ℕ → List ℕ → List (List ℕ)
split c [] = [] ∷ []
split c (x ∷ xs) = cond (eqb x c) ([] ∷ split c xs) (glue x (split c xs))

-- the parts again, each led by the separator
abbrev pub led : ℕ → List (List ℕ) → List ℕ
led c [] = []
led c (p ∷ ps) = c ∷ (p ++ led c ps)

-- the parts with the separator between them
abbrev pub join : ℕ → List (List ℕ) → List ℕ
join c [] = []
join c (p ∷ ps) = p ++ led c ps

-- the index of the first separator, or the length
abbrev pub up_to : ℕ → List ℕ → ℕ
up_to c [] = 0
up_to c (x ∷ xs) = cond (eqb x c) 0 (suc (up_to c xs))

-- none of the bytes from a up to e is the separator
abbrev pub Lacks : ℕ → List ℕ → ℕ → ℕ → Type 0
Lacks c s a e = (k : ℕ) → a ≤ k → k < e → get_or s k 0 ≡ c → ⊥

-- where part k starts: behind the k-th separator, or at the end where there is none
abbrev pub start_of : ℕ → List ℕ → ℕ → ℕ
start_of c [] k = 0
start_of c (x ∷ xs) zero = 0
start_of c (x ∷ xs) (suc k) = suc (cond (eqb x c) (start_of c xs k) (start_of c xs (suc k)))

-- where part k ends: at the next separator, or at the end where there is none
abbrev pub end_of : ℕ → List ℕ → ℕ → ℕ
end_of c s k = start_of c s k + up_to c (drop (start_of c s k) s)

-- field k of a line: what stands from its start up to its end, parted at tabs
abbrev pub field_of : List ℕ → ℕ → List ℕ
field_of line k = take (end_of 9 line k - start_of 9 line k) (drop (start_of 9 line k) line)

-- field k is the empty part at the line's end
pub record EmptyAtEnd (line : List ℕ) (k : ℕ) : Type 0 where
  pub starts : start_of 9 line k ≡ length line
  pub ends : end_of 9 line k ≡ length line
  pub empty : field_of line k ≡ []

-- the place of a byte in memory, a block and an offset in it, k bytes behind another
abbrev pub behind : ℕ × ℕ → ℕ → ℕ × ℕ
behind p k = (p.0, k + p.1)
