-- What the screen shows of an accepted lookup, for each Q from 0 to 20: document 01, 'which loses nothing'.
use Rattle.std.specs.Prelude.{ℕ, suc, ◌^◌, ◌≤◌, List, ℤ, pos, nat_abs}
use Rattle.group.specs.declared.Group.{Group}
use Rattle.group.specs.declared.Point.{Point}
use Rattle.fix.specs.Answers.{results_of}
use Rattle.lookup.specs.Lookup.{looked}
use Rattle.screen.specs.Screen.{answer_of, record_of}
use Rattle.screen.specs.Shown.{ShowsResults, ShowsPoint}
use Rattle.abi.specs.Abi.{number_at}
use Rattle.capi.specs.Answers.{Answer}
use Rattle.capi.specs.Screen.{shown_of}

-- of the library's calls: every result exactly, and the point in degrees, each one rounding of the exact quotient
pub record LookupShown (g : Group) (nodes : List ℤ) (p : Point) (t : ℤ) (q : ℕ) : Type 0 where
  pub results : ShowsResults (results_of (looked g nodes p t)) q g.parameters (answer_of (looked g nodes p t) q g.parameters)
  pub point :
      ShowsPoint p (answer_of (looked g nodes p t) q g.parameters) (record_of p (answer_of (looked g nodes p t) q g.parameters))
  pub sizes : (nat_abs p.lon.0 ≤ 2 ^ 53) × (nat_abs p.lat.0 ≤ 2 ^ 53)

-- of the C functions: the same of what a lookup returned and left, the grid's number and the results, handed on to the screen
abbrev pub LeftShown : Answer (List ℤ) → (q np : ℕ) → Type 0
LeftShown a q np =
    ShowsResults (λ p. number_at a.lent (suc p)) q np (shown_of (pos q) (pos np) a.refusal.number a.refusal.place a.lent)
