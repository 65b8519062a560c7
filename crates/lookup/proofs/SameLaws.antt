-- Nothing else changes an accepted lookup: neither a node outside the used corners of the chosen grid, nor another grid's record as long as
-- the choice stays.
use Prim.Native.Nat.{ℕ, suc}
use mathlib.Core.Path.{◌≡◌, sym, ap, ◌∙◌}
use mathlib.Core.List.{List}
use lib.IntN.{ℤ}
use lib.ListN.{length}
use Rattle.group.specs.declared.Group.{Group}
use Rattle.group.specs.declared.Point.{Point}
use Rattle.ingroup.specs.InGroup.{chosen_in}
use Rattle.day.specs.Day.{factor_of}
use Rattle.fix.specs.Answers.{lookup_grid}
use Rattle.fix.specs.Fix.{fix_in}
use Rattle.fix.proofs.FixLaws.{fix_same}
use Rattle.lookup.specs.Lookup.{offset_of, looked, LookupReady}
use Rattle.lookup.specs.Demand2.{seen_from, SameChoice}
use Rattle.lookup.proofs.StageLaws.{looked_accepted, looked_on}
use Rattle.lookup.proofs.FixAtLaws.{fix_at_suc}
use Rattle.lookup.proofs.FoundLaws.{found}
use Rattle.lookup.proofs.TableLaws.{zero_fix}
use Rattle.group.specs.Refusals.{refusal_of}

module _ (g : Group) (nodes : List ℤ) (p : Point) (t : ℤ) (k : ℕ) (a : (refusal_of (looked g nodes p t)).number ≡ 0)
    (c : lookup_grid (looked g nodes p t) ≡ suc k) where
  -- an accepted lookup has passed every stage and chosen the grid that it names
  pub named_chosen : LookupReady g (length nodes) p t × (chosen_in g p.lon.0 p.lat.0 ≡ suc k)
  named_chosen =
      let u = (zero_fix g nodes p t).0 a in let w = found g nodes p t u.0 u.1 in
      (w.ready, w.chosen ∙ sym w.number ∙ sym (ap lookup_grid u.1) ∙ c)

  -- and is the fix in that grid
  pub in_grid : looked g nodes p t ≡ fix_in (seen_from g p k) nodes (factor_of g.function g.functions t) (suc k)
  in_grid =
      let w = named_chosen in
      looked_accepted g nodes p t w.0.accepted ∙ looked_on g nodes p t w.0 ∙ fix_at_suc _ _ _ _ k w.1

pub same_answer : (g other : Group) (nodes others : List ℤ) (p : Point) (t : ℤ) → SameChoice g other nodes others p t
    → looked g nodes p t ≡ looked other others p t
same_answer g other nodes others p t s =
    let k = s.k in
    in_grid g nodes p t k s.accepted s.choice
    ∙ fix_same (seen_from g p k) nodes others s.corners (factor_of g.function g.functions t) (suc k)
    ∙ (λ i. fix_in (offset_of (s.grid i) (s.parameters i) p) others (s.factor i) (suc k))
    ∙ sym (in_grid other others p t k s.accepted_too s.stays)
