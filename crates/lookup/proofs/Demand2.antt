-- Demand 2: what `looked` answers keeps every promise, for every group, node list, point and day.
use mathlib.Core.Path.{◌≡◌, sym, ap, subst}
use mathlib.Core.List.{List}
use lib.IntN.{ℤ}
use Rattle.group.specs.declared.Group.{Group}
use Rattle.group.specs.declared.Point.{Point}
use Rattle.group.specs.declared.Refusal.{Refusal}
use Rattle.group.specs.Refusals.{no_refusal, refusal_of}
use Rattle.fix.specs.declared.Fix.{Fix}
use Rattle.lookup.specs.Lookup.{looked}
use Rattle.lookup.specs.Demand2.{LookedUp, Demand2}
use Rattle.lookup.proofs.TableLaws.{zero_fix}
use Rattle.lookup.proofs.RefusedLaws.{refused_exactly}
use Rattle.lookup.proofs.FoundLaws.{found}
use Rattle.lookup.proofs.ResultLaws.{best, answered, at_node, rest_zero}
use Rattle.lookup.proofs.SameLaws.{same_answer}
use Rattle.std.specs.Prelude.{Ok}

fix_looked : (g : Group) (nodes : List ℤ) (p : Point) (t : ℤ) (f : Fix) → looked g nodes p t ≡ Ok f → LookedUp g nodes p t (Ok f)
fix_looked g nodes p t f e =
    let w = found g nodes p t f e in
    record {
      k = w.k;
      number = w.number;
      grid = best g nodes p t f e;
      results = answered g nodes p t f e;
      rest = rest_zero g nodes p t f e;
      at_node = at_node g nodes p t f e;
    }

pub demand_2 : (g : Group) (nodes : List ℤ) (p : Point) (t : ℤ) → Demand2 g nodes p t
demand_2 g nodes p t =
    record {
      refused = refused_exactly g nodes p t;
      fixed = (
        λ h. (zero_fix g nodes p t).0 (ap (λ (r : Refusal). r.number) ((refused_exactly g nodes p t no_refusal).1 h)),
        λ f. (refused_exactly g nodes p t no_refusal).0 (ap refusal_of f.1),
      );
      zero = zero_fix g nodes p t;
      accepted = λ z.
          let u = (zero_fix g nodes p t).0 z in
          subst (LookedUp g nodes p t) (sym u.1) (fix_looked g nodes p t u.0 u.1);
      same = λ other others. same_answer g other nodes others p t;
    }
