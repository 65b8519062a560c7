-- The tables of an accepted call: the count of rows, and what they are made from.
use Prim.Native.Nat.{ℕ, ◌*◌, ◌≤◌}
use mathlib.Core.Path.{◌≡◌, ◌∙◌, subst}
use mathlib.Core.List.{List}
use native.Mathlib.Omega.{arith}
use lib.ListN.{length, take}
use lib.Seq.{length-take-le, get_or-take}
use Rattle.std.specs.Prelude.{Ok}
use Rattle.numbers.specs.Lists.{at}
use Rattle.group.specs.declared.Group.{Group}
use Rattle.group.specs.Numbers.{rank_most, grids_most}
use Rattle.flat.specs.Lists.{Flat}
use Rattle.flat.specs.Turned.{RankedRows}
use Rattle.flat.proofs.OrderSteps.{by_rank≤}
use Rattle.judge.specs.Judge.{judged}
use Rattle.judge.proofs.Accepted.{accepted_head}
use Rattle.exercise.specs.declared.Tables.{Tables}
use Rattle.exercise.specs.Tables.{Tabled}

module _ (g : Group) (t : Tables) where
  pub few_rows : judged g ≡ Ok tt → Tabled g t → t.count ≤ grids_most * 3
  few_rows e w =
      let m = by_rank≤ (at w.ranks) g.grids rank_most in
      omega (arith, w.rows.few, (accepted_head g e).grids)

  -- they hold the rows made from the sides and the first ranks of an accepted group
  pub tabled : (n : ℕ) (sides ranks : List ℕ) → n ≡ g.grids → n ≤ length ranks → g.grids * 4 ≤ length sides → Flat g g.grids sides ranks t.frames
      → RankedRows sides (take n ranks) t.rows t.owners t.shifts (length (take n ranks)) t.count → Tabled g t
  tabled n sides ranks e m room f rows =
      record {
        sides = sides;
        ranks = take n ranks;
        room = room;
        flat =
            record {
              sided =
                  record {
                    side = f.sided.side;
                    rank = λ k l. get_or-take n ranks k 0 (omega arith) ∙ f.sided.rank k l;
                  };
              framed = f.framed;
            };
        rows = subst (λ (k : ℕ). RankedRows sides (take n ranks) t.rows t.owners t.shifts k t.count) (length-take-le n ranks m ∙ e) rows;
      }
