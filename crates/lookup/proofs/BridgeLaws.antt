-- The flat lists of an accepted group say what its record says of a point.
use Prim.Native.Nat.{ℕ, zero, suc, ◌+◌, ◌-◌, ◌*◌, ◌%◌, ◌^◌, ◌≤◌, ◌<◌}
use mathlib.Core.Path.{◌≡◌, refl, sym, ap, ◌∙◌, subst, transport}
use mathlib.Core.Bool.{true}
use mathlib.Core.List.{List}
use native.Mathlib.Omega.{arith}
use native.Mathlib.Decide.{dec_lt}
use borrow.Author.Tests.{ltb-false}
use lib.IntN.{ℤ, nat_abs}
use lib.ListN.{length}
use Rattle.std.specs.Prelude.{Option, Some, None}
use Rattle.numbers.specs.First.{first}
use Rattle.numbers.specs.Lists.{at}
use Rattle.numbers.specs.Circle.{turns}
use Rattle.numbers.proofs.Bools.{and_left, and_right}
use Rattle.numbers.proofs.FirstLaws.{first_hit, none_at}
use Rattle.numbers.proofs.OrderLaws.{within_size, raised_within}
use Rattle.group.specs.declared.Group.{Group}
use Rattle.group.specs.declared.Point.{Point}
use Rattle.group.specs.Numbers.{lon_most, lat_most, lon_turn, lon_zero, lat_zero, lon_admitted, lat_admitted}
use Rattle.group.specs.Record.{grid_at}
use Rattle.extent.specs.Extent.{lon_span, holds, lon_used}
use Rattle.extent.specs.Sides.{lon_from_least, lat_from_least}
use Rattle.judge.proofs.Accepted.{accepted_head}
use Rattle.choice.specs.Rect.{rect_holds, turn_holds}
use Rattle.choice.specs.Choice.{chosen}
use Rattle.choice.specs.Holder.{holder}
use Rattle.choice.specs.declared.Holder.{Holder}
use Rattle.choice.proofs.HolderLaws.{holder_at, holder_none, held_at, held_none}
use Rattle.flat.specs.Frames.{frame_at}
use Rattle.flat.specs.Lists.{Flat}
use Rattle.flat.specs.Turned.{RankedRows}
use Rattle.flat.proofs.TurnedLaws.{shift_least}
use Rattle.ingroup.specs.InGroup.{chosen_in}
use Rattle.ingroup.proofs.InGroupLaws.{chosen_holds, chosen_most, flat_holds, flat_chosen_lem, flat_turn_used}
use Rattle.ingroup.proofs.RankLaws.{ranked_owner, ranked_holds, ranked_chosen, ranked_used}
use Rattle.day.specs.Day.{factor_of}
use Rattle.fix.specs.declared.Offset.{Offset}
use Rattle.fix.specs.Fix.{fix_in}
use Rattle.fix.specs.Inside.{InsideGrid, RangeListed}
use Rattle.lookup.specs.Lookup.{ends_early, offset_of, fix_at, fix_of, LookupReady}
use Rattle.lookup.specs.Flat.{offset_in, Chosen, used_at, fix_held, TurnChosen, HeldChosen, held_in, fix_ranked, LaidRows}
use Rattle.lookup.proofs.OffsetLaws.{offset_inside, offset_seen}

-- offsets that agree in the chosen grid
pub fix_at_same : (c : ℕ) (offset seat : ℕ → Offset) (nodes : List ℤ) (f : ℤ) → ((k : ℕ) → c ≡ suc k → offset k ≡ seat k)
    → fix_at c offset nodes f ≡ fix_at c seat nodes f
unfolding fix_at
fix_at_same zero offset seat nodes f e = refl
fix_at_same (suc k) offset seat nodes f e = ap (λ (l : Offset). fix_in l nodes f (suc k)) (e k refl)

module _ (g : Group) (nodes : List ℤ) (p : Point) (t : ℤ) (r : LookupReady g (length nodes) p t) where
  abbrev lon : ℤ
  lon = p.lon.0

  abbrev lat : ℤ
  lat = p.lat.0

  lon_small : nat_abs lon ≤ lon_most
  lon_small = within_size lon_most lon (and_left (lon_admitted lon) (lat_admitted lat) r.point)

  lat_small : nat_abs lat ≤ lat_zero
  lat_small = omega (arith, within_size lat_most lat (and_right (lon_admitted lon) (lat_admitted lat) r.point))

  -- an admitted longitude's distance leaves room for a turn either way
  pub turn_room : {x : ℕ} → x ≡ lon_from_least lon → (lon_turn ≤ x) × (x + lon_turn < 2 ^ 64)
  turn_room {x} e = let b = raised_within lon_zero lon_most lon lon_small (omega arith) in (omega (arith, b.0), omega (arith, b.1))

  listed : (k : ℕ) → k < g.grids → RangeListed (offset_of (grid_at g k) g.parameters p) (length nodes)
  unfolding offset_of
  listed k l = ltb-false _ _ (none_at (ends_early g (length nodes)) g.grids k (ltb-false _ _ r.ends) l)

  -- the distance of the longitude that grid k uses
  abbrev used_by : ℕ → ℕ
  used_by k = lon_from_least (lon_used (lon_span (grid_at g k)) lon)

  -- at the distances that code computes: b of the latitude, and a of the longitude used
  module _ (sides ranks frames : List ℕ) (fl : Flat g g.grids sides ranks frames) {b : ℕ} (eb : b ≡ lat_from_least lat) where
    seen : (k a : ℕ) → k < g.grids → a ≡ used_by k → offset_in (frame_at frames k) g.parameters a b ≡ offset_of (grid_at g k) g.parameters p
    seen k a l ea = (λ i. offset_in (fl.framed k l i) g.parameters (ea i) (eb i)) ∙ offset_seen g r.accepted p k l r.point

    -- the grid numbered c, 0 for none, if it holds the point
    chosen_here : (c a : ℕ) → c ≤ g.grids → g.grids * 7 ≤ length frames → (0 < c → holds (grid_at g (c - 1)) lon lat ≡ true) → (0 < c → a ≡ used_by (c - 1))
        → Chosen frames c g.parameters (length nodes) a b
    chosen_here c a m h held used =
        record {
          number = omega (arith, (accepted_head g r.accepted).grids);
          room = omega arith;
          inside = λ z. subst InsideGrid (sym (seen (c - 1) a (omega arith) (used z))) (offset_inside g r.accepted p (c - 1) (omega arith) (held z));
          listed = λ z.
              subst (λ (s : Offset). RangeListed s (length nodes)) (sym (seen (c - 1) a (omega arith) (used z))) (listed (c - 1) (omega arith));
        }

    fix_here : (c a : ℕ) → c ≡ chosen_in g lon lat → ((k : ℕ) → c ≡ suc k → a ≡ used_by k) → {f h : ℤ} → f ≡ h
        → fix_at c (λ k. offset_in (frame_at frames k) g.parameters a b) nodes f
        ≡ fix_at (chosen_in g lon lat) (λ k. offset_of (grid_at g k) g.parameters p) nodes h
    fix_here c a e used {f} {h} ef =
        fix_at_same c (λ k. offset_in (frame_at frames k) g.parameters a b) (λ k. offset_of (grid_at g k) g.parameters p) nodes f
        (λ k q. seen k a (omega (arith, q, e, chosen_most g lon lat)) (used k q))
        ∙ (λ i. fix_at (e i) (λ k. offset_of (grid_at g k) g.parameters p) nodes (ef i))

    -- the point's own longitude by its distance x
    module _ {x : ℕ} (ex : x ≡ lon_from_least lon) where
      -- the lists choose the grid that is chosen
      pub listed_choice : chosen (λ k. turn_holds lon_turn sides k x b) (at ranks) g.grids ≡ chosen_in g lon lat
      listed_choice =
          (λ i. chosen (λ k. turn_holds lon_turn sides k (ex i) (eb i)) (at ranks) g.grids)
          ∙ flat_chosen_lem g r.accepted sides ranks fl.sided lon lat lon_small lat_small

      -- a grid of the lists holds the point where the grid does
      pub listed_holds : (k : ℕ) → k < g.grids → turn_holds lon_turn sides k x b ≡ holds (grid_at g k) lon lat
      listed_holds k l =
          (λ i. turn_holds lon_turn sides k (ex i) (eb i)) ∙ flat_holds g r.accepted sides ranks fl.sided lon lat lon_small lat_small k l

      -- the number that the lists choose, and the longitude that its grid uses
      module _ (c a : ℕ) (e : c ≡ chosen (λ k. turn_holds lon_turn sides k x b) (at ranks) g.grids) (ea : a ≡ used_at sides c x b) where
        told : c ≡ chosen_in g lon lat
        told = e ∙ listed_choice

        pub told_used : (k : ℕ) → c ≡ suc k → a ≡ used_by k
        told_used k q =
            let w = chosen_holds g lon lat k (sym told ∙ q) in
            ea ∙ (λ i. used_at sides (q i) (ex i) (eb i))
            ∙ sym (flat_turn_used g r.accepted sides ranks fl.sided lon lat lon_small lat_small k w.0 w.1)

        -- the point seen from its frame
        pub told_seen : (k : ℕ) → c ≡ suc k → offset_in (frame_at frames k) g.parameters a b ≡ offset_of (grid_at g k) g.parameters p
        told_seen k q = seen k a (omega (arith, q, told, chosen_most g lon lat)) (told_used k q)

        pub told_chosen : g.grids * 7 ≤ length frames → Chosen frames c g.parameters (length nodes) a b
        told_chosen h =
            chosen_here c a (omega (arith, told, chosen_most g lon lat)) h
            (λ z. let q : c ≡ suc (c - 1) = omega arith in (chosen_holds g lon lat (c - 1) (sym told ∙ q)).1)
            (λ z. told_used (c - 1) (omega arith))

        pub told_fix : {f : ℤ} → f ≡ factor_of g.function g.functions t
            → fix_at c (λ k. offset_in (frame_at frames k) g.parameters a b) nodes f ≡ fix_of g nodes p t
        told_fix ef = fix_here c a told told_used ef

      pub told_most : (c : ℕ) → c ≡ chosen (λ k. turn_holds lon_turn sides k x b) (at ranks) g.grids → c ≤ g.grids
      told_most c e = omega (arith, told c (used_at sides c x b) e refl, chosen_most g lon lat)

    -- the same over rows in the order of ranks
    module _ (room : g.grids * 4 ≤ length sides) (rows owners shifts : List ℕ) (count : ℕ) (o : RankedRows sides ranks rows owners shifts g.grids count) where
      abbrev x₀ : ℕ
      x₀ = lon_from_least lon

      abbrev y₀ : ℕ
      y₀ = lat_from_least lat

      -- the first that holds the point
      abbrev row : ℕ
      row = first (λ i. rect_holds rows i x₀ y₀) count

      row_used : row < count → x₀ + at shifts row - lon_turn ≡ used_by (at owners row)
      row_used l = ranked_used g r.accepted sides ranks fl.sided room rows owners shifts count o lon lat lon_small lat_small row refl l

      shift_most : (q : ℕ) → q < count → at shifts q ≤ 2 * lon_turn
      shift_most q l = subst (λ (n : ℕ). n ≤ 2 * lon_turn) (sym (o.shift q l)) (shift_least (o.place q % turns))

      row_chosen : g.grids * 7 ≤ length frames → row < count
          → TurnChosen frames (at owners row) (at shifts row) g.parameters (length nodes) x₀ b
      row_chosen n l =
          let w = turn_room refl in
          let c : suc (at owners row) - 1 ≡ at owners row = omega arith in
          record {
            least = omega (arith, w.0);
            most = omega (arith, (raised_within lon_zero lon_most lon lon_small (omega arith)).1, shift_most row l);
            chosen =
                chosen_here (suc (at owners row)) (x₀ + at shifts row - lon_turn)
                (ranked_owner g r.accepted sides ranks fl.sided room rows owners shifts count o row l) n
                (λ z.
                subst (λ (j : ℕ). holds (grid_at g j) lon lat ≡ true) (sym c)
                (ranked_holds g r.accepted sides ranks fl.sided room rows owners shifts count o lon lat lon_small lat_small row l
                (first_hit (λ i. rect_holds rows i x₀ y₀) count l)))
                (λ z. row_used l ∙ ap used_by (sym c));
          }

      -- what holds the point, by the first row that does
      abbrev held : Option Holder
      held = held_in rows owners shifts count x₀ y₀

      here : row < count → Some (record { owner = at owners row; shift = at shifts row }) ≡ held
      here l = held_at (λ i. rect_holds rows i x₀ y₀) (at owners) count (at shifts) row refl l

      nowhere : count ≤ row → None ≡ held
      nowhere l = held_none (λ i. rect_holds rows i x₀ y₀) (at owners) count (at shifts) row refl l

      held_chosen : g.grids * 7 ≤ length frames → HeldChosen frames held g.parameters (length nodes) x₀ b
      held_chosen n =
          elim (dec_lt row count) [
            | yes lt ↦ subst (λ (h : Option Holder). HeldChosen frames h g.parameters (length nodes) x₀ b) (here lt) (row_chosen n lt)
            | no ge ↦ subst (λ (h : Option Holder). HeldChosen frames h g.parameters (length nodes) x₀ b) (nowhere (omega arith)) tt
          ]

      -- the grid's number that the rows choose
      number : holder (λ i. rect_holds rows i x₀ y₀) (λ i. suc (at owners i)) count ≡ chosen_in g lon lat
      number = ranked_chosen g r.accepted sides ranks fl.sided room rows owners shifts count o lon lat lon_small lat_small

      held_fix : {f h : ℤ} → f ≡ h → fix_held frames held g.parameters nodes f x₀ b
          ≡ fix_at (chosen_in g lon lat) (λ k. offset_of (grid_at g k) g.parameters p) nodes h
      unfolding fix_at
      held_fix {f} {h} e =
          elim (dec_lt row count) [
            | yes lt ↦
                ap (λ (q : Option Holder). fix_held frames q g.parameters nodes f x₀ b) (sym (here lt))
                ∙ fix_here (suc (at owners row)) (x₀ + at shifts row - lon_turn)
                (holder_at (λ i. rect_holds rows i x₀ y₀) (λ i. suc (at owners i)) count row refl lt ∙ number)
                (λ k q. row_used lt ∙ ap used_by (suc_same q)) e
            | no ge ↦
                ap (λ (q : Option Holder). fix_held frames q g.parameters nodes f x₀ b) (sym (nowhere (omega arith)))
                ∙ ap (λ (c : ℕ). fix_at c (λ k. offset_of (grid_at g k) g.parameters p) nodes h)
                (holder_none (λ i. rect_holds rows i x₀ y₀) (λ i. suc (at owners i)) count row refl (omega arith) ∙ number)
          ]
        where
          suc_same : {m n : ℕ} → suc m ≡ suc n → m ≡ n
          suc_same q = omega arith

      module _ {x : ℕ} (ex : x ≡ lon_from_least lon) where
        pub ranked_laid : count * 4 ≤ length rows → count ≤ length owners → count ≤ length shifts → g.grids * 7 ≤ length frames
            → LaidRows rows owners shifts frames count g.parameters (length nodes) x b
        ranked_laid h k m n =
            record {
              rows_room = h;
              owners_room = k;
              shifts_room = m;
              ready =
                  transport (λ i. HeldChosen frames (held_in rows owners shifts count (sym ex i) (sym eb i)) g.parameters (length nodes) (sym ex i) b)
                  (held_chosen n);
            }

        pub ranked_fix : {f h : ℤ} → f ≡ h → fix_ranked rows owners shifts frames count g.parameters nodes f x b
            ≡ fix_at (chosen_in g lon lat) (λ k. offset_of (grid_at g k) g.parameters p) nodes h
        ranked_fix {f} {h} e =
            (λ i. fix_held frames (held_in rows owners shifts count (ex i) (eb i)) g.parameters nodes f (ex i) b) ∙ held_fix e
