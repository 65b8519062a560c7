-- Turning is invisible: with a grid written a whole turn farther east or west the group is accepted too, and chooses the same grids.
use Prim.Native.Nat.{ℕ, ◌<◌}
use mathlib.Core.Path.{◌≡◌, refl, sym, ap, ◌∙◌, subst}
use mathlib.Core.Bool.{Bool, true, false, not, ◌&&◌}
use native.Mathlib.Omega.{arith}
use native.Mathlib.Decide.{ℕ_discrete}
use borrow.Author.Tests.{lt-leb}
use lib.Dec.{leb, eqb}
use lib.IntN.{ℤ, pos}
use Rattle.numbers.proofs.Bools.{and_left, and_right, both, same_test}
use Rattle.group.specs.declared.Grid.{Grid}
use Rattle.group.specs.declared.Group.{Group}
use Rattle.group.specs.Numbers.{lon_edge_fits, lat_edge_fits, lon_admitted, grids_most}
use Rattle.group.specs.Limits.{name_fits, spacing_fits, origin_fits, counts_fit, grid_fits, grid_blank, head_fits}
use Rattle.group.specs.Record.{grid_at}
use Rattle.extent.specs.Extent.{lon_axis, far_edge, holds, inside, meet, moved_grid}
use Rattle.extent.specs.Sides.{Edges}
use Rattle.extent.proofs.SideLaws.{far_lon}
use Rattle.extent.proofs.MeetLaws.{meets_exactly}
use Rattle.extent.proofs.Order5.{moved_inside, point_moved}
use Rattle.judge.specs.Judge.{unused_grid, same_name, same_rank, judged, Sound}
use Rattle.judge.proofs.LimitLaws.{lon_size, grid_edges}
use Rattle.judge.proofs.Accepted.{accepted, accepted_edges, sound_accepted}
use Rattle.choice.specs.Choice.{chosen}
use Rattle.choice.proofs.ChoiceLaws.{chosen_agree}
use Rattle.ingroup.specs.InGroup.{chosen_in}
use Rattle.ingroup.specs.Order5.{WrittenTurned, TurnInvisible, Turning}
use Rattle.std.specs.Prelude.{Ok}

-- ---- a grid that is moved keeps its limits

module _ (t : ℕ) (g : Grid) where
  moved_fits : grid_fits g ≡ true → lon_edge_fits (moved_grid t g).lon.0 ≡ true → grid_fits (moved_grid t g) ≡ true
  unfolding grid_fits
  moved_fits e l =
      let a = name_fits g.name in let o = origin_fits g.lon.0 g.lat.0 g.dlon g.dlat in
      let c = counts_fit (pos g.ni) (pos g.nj) (pos g.rank) (pos g.start) in
      let p = lon_edge_fits g.lon.0 in let q = lat_edge_fits g.lat.0 in let r = spacing_fits g.dlon in let s = spacing_fits g.dlat in
      let f = and_left (a && o) c e in let w = and_right a o f in
      let u = and_left (p && q && r) s w in
      both
      (both (and_left a o f) (both (both (both l (and_right p q (and_left (p && q) r u))) (and_right (p && q) r u)) (and_right (p && q && r) s w)))
      (and_right (a && o) c e)

-- ---- the group

module _ (g h : Group) (k t : ℕ) (e : judged g ≡ Ok tt) (w : WrittenTurned g h k t) where
  -- a property of grid j, by its own number
  pub by_grid : (P : Grid → Type 0) (j : ℕ) → P (grid_at g j) → (j ≡ k → P (moved_grid t (grid_at g k))) → P (grid_at h j)
  by_grid P j same moved =
      elim (ℕ_discrete j k) [
        | yes q ↦ subst P (sym (ap (grid_at h) q ∙ w.grid)) (moved q)
        | no n ↦ subst P (sym (w.others j n)) same
      ]

  fits : (j : ℕ) → j < g.grids → grid_fits (grid_at h j) ≡ true
  fits j l =
      by_grid (λ d. grid_fits d ≡ true) j ((accepted g e).grid j l)
      (λ q. moved_fits t (grid_at g k) ((accepted g e).grid k w.among) (subst (λ (d : Grid). lon_edge_fits d.lon.0 ≡ true) w.grid w.near))

  insides : (j : ℕ) → j < g.grids → inside g.parameters (grid_at h j) ≡ true
  insides j l =
      by_grid (λ d. inside g.parameters d ≡ true) j ((accepted g e).edges j l)
      (λ q. moved_inside t (grid_at g k) g.parameters ((accepted g e).edges k w.among)
      (subst (λ (d : Grid). lon_edge_fits (far_edge (lon_axis d)) ≡ true) w.grid w.far))

  edges : (j : ℕ) → j < g.grids → Edges (grid_at h j)
  edges j l = grid_edges (grid_at h j) (fits j l) g.parameters (insides j l)

  -- each grid holds the same admitted points
  held : (j : ℕ) → j < g.grids → (x y : ℤ) → lon_admitted x ≡ true → holds (grid_at h j) x y ≡ holds (grid_at g j) x y
  held j l x y a = elim (ℕ_discrete j k) [ yes q ↦ moved q | no n ↦ ap (λ (d : Grid). holds d x y) (w.others j n) ]
    where
      moved : j ≡ k → holds (grid_at h j) x y ≡ holds (grid_at g j) x y
      moved q =
          let d = grid_at g k in
          ap (λ (i : ℕ). holds (grid_at h i) x y) q
          ∙ ap (λ (c : Grid). holds c x y) w.grid
          ∙ point_moved t d (lon_size d ((accepted g e).grid k w.among)) (far_lon g.parameters d ((accepted g e).edges k w.among))
          (accepted_edges g e k w.among) (subst Edges w.grid (edges k w.among)) x y a
          ∙ ap (λ (i : ℕ). holds (grid_at g i) x y) (sym q)

  -- so the same grids meet
  same_meet : (i j : ℕ) → i < g.grids → j < g.grids → meet (grid_at h i) (grid_at h j) ≡ meet (grid_at g i) (grid_at g j)
  same_meet i j l m =
      let new = meets_exactly (grid_at h i) (grid_at h j) (edges i l) (edges j m) in
      let old = meets_exactly (grid_at g i) (grid_at g j) (accepted_edges g e i l) (accepted_edges g e j m) in
      same_test _ _
      (λ s.
      let c = new.0 s in
      old.1
      (record {
        x = c.x;
        y = c.y;
        lon = c.lon;
        lat = c.lat;
        first = sym (held i l c.x c.y c.lon) ∙ c.first;
        second = sym (held j m c.x c.y c.lon) ∙ c.second;
      }))
      (λ s.
      let c = old.0 s in
      new.1
      (record {
        x = c.x;
        y = c.y;
        lon = c.lon;
        lat = c.lat;
        first = held i l c.x c.y c.lon ∙ c.first;
        second = held j m c.x c.y c.lon ∙ c.second;
      }))

  same_names : (j : ℕ) → (grid_at h j).name ≡ (grid_at g j).name
  same_names j = by_grid (λ d. d.name ≡ (grid_at g j).name) j refl (λ q. ap (λ (i : ℕ). (grid_at g i).name) (sym q))

  same_ranks : (j : ℕ) → (grid_at h j).rank ≡ (grid_at g j).rank
  same_ranks j = by_grid (λ d. d.rank ≡ (grid_at g j).rank) j refl (λ q. ap (λ (i : ℕ). (grid_at g i).rank) (sym q))

  unused : (j : ℕ) → j < grids_most → unused_grid h j ≡ false
  unused j l =
      elim (ℕ_discrete j k) [
        | yes q ↦
            ap (λ (n : ℕ). leb n j && not (grid_blank (grid_at h j))) w.grids
            ∙ ap (λ (b : Bool). b && not (grid_blank (grid_at h j))) (lt-leb g.grids j (omega (arith, w.among)))
        | no n ↦ (λ i. leb (w.grids i) j && not (grid_blank (w.others j n i))) ∙ (accepted g e).no_grid j l
      ]

  sound : Sound h
  unfolding head_fits same_rank
  sound =
      let s = accepted g e in let n = w.grids in
      record {
        head = rw (w.name, w.quantum, w.parameters, w.functions, w.grids) s.head;
        function = λ j l. rw w.function (s.function j (omega (arith, w.functions)));
        grid = λ j l. fits j (omega arith);
        no_function = λ j l. rw (w.function, w.functions) (s.no_function j l);
        no_grid = unused;
        edges = λ j l. rw w.parameters (insides j (omega arith));
        names = λ i j l m. (λ a. same_name (same_names j a) (same_names i a)) ∙ s.names i j (omega arith) m;
        ranks = λ i j l m.
            let p : i < g.grids = omega arith in let q : j < g.grids = omega arith in
            (λ a. eqb (same_ranks j a) (same_ranks i a) && same_meet j i q p a) ∙ s.ranks i j p m;
      }

  pub turn_invisible : TurnInvisible g h
  unfolding chosen_in
  turn_invisible =
      record {
        accepted = sound_accepted h sound;
        choice = λ x y a b.
            ap (chosen (λ i. holds (grid_at h i) x y) (λ i. (grid_at h i).rank)) w.grids
            ∙ chosen_agree (λ i. holds (grid_at h i) x y) (λ i. holds (grid_at g i) x y) (λ i. (grid_at h i).rank) (λ i. (grid_at g i).rank) g.grids
            (λ i l. held i l x y a) (λ i l. same_ranks i);
      }

pub turning : (g : Group) → Turning g
turning g e h k t w = turn_invisible g h k t e w
