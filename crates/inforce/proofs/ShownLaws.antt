-- A list handed back with its coordinates in mas: one entry more, and the whole list.
use Prim.Native.Nat.{ℕ, suc, ◌+◌, ◌-◌, ◌<◌}
use mathlib.Core.Path.{◌≡◌, refl, sym, ◌∙◌}
use mathlib.Core.List.{List, map, map-append}
use native.Mathlib.Omega.{arith}
use native.Mathlib.Numerals.{add-one}
use lib.ListN.{length, get_or, set, take, replicate, length-map}
use lib.Seq.{set_at, take-suc, take_at, length-take-le, append_snoc}
use Rattle.group.specs.Numbers.{grids_most}
use Rattle.coverage.specs.declared.Entry.{Entry}
use Rattle.coverage.specs.Listing.{listing_of, no_entry}
use Rattle.inforce.specs.InForce.{shown_entry, blank_entry, accepted_list}
use Rattle.inforce.specs.Handed.{shown_first, shown_list}

pub shown_more : (es : List Entry) (i : ℕ) → i < grids_most → i < length es
    → set (shown_first es i) i (shown_entry (get_or es i no_entry)) ≡ shown_first es (i + 1)
shown_more es i h l =
    let a : grids_most - i ≡ suc (grids_most - suc i) = omega arith in
    let x = get_or es i no_entry in
    let p = map shown_entry (take i es) in
    let n : length p ≡ i = length-map (take i es) shown_entry ∙ length-take-le i es (omega arith) in
    rw (add-one i, a, take-suc es i no_entry l, map-append)
    (set_at p blank_entry (replicate (grids_most - suc i) blank_entry) (shown_entry x) i n ∙ sym (append_snoc p (shown_entry x) (replicate (grids_most - suc i) blank_entry)))

pub shown_whole : (es : List Entry) → shown_list (listing_of es) ≡ accepted_list es
unfolding shown_list
shown_whole es = rw (take_at es (replicate (grids_most - length es) no_entry) (length es) refl)
