-- The list of grids in force as the C interface passes it: the count and all entries.
use Rattle.std.specs.Prelude.{ℕ, ◌+◌, ◌*◌, List, [], ◌∷◌, ◌++◌, ℤ, pos, get_or, replicate}
use Rattle.group.specs.Numbers.{grids_most}
use Rattle.inforce.specs.declared.Area.{Area}
use Rattle.inforce.specs.declared.GridInForce.{GridInForce}
use Rattle.inforce.specs.declared.InForce.{InForce}
use Rattle.inforce.specs.InForce.{blank_entry, in_force_of}
use Rattle.abi.specs.Abi.{group_of_words, stored, joined}
use Rattle.capi.specs.Answers.{Answer, answered}

-- where the entries begin, behind the count, the numbers of an entry, and how many numbers there are
abbrev pub entries_from : ℕ
entries_from = 1

abbrev pub entry_words : ℕ
entry_words = 3

abbrev pub list_words : ℕ
list_words = entries_from + grids_most * entry_words

-- an entry: the grid's number, and the longitude and latitude where it is first chosen
abbrev pub entry_numbers : GridInForce → List ℤ
entry_numbers e = pos e.grid ∷ e.lon.0 ∷ e.lat.0 ∷ []

unfoldable pub list_numbers : InForce → List ℤ
list_numbers r = (pos r.count ∷ []) ++ joined (λ k. entry_numbers (get_or r.entries k blank_entry)) grids_most

-- the same as the code stores them
abbrev pub stored_entry : GridInForce → List ℤ
stored_entry e = stored e.grid ∷ e.lon.0 ∷ e.lat.0 ∷ []

unfoldable pub stored_list : InForce → List ℤ
stored_list r = (stored r.count ∷ []) ++ joined (λ k. stored_entry (get_or r.entries k blank_entry)) grids_most

-- zeros beside a refusal
unfoldable pub in_force_answer : List ℤ → Area → Answer (List ℤ)
in_force_answer group area = answered list_numbers (replicate list_words (pos 0)) (in_force_of (group_of_words group) area)
