-- The numbers of rows of units, one row after another.
use Rattle.std.proofs.Common.{◌≡◌, ◌∙◌, ◌<◌, ◌+◌, ℕ, List, [], ◌++◌, length, take, get_or, flat_map, sym, ap}
use Rattle.std.proofs.lemmas.List.{flat_map_more, take_more}
use Rattle.std.specs.Option.{option_to_list}
use Rattle.um_model.specs.Transitions.{live_numbers}
use Rattle.um_model.specs.declared.service.UnitState.{UnitState}
use Rattle.um_state.proofs.Fronts.{both_put}

-- the main and the control process of the next row are appended
pub numbers_more : (rows : List UnitState) (i : ℕ) (u : UnitState) (told one both : List ℕ) → i < length rows → u ≡ get_or rows i u → told ≡ flat_map live_numbers (take i rows)
    → one ≡ told ++ option_to_list u.main → both ≡ one ++ option_to_list u.control → both ≡ flat_map live_numbers (take (i + 1) rows)
numbers_more rows i u told one both h at so_far main control =
    both_put told (option_to_list u.main) (option_to_list u.control) one both main control
    ∙ ((λ j. so_far j ++ live_numbers (at j))
    ∙ (flat_map_more live_numbers [] (take i rows) (get_or rows i u) ∙ sym (ap (flat_map live_numbers) (take_more rows i u h))))
