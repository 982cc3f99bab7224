use Rattle.std.proofs.Common.{◌≡◌, ◌∙◌, List, ℕ, Some, ap, codes, map, option_map, string_bytes, subst, sym}
use Rattle.um_resolve.specs.View.{unit_file_of}
use Rattle.um_verify.specs.Findings.{TellsAt, TellsType, Told, last_with, unserved_types}
use Rattle.um_verify.specs.View.{spot_of}
use Rattle.um_verify.proofs.Obstacles.{told_so}
use Rattle.um_verify.proofs.obstacle.unserved_type.Goals as goal

pub returns : goal.returns
returns c =
    let files = map unit_file_of c.args.files.now in
    let spots = map spot_of c.args.spots.now in
    let spot = spot_of c.in-Some.spot in
    let last : last_with (codes "Type") unserved_types spots ≡ Some spot = sym c.last_with.ensures ∙ ap (option_map spot_of) c.in-Some.is in
    let said = c.in_ok-told.ensures in
    told_so (TellsAt files spot (string_bytes c.in_ok-told.told)) (TellsType files spots)
    (λ (t : Told) (text : List ℕ) (tells : TellsAt files spot (string_bytes c.in_ok-told.told) t text). (spot, last, subst (λ s. TellsAt files spot s t text) said tells))
    c.obstacle_at.result c.obstacle_at.ensures
