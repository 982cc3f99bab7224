use Rattle.std.proofs.Common.{◌≡◌, List, IfOk, IfSome, Some, map, ap, sym, ◌∙◌}
use Rattle.um_model.specs.Resolution.{UnitFile, files_at}
use Rattle.um_model.specs.Units.{source_of}
use Rattle.um_resolve.specs.View.{unit_file_of}
use Rattle.um_verify.proofs.Obstacles.{by_parts}
use Rattle.um_verify.specs.Findings.{Spot, TellsReason, all_spots, unit_files}
use Rattle.um_verify.specs.View.{IsObstacle, source_seen, spot_of}
use Rattle.um_verify.proofs.obstacle.reason_in.Goals as goal

pub returns : goal.returns
returns c =
    let tree = c.args.tree.now in
    let unit = c.args.unit.now in
    let R : List UnitFile → List Spot → Type 0 = λ files spots. IfOk c.reason_at.result (λ o. IfSome o (IsObstacle (TellsReason unit c.args.reason files spots))) in
    let files : map unit_file_of c.in_ok-files.files.items ≡ unit_files tree unit = c.in_ok-files.ensures ∙ ap (files_at tree) c.in_ok-resolution.ensures in
    let seen = ap (map unit_file_of) c.as_slice-3.ensures.value ∙ files in
    let read = ap (map source_seen) c.as_slice-2.ensures.value ∙ c.in_ok-readings.ensures ∙ ap (λ fs. map source_of (map unit_file_of fs)) c.as_slice.ensures.value ∙ ap (map source_of) files in
    let known = ap (map spot_of) c.as_slice-4.ensures.value ∙ c.in_ok-spots.ensures ∙ ap (all_spots (Some c.suffix.result)) read ∙ ap (λ s. all_spots s (map source_of (unit_files tree unit))) (sym c.suffix.ensures) in
    by_parts R _ _ _ _ seen known c.reason_at.ensures
