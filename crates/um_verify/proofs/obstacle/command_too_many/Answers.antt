use Rattle.std.proofs.Common.{◌≡◌, ◌∙◌, ◌++◌, ◌-◌, ◌==◌, ℕ, Some, IfSome, ap, if◌then◌else◌, length, map, option_map, string_bytes, subst, sym, slice_get}
use Rattle.um_resolve.specs.View.{unit_file_of}
use Rattle.um_sentences.specs.Sentences.{further_command}
use Rattle.um_verify.specs.Findings.{TellsAt, command}
use Rattle.um_verify.specs.View.{IsObstacle, spot_of, told_of}
use Rattle.std.proofs.lemmas.List.{length-map}
use Rattle.std.proofs.lemmas.Option.{slice_get-map}
use Rattle.um_verify.proofs.obstacle.command_too_many.Goals as goal

pub returns : goal.returns
returns c =
    let files = map unit_file_of c.args.files.now in
    let starts = c.args.starts.now in
    let spot = spot_of c.args.last in
    let without = string_bytes c.in-Some.obstacle.text in
    let obstacle = subst (λ o. IfSome o (IsObstacle (TellsAt files spot (string_bytes c.in_ok-told.told)))) c.in-Some.is c.in_ok-obstacle.ensures in
    let said : string_bytes c.in_ok-told.told ≡ further_command = c.in_ok-told.ensures.ok ∙ c.further_command.ensures in
    let tells = subst (λ s. TellsAt files spot s (told_of c.in-Some.obstacle.finding) without) said obstacle.0 in
    let count : length (map spot_of starts) ≡ length starts = length-map starts spot_of in
    let here : slice_get (map spot_of starts) (length (map spot_of starts) - 1) ≡ Some spot =
    ap (λ n. slice_get (map spot_of starts) (n - 1)) count ∙ slice_get-map spot_of starts (length starts - 1) ∙ ap (option_map spot_of) c.requires in
    ((spot, without, here, tells, c.in_ok-text.ensures ∙ ap (λ (n : ℕ). if n == 1 then without ++ command else without) (sym count)), obstacle.1)
