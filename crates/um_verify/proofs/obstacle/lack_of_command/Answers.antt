use Rattle.std.proofs.Common.{◌≡◌, ◌∙◌, Some, None, ap, map, option_map, sym, slice_get}
use Rattle.um_resolve.specs.View.{unit_file_of}
use Rattle.um_verify.specs.View.{told_of}
use Rattle.um_sentences.specs.Sentences.{no_command}
use Rattle.std.proofs.lemmas.Option.{slice_get-map}
use Rattle.um_verify.proofs.obstacle.lack_of_command.Goals as goal

pub returns : goal.returns
returns c =
    let file = unit_file_of c.in-Some.file.now in
    let files = c.args.files.now in
    let here : slice_get (map unit_file_of files) 0 ≡ Some file = slice_get-map unit_file_of files 0 ∙ ap (option_map unit_file_of) (sym c.in-Some.ensures.value) in
    let finding = c.in_ok-finding.ensures in
    let said = finding.text ∙ c.no_command.ensures in
    let told : told_of c.in_ok-finding.finding ≡ record { path = file.path; line = None; told = no_command } = λ i. record { path = finding.path i; line = finding.line i; told = said i } in
    ((file, here, told, c.in_ok-text.ensures), finding.stops)
