use Rattle.std.proofs.Common.{◌≡◌, ◌∙◌, List, ℕ, Some, ap, map, option_map, string_bytes, subst, sym}
use Rattle.um_resolve.specs.View.{unit_file_of}
use Rattle.um_sentences.specs.Sentences.{key_why}
use Rattle.um_verify.specs.Findings.{TellsAt, TellsSetting, Told, first_with}
use Rattle.um_verify.specs.View.{spot_of}
use Rattle.um_verify.proofs.Obstacles.{told_so}
use Rattle.um_verify.proofs.obstacle.refused_setting.Goals as goal

pub returns : goal.returns
returns c =
    let key = c.args.key.now in
    let files = map unit_file_of c.args.files.now in
    let spots = map spot_of c.args.spots.now in
    let spot = spot_of c.in-Some-first_with.spot in
    let why : key_why key ≡ Some c.in-Some.why.now = sym c.key_why.ensures ∙ ap (option_map (λ s. s.now)) c.in-Some.is in
    let first : first_with key spots ≡ Some spot = sym c.first_with.ensures ∙ ap (option_map spot_of) c.in-Some-first_with.is in
    let said = c.in_ok-told.ensures in
    told_so (TellsAt files spot (string_bytes c.in_ok-told.told)) (TellsSetting key files spots)
    (λ (t : Told) (text : List ℕ) (tells : TellsAt files spot (string_bytes c.in_ok-told.told) t text). (
      c.in-Some.why.now,
      spot,
      why,
      first,
      subst (λ s. TellsAt files spot s t text) said tells,
    ))
    c.obstacle_at.result c.obstacle_at.ensures
