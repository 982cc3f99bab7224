-- Assignments and files of the code as those of the definitions.
use Rattle.std.specs.Prelude.{◌≡◌, ◌⊎◌, ◌++◌, Ok, List, [], ℕ, true, Option, None, IsPermutation, MatchOption, map, string_bytes}
use Rattle.um_model.specs.FileForms.{in_sections}
use Rattle.um_model.specs.Names.{named}
use Rattle.um_model.specs.Profiles.{current, read_by}
use Rattle.um_model.specs.Tree.{Tree, put_file}
use Rattle.um_model.specs.Units.{BadSetting, Found, LoadedUnit, Masked, NotFound, Source, load}
use Rattle.um_syntax.specs.Items.{item_of}
use Rattle.um_verify.specs.Findings as model
use Rattle.um_verify.specs.declared.finding.Finding.{Finding}
use Rattle.um_verify.specs.declared.obstacle.Obstacle.{Obstacle}
use Rattle.um_verify.specs.declared.reasons.Looked.{Looked}
use Rattle.um_verify.specs.declared.reasons.Looked.TheVariants as looked
use Rattle.um_verify.specs.declared.reasons.Taken.{Taken}
use Rattle.um_verify.specs.declared.reasons.Taken.TheVariants as taken
use Rattle.um_verify.specs.declared.spots.Reading.{Reading}
use Rattle.um_verify.specs.declared.spots.Spot.{Spot}

abbrev pub source_seen : Reading → Source
source_seen r = record { path = r.path.now; reading = in_sections None (map item_of r.items.items) }

abbrev pub spot_of : Spot → model.Spot
spot_of s = record { path = s.path.now; line = s.line; section = s.section.now; key = s.key.now; value = s.value.now }

-- the text of a finding
abbrev pub finding_line : Finding → List ℕ
finding_line f = model.finding_text (string_bytes f.path) f.line (string_bytes f.text)

-- a finding as a report
abbrev pub told_of : Finding → model.Told
told_of f = record { path = string_bytes f.path; line = f.line; told = string_bytes f.text }

-- the place of a finding
abbrev pub place_of : Finding → List ℕ × Option ℕ
place_of f = (string_bytes f.path, f.line)

-- an obstacle reports the reason, which stops the unit
abbrev pub IsObstacle : (model.Told → (text : List ℕ) → Type 0) → Obstacle → Type 0
IsObstacle Tells o = Tells (told_of o.finding) (string_bytes o.text) × (o.finding.stops ≡ true)

-- the outcome for a reason: it is reported, and its file has the text without it; or the tree is unchanged
abbrev pub IsTaken : (before after : Tree) → (unit reason : List ℕ) → Taken → Type 0
IsTaken before after unit reason (taken.Out f) =
    (text : List ℕ) × model.TellsIn before unit reason (told_of f) text × (f.stops ≡ true) × (put_file before (string_bytes f.path) text ≡ Ok after)
IsTaken before after unit reason (taken.Left f) = before ≡ after

-- the findings after the reasons: the warnings of the found unit, or anything if a reason couldn't be removed
abbrev pub IsRest : Tree → List ℕ → List Finding → Type 0
IsRest tree unit rest =
    ((u : LoadedUnit) × (load (read_by current tree) unit ≡ Found u) × (map place_of rest ≡ map model.warning_place u.warnings))
    ⊎ ((named reason : List ℕ) × (load (read_by current tree) unit ≡ BadSetting named reason))

-- the outcome of a look, by the tree that is left
abbrev pub EndsAs : Tree → List ℕ → List model.Told → Looked → Type 0
EndsAs tree unit reasons (looked.Found found) =
    (first rest : List Finding) × (found.items ≡ first ++ rest) × (map told_of first ≡ reasons) × IsRest tree unit rest
EndsAs tree unit reasons looked.Masked = (named : List ℕ) × (load (read_by current tree) unit ≡ Masked named)
EndsAs tree unit reasons looked.NotFound = load (read_by current tree) unit ≡ NotFound

-- the reasons are reported one after another, and then the warnings
abbrev pub LooksAt : (before after : Tree) → List ℕ → Looked → Type 0
LooksAt before after unit l = (reasons : List model.Told) × model.Tells before unit reasons after × EndsAs after unit reasons l

-- ---- files that are given by their texts

-- the findings about a unit
abbrev pub findings_in : Looked → List Finding
findings_in (looked.Found found) = found.items
findings_in looked.Masked = []
findings_in looked.NotFound = []

-- the findings about the unit of this name in the tree, in any order; none if it is no unit's name
abbrev pub AreFindingsOf : Tree → List ℕ → List Finding → Type 0
AreFindingsOf tree name found =
    MatchOption (named name) (found ≡ []) (λ unit. (after : Tree) × (l : Looked) × LooksAt tree after unit l × IsPermutation (findings_in l) found)
