-- Where names lead and which files units have in the code, as in the definitions.
use Rattle.std.specs.Prelude.{List, [], ◌∷◌, ℕ, Option, Some, None, String, map as each, if◌then◌else◌, string_bytes}
use Rattle.std.specs.Cmp.Lexicographic.{slice_cmp}
use Rattle.std.specs.FinMap as map
use Rattle.std.specs.Ordering.{nat_cmp}
use Rattle.std.specs.declared.alloc.Global.{Global}
use Rattle.um_model.specs.Machine.{Reply, Files as FilesTold, Refusal}
use Rattle.um_model.specs.Refusals.{masked, not_found}
use Rattle.um_model.specs.Resolution as model
use Rattle.um_model.specs.Tree.{Entry}
use Rattle.um_tree.specs.View.{entry_of}
use Rattle.um_resolve.specs.declared.drop_ins.DropIn.{DropIn}
use Rattle.um_resolve.specs.declared.files.Files.{Files}
use Rattle.um_resolve.specs.declared.files.Files.TheVariants as files
use Rattle.um_resolve.specs.declared.files.SourceFile.{SourceFile}
use Rattle.um_resolve.specs.declared.files.UnitFile.{UnitFile}
use Rattle.um_resolve.specs.declared.resolution.Located.{Located}
use Rattle.um_resolve.specs.declared.resolution.Resolution.{Resolution}
use Rattle.um_resolve.specs.declared.resolution.Resolution.TheVariants as resolution
use Rattle.um_resolve.specs.declared.resolution.Step.{Step}
use Rattle.um_resolve.specs.declared.resolution.Step.TheVariants as step

abbrev pub located_of : Located → List ℕ × Entry
located_of h = (string_bytes h.path, entry_of h.entry)

abbrev pub resolution_of : Resolution → model.Resolution
resolution_of (resolution.File unit path text) = model.AtFile unit (string_bytes path) text.now
resolution_of (resolution.NoFile unit) = model.AtNoFile unit
resolution_of (resolution.Mask unit) = model.AtMask unit
resolution_of resolution.Nowhere = model.Nowhere

-- where a name leads, if `follow` says where the next one does
abbrev pub after_step : Step → (List ℕ → model.Resolution) → model.Resolution
after_step (step.Ends end) follow = resolution_of end
after_step (step.LeadsOn other) follow = follow other

abbrev pub text_of : DropIn → model.UnitFile
text_of d = record { path = d.path.now; text = d.text.now }

abbrev pub drop_in_of : DropIn → List ℕ × model.UnitFile
drop_in_of d = (d.file.now, text_of d)

abbrev pub drop_ins_seen : Option DropIn → List (List ℕ × model.UnitFile)
drop_ins_seen None = []
drop_ins_seen (Some d) = drop_in_of d ∷ []

-- drop-ins by the names of their files
abbrev pub ByFile : Type 0
ByFile = map.FinMap (slice_cmp nat_cmp) model.UnitFile

abbrev pub file_and_drop_in : String Global × DropIn → List ℕ × model.UnitFile
file_and_drop_in e = (string_bytes e.0, text_of e.1)

abbrev pub by_file_of : List (String Global × DropIn) → ByFile
by_file_of es = map.from_entries (each file_and_drop_in es)

-- with a drop-in, unless there is one of that file already
abbrev pub first_kept : ByFile → List ℕ × model.UnitFile → ByFile
first_kept found d = if map.contains_key found d.0 then found else map.insert found d.0 d.1

-- with these drop-ins, one after another
abbrev pub added : ByFile → List (List ℕ × model.UnitFile) → ByFile
added found [] = found
added found (d ∷ ds) = added (first_kept found d) ds

-- a file as it is borrowed, and as it is returned
abbrev pub unit_file_of : SourceFile → model.UnitFile
unit_file_of f = record { path = f.path.now; text = f.text.now }

abbrev pub file_of : UnitFile → model.UnitFile
file_of f = record { path = string_bytes f.path; text = string_bytes f.text }

-- the reply with the files of the requested unit
abbrev pub reply_by : List ℕ → Files → Reply
reply_by asked (files.Found found) = FilesTold (each file_of found.items)
reply_by asked (files.Masked unit) = Refusal (masked unit)
reply_by asked files.NotFound = Refusal (not_found asked)
