-- The names of the output files: a process's number, and the file's part.
-- No manual page has this: it is the project's own (docs/FORMATS.md, "Output").
-- Output stands on this file.
use Rattle.std.specs.Prelude.{ℕ, List, [], ◌++◌, codes, decimal}
use Rattle.um_output.specs.declared.files.Part.{Part}
use Rattle.um_output.specs.declared.files.Part.TheVariants.{Printed, Old, Draft}

-- the text after the number
abbrev pub ending : Part → List ℕ
ending Printed = []
ending Old = codes ".old"
ending Draft = codes ".old.new"

-- the name of a number's file
abbrev pub name_of : ℕ → Part → List ℕ
name_of number part = decimal number ++ ending part

-- the path of the file of this name in a folder
abbrev pub path : (folder name : List ℕ) → List ℕ
path folder name = folder ++ (codes "/" ++ name)
