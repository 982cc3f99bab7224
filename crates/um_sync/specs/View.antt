-- Steps and lines of the code as those of the definitions.
use Rattle.std.specs.Prelude.{◌≡◌, ◌++◌, ℕ, List, Bool, String, string_bytes, map, Option, Some}
use Rattle.std.specs.Ordering.{nat_cmp}
use Rattle.std.specs.Cmp.Lexicographic.{slice_cmp}
use Rattle.std.specs.Str.Lines.{lines}
use Rattle.std.specs.BTreeMap.{get_by_text}
use Rattle.std.specs.List.Sorted.{IsPermutation, IsSortedByKey}
use Rattle.std.specs.declared.alloc.Global.{Global}
use Rattle.um_model.specs.Tree.{Tree}
use Rattle.um_sync.specs.Sync as model
use Rattle.um_sync.specs.declared.ledger.Ledger.{Ledger}
use Rattle.um_sync.specs.declared.line.Line.{Line}
use Rattle.um_sync.specs.declared.line.Line.TheVariants as line
use Rattle.um_sync.specs.declared.mark.Mark.{Mark}
use Rattle.um_sync.specs.declared.plan.Action.{Action}
use Rattle.um_sync.specs.declared.plan.Step.{Step}

-- a path with its mark, as it is held
abbrev pub marked_path : String Global × Mark → List ℕ × Mark
marked_path e = (string_bytes e.0, e.1)

-- the record's entries, by path
abbrev pub marks_in : Ledger → List (List ℕ × Mark)
marks_in l = map marked_path l.marks.entries

-- the mark of a path
abbrev pub mark_at : Ledger → List ℕ → Option Mark
mark_at l path = get_by_text l.marks path

abbrev pub said_of : Line → model.Said
said_of (line.Marked path mark) = model.Marked path.now mark
said_of line.Reload = model.Reload

-- a text was read: its lines mean this, one by one, and the record is what they mean together
abbrev pub IsRead : List ℕ → Ledger → Type 0
IsRead text l =
    (said : List model.Said) × (map Some said ≡ map model.says (lines text)) × ((path : List ℕ) → mark_at l path ≡ model.last_mark path said)
    × (l.owes_reload ≡ model.is_owed said)

abbrev pub step_of : Step → List ℕ × Action
step_of s = (string_bytes s.path, s.action)

-- the steps are these: entries to put and entries to remove, in the order of their paths by bytes
abbrev pub AreSteps : (all : Bool) → Ledger → Tree → List Step → Type 0
AreSteps all l tree steps =
    ((found : List Step) × (map step_of found ≡ model.puts all (mark_at l) tree ++ model.removals tree (map (λ e. e.0) (marks_in l)))
    × IsPermutation found steps)
    × IsSortedByKey (λ (s : Step). string_bytes s.path) (slice_cmp nat_cmp) steps
