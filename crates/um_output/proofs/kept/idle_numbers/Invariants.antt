use Rattle.std.proofs.Common.{◌≡◌, ◌&&◌, ℕ, not, take, true}
use Rattle.um_model.specs.StateSpellings.{are_distinct}
use Rattle.um_output.specs.Kept.{has, has_file}
use Rattle.um_output.proofs.kept.idle_numbers.Given as goal

-- those of the files so far are noted, each once
abbrev pub invariant-loop-file : goal.invariant-loop-file
invariant-loop-file l = record {
  all : (n : ℕ) → has n l.idle.items ≡ (has_file n (take l.file-index l.files) && not (has n l.live));
  once : are_distinct l.idle.items ≡ true;
}
