use Rattle.std.proofs.Common.{◌≡◌, ◌++◌, map as each, filter, is_none, string_bytes}
use Rattle.std.specs.FinMap as map
use Rattle.um_install.proofs.installed.paths_beyond.Given as goal

-- those found and those of the entries that are left are all
abbrev pub invariant-loop-path : goal.invariant-loop-path
invariant-loop-path l =
    each string_bytes l.paths.items ++ filter (λ path. is_none (map.get l.other path)) (each (λ e. e.0) l.path-iterator)
    ≡ filter (λ path. is_none (map.get l.other path)) (each (λ e. e.0) l.initial.path-iterator)
