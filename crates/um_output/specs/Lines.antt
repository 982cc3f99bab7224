-- Lines of bytes: the bytes after a number of line feeds.
-- No manual page has this: it is the project's own (docs/FORMATS.md, "Output").
-- Output stands on this file.
use Rattle.std.specs.Prelude.{ℕ, zero, suc, ◌/◌, List, [], ◌∷◌, ◌==◌, count_by, drop, length, if◌then◌else◌}

-- how many line feeds there are
abbrev pub feeds : List ℕ → ℕ
feeds bytes = count_by (λ b. b == 10) bytes

-- the bytes after this number of line feeds; none if there are fewer
abbrev pub behind : ℕ → List ℕ → List ℕ
behind zero bytes = bytes
behind (suc n) [] = []
behind (suc n) (b ∷ bs) = behind (if b == 10 then n else suc n) bs

-- the lines of the newer half: those after the first line feed past the middle
abbrev pub newer_half : List ℕ → List ℕ
newer_half text = behind 1 (drop (length text / 2) text)
