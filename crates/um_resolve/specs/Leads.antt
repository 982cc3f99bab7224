-- Where a name leads, in a reader's words: by a chain of hops, each from a name that a link holds to the next name, to one of four ends.
-- Follows systemd.unit(5), "Description" (aliases).
-- The law that a unit is found by hops stands on this file.
use Rattle.std.specs.Prelude.{◌≡◌, ℕ, zero, suc, ◌<◌, true, false, List, [], length, Some, None}
use Rattle.std.specs.Str.{bytes_eq}
use Rattle.um_model.specs.Resolution.{Resolution, AtFile, AtNoFile, AtMask, Nowhere, held, is_mask, shutdown_target, next_name}
use Rattle.um_model.specs.Tree.{Tree, File, Link}

-- a link that doesn't mask holds the name, and leads on to the next one
pub record Hops (tree : Tree) (name next : List ℕ) : Type 0 where
  pub path : List ℕ
  pub target : List ℕ
  pub linked : held tree name ≡ Some (path, Link target)
  pub unmasked : is_mask target ≡ false
  pub leads_on : next_name name target ≡ Some next

-- no hop goes on from the name: at a file that isn't empty, a mask, a unit that needs no file, nothing, or a link that leads to no fit name
pub data EndsAt (tree : Tree) : List ℕ → Resolution → Type 0 where
  at_file : (unit path text : List ℕ) → held tree unit ≡ Some (path, File text) → 0 < length text → EndsAt tree unit (AtFile unit path text)
  at_empty_file : (unit path : List ℕ) → held tree unit ≡ Some (path, File []) → EndsAt tree unit (AtMask unit)
  at_mask : (unit path target : List ℕ) → held tree unit ≡ Some (path, Link target) → is_mask target ≡ true → EndsAt tree unit (AtMask unit)
  at_no_file : (unit : List ℕ) → held tree unit ≡ None → bytes_eq unit shutdown_target ≡ true → EndsAt tree unit (AtNoFile unit)
  at_nothing : (unit : List ℕ) → held tree unit ≡ None → bytes_eq unit shutdown_target ≡ false → EndsAt tree unit Nowhere
  at_no_name : (unit path target : List ℕ) → held tree unit ≡ Some (path, Link target) → is_mask target ≡ false → next_name unit target ≡ None
      → EndsAt tree unit Nowhere

-- by at most this many hops the name leads to this end; one that has further to go leads nowhere
pub data Leads (tree : Tree) : ℕ → List ℕ → Resolution → Type 0 where
  ends : (limit : ℕ) (name : List ℕ) (end : Resolution) → EndsAt tree name end → Leads tree limit name end
  hop : (limit : ℕ) (name next : List ℕ) (end : Resolution) → Hops tree name next → Leads tree limit next end → Leads tree (suc limit) name end
  too_far : (name next : List ℕ) → Hops tree name next → Leads tree zero name Nowhere
