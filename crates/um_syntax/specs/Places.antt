-- The place of a text in another one, and the text of one that is borrowed or owned.
use Rattle.std.specs.Prelude.{◌≡◌, ℕ, ◌+◌, ◌≤◌, Bool, true, false, List, length, take, drop}
use Rattle.std.specs.declared.borrow.CowStr.{CowStr}
use Rattle.std.specs.declared.borrow.CowStr.TheVariants.{Borrowed, Owned}
use Rattle.std.specs.declared.alloc.Global.{Global}
use Rattle.std.specs.String.{string_bytes}

-- the text, whether borrowed or owned
abbrev pub cow_text : CowStr Global → List ℕ
cow_text (Borrowed s) = s.now
cow_text (Owned s) = string_bytes s

-- the text has no memory of its own
abbrev pub is_borrowed : CowStr Global → Bool
is_borrowed (Borrowed s) = true
is_borrowed (Owned s) = false

-- the source from byte `start` on is the text, as far as that goes
pub record LiesAt (source : List ℕ) (start : ℕ) (text : List ℕ) : Type 0 where
  pub within : start + length text ≤ length source
  pub slice : take (length text) (drop start source) ≡ text
