-- Items of the code as those of the definitions, with their texts and spans.
use Rattle.std.specs.Prelude.{◌≡◌, ℕ, ◌≤◌, Bool, true, false, List, [], ◌∷◌, length, slice_range, Option, Some, None, IfSome, is_some}
use Rattle.um_model.specs.Syntax as said
use Rattle.um_syntax.specs.Places.{cow_text, is_borrowed}
use Rattle.um_syntax.specs.declared.items.Item.{Item}
use Rattle.um_syntax.specs.declared.items.Item.TheVariants.{Section, Assignment, Warning}

-- the item of the definitions; an assignment is whole exactly if it has a span
abbrev pub item_of : Item → said.Item
item_of (Section name line) = said.Section (cow_text name) line
item_of (Assignment key value line span) = said.Assignment (cow_text key) (cow_text value) line (is_some span)
item_of (Warning kind line) = said.Warned kind line

-- the items of a line, at most one
abbrev pub items_seen : Option Item → List said.Item
items_seen None = []
items_seen (Some item) = item_of item ∷ []

-- the item is a section's head
abbrev pub is_section : Item → Bool
is_section (Section name line) = true
is_section (Assignment key value line span) = false
is_section (Warning kind line) = false

-- there is an item, and it is a section's head
abbrev pub begins_section : Option Item → Bool
begins_section None = false
begins_section (Some item) = is_section item

-- the source, cut at the span, is the value
abbrev pub SpanIsIn : List ℕ → Item → Type 0
SpanIsIn source (Section name line) = Unit {0}
SpanIsIn source (Assignment key value line span) =
    IfSome span (λ s. (s.end ≤ length source) × (slice_range source s.start s.end ≡ cow_text value))
SpanIsIn source (Warning kind line) = Unit {0}

-- key and value are borrowed exactly if there is a span
abbrev pub BorrowsIfWhole : Item → Type 0
BorrowsIfWhole (Section name line) = Unit {0}
BorrowsIfWhole (Assignment key value line span) = (is_borrowed key ≡ is_some span) × (is_borrowed value ≡ is_some span)
BorrowsIfWhole (Warning kind line) = Unit {0}
