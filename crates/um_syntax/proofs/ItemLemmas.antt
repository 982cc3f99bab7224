-- The reading with one more line.
use Rattle.std.proofs.Common.{◌≡◌, ◌<◌, ◌+◌, ℕ, ◌≤◌, Bool, false, ◌||◌, List, [], ◌∷◌, ◌++◌, length, get_or, drop, map, Option, Some, None, append_assoc, append-nil, subst, sym, ap, ◌∙◌}
use Rattle.std.specs.Prelude.{All, IfSome}
use Rattle.std.specs.Option.{option_to_list}
use Rattle.std.proofs.lemmas.List.{drop_more, drop_all, map-append}
use Rattle.std.proofs.lemmas.List.Elements.{All-push}
use Rattle.um_model.specs.FileForms.{items_of, items_in, is_head, in_sections}
use Rattle.um_model.proofs.SyntaxLaws.{placed_is}
use Rattle.um_model.specs.Syntax.{Line, statement_of, joined_lines, reading_of}
use Rattle.um_model.specs.Syntax as said
use Rattle.um_syntax.specs.declared.joiner.Joined.{Joined}
use Rattle.um_syntax.specs.declared.items.Item.{Item}
use Rattle.um_syntax.specs.Places.{cow_text, is_borrowed}
use Rattle.um_syntax.specs.Joining.{line_of}
use Rattle.um_syntax.specs.Items.{item_of, items_seen, begins_section}

-- items are seen one by one
seen : (old : List Item) (more : Option Item) → map item_of (old ++ option_to_list more) ≡ map item_of old ++ items_seen more
seen old None = map-append item_of old []
seen old (Some item) = map-append item_of old (item ∷ [])

-- the items so far and those still to be read, after one more line
pub read_more : (lines : List Joined) (i : ℕ) (line : Joined) (begun next : Bool) (old new : List Item) (more : Option Item) (whole : List said.Item)
    → i < length lines → line ≡ get_or lines i line
    → items_seen more ≡ items_of (statement_of (cow_text line.text)) begun line.number (is_borrowed line.text)
    → begins_section more ≡ is_head (statement_of (cow_text line.text))
    → new ≡ old ++ option_to_list more → next ≡ (begun || begins_section more)
    → map item_of old ++ items_in begun (map line_of (drop i lines)) ≡ whole
    → map item_of new ++ items_in next (map line_of (drop (i + 1) lines)) ≡ whole
read_more lines i line begun next old new more whole lt at is heads new_is next_is told =
    let rest = map line_of (drop (i + 1) lines) in
    let said_here = items_of (statement_of (cow_text line.text)) begun line.number (is_borrowed line.text) in
    let later = items_in (begun || is_head (statement_of (cow_text line.text))) rest in
    ap (λ n. map item_of n ++ items_in next rest) new_is
    ∙ ap (λ m. m ++ items_in next rest) (seen old more)
    ∙ ap (λ b. (map item_of old ++ items_seen more) ++ items_in b rest) (next_is ∙ ap (λ h. begun || h) heads)
    ∙ ap (λ a. (map item_of old ++ a) ++ later) is
    ∙ append_assoc (map item_of old) said_here later
    ∙ ap (λ ls. map item_of old ++ items_in begun (map line_of ls)) (sym (drop_more lines i line lt ∙ ap (λ x. x ∷ drop (i + 1) lines) (sym at)))
    ∙ told

-- a property of each element holds for the one that was read
pub at_item : {X : Type 0} (P : X → Type 0) (xs ys : List X) (i : ℕ) (x : X) → xs ≡ ys → i < length xs → x ≡ get_or xs i x → All P ys → P x
at_item P xs ys i x same lt is all = subst P (sym is) (subst (All P) (sym same) all i x lt)

-- a property of the items so far, and of one more
pub all_more : {X : Type 0} (P : X → Type 0) (old new : List X) (more : Option X) → new ≡ old ++ option_to_list more → IfSome more P → All P old → All P new
all_more P old new None is here all = subst (All P) (sym (is ∙ append-nil old)) all
all_more P old new (Some x) is here all = subst (All P) (sym is) (All-push P old x all here)

-- the items of all lines are the reading
pub read_all : (source : List ℕ) (lines : List Joined) (i : ℕ) (begun : Bool) (items : List Item) → length lines ≤ i
    → map item_of items ++ items_in begun (map line_of (drop i lines)) ≡ items_in false (map line_of lines)
    → map line_of lines ≡ joined_lines source
    → in_sections None (map item_of items) ≡ reading_of source
read_all source lines i begun items past told are =
    let nothing : drop i lines ≡ [] = drop_all i lines past in
    let same : map item_of items ≡ items_in false (joined_lines source) =
    sym (append-nil (map item_of items)) ∙ ap (λ ls. map item_of items ++ items_in begun (map line_of ls)) (sym nothing) ∙ told ∙ ap (items_in false) are in
    ap (in_sections None) same ∙ sym (placed_is None (joined_lines source))
