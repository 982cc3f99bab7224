-- The place of a shown unit's warnings in the text of its reply.
use Rattle.std.proofs.Common.{◌≡◌, ◌<◌, ◌≤◌, ℕ, ◌+◌, ◌-◌, ◌^◌, Bool, true, false, List, [], ◌∷◌, ◌++◌, length, map, take, Option, Some, None, refl, sym, ap, ◌∙◌, append_assoc, arith}
use Rattle.std.specs.Prelude.{codes, unwrap_or, option_to_list, MatchOption, Box}
use Rattle.std.specs.declared.alloc.Global.{Global}
use Rattle.std.proofs.lemmas.Bool.Decides.{nat_tests}
use Rattle.std.proofs.lemmas.List.{append-nil, length-append, same_from_push}
use Rattle.std.proofs.Math.Seq.{take-append_seam}
use Rattle.json.specs.Print.{quoted}
use Rattle.serde_json.specs.Data.{Data, Members, boolean, string, member, no_members}
use Rattle.serde_json.specs.View.{items_of}
use Rattle.serde_json.specs.Written.{has_float, compact_text, items_text, members_text, comma_if}
use Rattle.um_laws.proofs.RepliesLaws.{reply_plain}
use Rattle.um_model.specs.Machine as model
use Rattle.um_model.specs.Machine.{Reply, Shown}
use Rattle.um_model.specs.Replies.{number_data, list_data, warning_data, shown_data, reply_data, is_told_whole}
use Rattle.um_model.specs.Service.{sub_state_text, active_state_of, active_state_text, result_text}
use Rattle.um_model.specs.Units.{Warning, load_state_text}
use Rattle.um_proto.specs.Written.{without_warnings, unwarned, warnings_text}
use Rattle.um_state.specs.View.{reply_of}
use Rattle.um_state.specs.declared.reply.UnitShown.{UnitShown}
use Rattle.um_state.specs.declared.reply.Reply as reply
use Rattle.um_state.specs.declared.reply.Reply.TheVariants as replies

-- ---- their place

regroup : (comma key value x y : List ℕ) → comma ++ (key ++ 58 ∷ (value ++ (x ++ y))) ≡ (comma ++ (key ++ 58 ∷ (value ++ x))) ++ y
regroup comma key value x y = simp append_assoc

regroup_last : (comma key x y : List ℕ) → comma ++ (key ++ 58 ∷ ((x ++ y) ++ 125 ∷ [])) ≡ (comma ++ (key ++ 58 ∷ x)) ++ (y ++ 125 ∷ [])
regroup_last comma key x y = simp append_assoc

-- the text of members up to some place in the later ones; x is the text of the later ones before it
abbrev up_to : Bool → List ℕ → Data → List ℕ → List ℕ
up_to later key value x = comma_if later ++ (quoted key ++ 58 ∷ (compact_text value ++ x))

split_member : (later : Bool) (key : List ℕ) (value : Data) (others : Members) (x y : List ℕ) → members_text true others ≡ x ++ y
    → members_text later (member key value others) ≡ up_to later key value x ++ y
split_member later key value others x y e =
    ap (λ text. comma_if later ++ (quoted key ++ 58 ∷ (compact_text value ++ text))) e ∙ regroup (comma_if later) (quoted key) (compact_text value) x y

-- the same for a last member, in its value
split_last : (later : Bool) (key : List ℕ) (value : Data) (x y : List ℕ) → compact_text value ≡ x ++ y
    → members_text later (member key value no_members) ≡ (comma_if later ++ (quoted key ++ 58 ∷ x)) ++ (y ++ 125 ∷ [])
split_last later key value x y e =
    ap (λ text. comma_if later ++ (quoted key ++ 58 ∷ (text ++ 125 ∷ []))) e ∙ regroup_last (comma_if later) (quoted key) x y

-- a shown unit's text up to its warnings
unit_front : model.UnitShown → List ℕ
unit_front u =
    123 ∷ up_to false (codes "ActiveState") (string (active_state_text (active_state_of u.state.sub)))
    (up_to true (codes "Description") (string u.description)
    (up_to true (codes "Id") (string u.id)
    (up_to true (codes "LoadState") (string (load_state_text u.load))
    (up_to true (codes "MainNumber") (number_data (unwrap_or u.state.main 0))
    (up_to true (codes "Result") (string (result_text u.state.result))
    (up_to true (codes "SubState") (string (sub_state_text u.state.sub))
    (comma_if true ++ (quoted (codes "Warnings") ++ 58 ∷ 91 ∷ []))))))))

-- the warnings' text with its closing bracket
abbrev items_told : List Warning → List ℕ
items_told ws = items_text false (items_of (map warning_data ws))

unit_split : (u : model.UnitShown) → compact_text (shown_data u) ≡ unit_front u ++ (items_told u.warnings ++ 125 ∷ [])
unfolding unit_front
unit_split u =
    let behind = items_told u.warnings ++ 125 ∷ [] in
    let warnings = member (codes "Warnings") (list_data warning_data u.warnings) no_members in
    let sub = member (codes "SubState") (string (sub_state_text u.state.sub)) warnings in
    let outcome = member (codes "Result") (string (result_text u.state.result)) sub in
    let main = member (codes "MainNumber") (number_data (unwrap_or u.state.main 0)) outcome in
    let load = member (codes "LoadState") (string (load_state_text u.load)) main in
    let id = member (codes "Id") (string u.id) load in
    let description = member (codes "Description") (string u.description) id in
    let at_warnings = split_last true (codes "Warnings") (list_data warning_data u.warnings) (91 ∷ []) (items_told u.warnings) refl in
    let at_sub = split_member true (codes "SubState") (string (sub_state_text u.state.sub)) warnings _ behind at_warnings in
    let at_result = split_member true (codes "Result") (string (result_text u.state.result)) sub _ behind at_sub in
    let at_main = split_member true (codes "MainNumber") (number_data (unwrap_or u.state.main 0)) outcome _ behind at_result in
    let at_load = split_member true (codes "LoadState") (string (load_state_text u.load)) main _ behind at_main in
    let at_id = split_member true (codes "Id") (string u.id) load _ behind at_load in
    let at_description = split_member true (codes "Description") (string u.description) id _ behind at_id in
    ap (λ text. 123 ∷ text) (split_member false (codes "ActiveState") (string (active_state_text (active_state_of u.state.sub))) description _ behind at_description)

-- the reply's text up to the warnings
pub front : model.UnitShown → List ℕ
front u = 123 ∷ up_to false (codes "ok") (boolean true) (comma_if true ++ (quoted (codes "value") ++ 58 ∷ unit_front u))

reply_split : (u : model.UnitShown) → compact_text (reply_data (Shown u)) ≡ front u ++ (items_told u.warnings ++ 125 ∷ 125 ∷ [])
unfolding front
reply_split u =
    let value = member (codes "value") (shown_data u) no_members in
    let behind = (items_told u.warnings ++ 125 ∷ []) ++ 125 ∷ [] in
    let at_value = split_last true (codes "value") (shown_data u) (unit_front u) (items_told u.warnings ++ 125 ∷ []) (unit_split u) in
    let all : compact_text (reply_data (Shown u)) ≡ front u ++ behind =
    ap (λ text. 123 ∷ text) (split_member false (codes "ok") (boolean true) value _ behind at_value) in
    all ∙ ap (λ text. front u ++ text) (append_assoc (items_told u.warnings) (125 ∷ []) (125 ∷ []))

-- the text up to the warnings doesn't depend on them
same_front : (u : model.UnitShown) → front (without_warnings u) ≡ front u
unfolding front unit_front
same_front u = refl

-- ---- with a comma after each

-- the warnings after the first, a comma before each
later : List Warning → List ℕ
later [] = []
later (w ∷ ws) = 44 ∷ (compact_text (warning_data w) ++ later ws)

later_items : (ws : List Warning) → items_text true (items_of (map warning_data ws)) ≡ later ws ++ 93 ∷ []
unfolding later
later_items [] = refl
later_items (w ∷ ws) =
    ap (λ text. 44 ∷ (compact_text (warning_data w) ++ text)) (later_items ws) ∙ ap (λ text. 44 ∷ text) (sym (append_assoc (compact_text (warning_data w)) (later ws) (93 ∷ [])))

comma_moved : (ws : List Warning) → 44 ∷ warnings_text ws ≡ later ws ++ 44 ∷ []
unfolding later
comma_moved [] = refl
comma_moved (w ∷ ws) =
    let text = compact_text (warning_data w) in
    ap (λ xs. 44 ∷ xs) (append_assoc text (44 ∷ []) (warnings_text ws) ∙ ap (λ xs. text ++ xs) (comma_moved ws) ∙ sym (append_assoc text (later ws) (44 ∷ [])))

-- all of them, with no comma after the last
joined : Warning → List Warning → List ℕ
joined w ws = compact_text (warning_data w) ++ later ws

items_joined : (w : Warning) (ws : List Warning) → items_told (w ∷ ws) ≡ joined w ws ++ 93 ∷ []
unfolding joined
items_joined w ws =
    let text = compact_text (warning_data w) in
    ap (λ xs. text ++ xs) (later_items ws) ∙ sym (append_assoc text (later ws) (93 ∷ []))

comma_last : (w : Warning) (ws : List Warning) → warnings_text (w ∷ ws) ≡ joined w ws ++ 44 ∷ []
unfolding joined
comma_last w ws =
    let text = compact_text (warning_data w) in
    append_assoc text (44 ∷ []) (warnings_text ws) ∙ ap (λ xs. text ++ xs) (comma_moved ws) ∙ sym (append_assoc text (later ws) (44 ∷ []))

-- the text up to the warnings, then the warnings without the comma after the last
told_so_far : (front : List ℕ) (w : Warning) (ws : List Warning) → front ++ warnings_text (w ∷ ws) ≡ (front ++ joined w ws) ++ 44 ∷ []
told_so_far front w ws = ap (λ xs. front ++ xs) (comma_last w ws) ∙ sym (append_assoc front (joined w ws) (44 ∷ []))

told_all : (front : List ℕ) (w : Warning) (ws : List Warning) → front ++ (items_told (w ∷ ws) ++ 125 ∷ 125 ∷ []) ≡ (front ++ joined w ws) ++ 93 ∷ 125 ∷ 125 ∷ []
told_all front w ws =
    ap (λ xs. front ++ (xs ++ 125 ∷ 125 ∷ [])) (items_joined w ws) ∙ ap (λ xs. front ++ xs) (append_assoc (joined w ws) (93 ∷ []) (125 ∷ 125 ∷ []))
    ∙ sym (append_assoc front (joined w ws) (93 ∷ 125 ∷ 125 ∷ []))

-- ---- as it is written

-- without warnings the text is closed as it is
closed_empty : (front : List ℕ) (ws : List Warning) (text : List ℕ) → text ≡ front ++ warnings_text ws → length text ≤ length front
    → text ++ 93 ∷ 125 ∷ 125 ∷ [] ≡ front ++ (items_told ws ++ 125 ∷ 125 ∷ [])
closed_empty front [] text is short = ap (λ xs. xs ++ 93 ∷ 125 ∷ 125 ∷ []) (is ∙ append-nil front)
closed_empty front (w ∷ ws) text is short =
    absurd (omega (arith, short, ap length (is ∙ told_so_far front w ws), length-append (front ++ joined w ws) (44 ∷ []), length-append front (joined w ws)))

-- otherwise the last comma is removed
closed : (front : List ℕ) (ws : List Warning) (text popped : List ℕ) (last : ℕ) → text ≡ front ++ warnings_text ws → length front < length text
    → text ≡ popped ++ last ∷ [] → popped ++ 93 ∷ 125 ∷ 125 ∷ [] ≡ front ++ (items_told ws ++ 125 ∷ 125 ∷ [])
closed front [] text popped last is long split = absurd (omega (arith, long, ap length (is ∙ append-nil front)))
closed front (w ∷ ws) text popped last is long split =
    let same : popped ≡ front ++ joined w ws = (same_from_push popped (front ++ joined w ws) last 44 (sym split ∙ is ∙ told_so_far front w ws)).0 in
    ap (λ xs. xs ++ 93 ∷ 125 ∷ 125 ∷ []) same ∙ sym (told_all front w ws)

-- the text is at least as long as the written text before it is closed
longer : (front : List ℕ) (ws : List Warning) → length (front ++ warnings_text ws) ≤ length (front ++ (items_told ws ++ 125 ∷ 125 ∷ []))
longer front [] = omega (arith, length-append front [], length-append front (93 ∷ 125 ∷ 125 ∷ []))
longer front (w ∷ ws) =
    omega (
      arith,
      ap length (told_so_far front w ws),
      ap length (told_all front w ws),
      length-append (front ++ joined w ws) (44 ∷ []),
      length-append (front ++ joined w ws) (93 ∷ 125 ∷ 125 ∷ []),
    )

-- ---- the reply's own text

-- a value that equals the reply's has the reply's text
pub own_written : (reply : Reply) (value : Data) (text : List ℕ) → value ≡ reply_data reply → (has_float value ≡ false → text ≡ compact_text value)
    → text ≡ compact_text (reply_data reply)
own_written reply value text is written = written (ap has_float is ∙ reply_plain reply) ∙ ap compact_text is

-- a reply that shows no unit is complete without warnings
pub nothing_left_out : (r : reply.Reply) → ((u : Box UnitShown Global) → r ≡ replies.Shown u → ⊥) → unwarned (reply_of r) ≡ reply_of r
nothing_left_out replies.Done others = refl
nothing_left_out (replies.Shown u) others = absurd (others u refl)
nothing_left_out (replies.Activity state) others = refl
nothing_left_out (replies.Files files) others = refl
nothing_left_out (replies.Relinked made removed) others = refl
nothing_left_out (replies.EnabledAs answer) others = refl
nothing_left_out (replies.Listed units) others = refl
nothing_left_out (replies.Jobs jobs) others = refl
nothing_left_out (replies.Told actions) others = refl
nothing_left_out (replies.Refused refusal) others = refl

-- the text without warnings, except its last three bytes
pub cut_front : (u : model.UnitShown) (text cut : List ℕ) (size : ℕ) → text ≡ compact_text (reply_data (Shown (without_warnings u))) → size ≡ length text
    → cut ≡ take (size - 3) text → cut ≡ front u
cut_front u text cut size is of_size of_cut =
    let split : text ≡ front u ++ 93 ∷ 125 ∷ 125 ∷ [] = is ∙ reply_split (without_warnings u) ∙ ap (λ xs. xs ++ 93 ∷ 125 ∷ 125 ∷ []) (same_front u) in
    let left : size - 3 ≡ length (front u) = omega (arith, of_size, ap length split, length-append (front u) (93 ∷ 125 ∷ 125 ∷ [])) in
    of_cut ∙ ap (λ n. take n text) left ∙ ap (λ xs. take (length (front u)) xs) split ∙ take-append_seam (front u) (93 ∷ 125 ∷ 125 ∷ [])

written_so_far : (u : model.UnitShown) (begun : List ℕ) (seen : List Warning) → begun ≡ front u → seen ≡ u.warnings
    → begun ++ warnings_text seen ≡ front u ++ warnings_text u.warnings
written_so_far u begun seen same all = ap (λ xs. xs ++ warnings_text seen) same ∙ ap (λ ws. front u ++ warnings_text ws) all

pub without_any : (u : model.UnitShown) (begun text : List ℕ) (seen : List Warning) → begun ≡ front u → seen ≡ u.warnings → text ≡ begun ++ warnings_text seen
    → length text ≤ length begun → text ++ 93 ∷ 125 ∷ 125 ∷ [] ≡ compact_text (reply_data (Shown u))
without_any u begun text seen same all is short =
    closed_empty (front u) u.warnings text (is ∙ written_so_far u begun seen same all) (omega (arith, short, ap length same)) ∙ sym (reply_split u)

pub without_last_comma : (u : model.UnitShown) (begun text popped : List ℕ) (seen : List Warning) (last : Option ℕ) (size left : ℕ) → begun ≡ front u
    → seen ≡ u.warnings → text ≡ begun ++ warnings_text seen → length begun < length text → text ≡ popped ++ option_to_list last
    → size ≡ length text → MatchOption last ((size ≡ 0) × (left ≡ 0)) (λ _. left + 1 ≡ size)
    → popped ++ 93 ∷ 125 ∷ 125 ∷ [] ≡ compact_text (reply_data (Shown u))
without_last_comma u begun text popped seen None size left same all is long split of_size cases = absurd (omega (arith, long, of_size, cases.0))
without_last_comma u begun text popped seen (Some last) size left same all is long split of_size cases =
    closed (front u) u.warnings text popped last (is ∙ written_so_far u begun seen same all) (omega (arith, long, ap length same)) split ∙ sym (reply_split u)

-- a reply isn't whole if its written text is past the limit
pub past_whole : (u : model.UnitShown) (begun : List ℕ) (seen : List Warning) → begun ≡ front u → seen ≡ u.warnings
    → 2 ^ 24 < length (begun ++ warnings_text seen) → is_told_whole (Shown u) ≡ false
unfolding is_told_whole
past_whole u begun seen same all past =
    let long : 2 ^ 24 < length (compact_text (reply_data (Shown u))) =
    omega (arith, past, ap length (written_so_far u begun seen same all), longer (front u) u.warnings, ap length (reply_split u)) in
    grind (arith, nat_tests)
