-- The least length of the text of a reply with actions: each word of a start takes its bytes, two quotes, and a comma
-- or a bracket.
use Rattle.std.proofs.Common.{◌≡◌, ◌<◌, ◌≤◌, ℕ, ◌+◌, ◌-◌, ◌^◌, Bool, true, false, ◌&&◌, cond, List, [], ◌∷◌, ◌++◌, length, map, Some, None, refl, sym, ap, ◌∙◌, inl, inr, arith}
use Rattle.std.specs.Prelude.{nat_le, nat_lt, codes}
use Rattle.std.specs.List.{list_all, sum_by, flat_map}
use Rattle.std.proofs.lemmas.Bool.{cases_lt}
use Rattle.std.proofs.lemmas.Bool.Decides.{nat_tests}
use Rattle.std.proofs.lemmas.List.{length-append}
use Rattle.std.proofs.lemmas.List.Sums.{sum_by-cons, sum_by-append}
use Rattle.std.proofs.lemmas.Option.{none-some}
use Rattle.json.specs.Print.{escape_letter, escape_byte, escape, quoted}
use Rattle.serde_json.specs.Data.{Data, boolean, string, array}
use Rattle.serde_json.specs.View.{items_of}
use Rattle.serde_json.specs.Written.{compact_text, items_text}
use Rattle.um_model.specs.Machine.{Told}
use Rattle.um_model.specs.Replies.{number_data, texts_data, action_data, list_data, valued, reply_data, is_told_whole}
use Rattle.um_model.specs.Service.{Action, SpawnProcess, SendSignal}
use Rattle.um_proto.specs.Written.{words_told}
use Rattle.um_words.specs.Rooms.{size_of, sizes_of, left}
use Rattle.um_words.specs.declared.room.Room.{Room}

-- ---- texts of values

one_of : (t : Bool) (xs ys : List ℕ) → 1 ≤ length xs → 1 ≤ length ys → 1 ≤ length (cond t xs ys)
one_of true xs ys p q = p
one_of false xs ys p q = q

byte_there : (b : ℕ) → 1 ≤ length (escape_byte b)
unfolding escape_byte
byte_there b = one_of (nat_lt 0 (escape_letter b)) _ _ (omega arith) (one_of (nat_lt b 32) _ _ (omega arith) (omega arith))

escape_longer : (s : List ℕ) → length s ≤ length (escape s)
escape_longer [] = omega arith
escape_longer (b ∷ s) = omega (arith, byte_there b, escape_longer s, length-append (escape_byte b) (escape s))

quoted_longer : (s : List ℕ) → length s + 2 ≤ length (quoted s)
quoted_longer s = omega (arith, escape_longer s, length-append (escape s) (34 ∷ []))

-- the room of a value in a list
abbrev room_in_list : Data → ℕ
room_in_list d = length (compact_text d) + 1

later_items : (ds : List Data) → sum_by room_in_list ds + 1 ≤ length (items_text true (items_of ds))
later_items [] = omega arith
later_items (d ∷ ds) = omega (arith, later_items ds, sum_by-cons room_in_list d ds, length-append (compact_text d) (items_text true (items_of ds)))

list_longer : (ds : List Data) → sum_by room_in_list ds + 1 ≤ length (compact_text (array (items_of ds)))
list_longer [] = omega arith
list_longer (d ∷ ds) = omega (arith, later_items ds, sum_by-cons room_in_list d ds, length-append (compact_text d) (items_text true (items_of ds)))

texts_longer : (words : List (List ℕ)) → sizes_of 3 words ≤ sum_by room_in_list (map string words)
texts_longer [] = omega arith
texts_longer (w ∷ words) =
    omega (arith, texts_longer words, quoted_longer w, sum_by-cons (size_of 3) w words, sum_by-cons room_in_list (string w) (map string words))

-- ---- actions

action_longer : (a : Action) → sizes_of 3 (words_told a) ≤ length (compact_text (action_data a))
action_longer (SendSignal n signal) = omega arith
action_longer (SpawnProcess n words environment) =
    let spawn = string (codes "spawn") in
    let told = texts_data words in
    omega (
      arith,
      texts_longer words,
      list_longer (map string words),
      list_longer (spawn ∷ number_data n ∷ told ∷ []),
      sum_by-cons room_in_list spawn (number_data n ∷ told ∷ []),
      sum_by-cons room_in_list (number_data n) (told ∷ []),
      sum_by-cons room_in_list told [],
    )

actions_longer : (actions : List Action) → sizes_of 3 (flat_map words_told actions) ≤ sum_by room_in_list (map action_data actions)
actions_longer [] = omega arith
actions_longer (a ∷ actions) =
    omega (
      arith,
      actions_longer actions,
      action_longer a,
      sum_by-append (size_of 3) (words_told a) (flat_map words_told actions),
      sum_by-cons room_in_list (action_data a) (map action_data actions),
    )

valued_longer : (value : Data) → length (compact_text value) ≤ length (compact_text (valued value))
valued_longer value =
    let last = compact_text value ++ 125 ∷ [] in
    let second = 44 ∷ (quoted (codes "value") ++ 58 ∷ last) in
    omega (
      arith,
      length-append (quoted (codes "ok")) (58 ∷ (compact_text (boolean true) ++ second)),
      length-append (compact_text (boolean true)) second,
      length-append (quoted (codes "value")) (58 ∷ last),
      length-append (compact_text value) (125 ∷ []),
    )

told_longer : (actions : List Action) → sizes_of 3 (flat_map words_told actions) ≤ length (compact_text (reply_data (Told actions)))
told_longer actions = omega (arith, actions_longer actions, list_longer (map action_data actions), valued_longer (list_data action_data actions))

-- ---- texts that don't fit

each_fits : (beside most : ℕ) (texts : List (List ℕ)) → sizes_of beside texts ≤ most → list_all (λ text. nat_le (size_of beside text) most) texts ≡ true
each_fits beside most [] low = refl
each_fits beside most (t ∷ texts) low =
    let here : nat_le (size_of beside t) most ≡ true = (let cons = sum_by-cons (size_of beside) t texts in grind (arith, nat_tests)) in
    ap (λ b. b && list_all (λ text. nat_le (size_of beside text) most) texts) here ∙ each_fits beside most texts (omega (arith, sum_by-cons (size_of beside) t texts))

-- texts that don't fit, where each may take the whole room, are longer than it
past_room : (room : Room) (texts : List (List ℕ)) → room.longest ≡ room.total → left room texts ≡ None → room.total < sizes_of room.beside texts
past_room room texts same none = elim (cases_lt room.total (sizes_of room.beside texts)) [
  | inl high ↦ high
  | inr low ↦
      let each = each_fits room.beside room.longest texts (omega (arith, same, low)) in
      let all : nat_le (sizes_of room.beside texts) room.total ≡ true = grind (arith, nat_tests) in
      absurd (none-some (record room { total = room.total - sizes_of room.beside texts })
      (sym none ∙ ap (λ b. cond (b && nat_le (sizes_of room.beside texts) room.total) (Some (record room { total = room.total - sizes_of room.beside texts })) None) each
      ∙ ap (λ b. cond b (Some (record room { total = room.total - sizes_of room.beside texts })) None) all))
]

-- a reply with these actions isn't whole if their words don't fit
pub not_whole : (room : Room) (actions : List Action) → room.total ≡ 2 ^ 24 → room.longest ≡ room.total → room.beside ≡ 3 → left room (flat_map words_told actions) ≡ None
    → is_told_whole (Told actions) ≡ false
unfolding is_told_whole
not_whole room actions size same three none =
    let past = past_room room (flat_map words_told actions) same none in
    let long : 2 ^ 24 < length (compact_text (reply_data (Told actions))) = omega (arith, size, told_longer actions, past, ap (λ k. sizes_of k (flat_map words_told actions)) three) in
    grind (arith, nat_tests)
