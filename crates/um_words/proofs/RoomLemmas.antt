-- Rooms, one text after another.
use Rattle.std.proofs.Common.{◌≡◌, ◌≤◌, ℕ, ◌+◌, ◌-◌, Bool, true, false, ◌&&◌, cond, List, [], ◌++◌, Option, Some, None, refl, sym, ap, ◌∙◌, inl, inr, arith}
use Rattle.std.specs.Prelude.{nat_le}
use Rattle.std.specs.List.{list_all}
use Rattle.std.proofs.lemmas.Bool.{cases_Bool}
use Rattle.std.proofs.lemmas.Bool.Decides.{nat_tests}
use Rattle.std.proofs.lemmas.List.Folds.{list_all-append}
use Rattle.std.proofs.lemmas.List.Sums.{sum_by-append}
use Rattle.std.proofs.lemmas.Option.{none-some, same_Some}
use Rattle.um_words.specs.Rooms.{size_of, sizes_of, left}
use Rattle.um_words.specs.declared.room.Room.{Room}

-- the room that texts of `size` bytes leave, if each of them is allowed
abbrev left_by : Room → Bool → ℕ → Option Room
left_by room each size = cond (each && nat_le size room.total) (Some (record room { total = room.total - size })) None

abbrev each_fits : Room → List (List ℕ) → Bool
each_fits room texts = list_all (λ text. nat_le (size_of room.beside text) room.longest) texts

le_rest : (m n t : ℕ) → m ≤ t → nat_le (m + n) t ≡ nat_le n (t - m)
le_rest m n t within = elim (cases_Bool (nat_le n (t - m))) [
  | inl low ↦ (let e : nat_le (m + n) t ≡ true = grind (arith, nat_tests) in e ∙ sym low)
  | inr high ↦ (let e : nat_le (m + n) t ≡ false = grind (arith, nat_tests) in e ∙ sym high)
]

both_within : (room : Room) (b : Bool) (m n : ℕ) → m ≤ room.total → left_by room b (m + n) ≡ left_by (record room { total = room.total - m }) b n
both_within room false m n within = refl
both_within room true m n within =
    let less : room.total - (m + n) ≡ room.total - m - n = omega arith in
    ap (λ t. cond t (Some (record room { total = room.total - (m + n) })) None) (le_rest m n room.total within)
    ∙ ap (λ k. cond (nat_le n (room.total - m)) (Some (record room { total = k })) None) less

joined : (room r : Room) (a b : Bool) (m n : ℕ) → left_by room a m ≡ Some r → left_by room (a && b) (m + n) ≡ left_by r b n
joined room r false b m n e = absurd (none-some r e)
joined room r true b m n e = elim (cases_Bool (nat_le m room.total)) [
  | inl low ↦
      let is : record room { total = room.total - m } ≡ r = same_Some _ r (sym (ap (λ t. cond t (Some (record room { total = room.total - m })) None) low) ∙ e) in
      both_within room b m n (grind (arith, nat_tests)) ∙ ap (λ x. left_by x b n) is
  | inr high ↦ absurd (none-some r (sym (ap (λ t. cond t (Some (record room { total = room.total - m })) None) high) ∙ e))
]

past : (room : Room) (b : Bool) (n : ℕ) → nat_le n room.total ≡ false → left_by room b n ≡ None
past room false n e = refl
past room true n e = ap (λ t. cond t (Some (record room { total = room.total - n })) None) e

stopped : (room : Room) (a b : Bool) (m n : ℕ) → left_by room a m ≡ None → left_by room (a && b) (m + n) ≡ None
stopped room false b m n e = refl
stopped room true b m n e = elim (cases_Bool (nat_le m room.total)) [
  | inl low ↦ absurd (none-some (record room { total = room.total - m }) (sym e ∙ ap (λ t. cond t (Some (record room { total = room.total - m })) None) low))
  | inr high ↦ past room b (m + n) (grind (arith, nat_tests))
]

parted : (room : Room) (xs ys : List (List ℕ)) → left room (xs ++ ys) ≡ left_by room (each_fits room xs && each_fits room ys) (sizes_of room.beside xs + sizes_of room.beside ys)
parted room xs ys =
    ap (λ b. left_by room b (sizes_of room.beside (xs ++ ys))) (list_all-append (λ text. nat_le (size_of room.beside text) room.longest) xs ys)
    ∙ ap (left_by room (each_fits room xs && each_fits room ys)) (sum_by-append (size_of room.beside) xs ys)

keeps_limits : (room r : Room) (a : Bool) (m : ℕ) → left_by room a m ≡ Some r → (r.longest ≡ room.longest) × (r.beside ≡ room.beside)
keeps_limits room r false m e = absurd (none-some r e)
keeps_limits room r true m e = elim (cases_Bool (nat_le m room.total)) [
  | inl low ↦
      let is : record room { total = room.total - m } ≡ r = same_Some _ r (sym (ap (λ t. cond t (Some (record room { total = room.total - m })) None) low) ∙ e) in
      (sym (ap (λ x. x.longest) is), sym (ap (λ x. x.beside) is))
  | inr high ↦ absurd (none-some r (sym (ap (λ t. cond t (Some (record room { total = room.total - m })) None) high) ∙ e))
]

-- after texts that fit, the others have the room that is left
pub left_front : (room r : Room) (xs ys : List (List ℕ)) → left room xs ≡ Some r → left room (xs ++ ys) ≡ left r ys
left_front room r xs ys e =
    let same = keeps_limits room r (each_fits room xs) (sizes_of room.beside xs) e in
    parted room xs ys
    ∙ joined room r (each_fits room xs) (each_fits room ys) (sizes_of room.beside xs) (sizes_of room.beside ys) e
    ∙ ap (λ l. left_by r (list_all (λ text. nat_le (size_of room.beside text) l) ys) (sizes_of room.beside ys)) (sym same.0)
    ∙ ap (λ k. left_by r (list_all (λ text. nat_le (size_of k text) r.longest) ys) (sizes_of k ys)) (sym same.1)

-- after texts that don't fit, no others fit
pub left_none : (room : Room) (xs ys : List (List ℕ)) → left room xs ≡ None → left room (xs ++ ys) ≡ None
left_none room xs ys e = parted room xs ys ∙ stopped room (each_fits room xs) (each_fits room ys) (sizes_of room.beside xs) (sizes_of room.beside ys) e

-- no texts leave the room as it is
pub left_nothing : (room : Room) → left room [] ≡ Some room
left_nothing room =
    let low : nat_le 0 room.total ≡ true = grind (arith, nat_tests) in
    let zero : room.total - 0 ≡ room.total = omega arith in
    ap (λ b. cond b (Some (record room { total = room.total - 0 })) None) low ∙ ap (λ k. Some (record room { total = k })) zero

-- the others have the room that the first ones leave
pub left_more : (free r : Room) (xs ys all : List (List ℕ)) (whole : Option Room) → all ≡ xs ++ ys → left free xs ≡ Some r → left free all ≡ whole → left r ys ≡ whole
left_more free r xs ys all whole e fit told = sym (left_front free r xs ys fit) ∙ ap (left free) (sym e) ∙ told

-- if the first ones don't fit, all together don't
pub left_no_more : (free : Room) (xs ys all : List (List ℕ)) (whole : Option Room) → all ≡ xs ++ ys → left free xs ≡ None → left free all ≡ whole → None ≡ whole
left_no_more free xs ys all whole e past told = sym (left_none free xs ys past) ∙ ap (left free) (sym e) ∙ told
