use Rattle.std.proofs.Common.{rules, ◌∷◌, ◌++◌, List, ℕ, ◌-◌, length, take, drop, map, option_map, Some, None, append-nil, subst, sym, ap, ◌∙◌}
use Rattle.std.specs.Prelude.{string_bytes}
use Rattle.std.specs.Str.{IsUtf8}
use Rattle.std.specs.List.{slice_get}
use Rattle.std.proofs.lemmas.Iterator.Adapters.{option_map_id}
use Rattle.um_model.specs.Pieces.{reading}
use Rattle.um_model.specs.Words.{Word, piece_of_words}
use Rattle.um_model.proofs.WordsLaws.{space_ascii, space_read, word_read, none_read}
use Rattle.um_words.specs.Views.{word_of}
use Rattle.um_words.proofs.WordLemmas.{boundary_one, head_is, nil_is, pushed_more, seen_is}
use Rattle.um_words.proofs.splitting.spelled.Goals as goal

pub loop-first-init : goal.loop-first-init
loop-first-init c = record { utf8 = search rules; told = rw c.new-words.ensures.items (option_map_id (reading (piece_of_words c.args.rules) c.args.text.now)) }

pub range_from-rest-requires : goal.range_from-rest-requires
range_from-rest-requires c = λ _.
    let rest = c.loop-first.rest.now in
    let head = head_is rest c.in-Some.first.now (c.in-Some.ensures.value ∙ ap (λ t. slice_get t 0) c.as_bytes.ensures.value) in
    boundary_one rest (drop 1 rest) c.in-Some.first.now (subst IsUtf8 c.as_bytes.ensures.value c.as_bytes.ensures.utf8) head (space_ascii c.in-Some.first.now (sym c.is_space.ensures ∙ c.if-is_space.true))

pub loop-first-preserved-then-is_space : goal.loop-first-preserved-then-is_space
loop-first-preserved-then-is_space c =
    let rest = c.loop-first.rest.now in
    let first = c.in-Some.first.now in
    let after = c.range_from-rest.result.now in
    let head = head_is rest first (c.in-Some.ensures.value ∙ ap (λ t. slice_get t 0) c.as_bytes.ensures.value) ∙ ap (λ t. first ∷ t) (sym c.range_from-rest.ensures.value) in
    let same = ap (reading (piece_of_words c.args.rules)) head ∙ space_read c.args.rules first after (sym c.is_space.ensures ∙ c.if-is_space.true) in
    record {
      utf8 = search rules;
      told = ap (option_map (λ more. map word_of c.loop-first.words.items ++ more)) (sym same) ∙ c.loop-first.invariant.told;
    }

pub returns-in_default-2 : goal.returns-in_default-2
returns-in_default-2 c =
    let rest = c.loop-first.rest.now in
    let head = head_is rest c.in-Some.first.now (c.in-Some.ensures.value ∙ ap (λ t. slice_get t 0) c.as_bytes.ensures.value) in
    let nothing = seen_is c.in_ok-value.field-0 None _ c.in_default-2.is c.in_ok-value.ensures.read in
    let none = none_read c.args.rules rest (drop 1 rest) c.in-Some.first.now head (sym c.is_space.ensures ∙ c.if-is_space.false) (sym nothing) in
    ap (option_map (λ more. map word_of c.loop-first.words.items ++ more)) (sym none) ∙ c.loop-first.invariant.told

pub returns : goal.returns
returns c =
    let rest_is = nil_is c.loop-first.rest.now (c.in_default.ensures.value ∙ ap (λ t. slice_get t 0) c.as_bytes.ensures.value) in
    let words = map word_of c.loop-first.words.items in
    ap Some (sym (append-nil words)) ∙ ap (λ t. option_map (λ more. words ++ more) (reading (piece_of_words c.args.rules) t)) (sym rest_is) ∙ c.loop-first.invariant.told

pub loop-first-preserved : goal.loop-first-preserved
loop-first-preserved c =
    let rest = c.loop-first.rest.now in
    let first = c.in-Some.first.now in
    let after = c.in-Some-2.after.now in
    let next = string_bytes c.in-Some-2.value in
    let head = head_is rest first (c.in-Some.ensures.value ∙ ap (λ t. slice_get t 0) c.as_bytes.ensures.value) in
    let taken : List ℕ → Word = λ bytes. record { spelling = take (length rest - length after) bytes; value = next } in
    let found = seen_is c.in_ok-value.field-0 (Some (c.in-Some-2.value, c.in-Some-2.after)) _ c.in-Some-2.is c.in_ok-value.ensures.read in
    let same = word_read c.args.rules rest after (drop 1 rest) first next head (sym c.is_space.ensures ∙ c.if-is_space.false) (sym found) in
    record {
      utf8 = search rules;
      told = pushed_more c.loop-first.words.items c.push.new.self.items _ (taken rest) (reading (piece_of_words c.args.rules) after) c.in_ok-push.ensures.items (ap taken c.as_bytes-in-Some.ensures.value)
          ∙ ap (option_map (λ more. map word_of c.loop-first.words.items ++ more)) (sym same) ∙ c.loop-first.invariant.told;
    }
