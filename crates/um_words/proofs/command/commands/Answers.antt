use Rattle.std.proofs.Common.{rules, ◌≡◌, ◌++◌, [], map, option_map, Some, append-nil, sym, ap, ◌∙◌}
use Rattle.std.proofs.lemmas.List.{map-id}
use Rattle.std.proofs.lemmas.Iterator.Adapters.{YieldsList-from_vec}
use Rattle.std.proofs.lemmas.Iterator.Consumers.{YieldsList-end}
use Rattle.um_model.specs.declared.words.WordRules.TheVariants.{Escaped}
use Rattle.um_model.specs.Commands.{commands_read}
use Rattle.um_model.specs.Pieces.{reading}
use Rattle.um_model.specs.Words.{piece_of_words}
use Rattle.um_model.proofs.WordsLaws.{commands_after, commands_are}
use Rattle.um_words.specs.Views.{word_of}
use Rattle.um_words.specs.Commands.{commands_seen}
use Rattle.um_words.proofs.command.commands.Goals as goal
use Rattle.um_model.specs.FileForms.{commands_among}

pub returns-in_default : goal.returns-in_default
unfolding commands_read
returns-in_default c =
    ap (λ r. option_map commands_among (option_map (λ words. map word_of words.items) r)) (sym c.in_default.is) ∙ ap (option_map commands_among) c.in_ok-spelled.ensures

pub returns : goal.returns
unfolding commands_read
returns c =
    let words = map word_of c.in-Some.spelled.items in
    let seen = YieldsList-end (YieldsList-from_vec {s = c.into_iter-word-iterator.result} c.in-Some.spelled.items (search rules) (search rules)) c.loop-word.yielded c.loop-word.word-iterator c.loop-word.yielded_by c.next.result c.next.new.self c.in-None.is c.next.ensures.steps in
    let all : c.loop-word.yielded ≡ c.in-Some.spelled.items = sym (map-id c.loop-word.yielded) ∙ seen.0 in
    let read : Some words ≡ reading (piece_of_words Escaped) c.args.text.now = ap (option_map (λ w. map word_of w.items)) (sym c.in-Some.is) ∙ c.in_ok-spelled.ensures in
    let made : commands_among words ≡ commands_seen c.push_command-2.new.commands.items =
    sym (commands_are words)
    ∙ ap (commands_after []) (sym (append-nil words) ∙ ap (λ w. map word_of w ++ []) (sym all))
    ∙ c.loop-word.invariant []
    ∙ sym c.in_ok-push_command-2.ensures in
    ap Some (sym made) ∙ ap (option_map commands_among) read
