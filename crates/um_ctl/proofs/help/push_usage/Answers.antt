use Rattle.std.proofs.Common.{◌++◌, string_bytes, codes, ap, ◌∙◌}
use Rattle.um_ctl.specs.Help.{arguments_shown, words_where}
use Rattle.um_ctl.proofs.Usages.{five_pieces}
use Rattle.um_ctl.proofs.help.push_usage.Goals as goal

pub returns : goal.returns
returns c =
    five_pieces (string_bytes c.args.text.now) _ _ _ _ _ (string_bytes c.push_str.new.self) (string_bytes c.push_where.new.text)
    (string_bytes c.push_arguments.new.text) (string_bytes c.push_arguments-2.new.text) (string_bytes c.push_where-2.new.text)
    (c.in_ok-push_str.ensures.bytes ∙ ap (λ text. string_bytes c.args.text.now ++ text) c.row_of-row.ensures.text)
    (c.in_ok-push_where.ensures ∙ ap (λ holds. string_bytes c.push_str.new.self ++ words_where holds (codes " [--mode <MODE>]")) c.takes_mode.ensures)
    (c.in_ok-push_arguments.ensures ∙ ap (λ names. string_bytes c.push_where.new.text ++ arguments_shown (codes " <") (codes ">") names) c.row_of-row.ensures.required)
    (c.in_ok-push_arguments-2.ensures ∙ ap (λ names. string_bytes c.push_arguments.new.text ++ arguments_shown (codes " [") (codes "]") names) c.row_of-row.ensures.optional)
    (c.in_ok-push_where-2.ensures ∙ ap (λ holds. string_bytes c.push_arguments-2.new.text ++ words_where holds (codes " < FILE")) c.takes_text.ensures)
