use Rattle.std.specs.Str.{chars}
use Rattle.um_ctl.proofs.ShownLaws.{plain_chars, same_text}
use Rattle.um_ctl.proofs.TerminalLaws.{plain_on_terminal, same_on_terminal}
use Rattle.um_ctl.proofs.laws.what_is_shown_has_no_control_character.Goals as goal

pub returns : goal.returns
returns c = record {
  plain = λ text. plain_chars (chars text);
  same = same_text;
  terminal = λ text. plain_on_terminal (chars text);
  untouched = same_on_terminal;
}
