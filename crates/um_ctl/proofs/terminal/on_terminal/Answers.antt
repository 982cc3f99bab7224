use Rattle.std.proofs.Common.{◌++◌, flat_map, sym, ap, ◌∙◌, map-id}
use Rattle.std.proofs.lemmas.Iterator.{YieldsList-from_chars}
use Rattle.std.proofs.lemmas.Iterator.Consumers.{YieldsList-end}
use Rattle.std.specs.Str.{encode_utf8_all}
use Rattle.um_ctl.specs.Shown.{terminal_char}
use Rattle.um_ctl.proofs.TerminalLaws.{terminal_more}
use Rattle.um_ctl.proofs.terminal.on_terminal.Goals as goal

pub returns : goal.returns
returns c =
    let end = YieldsList-end (YieldsList-from_chars c.args.text.now c.utf8.text cc) c.loop-c.yielded _ c.loop-c.yielded_by _ _ c.in-None.is c.next.ensures.steps in
    c.loop-c.invariant ∙ ap (λ cs. encode_utf8_all (flat_map terminal_char cs)) (sym (map-id c.loop-c.yielded) ∙ end.0)

pub loop-c-preserved : goal.loop-c-preserved
loop-c-preserved c =
    c.in_ok-push_terminal.ensures ∙ ap (λ bytes. bytes ++ encode_utf8_all (terminal_char c.in-Some.c)) c.loop-c.invariant ∙ sym (terminal_more c.loop-c.yielded c.in-Some.c)
