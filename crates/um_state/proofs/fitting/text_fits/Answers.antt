use Rattle.std.proofs.lemmas.Str.{is_utf8-from_IsUtf8}
use Rattle.um_state.proofs.fitting.text_fits.Goals as goal

pub returns : goal.returns
returns c short = (short, is_utf8-from_IsUtf8 c.args.text.now c.utf8.text)
