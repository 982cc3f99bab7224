use Rattle.std.proofs.Common.{is_ok}
use Rattle.um_children.proofs.Finals.{kept_if}
use Rattle.um_children.proofs.fake.note.Goals as goal

pub returns-clause-kept : goal.returns-clause-kept
returns-clause-kept c = kept_if (is_ok c.push.result) c.args.call c.args.calls.now.items c.push.new.self.items c.push.ensures.items c.requires.kept c.requires.fits
