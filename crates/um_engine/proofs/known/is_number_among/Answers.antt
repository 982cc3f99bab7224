use Rattle.std.proofs.Common.{◌∙◌, Contains, subst}
use Rattle.std.proofs.lemmas.Option.{same_Some}
use Rattle.um_engine.proofs.known.is_number_among.Goals as goal

pub returns-in-Some : goal.returns-in-Some
returns-in-Some c = λ yes unit number. subst (Contains c.args.names.now) (same_Some c.in-Some.unit.now unit (c.in-Some.ensures ∙ number)) (c.is_among.ensures yes)
