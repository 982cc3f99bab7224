use Rattle.std.proofs.Common.{◌∙◌, sym}
use Rattle.um_engine.proofs.ExactLaws.{one_goes}
use Rattle.um_engine.proofs.known.Known.lets_go.Goals as goal

pub returns-then-is_extra_at-clause-goes : goal.returns-then-is_extra_at-clause-goes
returns-then-is_extra_at-clause-goes c told none =
    one_goes c.args.self.now c.args.row.now (c.is_extra_at.ensures.within c.if-is_extra_at.true) (λ unit at. (c.is_extra_at.ensures.told unit at).0 c.if-is_extra_at.true)
    (sym c.is_empty.ensures ∙ told) none
