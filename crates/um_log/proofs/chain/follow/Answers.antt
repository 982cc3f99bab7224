use Rattle.std.proofs.Common.{◌∙◌, sym, subst, arith}
use Rattle.std.proofs.lemmas.Bool.{true≢false}
use Rattle.um_log.specs.Following.{ReadsPart}
use Rattle.um_log.proofs.Following.{first_there, goes_there, other_there}
use Rattle.um_log.proofs.chain.follow.Goals as goal

pub returns-then-here-eq0 : goal.returns-then-here-eq0
returns-then-here-eq0 c = λ image from next low is follows.
    first_there c.args.format c.args.least image from next low c.args.sector.now is c.in_ok-here.here
    (subst (ReadsPart c.args.format c.args.least c.args.sector.now) c.in_ok-here.was c.part_in.ensures) (omega (arith, c.if-here-eq0.true))

pub returns-then-goes_on : goal.returns-then-goes_on
returns-then-goes_on c = λ image from next low is follows.
    goes_there c.args.format c.args.least image from next low c.args.sector.now is c.args.before c.in_ok-here.here
    (subst (ReadsPart c.args.format c.args.least c.args.sector.now) c.in_ok-here.was c.part_in.ensures) follows (c.goes_on.ensures.0 c.if-goes_on.true)

pub returns-else-goes_on : goal.returns-else-goes_on
returns-else-goes_on c = λ image from next low is follows.
    other_there c.args.format c.args.least image from next low c.args.sector.now is c.args.before c.in_ok-here.here
    (subst (ReadsPart c.args.format c.args.least c.args.sector.now) c.in_ok-here.was c.part_in.ensures) follows
    (λ first. absurd (omega (arith, first, c.if-here-eq0.false))) (λ next. true≢false (sym (c.goes_on.ensures.1 next) ∙ c.if-goes_on.false))
