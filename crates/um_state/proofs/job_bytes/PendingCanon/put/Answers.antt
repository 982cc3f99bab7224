use Rattle.std.proofs.Common.{◌++◌, ap, subst, ◌∙◌}
use Rattle.um_model.specs.Bytes.{FitList, list_spelling}
use Rattle.um_model.specs.StateSpellings.{job_spelling}
use Rattle.um_model.proofs.Forms.{FitJob}
use Rattle.um_state.proofs.Results.{on_ok_more}
use Rattle.um_state.proofs.job_bytes.PendingCanon.put.Goals as goal

pub returns-clause-put : goal.returns-clause-put
returns-clause-put c = on_ok_more c.put.result (λ put. put ∙ ap (λ jobs. c.args.out.now.items ++ list_spelling job_spelling jobs) c.in_ok-jobs.ensures) c.put.ensures.put

pub returns-clause-fits : goal.returns-clause-fits
returns-clause-fits c = on_ok_more c.put.result (λ fit. record { jobs = subst (FitList FitJob) c.in_ok-jobs.ensures fit; tidy = c.numbers.ensures.tidy }) c.put.ensures.fits
