use Rattle.um_laws.proofs.LivesLaws.{lives_run, all_kept_of, whole_run_of, has_answered}
use Rattle.um_keeper.proofs.laws.lives.Goals as goal

pub returns : goal.returns
returns c = record {
  state = λ layout first last lives s store led.
      let (kept, t, run, stands) = lives_run layout first last lives s store led in
      (kept, all_kept_of run, t, whole_run_of run, run, stands);
  answered = has_answered;
}
