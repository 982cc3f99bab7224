use Rattle.um_keeper.proofs.Offered.{answered_come, come_on, come_leaves, all_untold, begun_leaves, each_stays, fell_stays}
use Rattle.um_keeper.proofs.laws.offers_are_parts_of_lives.Goals as goal

pub returns : goal.returns
returns c = record {
  answered = answered_come;
  further = come_on;
  stored = come_leaves;
  untold = all_untold;
  begun = begun_leaves;
  judged = λ size s t inputs answers are. each_stays are;
  fell = λ size s t inputs answers back. fell_stays back;
}
