use Rattle.um_model.proofs.ValuesLaws.{finds_boolean, finds_number, finds_time, finds_span, finds_exits, finds_policy}
use Rattle.um_value.proofs.laws.each_value_is_found.Goals as goal

pub returns-clause-boolean : goal.returns-clause-boolean
returns-clause-boolean c = finds_boolean

pub returns-clause-number : goal.returns-clause-number
returns-clause-number c = finds_number

pub returns-clause-span : goal.returns-clause-span
returns-clause-span c = finds_span

pub returns-clause-time : goal.returns-clause-time
returns-clause-time c = finds_time

pub returns-clause-exits : goal.returns-clause-exits
returns-clause-exits c = finds_exits

pub returns-clause-restart : goal.returns-clause-restart
returns-clause-restart c = finds_policy
