use Rattle.std.proofs.Common.{None, rules, sym}
use Rattle.um_model.specs.Values.{span_of}
use Rattle.um_model.proofs.FindsLaws.{told_by_relation}
use Rattle.um_model.proofs.ValuesLaws.{span_of-IsSpan, finds_span}
use Rattle.um_model.specs.ValueSpellings.{IsSpan}
use Rattle.um_value.specs.Spans.{micros_in}
use Rattle.um_value.proofs.SpanLemmas.{none_said}
use Rattle.um_value.proofs.spans.span.Goals as goal

pub returns-then-eq : goal.returns-then-eq
returns-then-eq c = sym (span_of-IsSpan c.args.text.now None (search rules))

pub returns : goal.returns
returns c =
    let text = c.args.text.now in
    told_by_relation (span_of text) (IsSpan text) (finds_span text) micros_in c.map.result (search rules) (none_said text c.map.result (search rules) (search rules))
