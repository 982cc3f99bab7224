use Rattle.std.proofs.Common.{arith, rules, get_or, ◌≡◌, ◌∙◌, string_bytes}
use Rattle.um_runner.proofs.Entries.{sets_next}
use Rattle.um_runner.proofs.job.set_entries.Goals as goal

pub loop-entry-preserved : goal.loop-entry-preserved
loop-entry-preserved c =
    let here : get_or c.args.entries.now c.loop-entry.entry-index c.entry-item.result ≡ c.entry-item.result = search (rules, c.entry-item.is) in
    let sets = c.in_ok-set_entry.ensures in
    record {
      sets = sets_next string_bytes c.args.entries.now c.loop-entry.entry-index c.entry-item.result c.as_str.result.now c.loop-entry.command c.set_entry.new.command
          (omega (arith, c.loop-entry-test.true)) here c.as_str.ensures.value c.loop-entry.invariant.sets sets.sets;
      call = (sets.call.0 ∙ c.loop-entry.invariant.call.0, sets.call.1 ∙ c.loop-entry.invariant.call.1);
      inherits = sets.inherits ∙ c.loop-entry.invariant.inherits;
    }
