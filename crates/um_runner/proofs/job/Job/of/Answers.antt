use Rattle.std.proofs.Common.{arith, ◌∙◌, sym, ap, map, string_bytes}
use Rattle.std.specs.List.{list_all}
use Rattle.std.proofs.lemmas.List.{take-map, drop-map}
use Rattle.um_runner.specs.Jobs.{is_entry}
use Rattle.um_runner.proofs.Entries.{can_be}
use Rattle.um_runner.proofs.job.Job.of.Goals as goal

pub returns : goal.returns
returns c =
    let cut = c.in_ok-entries.ensures.cases in
    let parts = c.in_ok-program.ensures.cases in
    let all = sym c.are_entries.ensures ∙ c.if-not-are_entries.false in
    record {
      possible = can_be string_bytes c.args.count c.args.words.now (omega (arith, cut.4, parts.1)) (ap (list_all (λ word. is_entry (string_bytes word))) (sym cut.1) ∙ all);
      first = ap (map string_bytes) cut.1 ∙ sym (take-map string_bytes c.args.count c.args.words.now);
      others = ap (map string_bytes) (sym parts.0 ∙ cut.2) ∙ sym (drop-map string_bytes c.args.count c.args.words.now);
    }
