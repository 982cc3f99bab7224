use Rattle.std.proofs.Common.{rules, ◌≡◌, sym, subst, map, string_bytes}
use Rattle.um_runner.specs.Handed.{entries_in}
use Rattle.um_runner.proofs.EntryTexts.{all_onto, read_end, read_more, read_none}
use Rattle.um_runner.proofs.handed.read_entries.Goals as goal

pub returns-then-has_none : goal.returns-then-has_none
returns-then-has_none c =
    read_end (map string_bytes c.parts.entries.items) c.args.text.now c.parts.rest.now c.in-Some.entry.now c.in-Some.others.now c.parts.invariant.1 c.in-Some.ensures
    (search rules)

pub parts-preserved : goal.parts-preserved
parts-preserved c = (
  search rules,
  subst (λ entries. all_onto entries (entries_in c.in-Some.others.now) ≡ entries_in c.args.text.now) (sym c.in_ok-push_entry.ensures)
      (read_more (map string_bytes c.parts.entries.items) c.args.text.now c.parts.rest.now c.in-Some.entry.now c.in-Some.others.now c.parts.invariant.1 c.in-Some.ensures (search rules)),
)

pub returns : goal.returns
returns c = read_none (map string_bytes c.parts.entries.items) c.args.text.now c.parts.rest.now c.parts.invariant.1 (search rules)
