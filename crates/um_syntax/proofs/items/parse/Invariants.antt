use Rattle.std.proofs.Common.{◌≡◌, ◌++◌, false, map, drop}
use Rattle.std.specs.Prelude.{All}
use Rattle.um_model.specs.FileForms.{items_in}
use Rattle.um_syntax.specs.Joining.{line_of}
use Rattle.um_syntax.specs.Items.{item_of, SpanIsIn, BorrowsIfWhole}
use Rattle.um_syntax.proofs.items.parse.Given as goal

abbrev pub invariant-loop-line : goal.invariant-loop-line
invariant-loop-line l = record {
  read : map item_of l.items.items ++ items_in l.begun (map line_of (drop l.line-index l.line-items)) ≡ items_in false (map line_of l.line-items);
  spans : All (SpanIsIn l.source) l.items.items;
  borrowed : All BorrowsIfWhole l.items.items;
}
