use Rattle.std.proofs.Common.{rules, arith, ◌-◌, length, sym, subst}
use Rattle.std.proofs.lemmas.Grind.{common_steps}
use Rattle.um_syntax.specs.Places.{LiesAt}
use Rattle.um_syntax.proofs.LineLemmas.{lies_in_rest, lies_empty}
use Rattle.um_syntax.proofs.joiner.joined_lines.Goals as goal
use Rattle.um_syntax.proofs.joiner.joined_lines.Goals.{then-is_blank, else-is_blank}

pub loop-rest-preserved : goal.loop-rest-preserved
loop-rest-preserved c =
    let source = c.args.text.now in
    let rest = c.loop-rest.rest.now in
    record {
      utf8 = search rules;
      read = grind (arith, common_steps);
      places = c.in_ok-add_line.ensures.places source
          (elim c.if-is_blank.branch [
            | then-is_blank w ↦ subst (λ x. LiesAt source (length source - length rest) x.now) (sym w.kept-is) (lies_empty source _ (omega arith))
            | else-is_blank w ↦ subst (λ x. LiesAt source (length source - length rest) x.now) (sym w.kept-is)
                (lies_in_rest source rest c.cut_line.result.0.now (omega arith) c.loop-rest.invariant.left c.cut_line.ensures.within c.cut_line.ensures.front)
          ])
          c.loop-rest.invariant.places;
      left = grind (arith, common_steps);
      count = omega arith;
    }
