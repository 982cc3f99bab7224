use Rattle.std.proofs.Common.{◌≡◌, true, length, take}
use Rattle.std.specs.List.{list_any, list_all}
use Rattle.um_model.specs.Values.{exit_of, is_end}
use Rattle.um_model.specs.declared.service.End.{End}
use Rattle.um_model.specs.ValueSpellings.{is_exit}
use Rattle.um_value.specs.ExitSet.{holds}
use Rattle.um_value.proofs.exits.exit_set.Given as goal
use Rattle.um_model.specs.FileForms.{words_in}

-- the set holds the ends that the words so far name
abbrev pub invariant-loop-word : goal.invariant-loop-word
invariant-loop-word l = record {
  can : (goal.iterator-loop-word).can_next l.word-iterator;
  finite : (goal.iterator-loop-word).is_finite l.word-iterator;
  readable : list_all is_exit (take (length l.yielded) (words_in l.fn.text)) ≡ true;
  exact : (end : End) → holds l.set end ≡ list_any (λ word. is_end end (exit_of word)) (take (length l.yielded) (words_in l.fn.text));
}
