use Rattle.std.proofs.Common.{◌≡◌, ◌≤◌, length, filter, map, take}
use Rattle.um_ctl.specs.Words.{is_argument}
use Rattle.um_ctl.proofs.words.argument_count.Given as goal

-- those so far are counted
abbrev pub invariant-loop-name : goal.invariant-loop-name
invariant-loop-name l = record {
  counted : l.count ≡ length (filter is_argument (map (λ s. s.now) (take l.name-index l.names)));
  few : l.count ≤ l.name-index;
}
