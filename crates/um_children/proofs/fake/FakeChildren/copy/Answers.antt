use Rattle.std.proofs.Common.{rules, ◌≡◌, subst, sym}
use Rattle.um_children.specs.History.{IsFinal}
use Rattle.um_children.specs.Calls.{calls_of}
use Rattle.um_children.proofs.fake.FakeChildren.copy.Goals as goal

pub invariant_of-result : goal.invariant_of-result
invariant_of-result c =
    let same : calls_of c.in_ok-copied.field-0.items ≡ calls_of c.args.self.now.calls.items = search rules in
    record { kept = subst IsFinal (sym same) c.args.self.now.kept }
