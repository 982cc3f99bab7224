use Rattle.std.proofs.Common.{string_bytes, ◌∙◌}
use Rattle.um_install.proofs.Members.{inserted}
use Rattle.um_install.proofs.links.put_target.Goals as goal

pub returns : goal.returns
returns c =
    inserted string_bytes c.args.targets.now c.insert.new.self (string_bytes c.in_ok-path.path) (string_bytes c.args.link.now.path) c.in_ok-target.target
    (string_bytes c.args.link.now.target) (c.in_ok-path.ensures.ok ∙ c.as_str.ensures.value) (c.in_ok-target.ensures.ok ∙ c.as_str-2.ensures.value) c.in_ok-insert.ensures.updates
