use Rattle.std.proofs.Common.{ap, map as each, string_bytes}
use Rattle.um_install.proofs.StepLaws.{three_kinds}
use Rattle.um_install.proofs.links.push_links_to.Goals as goal

pub returns : goal.returns
returns c =
    three_kinds _ _ _ _ _ _ _ _ _ _ _ _ _ (ap (each string_bytes) c.as_slice.ensures.value) (ap (each string_bytes) c.as_slice-2.ensures.value)
    (ap (each string_bytes) c.as_slice-3.ensures.value) c.in_ok-push_links.ensures c.in_ok-push_links-2.ensures c.in_ok-push_links-3.ensures
