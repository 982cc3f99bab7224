use Rattle.std.proofs.Common.{◌≡◌, ◌++◌, take, map as each, string_bytes}
use Rattle.um_model.specs.Install as model
use Rattle.um_model.specs.Tree.{layer_text}
use Rattle.um_model.specs.declared.tree.Layer.TheVariants.{Etc}
use Rattle.um_install.specs.View.{link_of}
use Rattle.um_install.proofs.links.push_links.Given as goal

-- those that were there, and those for the units so far
abbrev pub invariant-loop-unit : goal.invariant-loop-unit
invariant-loop-unit l =
    each link_of l.links.items
    ≡ each link_of l.initial.links.items
    ++ each (λ unit. model.link_at (layer_text Etc ++ (unit ++ (l.folder ++ l.file))) l.target) (each string_bytes (take l.unit-index l.units))
