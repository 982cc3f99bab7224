use Rattle.std.proofs.Common.{◌∙◌, ap, length, sym}
use Rattle.um_state.specs.Overlays.{OverlayView, units_in}
use Rattle.um_state.proofs.OverlayLaws.{laid_length}
use Rattle.um_state.proofs.overlay.Overlay.len.Goals as goal

pub returns : goal.returns
returns c =
    sym (laid_length c.self.inside.rows.now c.self.inside.places.items (units_in c.self.inside.changed.items))
    ∙ ap (λ (v : OverlayView). length v.now) c.self.view_is
