use Rattle.std.proofs.Common.{◌∙◌, ap, sym}
use Rattle.um_state.specs.Finding.{row_at}
use Rattle.um_state.specs.Overlays.{OverlayView, place_at, units_in}
use Rattle.um_state.proofs.OverlayLaws.{row_changed, row_same}
use Rattle.um_state.proofs.overlay.Overlay.at.Goals as goal

pub returns-in-Some : goal.returns-in-Some
returns-in-Some c =
    let s = c.self.inside in
    let here = ap (λ ps. place_at ps c.args.i) (sym c.deref.ensures.value) ∙ c.in-Some.ensures in
    c.unit_in.ensures
    ∙ (ap (λ rows. row_at (units_in rows) c.in-Some.place) c.deref-in-Some.ensures.value
    ∙ (row_changed s.rows.now s.places.items (units_in s.changed.items) c.self.invariant.len c.args.i c.in-Some.place here ∙ ap (λ (v : OverlayView). row_at v.now c.args.i) c.self.view_is))

pub returns-in-None : goal.returns-in-None
returns-in-None c =
    let s = c.self.inside in
    let here = ap (λ ps. place_at ps c.args.i) (sym c.deref.ensures.value) ∙ c.in-None.ensures in
    c.row_in.ensures ∙ (row_same s.rows.now s.places.items (units_in s.changed.items) c.self.invariant.len c.args.i here ∙ ap (λ (v : OverlayView). row_at v.now c.args.i) c.self.view_is)
