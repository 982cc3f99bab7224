use Rattle.std.proofs.Common.{◌≡◌, ◌<◌, ◌∙◌, ◌+◌, suc, length, set, vec_len, vec_capacity, refl, ap, sym, arith}
use Rattle.um_state.specs.Overlays.{OverlayView, laid_over, place_at, units_in}
use Rattle.um_state.proofs.OverlayLaws.{are_kept, are_more, has_room, laid_length, set_again, set_first, units_length}
use Rattle.um_state.proofs.overlay.Overlay.set.Goals as goal

pub set_again-requires : goal.set_again-requires
set_again-requires c =
    let here = ap (λ ps. place_at ps c.args.i) (sym c.deref.ensures.value) ∙ c.in-Some.ensures in
    let next : c.in-Some.place + 1 ≡ suc c.in-Some.place = omega arith in
    c.self.invariant.within c.args.i c.in-Some.place (here ∙ next)

pub invariant_of-self : goal.invariant_of-self
invariant_of-self c = are_kept _ _ _ _ _ _ _ c.self.invariant refl c.set_again.ensures.len c.set_again.ensures.room

pub set_first-requires-clause-within : goal.set_first-requires-clause-within
set_first-requires-clause-within c =
    let s = c.self.inside in
    omega (arith, c.requires, c.self.invariant.len, laid_length s.rows.now s.places.items (units_in s.changed.items), ap (λ (v : OverlayView). length v.now) c.self.view_is)

pub set_first-requires-clause-room : goal.set_first-requires-clause-room
set_first-requires-clause-room c =
    let s = c.self.inside in
    let within : c.args.i < length s.rows.now = omega (arith, c.requires, laid_length s.rows.now s.places.items (units_in s.changed.items), ap (λ (v : OverlayView). length v.now) c.self.view_is) in
    let free = ap (λ ps. place_at ps c.args.i) (sym c.deref.ensures.value) ∙ c.in-None.ensures in
    has_room s.rows.now s.places.items (units_in s.changed.items) (vec_len s.changed) (vec_capacity s.changed) c.self.invariant (omega (arith, units_length s.changed.items)) c.args.i c.args.unit within free

pub invariant_of-self-in-None : goal.invariant_of-self-in-None
invariant_of-self-in-None c =
    let s = c.self.inside in
    let within : c.args.i < length s.rows.now = omega (arith, c.requires, laid_length s.rows.now s.places.items (units_in s.changed.items), ap (λ (v : OverlayView). length v.now) c.self.view_is) in
    let free = ap (λ ps. place_at ps c.args.i) (sym c.deref.ensures.value) ∙ c.in-None.ensures in
    are_kept _ _ _ _ _ _ _ (are_more s.rows.now s.places.items (units_in s.changed.items) (vec_len s.changed) (vec_capacity s.changed) c.self.invariant (omega (arith, units_length s.changed.items)) c.args.i c.args.unit within free)
    c.set_first.ensures.places c.set_first.ensures.len c.set_first.ensures.room

pub returns-in-Some-clause-now : goal.returns-in-Some-clause-now
returns-in-Some-clause-now c =
    let s = c.self.inside in
    let within : c.args.i < length s.rows.now = omega (arith, c.requires, laid_length s.rows.now s.places.items (units_in s.changed.items), ap (λ (v : OverlayView). length v.now) c.self.view_is) in
    let here = ap (λ ps. place_at ps c.args.i) (sym c.deref.ensures.value) ∙ c.in-Some.ensures in
    ap (laid_over s.rows.now s.places.items) c.set_again.ensures.items
    ∙ (set_again s.rows.now s.places.items (units_in s.changed.items) (vec_len s.changed) (vec_capacity s.changed) c.self.invariant (omega (arith, units_length s.changed.items)) c.args.i c.args.unit within c.in-Some.place here
    ∙ ap (λ (v : OverlayView). set v.now c.args.i c.args.unit) c.self.view_is)

pub returns-in-None-clause-now : goal.returns-in-None-clause-now
returns-in-None-clause-now c =
    let s = c.self.inside in
    let within : c.args.i < length s.rows.now = omega (arith, c.requires, laid_length s.rows.now s.places.items (units_in s.changed.items), ap (λ (v : OverlayView). length v.now) c.self.view_is) in
    let free = ap (λ ps. place_at ps c.args.i) (sym c.deref.ensures.value) ∙ c.in-None.ensures in
    (λ j. laid_over s.rows.now (c.set_first.ensures.places j) (c.set_first.ensures.changed j))
    ∙ (set_first s.rows.now s.places.items (units_in s.changed.items) (vec_len s.changed) (vec_capacity s.changed) c.self.invariant (omega (arith, units_length s.changed.items)) c.args.i c.args.unit within free
    ∙ ap (λ (v : OverlayView). set v.now c.args.i c.args.unit) c.self.view_is)
