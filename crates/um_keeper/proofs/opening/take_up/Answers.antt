use Rattle.std.proofs.Common.{IsTrue, ◌≡◌, ◌↔◌, ◌∙◌, ◌+◌, ◌≤◌, ⊎_elim, inl, inr, ℕ, List, Ok, refl, sym, ap, subst}
use Rattle.std.specs.Prelude.{IfSome}
use Rattle.um_engine.specs.Engine.{state_in, size_in}
use Rattle.um_model.specs.Disk.{Past, Image, seen}
use Rattle.um_model.specs.Store as sectors
use Rattle.um_wire.specs.declared.refusal.Refusal.TheVariants.{Damaged}
use Rattle.um_model.specs.declared.layout.Format.{Format}
use Rattle.um_model.specs.declared.layout.Layout.{Layout}
use Rattle.um_keeper.specs.Opening.{HasLayout, all_placed, IsStart, Replays, IsNoInput, IsUnread, IsLast, AreRead, no_state, no_input}
use Rattle.um_keeper.proofs.Results.{err_same, or_more}
use Rattle.um_keeper.proofs.Telling.{damaged_told}
use Rattle.um_slot.specs.Reading.{IsDamaged}
use Rattle.um_keeper.proofs.Reopening.{newest_there, header_unread}
use Rattle.um_keeper.proofs.opening.take_up.Goals as goal

-- the sector 0 that names them
abbrev has_layout : (count : ℕ) (image : Image) (format : Format) (layout : Layout) → image 0 ≡ sectors.superblock format layout → sectors.store_sectors layout ≤ count → HasLayout count image layout
has_layout count image format layout first room = record { format = format; first = first; room = room }

pub returns-in_err-format-clause-err : goal.returns-in_err-format-clause-err
returns-in_err-format-clause-err g c =
    err_same _ c.from_residual.result c.in_err-format.field-0.0 c.from_residual.ensures.1
    (⊎_elim (λ device. inl (inr device)) (λ fails. inr fails) c.in_err-format.ensures.err)

pub returns-in_err-snapshot-clause-err : goal.returns-in_err-snapshot-clause-err
returns-in_err-snapshot-clause-err g c =
    err_same _ c.from_residual-in_err-snapshot.result c.in_err-snapshot.field-0.0 c.from_residual-in_err-snapshot.ensures.1
    (⊎_elim (λ lost. inl lost)
    (λ damaged. inr (λ h. header_unread (g.D.Disk.size c.args.disk.now) (g.D.Disk.past c.args.disk.now) (g.D.Disk.past c.read_layout.new.disk) c.in_ok-format.layout c.in_err-snapshot.field-0.0
    (has_layout (g.D.Disk.size c.args.disk.now) (seen (g.D.Disk.past c.args.disk.now)) c.in_ok-format.format c.in_ok-format.layout (c.in_ok-format.ensures.ok h) c.in_ok-format.ensures.room) (c.read_layout.ensures.past h) damaged.0 (damaged.1 (c.read_layout.ensures.honest ∙ h))))
    c.in_err-snapshot.ensures.err)

pub returns-in_default-clause-err : goal.returns-in_default-clause-err
returns-in_default-clause-err g c = inr (λ h.
    let layout = c.in_ok-format.layout in
    let home = c.in_ok-snapshot.snapshot.home in
    let image = seen (g.D.Disk.past c.args.disk.now) in
    let count = g.D.Disk.size c.args.disk.now in
    let newest = c.in_ok-snapshot.ensures.ok (c.read_layout.ensures.honest ∙ h) in
    subst (λ (n : ℕ). IsUnread count image (Damaged (n + 1))) (sym c.slot_start.ensures)
    (no_state (has_layout (g.D.Disk.size c.args.disk.now) (seen (g.D.Disk.past c.args.disk.now)) c.in_ok-format.format c.in_ok-format.layout (c.in_ok-format.ensures.ok h) c.in_ok-format.ensures.room)
    (newest_there (g.D.Disk.past c.args.disk.now) (g.D.Disk.past c.read_layout.new.disk) layout home.slot home.generation c.in_ok-snapshot.snapshot.body.items (c.read_layout.ensures.past h) newest)
    (λ s starts. c.start_of.ensures.none (c.in_ok-engine.was ∙ ap Ok c.in_default.is) s (subst (λ (b : List ℕ). IsStart layout b s) (sym c.deref.ensures.value) starts))))

pub returns-clause-err : goal.returns-clause-err
returns-clause-err g c =
    or_more (λ fails h.
    let format = c.in_ok-format.format in
    let layout = c.in_ok-format.layout in
    let home = c.in_ok-snapshot.snapshot.home in
    let p0 = g.D.Disk.past c.args.disk.now in
    let h1 = c.read_layout.ensures.honest ∙ h in
    let h2 = c.newest.ensures.honest ∙ h1 in
    let newest = c.in_ok-snapshot.ensures.ok h1 in
    let starts = subst (λ o. IfSome o (λ e. IsStart layout c.deref.result.now (state_in e))) c.in-Some.is c.in_ok-engine.ensures.start in
    no_input (has_layout (g.D.Disk.size c.args.disk.now) (seen (g.D.Disk.past c.args.disk.now)) c.in_ok-format.format c.in_ok-format.layout (c.in_ok-format.ensures.ok h) c.in_ok-format.ensures.room)
    (newest_there p0 (g.D.Disk.past c.read_layout.new.disk) layout home.slot home.generation c.in_ok-snapshot.snapshot.body.items (c.read_layout.ensures.past h) newest)
    (subst (λ (b : List ℕ). IsStart layout b (state_in c.in-Some.engine)) c.deref.ensures.value starts)
    (subst (λ (p : Past). IsNoInput (all_placed format layout home.generation (seen p)) c.in-Err.refusal) (c.newest.ensures.past h1 ∙ c.read_layout.ensures.past h) (fails h2)))
    c.in-Err.ensures.err

pub returns-in-Ok-clause-found : goal.returns-in-Ok-clause-found
returns-in-Ok-clause-found g c h =
    let format = c.in_ok-format.format in
    let layout = c.in_ok-format.layout in
    let home = c.in_ok-snapshot.snapshot.home in
    let p0 = g.D.Disk.past c.args.disk.now in
    let h1 = c.read_layout.ensures.honest ∙ h in
    let h2 = c.newest.ensures.honest ∙ h1 in
    let same = c.newest.ensures.past h1 ∙ c.read_layout.ensures.past h in
    let engine = c.in-Some.engine in
    let starts = subst (λ o. IfSome o (λ e. IsStart layout c.deref.result.now (state_in e))) c.in-Some.is c.in_ok-engine.ensures.start in
    let size = subst (λ o. IfSome o (λ e. size_in e ≡ sectors.body_limit layout)) c.in-Some.is c.in_ok-engine.ensures.sized in
    record {
      taken = record {
        has = has_layout (g.D.Disk.size c.args.disk.now) (seen p0) format layout (c.in_ok-format.ensures.ok h) c.in_ok-format.ensures.room;
        body = c.in_ok-snapshot.snapshot.body.items;
        newest = subst (λ (p : Past). sectors.IsNewest layout (seen p) home.slot home.generation c.in_ok-snapshot.snapshot.body.items) (c.read_layout.ensures.past h) (c.in_ok-snapshot.ensures.ok h1);
        start = state_in engine;
        starts = subst (λ (b : List ℕ). IsStart layout b (state_in engine)) c.deref.ensures.value starts;
        replays = subst (λ (n : ℕ). Replays n (sectors.all_records format layout home.generation (seen p0)) (state_in engine) (state_in c.read_records.new.engine)) size
            (subst (λ (p : Past). Replays (size_in engine) (sectors.all_records format layout home.generation (seen p)) (state_in engine) (state_in c.read_records.new.engine)) same (c.in-Ok.ensures.ok h2));
      };
      format_is = refl;
      greatest_is = subst (λ (p : Past). IsLast layout (seen p) (sectors.top format home.generation) c.in-Ok.greatest) same (c.in-Ok.ensures.greatest h2);
    }

pub returns-in-Ok-clause-read : goal.returns-in-Ok-clause-read
returns-in-Ok-clause-read g c h =
    let format = c.in_ok-format.format in
    let layout = c.in_ok-format.layout in
    let snapshot = c.in_ok-snapshot.snapshot in
    let home = snapshot.home in
    let read = c.in-Ok.read in
    let p0 = g.D.Disk.past c.args.disk.now in
    let h1 = c.read_layout.ensures.honest ∙ h in
    let h2 = c.newest.ensures.honest ∙ h1 in
    let same = c.newest.ensures.past h1 ∙ c.read_layout.ensures.past h in
    let are = subst (λ (p : Past). AreRead format layout home.generation (seen p) read.records read.here read.behind) same (c.in-Ok.ensures.read h2) in
    record {
      format = format;
      first = c.in_ok-format.ensures.ok h;
      newest = record { slot = home.slot; generation = home.generation; body = snapshot.body.items };
      is_newest = newest_there p0 (g.D.Disk.past c.read_layout.new.disk) layout home.slot home.generation snapshot.body.items (c.read_layout.ensures.past h)
          (c.in_ok-snapshot.ensures.ok h1);
      generation_is = refl;
      records_are = are.count;
      cut_off_is = c.cut_off_of.ensures format home.generation (seen p0) are;
      damaged_is = damaged_told format layout home.generation (seen p0) c.later_of.result (c.later_of.ensures format home.generation (seen p0) are) home.slot snapshot.is_other_damaged
          (subst (λ (p : Past). IsTrue snapshot.is_other_damaged ↔ IsDamaged layout (seen p (sectors.slot_start layout (sectors.other home.slot)))) (c.read_layout.ensures.past h)
          (c.in_ok-snapshot.ensures.damaged h1)) c.damaged_of.result c.damaged_of.ensures.some c.damaged_of.ensures.none;
    }
