use Rattle.std.specs.Option.{IfSome, option_map}
use Rattle.std.proofs.Common.{◌≡◌, ◌+◌, ◌<◌, ◌∙◌, ℕ, List, length, inr, refl, sym, ap, subst, Option, Some, None, Ok}
use Rattle.um_engine.specs.Engine.{state_in, size_in}
use Rattle.um_log.specs.Reading.{ReadsNext}
use Rattle.um_log.specs.declared.read.Record.{Record}
use Rattle.um_log.specs.declared.read.Reader.{Reader}
use Rattle.um_model.specs.Bytes.{nothing_left}
use Rattle.um_model.specs.Disk.{Past, seen}
use Rattle.um_model.specs.InputSpellings.{input_at}
use Rattle.um_model.specs.Servable.{IsServable}
use Rattle.um_model.specs.Store.{area_start, placed, part_count, records_of}
use Rattle.um_model.specs.declared.layout.Format.{Format}
use Rattle.um_model.specs.declared.layout.Layout.{Layout}
use Rattle.um_laws.proofs.ServableLaws.{step_servable}
use Rattle.um_state.specs.View.{input_of}
use Rattle.um_wire.specs.declared.refusal.Refusal.TheVariants.{Damaged}
use Rattle.um_keeper.specs.Opening.{Leads, IsNoInput, IsBehind}
use Rattle.um_keeper.proofs.Replaying.{none_reached, none_spelled, one_reached, all_replayed, all_behind}
use Rattle.um_keeper.proofs.opening.replay.Goals as goal

-- the read record, where the log goes on, of the disk as it was given
read_there : {format f : Format} {layout l : Layout} {generation n : ℕ} {old new : Past} (number at : ℕ) (found : Option Record) → f ≡ format → l ≡ layout → n ≡ generation → new ≡ old
    → ReadsNext f l n (seen new) number at found → ReadsNext format layout generation (seen old) number at found
read_there {format} {f} {layout} {l} {generation} {n} {old} {new} number at found e a b c is =
    subst (λ (p : Past). ReadsNext format layout generation (seen p) number at found) c
    (subst (λ g. ReadsNext format layout g (seen new) number at found) b
    (subst (λ (z : Layout). ReadsNext format z n (seen new) number at found) a (subst (λ (z : Format). ReadsNext z l n (seen new) number at found) e is)))

pub loop-found-init : goal.loop-found-init
loop-found-init g c =
    let log = c.args.reader.now in
    record {
      reached = λ h. none_reached log.format log.layout log.generation (seen (g.D.Disk.past c.args.disk.now)) (size_in c.args.engine.now) (state_in c.args.engine.now) log.number log.next c.requires.anew.0 c.requires.anew.1;
      servable = c.requires.kept;
      size = refl;
      format_is = refl;
      layout_is = refl;
      generation_is = refl;
      past = λ h. refl;
      failures = refl;
      disk_size = refl;
      honest = refl;
    }

pub returns-in_default-2-clause-err : goal.returns-in_default-2-clause-err
returns-in_default-2-clause-err g c =
    let past = g.D.Disk.past in
    let first = c.args.reader.now in
    let old = c.loop-found.reader in
    let found = c.in-Some.found in
    let none : nothing_left (input_at found.bytes.items) ≡ None =
    ap (λ (b : List ℕ). nothing_left (input_at b)) (sym c.deref.ensures.value) ∙ sym c.in_ok-input.ensures ∙ ap (option_map input_of) c.in_default-2.is in
    let at = subst (λ o. IfSome o (λ r. r.first ≡ old.next)) c.in-Some.is c.in_ok-found.ensures.first in
    inr (λ h.
    let is = read_there old.number old.next (Some found) c.loop-found.invariant.format_is c.loop-found.invariant.layout_is c.loop-found.invariant.generation_is (c.loop-found.invariant.past h)
    (subst (λ o. ReadsNext old.format old.layout old.generation (seen (past c.loop-found.disk)) old.number old.next o) c.in-Some.is (c.in_ok-found.ensures.found (c.loop-found.invariant.honest ∙ h))) in
    subst (λ n. IsNoInput (placed (area_start first.format first.layout first.generation) (records_of first.format first.layout first.generation (seen (past c.args.disk.now)))) (Damaged n)) (sym at)
    (none_spelled first.format first.layout first.generation (seen (past c.args.disk.now)) (size_in c.args.engine.now) (state_in c.args.engine.now) is (c.loop-found.invariant.reached h) none))

pub loop-found-preserved : goal.loop-found-preserved
loop-found-preserved g c =
    let past = g.D.Disk.past in
    let first = c.args.reader.now in
    let old = c.loop-found.engine in
    let new = c.retake.new.engine in
    let log = c.loop-found.reader in
    let after = c.read_next.new.self in
    let found = c.in-Some.found in
    let leads : Leads (size_in old) (state_in old) (input_of c.in-Some-2.input) (state_in new) = c.in_ok-retake.ensures.ok in
    let size : size_in new ≡ size_in old = c.retake.ensures.size in
    let read : nothing_left (input_at found.bytes.items) ≡ Some (input_of c.in-Some-2.input) =
    ap (λ (b : List ℕ). nothing_left (input_at b)) (sym c.deref.ensures.value) ∙ sym c.in_ok-input.ensures ∙ ap (option_map input_of) c.in-Some-2.is in
    let goes = subst (λ o. IfSome o (λ r. (after.number ≡ log.number + 1) × (after.next ≡ log.next + part_count (length r.bytes.items)) × (0 < length r.bytes.items))) c.in-Some.is c.in_ok-found.ensures.goes in
    record {
      reached = λ h.
          let is = read_there log.number log.next (Some found) c.loop-found.invariant.format_is c.loop-found.invariant.layout_is c.loop-found.invariant.generation_is (c.loop-found.invariant.past h)
          (subst (λ o. ReadsNext log.format log.layout log.generation (seen (past c.loop-found.disk)) log.number log.next o) c.in-Some.is (c.in_ok-found.ensures.found (c.loop-found.invariant.honest ∙ h))) in
          one_reached first.format first.layout first.generation (seen (past c.args.disk.now)) (size_in c.args.engine.now) (state_in c.args.engine.now) is after.number after.next (c.loop-found.invariant.reached h) read
          (subst (λ (n : ℕ). Leads n (state_in old) (input_of c.in-Some-2.input) (state_in new)) c.loop-found.invariant.size leads) goes.0 goes.1;
      servable = subst (λ (n : ℕ). IsServable n (state_in new)) (sym size)
          (step_servable (size_in old) (state_in old) (input_of c.in-Some-2.input) leads.reply leads.actions (state_in new) leads.step c.loop-found.invariant.servable);
      size = size ∙ c.loop-found.invariant.size;
      format_is = c.read_next.ensures.of.0 ∙ c.loop-found.invariant.format_is;
      layout_is = c.read_next.ensures.of.1 ∙ c.loop-found.invariant.layout_is;
      generation_is = c.read_next.ensures.of.2 ∙ c.loop-found.invariant.generation_is;
      past = λ h. c.read_next.ensures.past (c.loop-found.invariant.honest ∙ h) ∙ c.loop-found.invariant.past h;
      failures = c.in_ok-found.ensures.failures ∙ c.loop-found.invariant.failures;
      disk_size = c.read_next.ensures.size ∙ c.loop-found.invariant.disk_size;
      honest = c.read_next.ensures.honest ∙ c.loop-found.invariant.honest;
    }

pub returns-clause-ok : goal.returns-clause-ok
returns-clause-ok g c h =
    let past = g.D.Disk.past in
    let first = c.args.reader.now in
    let log = c.loop-found.reader in
    let nothing = read_there log.number log.next None c.loop-found.invariant.format_is c.loop-found.invariant.layout_is c.loop-found.invariant.generation_is (c.loop-found.invariant.past h)
    (subst (λ o. ReadsNext log.format log.layout log.generation (seen (past c.loop-found.disk)) log.number log.next o) c.in_default.is (c.in_ok-found.ensures.found (c.loop-found.invariant.honest ∙ h))) in
    all_replayed first.format first.layout first.generation (seen (past c.args.disk.now)) (size_in c.args.engine.now) (state_in c.args.engine.now) (c.loop-found.invariant.reached h) nothing

pub returns-clause-all : goal.returns-clause-all
returns-clause-all g c h =
    let past = g.D.Disk.past in
    let first = c.args.reader.now in
    let log = c.loop-found.reader in
    let nothing = read_there log.number log.next None c.loop-found.invariant.format_is c.loop-found.invariant.layout_is c.loop-found.invariant.generation_is (c.loop-found.invariant.past h)
    (subst (λ o. ReadsNext log.format log.layout log.generation (seen (past c.loop-found.disk)) log.number log.next o) c.in_default.is (c.in_ok-found.ensures.found (c.loop-found.invariant.honest ∙ h))) in
    subst (λ (l : Reader). IsBehind first.format first.layout first.generation (seen (past c.args.disk.now)) l.number l.next) (sym (c.read_next.ensures.stays (c.in_ok-found.was ∙ ap Ok c.in_default.is)))
    (all_behind first.format first.layout first.generation (seen (past c.args.disk.now)) (size_in c.args.engine.now) (state_in c.args.engine.now) (c.loop-found.invariant.reached h) nothing)
