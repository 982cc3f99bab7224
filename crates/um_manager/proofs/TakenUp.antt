-- The state that is taken up of an image is the one it stands for.
use Rattle.std.proofs.Common.{◌≡◌, ◌∙◌, ℕ, List, [], ◌∷◌, Some, refl}
use Rattle.um_keeper.specs.Opening.{Replays, no_more, and_then, IsTakenUp}
use Rattle.um_laws.proofs.ImageLaws.{newest_some}
use Rattle.um_laws.proofs.StandsLaws.{ComesTo, contents}
use Rattle.um_model.specs.Bytes.{◌>>=◌, nothing_left}
use Rattle.um_model.specs.Disk.{Image}
use Rattle.um_model.specs.Machine.{State, Input, Run, rests, goes}
use Rattle.um_model.specs.Stands.{contents_of, inputs_of, StandsFor}
use Rattle.um_model.specs.StateSpellings.{state_at}
use Rattle.um_model.specs.Store.{body_limit, all_records}
use Rattle.um_model.specs.Store as sectors
use Rattle.um_model.specs.declared.layout.Format.{Format}
use Rattle.um_model.specs.declared.layout.Layout.{Layout}
use Rattle.um_model.specs.declared.layout.Slot.{Slot}

replayed : {size : ℕ} {records : List (List ℕ)} {s t : State} → Replays size records s t → (inputs : List Input) × (inputs_of records ≡ Some inputs) × Run size s inputs t
replayed no_more = ([], refl, rests)
replayed (and_then {records = records} {input = input} is leads more) =
    let (inputs, are, run) = replayed more in
    (input ∷ inputs, (λ k. is k >>= λ i. are k >>= λ more. Some (i ∷ more)), goes leads.reply leads.actions leads.step run)

-- the content of the newest slot and of the records beside it
contents_told : (format : Format) (layout : Layout) (image : Image) {slot : Slot} {generation : ℕ} {body : List ℕ} {start s : State} {inputs : List Input}
    → sectors.newest_of layout image ≡ Some (record { slot = slot; generation = generation; body = body })
    → ComesTo (body_limit layout) body (all_records format layout generation image) start inputs s → contents_of format layout image ≡ Some (contents slot generation start inputs)
contents_told format layout image {slot} {generation} {start = start} newest comes =
    (λ k. newest k >>= λ n. nothing_left (state_at n.body) >>= λ x. inputs_of (all_records format layout n.generation image) >>= λ xs. Some (contents n.slot n.generation x xs))
    ∙ (λ k. comes.start_is k >>= λ x. inputs_of (all_records format layout generation image) >>= λ xs. Some (contents slot generation x xs))
    ∙ (λ k. comes.inputs_are k >>= λ xs. Some (contents slot generation start xs))

pub taken_stands : {count : ℕ} {image : Image} {layout : Layout} {slot : Slot} {generation : ℕ} {s : State} → IsTakenUp count image layout slot generation s → StandsFor layout image s
taken_stands {image = image} {layout = layout} {slot = slot} {generation = generation} t =
    let (inputs, are, run) = replayed t.replays in
    let comes : ComesTo (body_limit layout) t.body (all_records t.has.format layout generation image) t.start inputs _ =
    record { start_is = t.starts.read; inputs_are = are; servable = t.starts.servable; run = run } in
    record {
      format = t.has.format;
      first = t.has.first;
      contents = contents slot generation t.start inputs;
      holds = contents_told t.has.format layout image ((newest_some layout image _).1 t.newest) comes;
      servable = t.starts.servable;
      run = run;
    }
