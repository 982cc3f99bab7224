use Rattle.std.proofs.Common.{List, ◌≡◌, ◌+◌, ◌++◌, ◌∷◌, [], ◌∙◌, ap, append_assoc, arith, drop, get_or, suc, sym}
use Rattle.std.proofs.Math.Seq.{drop-cons}
use Rattle.std.proofs.lemmas.List.Concat.{flat_map-append}
use Rattle.serde_json.specs.Written.{compact_text}
use Rattle.um_model.specs.Replies.{warning_data}
use Rattle.um_proto.specs.Written.{warnings_text}
use Rattle.um_unit.specs.View.{warned_by, warnings_seen}
use Rattle.um_unit.specs.declared.warnings.FileWarnings.{FileWarnings}
use Rattle.um_model.specs.Units.{Warning}
use Rattle.um_proto.proofs.write.add_all_warnings.Goals as goal

pub loop-file-preserved : goal.loop-file-preserved
loop-file-preserved c =
    let files = c.args.files.now in
    let i = c.loop-file.file-index in
    let item = c.file-item.result in
    let old = c.loop-file.text.items in
    let next : suc i ≡ i + 1 = omega arith in
    let more = drop (i + 1) files in
    let shown = λ (ws : List FileWarnings). warnings_text (warnings_seen ws) in
    let first = drop-cons files i item c.loop-file-test.true ∙ (ap (λ n. get_or files i item ∷ drop n files) next ∙ ap (λ f. f ∷ more) (sym c.file-item.is)) in
    let parts = flat_map-append (λ (w : Warning). compact_text (warning_data w) ++ 44 ∷ []) (warned_by item) (warnings_seen more) in
    ap (λ text. text ++ shown more) (c.in_ok-is_whole.ensures.all c.if-not-is_whole.false)
    ∙ (append_assoc old (warnings_text (warned_by item)) (shown more)
    ∙ (ap (λ text. old ++ text) (sym parts ∙ ap shown (sym first)) ∙ c.loop-file.invariant))
