use Rattle.std.proofs.Common.{◌≡◌, ◌∙◌, sym, ap}
use Rattle.std.proofs.lemmas.Slice.Eq.{bytes_eq-Decides}
use Rattle.um_model.specs.Tree.{File, Link}
use Rattle.um_tree.specs.View.{entry_of}
use Rattle.um_engine.proofs.same.is_same_entry.Goals as goal

pub returns-in-File-File : goal.returns-in-File-File
returns-in-File-File c =
    let text = c.in-File-File.text.now in
    let other = c.in-File-File.other.now in
    let texts = bytes_eq-Decides text other in
    let one : entry_of c.args.entry ≡ File text = ap entry_of c.in-File-File.is-0 in
    let two : entry_of c.args.other ≡ File other = ap entry_of c.in-File-File.is-1 in (
      λ t. one ∙ (ap File (texts.0 (sym c.eq.ensures ∙ t)) ∙ sym two),
      λ e. let files : File text ≡ File other = sym one ∙ (e ∙ two) in
          let same : text ≡ other = cc in
          c.eq.ensures ∙ texts.1 same,
    )

pub returns-in-Link-Link : goal.returns-in-Link-Link
returns-in-Link-Link c =
    let target = c.in-Link-Link.target.now in
    let other = c.in-Link-Link.other.now in
    let targets = bytes_eq-Decides target other in
    let one : entry_of c.args.entry ≡ Link target = ap entry_of c.in-Link-Link.is-0 in
    let two : entry_of c.args.other ≡ Link other = ap entry_of c.in-Link-Link.is-1 in (
      λ t. one ∙ (ap Link (targets.0 (sym c.eq-in-Link-Link.ensures ∙ t)) ∙ sym two),
      λ e. let links : Link target ≡ Link other = sym one ∙ (e ∙ two) in
          let same : target ≡ other = cc in
          c.eq-in-Link-Link.ensures ∙ targets.1 same,
    )
