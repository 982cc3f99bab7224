use Rattle.std.proofs.Common.{◌≡◌, [], ◌∷◌, map, refl, sym, ap, ◌∙◌, subst, inl, inr, string_bytes}
use Rattle.std.proofs.lemmas.List.{map-append}
use Rattle.um_model.specs.Profiles.{current, read_by}
use Rattle.um_model.specs.Units.{BadSetting, load}
use Rattle.um_unit.specs.View.{loading_of, unit_of}
use Rattle.um_verify.specs.Findings.{TakesOut, Tells}
use Rattle.um_verify.specs.View.{IsTaken, told_of}
use Rattle.um_verify.proofs.TellsLaws.{tells_more}
use Rattle.um_verify.proofs.reasons.look_at.Goals as goal

pub returns-in-Found : goal.returns-in-Found
returns-in-Found c =
    let unit = c.args.unit.now in
    let found = c.loop.findings.items in
    let loads = ap (λ t. load t unit) (sym c.read_now.ensures) ∙ sym c.in_ok-found.ensures ∙ ap loading_of c.in-Found.is in
    let more = c.in_ok-all-in-Found.ensures in
    (map told_of found, c.loop.invariant, (found, more.0, more.1, refl, inl (unit_of c.in-Found.found, loads, more.2)))

pub returns-in-Left : goal.returns-in-Left
returns-in-Left c =
    let unit = c.args.unit.now in
    let found = c.loop.findings.items in
    let bad = ap (λ t. load t unit) (sym c.read_now.ensures) ∙ sym c.in_ok-found.ensures ∙ ap loading_of c.in-BadSetting.is in
    let same = subst (IsTaken c.loop.tree c.take_out.new.tree c.in-BadSetting.unit c.as_str.result.now) c.in-Left.is c.in_ok-finding-in-BadSetting.ensures in
    let more = c.in_ok-with_last-in-Left.ensures in (
      map told_of found,
      subst (λ t. Tells c.args.tree.now unit (map told_of found) t) same c.loop.invariant,
      (found, more.0, more.1, refl, inr (c.in-BadSetting.unit, string_bytes c.in-BadSetting.reason, subst (λ t. load (read_by current t) unit ≡ BadSetting c.in-BadSetting.unit (string_bytes c.in-BadSetting.reason)) same bad)),
    )

pub loop-preserved : goal.loop-preserved
loop-preserved c =
    let unit = c.args.unit.now in
    let found = c.loop.findings.items in
    let one = c.in-Out.finding in
    let after = c.take_out.new.tree in
    let bad = ap (λ t. load t unit) (sym c.read_now.ensures) ∙ sym c.in_ok-found.ensures ∙ ap loading_of c.in-BadSetting.is in
    let named = c.in-BadSetting.unit in
    let taken = subst (λ r. IsTaken c.loop.tree after named r c.in_ok-finding-in-BadSetting.field-0) c.as_str.ensures.value c.in_ok-finding-in-BadSetting.ensures in
    let out = subst (IsTaken c.loop.tree after named (string_bytes c.in-BadSetting.reason)) c.in-Out.is taken in
    let takes : TakesOut c.loop.tree after unit (told_of one) = (named, string_bytes c.in-BadSetting.reason, out.0, bad, out.1, out.3) in
    let tells = tells_more c.args.tree.now c.loop.tree after unit (map told_of found) (told_of one) c.loop.invariant takes in
    let seen = ap (map told_of) c.in_ok-push-in-Out.ensures.items ∙ map-append told_of found (one ∷ []) in
    subst (λ told. Tells c.args.tree.now unit told after) (sym seen) tells
