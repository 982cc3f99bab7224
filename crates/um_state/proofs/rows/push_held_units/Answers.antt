use Rattle.std.proofs.Common.{◌≡◌, ◌++◌, ◌∷◌, ◌∙◌, [], cond, not, get_or, length, arith, ap, sym, append-nil}
use Rattle.um_name.specs.Names.{name_at}
use Rattle.um_model.specs.Service.{dead_unit, holds_nothing}
use Rattle.um_state.proofs.EntryLaws.{gathered, is_held_unit, one_more, unit_keys}
use Rattle.um_state.proofs.FindingLaws.{row_is}
use Rattle.um_state.proofs.rows.push_held_units.Goals as goal

pub loop-i-init : goal.loop-i-init
loop-i-init c = sym (append-nil c.args.noted.now.items)

pub loop-i-preserved : goal.loop-i-preserved
loop-i-preserved c =
    one_more (λ i. cond (is_held_unit (get_or c.args.rows.now i dead_unit)) (name_at c.args.names.now i ∷ []) []) c.loop-i.i c.args.noted.now.items c.loop-i.noted.items c.push_if.new.noted.items
    (c.in_ok-push_if.ensures ∙ ap (λ b. c.loop-i.noted.items ++ cond (not b) (name_at c.args.names.now c.loop-i.i ∷ []) []) (c.holds_nothing.ensures ∙ ap holds_nothing (row_is c.args.rows.now c.loop-i.i c.index-rows-i.result (omega (arith, c.requires.len)) c.index-rows-i.is))) c.loop-i.invariant

pub returns : goal.returns
returns c =
    let names = c.args.names.now in
    let rows = c.args.rows.now in
    let whole : c.loop-i.i ≡ length names = omega arith in
    let told = ap (gathered (λ i. cond (is_held_unit (get_or rows i dead_unit)) (name_at names i ∷ []) []) 0) whole in
    c.loop-i.invariant ∙ ap (λ xs. c.args.noted.now.items ++ xs) (told ∙ unit_keys names rows c.requires.ascending c.requires.len)
