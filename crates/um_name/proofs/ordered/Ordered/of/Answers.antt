use Rattle.std.proofs.Common.{◌≡◌, ◌∙◌, ◌++◌, ◌∷◌, [], cond, true, sym, ap, take}
use Rattle.std.specs.List.{list_any}
use Rattle.std.specs.Str.{bytes_eq}
use Rattle.std.specs.Cmp.Lexicographic.{nat_list_eq_equiv}
use Rattle.std.proofs.lemmas.List.{take_more}
use Rattle.std.proofs.lemmas.List.Folds.{list_any-append}
use Rattle.um_name.proofs.NumberLaws.{ascending, joined}
use Rattle.um_name.proofs.ordered.Ordered.of.Goals as goal

pub invariant_of-result : goal.invariant_of-result
invariant_of-result c = ascending c.sort.new.self.keys c.in_ok-sort.ensures.sorted c.sort.ensures.unique

pub returns-clause-ascending : goal.returns-clause-ascending
returns-clause-ascending c = ascending c.sort.new.self.keys c.in_ok-sort.ensures.sorted c.sort.ensures.unique

pub loop-name-preserved : goal.loop-name-preserved
loop-name-preserved c t =
    let given = c.args.given.now in
    let i = c.loop-name.name-index in
    let x = c.name-item.result in
    let old = list_any (bytes_eq t) c.loop-name.set.keys in
    let same = ap (λ bs. bytes_eq bs t) c.in_ok-copy.ensures ∙ nat_list_eq_equiv.symm x t in
    let more = take_more given i x c.loop-name-test.true ∙ ap (λ y. take i given ++ y ∷ []) (sym c.name-item.is) in
    c.in_ok-insert_full.ensures.updates.0 t ∙ (ap (λ a. cond a true old) same ∙ (ap (λ b. cond (bytes_eq t x) true b) (c.loop-name.invariant t)
    ∙ (joined (bytes_eq t x) (list_any (bytes_eq t) (take i given)) ∙ (sym (list_any-append (bytes_eq t) (take i given) (x ∷ [])) ∙ ap (list_any (bytes_eq t)) (sym more)))))
