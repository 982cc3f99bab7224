use Rattle.std.proofs.Common.{◌∙◌, ℕ, Option, Some, None, Ok, IfSome, sym, ap, subst}
use Rattle.um_model.specs.Disk.{Past, seen}
use Rattle.um_model.specs.Store.{top}
use Rattle.um_keeper.specs.Opening.{AreRead, IsLast}
use Rattle.um_keeper.proofs.Replaying.{last_there}
use Rattle.um_keeper.proofs.opening.read_records.Goals as goal

-- a fact of the value, if the disk does what it answers
some_then : {H : Type 0} (o : Option ℕ) (P : ℕ → Type 0) → H → IfSome o (λ n. H → P n) → IfSome o P
some_then None P h p = tt
some_then (Some n) P h p = p h

pub returns-clause-greatest : goal.returns-clause-greatest
returns-clause-greatest g c h =
    let format = c.args.format in
    let layout = c.args.layout in
    let newest = c.args.generation in
    let read = c.in_ok-read.read in
    let last = c.in_ok-last in
    let p1 = g.D.Disk.past c.replay_both.new.disk in
    let same = c.replay_both.ensures.past h in
    let are = subst (λ (p : Past). AreRead format layout newest (seen p) read.records read.here read.behind) (sym same) (c.in_ok-read.ensures.read h) in
    subst (λ (p : Past). IsLast layout (seen p) (top format newest) last.last) same
    (last_there format layout newest (seen p1) read.records read.here read.behind c.greatest_in-behind.result are c.greatest_in-behind.ensures.some c.greatest_in-behind.ensures.none last.last
    (some_then last.last _ (c.replay_both.ensures.honest ∙ h) last.ensures.greatest) (λ none. c.greatest.ensures.none (last.was ∙ ap Ok none)))
