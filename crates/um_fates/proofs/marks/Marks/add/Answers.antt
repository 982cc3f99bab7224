use Rattle.std.proofs.Common.{◌≡◌, ◌==◌, ◌≤◌, ◌||◌, ◌∷◌, [], true, false, ap, sym, subst, ◌∙◌, arith, vec_len, vec_capacity}
use Rattle.std.proofs.lemmas.List.Folds.{list_any-append}
use Rattle.um_model.specs.StateSpellings.{are_distinct}
use Rattle.um_fates.specs.Live.{has}
use Rattle.um_fates.proofs.Marking.{distinct_push}
use Rattle.um_fates.proofs.marks.Marks.add.Goals as goal

pub invariant_of-self-inside-else-not-enter : goal.invariant_of-self-inside-else-not-enter
invariant_of-self-inside-else-not-enter c =
    let old = c.self.inside.numbers.items in
    let number = c.args.number in
    let items = c.push_reserved.ensures.items in
    let room : 2048 ≤ vec_capacity c.push_reserved.new.self = omega (arith, c.self.inside.room, c.push_reserved.ensures.capacity) in
    let fits : vec_len c.push_reserved.new.self ≤ vec_capacity c.self.inside.spare = omega (arith, c.push_reserved.ensures.len, c.if-len-lt-MOST_LIVE.true, c.len.ensures, c.self.inside.spare_room) in
    let isnt = subst (λ ns. has number ns ≡ false) (sym c.self.view_is) c.requires in
    let once = subst (λ ns. are_distinct ns ≡ true) (sym items) (distinct_push number old c.self.inside.once isnt) in (
      room,
      (
        c.self.inside.spare_room,
        (
          fits,
          (
            once,
            (
              (λ plain n.
                  c.enter.ensures c.if-not-enter.false n ∙ (ap (λ b. b || has n (number ∷ [])) (c.self.inside.indexed plain n)
                  ∙ (sym (list_any-append (λ m. m == n) old (number ∷ [])) ∙ ap (has n) (sym items)))),
              tt,
            ),
          ),
        ),
      ),
    )
