use Rattle.std.proofs.Common.{rules, ◌≡◌, ◌++◌, [], ◌∷◌, ap, ◌∙◌, arith}
use Rattle.std.specs.Vec.{vec_len}
use Rattle.um_proto.proofs.Warnings.{front, cut_front, without_any, without_last_comma, past_whole}
use Rattle.um_state.specs.View.{shown_of}
use Rattle.um_unit.specs.View.{warnings_seen}
use Rattle.um_proto.proofs.write.with_warnings.Goals as goal
use Rattle.um_proto.proofs.write.with_warnings.Goals.{then-len-begin, else-len-begin}

pub returns-then-not-is_whole : goal.returns-then-not-is_whole
returns-then-not-is_whole c =
    let u = shown_of c.args.shown.now in
    let begun : c.truncate.new.self.items ≡ front u =
    cut_front u c.args.text.items c.truncate.new.self.items c.len.result c.requires (omega arith) c.truncate.ensures.items in
    let seen : warnings_seen c.as_slice.result.now ≡ u.warnings = ap warnings_seen (c.as_slice.ensures.value ∙ ap (λ v. v.items) c.deref.ensures) in
    past_whole u c.truncate.new.self.items (warnings_seen c.as_slice.result.now) begun seen (c.in_ok-is_whole.ensures.long c.if-not-is_whole.true)

pub returns : goal.returns
returns c =
    let u = shown_of c.args.shown.now in
    let begun : c.truncate.new.self.items ≡ front u =
    cut_front u c.args.text.items c.truncate.new.self.items c.len.result c.requires (omega arith) c.truncate.ensures.items in
    let seen : warnings_seen c.as_slice.result.now ≡ u.warnings = ap warnings_seen (c.as_slice.ensures.value ∙ ap (λ v. v.items) c.deref.ensures) in
    let all = c.in_ok-is_whole.ensures.all (search (rules, c.if-not-is_whole.false)) in
    let closed = c.in_ok-extend_from_slice.ensures.items in
    elim c.if-len-begin.branch [
      | then-len-begin w ↦
          closed ∙ ap (λ t. t.items ++ 93 ∷ 125 ∷ 125 ∷ []) w.text-is
          ∙ without_last_comma u c.truncate.new.self.items c.add_all_warnings.new.text.items w.pop.new.self.items (warnings_seen c.as_slice.result.now) w.pop.result
          (vec_len c.add_all_warnings.new.text) (vec_len w.pop.new.self) begun seen all
          (omega (arith, w.if-len-begin.true)) w.pop.ensures.items (omega arith) w.pop.ensures.cases
      | else-len-begin w ↦
          closed ∙ ap (λ t. t.items ++ 93 ∷ 125 ∷ 125 ∷ []) w.text-is
          ∙ without_any u c.truncate.new.self.items c.add_all_warnings.new.text.items (warnings_seen c.as_slice.result.now) begun seen all
          (omega (arith, w.if-len-begin.false))
    ]
