use Rattle.std.proofs.Common.{◌∙◌, sym, ap}
use Rattle.std.specs.HashSet.{contains}
use Rattle.std.specs.Str.{bytes_eq}
use Rattle.um_graph.proofs.FollowedLaws.{one_left_out}
use Rattle.um_graph.proofs.known.Known.next.Goals as goal

pub loop-name-preserved : goal.loop-name-preserved
loop-name-preserved c = record {
  out =
      one_left_out c.args.self.now.loaded c.args.self.now.followed c.args.self.now.left.items c.loop-name.self.left.items c.pop.new.self.items c.in-Some.name c.requires
      (ap (λ s. contains bytes_eq s c.in-Some.name) (sym c.loop-name.invariant.followed) ∙ (sym c.contains.ensures ∙ c.if-not-contains.false)) c.in-Some.ensures.items
      c.loop-name.invariant.out;
  loaded = c.loop-name.invariant.loaded;
  told = c.loop-name.invariant.told;
  followed = c.loop-name.invariant.followed;
}
