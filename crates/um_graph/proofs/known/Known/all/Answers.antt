use Rattle.std.proofs.Common.{◌++◌, ◌∷◌, [], ◌∙◌, Contains, sym, ap, subst}
use Rattle.std.specs.BTreeMap.{btree_map_len}
use Rattle.um_model.specs.Dependencies.{KnowsSoMany}
use Rattle.um_unit.specs.View.{tree_read}
use Rattle.um_graph.specs.Known.{Loaded}
use Rattle.um_graph.proofs.CountLaws.{knows}
use Rattle.um_graph.proofs.FollowedLaws.{still_followed}
use Rattle.um_graph.proofs.KnownLaws.{left_out, left_out_as}
use Rattle.um_graph.proofs.ResolvedLaws.{followed_in}
use Rattle.um_graph.proofs.known.Known.all.Goals as goal

pub returns-clause-whole : goal.returns-clause-whole
returns-clause-whole c =
    left_out_as (tree_read c.args.reading) c.args.extra.now c.loop-name.known.loaded c.next.new.self.loaded c.loop-name.known.left.items [] c.loop-name.known.told.items c.next.new.self.told.items
    c.in_default.ensures.loaded (ap (λ v. v.items) c.in_default.ensures.told) c.in_default.ensures.none c.loop-name.invariant.whole

pub returns-clause-count : goal.returns-clause-count
returns-clause-count c =
    subst (λ (m : Loaded). KnowsSoMany (tree_read c.args.reading) (Contains c.args.extra.now) (btree_map_len m)) (sym c.in_default.ensures.loaded)
    (knows (tree_read c.args.reading) c.args.extra.now c.loop-name.known.loaded c.loop-name.known.told.items
    (left_out (tree_read c.args.reading) c.args.extra.now c.loop-name.known.loaded c.loop-name.known.left.items [] c.loop-name.known.told.items c.in_default.ensures.none c.loop-name.invariant.whole) c.loop-name.invariant.ordered)

pub loop-name-preserved : goal.loop-name-preserved
loop-name-preserved c =
    let name = c.in-Some.name in
    record {
      whole = followed_in (tree_read c.args.reading) c.loop-name.resolved c.args.extra.now _ _ _ _ _ _ c.loop-name.invariant.resolved (c.in_ok-follow.ensures.whole c.args.extra.now) (left_out_as (tree_read c.args.reading) c.args.extra.now c.loop-name.known.loaded c.next.new.self.loaded c.loop-name.known.left.items
          (c.next.new.self.left.items ++ name ∷ []) c.loop-name.known.told.items c.next.new.self.told.items
          c.in-Some.ensures.loaded (ap (λ v. v.items) c.in-Some.ensures.told) c.in-Some.ensures.found c.loop-name.invariant.whole);
      ordered = c.in_ok-follow.ensures.ordered;
      resolved = c.follow.ensures.tree ∙ c.loop-name.invariant.resolved;
      followed = c.in_ok-follow.ensures.followed;
    }

pub follow-requires : goal.follow-requires
follow-requires c =
    still_followed c.loop-name.known.loaded c.next.new.self.loaded c.loop-name.known.followed c.next.new.self.followed c.in-Some.ensures.loaded c.in-Some.ensures.followed c.loop-name.invariant.followed
