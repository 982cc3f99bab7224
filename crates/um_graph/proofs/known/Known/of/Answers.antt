use Rattle.std.proofs.Common.{◌+◌, ◌++◌, ◌∷◌, [], ◌∙◌, Contains, refl, sym, ap, subst, arith}
use Rattle.std.specs.BTreeMap.{btree_map_len}
use Rattle.um_model.specs.Dependencies.{KnowsSoMany}
use Rattle.um_unit.specs.View.{tree_read}
use Rattle.um_graph.specs.Known.{Loaded, loading_at}
use Rattle.um_graph.proofs.CountLaws.{knows, not_too_many, too_many}
use Rattle.um_graph.proofs.FollowedLaws.{still_followed}
use Rattle.um_graph.proofs.KnownLaws.{left_out, left_out_as}
use Rattle.um_graph.proofs.ResolvedLaws.{followed_in}
use Rattle.um_graph.proofs.known.Known.of.Goals as goal

pub returns-in_default-clause-whole : goal.returns-in_default-clause-whole
returns-in_default-clause-whole c =
    left_out_as (tree_read c.args.reading) c.args.extra.now c.loop.known.loaded c.next.new.self.loaded c.loop.known.left.items [] c.loop.known.told.items c.next.new.self.told.items
    c.in_default.ensures.loaded (ap (λ v. v.items) c.in_default.ensures.told) c.in_default.ensures.none c.loop.invariant.whole

pub returns-in_default-clause-count : goal.returns-in_default-clause-count
returns-in_default-clause-count c =
    subst (λ (m : Loaded). KnowsSoMany (tree_read c.args.reading) (Contains c.args.extra.now) (btree_map_len m)) (sym c.in_default.ensures.loaded)
    (knows (tree_read c.args.reading) c.args.extra.now c.loop.known.loaded c.loop.known.told.items
    (left_out (tree_read c.args.reading) c.args.extra.now c.loop.known.loaded c.loop.known.left.items [] c.loop.known.told.items c.in_default.ensures.none c.loop.invariant.whole) c.loop.invariant.ordered)

pub returns-in_default-clause-few : goal.returns-in_default-clause-few
returns-in_default-clause-few c =
    not_too_many (tree_read c.args.reading) c.args.extra.now c.loop.known.loaded c.loop.known.told.items
    (left_out (tree_read c.args.reading) c.args.extra.now c.loop.known.loaded c.loop.known.left.items [] c.loop.known.told.items c.in_default.ensures.none c.loop.invariant.whole)
    (omega (arith, c.loop.invariant.count, c.loop-test.true))

pub loop-preserved : goal.loop-preserved
loop-preserved c =
    let name = c.in-Some.name in
    record {
      whole = followed_in (tree_read c.args.reading) c.loop.resolved c.args.extra.now _ _ _ _ _ _ c.loop.invariant.resolved (c.in_ok-follow.ensures.whole c.args.extra.now) (left_out_as (tree_read c.args.reading) c.args.extra.now c.loop.known.loaded c.next.new.self.loaded c.loop.known.left.items
          (c.next.new.self.left.items ++ name ∷ []) c.loop.known.told.items c.next.new.self.told.items
          c.in-Some.ensures.loaded (ap (λ v. v.items) c.in-Some.ensures.told) c.in-Some.ensures.found c.loop.invariant.whole);
      count = c.in_ok-follow.ensures.count (ap (λ (m : Loaded). loading_at m name) c.in-Some.ensures.loaded ∙ c.in-Some.ensures.new)
          ∙ ap (λ n. n + 1) (ap (λ (m : Loaded). btree_map_len m) c.in-Some.ensures.loaded ∙ c.loop.invariant.count);
      ordered = c.in_ok-follow.ensures.ordered;
      resolved = c.follow.ensures.tree ∙ c.loop.invariant.resolved;
      followed = c.in_ok-follow.ensures.followed;
    }

pub returns-clause-refused : goal.returns-clause-refused
returns-clause-refused c _ = (
  refl,
  too_many (tree_read c.args.reading) c.args.extra.now c.loop.known.loaded c.loop.known.left.items c.loop.known.told.items c.loop.invariant.whole c.loop.invariant.ordered
      (omega (arith, c.loop.invariant.count, c.loop-test.false)),
)

pub follow-requires : goal.follow-requires
follow-requires c =
    still_followed c.loop.known.loaded c.next.new.self.loaded c.loop.known.followed c.next.new.self.followed c.in-Some.ensures.loaded c.in-Some.ensures.followed c.loop.invariant.followed
