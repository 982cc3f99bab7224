use Rattle.std.proofs.Common.{◌++◌, ◌∙◌, true, cond, ap, subst, sym}
use Rattle.std.specs.HashSet.{contains}
use Rattle.std.specs.List.{flat_map}
use Rattle.std.specs.Str.{bytes_eq}
use Rattle.um_model.specs.Profiles.{read_by}
use Rattle.um_graph.specs.Followed.{AreFollowed}
use Rattle.um_graph.specs.Known.{IsUnderWay, ends_left}
use Rattle.um_graph.proofs.FollowedLaws.{one_followed}
use Rattle.um_graph.proofs.KnownLaws.{followed}
use Rattle.um_graph.proofs.known.Known.follow.Goals as goal

pub returns-clause-whole : goal.returns-clause-whole
returns-clause-whole c extra w =
    let old = c.args.self.now in
    let new = c.load_into.new.loaded in
    let loads = c.in_ok-told.ensures.loaded in
    let tells = c.in_ok-told.ensures.told in
    subst (λ m. IsUnderWay (read_by c.args.profile c.args.resolved.now) extra m c.take.new.self.left.items c.take.new.self.told.items) (sym c.in_ok-take.ensures.loaded)
    (followed (read_by c.args.profile c.args.resolved.now) extra old.loaded new old.left.items c.take.new.self.left.items old.told.items c.take.new.self.told.items c.args.name loads.0
    loads.2
    loads.1
    (c.in_ok-take.ensures.left ∙ ap (λ ts. old.left.items ++ flat_map (ends_left new) ts) tells)
    (c.in_ok-take.ensures.told ∙ ap (λ ts. old.told.items ++ ts) tells)
    w)

pub take-requires : goal.take-requires
take-requires c =
    let old = c.args.self.now in
    let loads = c.in_ok-told.ensures.loaded in
    one_followed old.loaded c.load_into.new.loaded old.followed c.insert.new.self c.args.name loads.0 c.requires
    (λ x. c.in_ok-insert.ensures.updates.0 x ∙ ap (λ n. cond (bytes_eq n x) true (contains bytes_eq old.followed x)) c.in_ok-copy.ensures)
    loads.2.0

pub returns-clause-followed : goal.returns-clause-followed
returns-clause-followed c =
    let old = c.args.self.now in
    let loads = c.in_ok-told.ensures.loaded in
    let follows = one_followed old.loaded c.load_into.new.loaded old.followed c.insert.new.self c.args.name loads.0 c.requires
    (λ x. c.in_ok-insert.ensures.updates.0 x ∙ ap (λ n. cond (bytes_eq n x) true (contains bytes_eq old.followed x)) c.in_ok-copy.ensures)
    loads.2.0 in
    subst (λ m. AreFollowed m c.take.new.self.followed) (sym c.in_ok-take.ensures.loaded)
    (subst (λ f. AreFollowed c.load_into.new.loaded f) (sym c.in_ok-take.ensures.followed) follows)
