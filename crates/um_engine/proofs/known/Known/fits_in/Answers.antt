use Rattle.std.proofs.Common.{◌≡◌, None, true, rules}
use Rattle.std.proofs.lemmas.Option.{none-some}
use Rattle.um_state.specs.View.{state_of}
use Rattle.um_engine.proofs.KnownLaws.{fits_for}
use Rattle.um_engine.proofs.known.Known.fits_in.Goals as goal

pub returns : goal.returns
returns c told knows =
    let made : c.is_made_in.result ≡ true = search rules in
    fits_for (state_of c.args.work.now.now) c.args.self.now None knows (c.is_made_in.ensures made) (λ x e. absurd (none-some x e)) (c.lasts_in.ensures told)
