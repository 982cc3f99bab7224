use Rattle.std.proofs.Common.{◌≡◌, ◌⊎◌, ◌∙◌, ◌+◌, ◌-◌, ◌^◌, inl, inr, ℕ, List, refl, sym, ap, subst}
use Rattle.um_engine.specs.Engine.{state_in, size_in}
use Rattle.um_model.specs.Disk.{Past, seen}
use Rattle.um_model.specs.Store.{area_start, placed, records_of}
use Rattle.um_model.specs.declared.layout.Format.{Format}
use Rattle.um_model.specs.declared.layout.Format.TheVariants.{One, Two}
use Rattle.um_model.specs.declared.layout.Layout.{Layout}
use Rattle.um_wire.specs.declared.refusal.Refusal.{Refusal}
use Rattle.um_keeper.specs.Opening.{Replays, IsNoInput}
use Rattle.um_keeper.proofs.Replaying.{replays_at, behind_at, fails_at, replays_alone, read_alone, replays_both, second_fails, read_both}
use Rattle.um_keeper.proofs.Results.{err_same, or_more}
use Rattle.um_keeper.proofs.Telling.{remain_there}
use Rattle.um_keeper.proofs.opening.replay_both.Goals as goal

-- why the snapshot's own generation alone is read, of the reader as it was made
why_alone : (format f there : Format) (newest n behind : ℕ) → f ≡ format → there ≡ f → n ≡ newest → behind ≡ n → (there ≡ One) ⊎ (behind ≡ 2 ^ 64 - 1) → (format ≡ One) ⊎ (newest ≡ 2 ^ 64 - 1)
why_alone format f there newest n behind a b c d (inl one) = inl (sym a ∙ sym b ∙ one)
why_alone format f there newest n behind a b c d (inr last) = inr (sym c ∙ sym d ∙ last)

-- the record that spells no input, of the disk as it was given
placed_at : (format f : Format) (layout l : Layout) (generation n : ℕ) (old new : Past) → f ≡ format → l ≡ layout → n ≡ generation → new ≡ old → (e : Refusal)
    → IsNoInput (placed (area_start f l n) (records_of f l n (seen new))) e → IsNoInput (placed (area_start format layout generation) (records_of format layout generation (seen old))) e
placed_at format f layout l generation n old new by on of same e = subst (λ (p : List (ℕ × List ℕ)). IsNoInput p e) (λ k. placed (area_start (by k) (on k) (of k)) (records_of (by k) (on k) (of k) (seen (same k))))

pub returns-in_err-here-clause-err : goal.returns-in_err-here-clause-err
returns-in_err-here-clause-err g c =
    let reader = c.new-reader.result in
    let of = c.new-reader.ensures.of in
    let p0 = g.D.Disk.past c.args.disk.now in
    err_same _ c.from_residual.result c.in_err-here.field-0.0 c.from_residual.ensures.1
    (or_more (λ fails h. fails_at c.args.format reader.format c.args.layout reader.layout c.args.generation reader.generation p0 p0 of.0 of.1 of.2 refl c.in_err-here.field-0.0 (fails h)) c.in_err-here.ensures.err)

pub returns-in_default-clause-ok : goal.returns-in_default-clause-ok
returns-in_default-clause-ok g c h =
    let reader = c.new-reader.result in
    let of = c.new-reader.ensures.of in
    let there = c.replay_all.new.reader in
    let stays = c.replay_all.ensures.of in
    let p0 = g.D.Disk.past c.args.disk.now in
    let why = why_alone c.args.format reader.format there.format c.args.generation reader.generation there.generation of.0 stays.0 of.2 stays.2 (c.following.ensures.none c.in_default.is) in
    replays_alone c.args.format c.args.layout c.args.generation (seen p0) why (size_in c.args.engine.now) (state_in c.args.engine.now) (state_in c.replay_all.new.engine)
    (replays_at c.args.format reader.format c.args.layout reader.layout c.args.generation reader.generation p0 p0 of.0 of.1 of.2 refl (size_in c.args.engine.now) (state_in c.args.engine.now) (state_in c.replay_all.new.engine)
    (c.in_ok-here.ensures.ok h))

pub returns-in_default-clause-read : goal.returns-in_default-clause-read
returns-in_default-clause-read g c h =
    let reader = c.new-reader.result in
    let of = c.new-reader.ensures.of in
    let there = c.replay_all.new.reader in
    let stays = c.replay_all.ensures.of in
    let p0 = g.D.Disk.past c.args.disk.now in
    let why = why_alone c.args.format reader.format there.format c.args.generation reader.generation there.generation of.0 stays.0 of.2 stays.2 (c.following.ensures.none c.in_default.is) in
    read_alone c.args.format c.args.layout c.args.generation (seen p0) why there.number there.next c.in_ok-here.here
    (behind_at c.args.format reader.format c.args.layout reader.layout c.args.generation reader.generation p0 p0 of.0 of.1 of.2 refl there.number there.next (c.in_ok-here.ensures.all h))
    (remain_there c.args.format reader.format c.args.layout reader.layout c.args.generation reader.generation p0 p0 of.0 of.1 of.2 refl c.in_ok-here.here (c.in_ok-here.ensures.remains h))

pub returns-in_err-behind-clause-err : goal.returns-in_err-behind-clause-err
returns-in_err-behind-clause-err g c =
    let reader = c.new-reader.result in
    let of = c.new-reader.ensures.of in
    let stays = c.replay_all.ensures.of in
    let next = c.in-Some.next in
    let some = c.in-Some.ensures.some in
    let p0 = g.D.Disk.past c.args.disk.now in
    let p1 = g.D.Disk.past c.replay_all.new.disk in
    let e = c.in_err-behind.field-0.0 in
    err_same _ c.from_residual-in_err-behind.result e c.from_residual-in_err-behind.ensures.1
    (or_more (λ fails h.
    let first = replays_at c.args.format reader.format c.args.layout reader.layout c.args.generation reader.generation p0 p0 of.0 of.1 of.2 refl (size_in c.args.engine.now) (state_in c.args.engine.now) (state_in c.replay_all.new.engine)
    (c.in_ok-here.ensures.ok h) in
    second_fails c.args.format c.args.layout c.args.generation (seen p0) (sym of.0 ∙ sym stays.0 ∙ some.0) (size_in c.args.engine.now) (state_in c.args.engine.now) (state_in c.replay_all.new.engine) e first
    (placed_at Two next.format c.args.layout next.layout (c.args.generation + 1) next.generation p0 p1 some.1 (some.2 ∙ stays.1 ∙ of.1) (some.3 ∙ ap (λ (n : ℕ). n + 1) (stays.2 ∙ of.2)) (c.replay_all.ensures.past h) e
    (fails (c.replay_all.ensures.honest ∙ h))))
    c.in_err-behind.ensures.err)

pub returns-clause-ok : goal.returns-clause-ok
returns-clause-ok g c h =
    let reader = c.new-reader.result in
    let of = c.new-reader.ensures.of in
    let stays = c.replay_all.ensures.of in
    let next = c.in-Some.next in
    let some = c.in-Some.ensures.some in
    let p0 = g.D.Disk.past c.args.disk.now in
    let p1 = g.D.Disk.past c.replay_all.new.disk in
    let s = state_in c.args.engine.now in
    let t = state_in c.replay_all.new.engine in
    let u = state_in c.replay_all-2.new.engine in
    let size = size_in c.args.engine.now in
    replays_both c.args.format c.args.layout c.args.generation (seen p0) (sym of.0 ∙ sym stays.0 ∙ some.0) size s t u
    (replays_at c.args.format reader.format c.args.layout reader.layout c.args.generation reader.generation p0 p0 of.0 of.1 of.2 refl size s t (c.in_ok-here.ensures.ok h))
    (subst (λ (n : ℕ). Replays n (records_of Two c.args.layout (c.args.generation + 1) (seen p0)) t u) c.replay_all.ensures.size
    (replays_at Two next.format c.args.layout next.layout (c.args.generation + 1) next.generation p0 p1 some.1 (some.2 ∙ stays.1 ∙ of.1) (some.3 ∙ ap (λ (n : ℕ). n + 1) (stays.2 ∙ of.2)) (c.replay_all.ensures.past h)
    (size_in c.replay_all.new.engine) t u (c.in_ok-behind.ensures.ok (c.replay_all.ensures.honest ∙ h))))

pub returns-clause-read : goal.returns-clause-read
returns-clause-read g c h =
    let reader = c.new-reader.result in
    let of = c.new-reader.ensures.of in
    let there = c.replay_all.new.reader in
    let stays = c.replay_all.ensures.of in
    let next = c.in-Some.next in
    let some = c.in-Some.ensures.some in
    let behind = c.replay_all-2.new.reader in
    let h1 = c.replay_all.ensures.honest ∙ h in
    let p0 = g.D.Disk.past c.args.disk.now in
    let p1 = g.D.Disk.past c.replay_all.new.disk in
    let on = some.2 ∙ stays.1 ∙ of.1 in
    let later = some.3 ∙ ap (λ (n : ℕ). n + 1) (stays.2 ∙ of.2) in
    let same = c.replay_all.ensures.past h in
    read_both c.args.format c.args.layout c.args.generation (seen p0) (sym of.0 ∙ sym stays.0 ∙ some.0) there.number there.next behind.number behind.next c.in_ok-here.here c.in_ok-behind.behind
    (behind_at c.args.format reader.format c.args.layout reader.layout c.args.generation reader.generation p0 p0 of.0 of.1 of.2 refl there.number there.next (c.in_ok-here.ensures.all h))
    (remain_there c.args.format reader.format c.args.layout reader.layout c.args.generation reader.generation p0 p0 of.0 of.1 of.2 refl c.in_ok-here.here (c.in_ok-here.ensures.remains h))
    (behind_at Two next.format c.args.layout next.layout (c.args.generation + 1) next.generation p0 p1 some.1 on later same behind.number behind.next (c.in_ok-behind.ensures.all h1))
    (remain_there Two next.format c.args.layout next.layout (c.args.generation + 1) next.generation p0 p1 some.1 on later same c.in_ok-behind.behind (c.in_ok-behind.ensures.remains h1))
