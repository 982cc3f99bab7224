-- The start limit: a refused start leaves the window as it was.
use Rattle.std.proofs.Common.{◌≡◌, ℕ, ◌+◌, Bool, true, false, true≢false, cond, Option, Some, None, nat_lt, refl}
use Rattle.um_model.specs.declared.limit.Counted.{Counted}
use Rattle.um_model.specs.Limit.{is_unlimited, is_over, counted}

Keeps : Option Counted → Bool × Option Counted → Type 0
Keeps window answer = answer.0 ≡ false → answer.1 ≡ window

keeps_begun : (unlimited : Bool) (t : ℕ) → Keeps None (cond unlimited (true, None) (true, Some (record { began = t; count = 1 })))
unfolding Keeps
keeps_begun true t refused = refl
keeps_begun false t refused = absurd (true≢false refused)

keeps_counted : (unlimited over room : Bool) (t : ℕ) (w : Counted)
    → Keeps (Some w) (cond unlimited (true, Some w) (cond over (true, Some (record { began = t; count = 1 })) (cond room (true, Some (record w { count = w.count + 1 })) (false, Some w))))
unfolding Keeps
keeps_counted true over room t w refused = refl
keeps_counted false true room t w refused = absurd (true≢false refused)
keeps_counted false false true t w refused = absurd (true≢false refused)
keeps_counted false false false t w refused = refl

pub refused_keeps : (interval : Option ℕ) (burst t : ℕ) (window : Option Counted) → (counted interval burst t window).0 ≡ false → (counted interval burst t window).1 ≡ window
unfolding Keeps
refused_keeps interval burst t None = keeps_begun (is_unlimited interval burst) t
refused_keeps interval burst t (Some w) = keeps_counted (is_unlimited interval burst) (is_over interval t w.began) (nat_lt w.count burst) t w
