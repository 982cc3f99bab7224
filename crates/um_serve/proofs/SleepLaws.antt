-- Which deadline is slept for, and the facts of a turn that leaves the clock.
use Rattle.std.proofs.Common.{◌≡◌, ◌⊎◌, ◌∙◌, ◌<◌, ◌≤◌, ◌-◌, ◌++◌, ◌∷◌, [], ℕ, List, Bool, true, false, Option, Some, None, Result, Ok, Err, refl, sym, ap, subst, inl, inr, arith, max, nat_lt, flat_map, cond, true≢false}
use Rattle.std.proofs.lemmas.Bool.Decides.{nat_tests}
use Rattle.std.proofs.lemmas.Option.{same_Some}
use Rattle.um_fates.specs.Fates.{inputs_of_tale, inputs_of_end, inputs_told, is_unexecuted, happens_at, tick_at, unexecuted}
use Rattle.um_keeper.specs.Answering.{Answer, Answered, AreAnswered, accepted, refused, turned_away, all_answered, and_next}
use Rattle.um_manager.specs.Connections.{inputs_asked, inputs_of_asked}
use Rattle.um_manager.specs.Places.{Place}
use Rattle.um_manager.specs.Turns.{Now, Turned, Answers, each, fell, reopen, firsts}
use Rattle.um_manager.specs.declared.pieces.Piece.{Piece}
use Rattle.um_model.specs.Children.{Tale}
use Rattle.um_model.specs.Machine.{State, Input, Step}
use Rattle.um_model.specs.Machine as machine
use Rattle.um_model.specs.Service.{Action, state_of_unit}
use Rattle.um_model.specs.declared.children.Fate.{Fate}
use Rattle.um_model.specs.declared.children.Fate.TheVariants as fate
use Rattle.um_model.specs.declared.service.End.{End}
use Rattle.um_proto.specs.declared.request.Asked.{Asked}
use Rattle.um_proto.specs.declared.request.Asked.TheVariants as asked
use Rattle.um_proto.specs.declared.request.Request.{Request}
use Rattle.um_serve.specs.Sleep.{has_changed, slept, IsSleptFor}
use Rattle.um_wire.specs.declared.refusal.Refusal.{Refusal}

none_some : {X : Type 0} {x : X} → None ≡ Some x → ⊥
none_some e = cc

-- ---- which deadline is slept for

pub past_turn : (s : State) (turned deadline : ℕ) (next : Option ℕ) → IsSleptFor s turned next → next ≡ Some deadline → turned < deadline
past_turn s turned deadline None for is = absurd (none_some is)
past_turn s turned deadline (Some d) for is = subst (λ n. turned < n) (same_Some d deadline is) for.past

pub up_to : (s : State) (turned deadline wait now : ℕ) (is_live : Bool) (next : Option ℕ) (unit : List ℕ) → IsSleptFor s turned next
    → (state_of_unit s.units unit).deadline ≡ Some deadline → turned < deadline → slept wait is_live now next ≤ deadline - now
up_to s turned deadline wait now is_live None unit for is past = let low = for unit deadline is in absurd (omega (arith, low, past))
up_to s turned deadline wait now true (Some d) unit for is past = let low = for.least unit deadline is past in omega (arith, low)
up_to s turned deadline wait now false (Some d) unit for is past = let low = for.least unit deadline is past in omega (arith, low)

-- ---- the inputs of a turn are all of its moment

abbrev AllAt : ℕ → List Input → Type 0
AllAt m [] = Unit {0}
AllAt m (i ∷ is) = (i.moment ≡ m) × AllAt m is

both_at : (m : ℕ) (is js : List Input) → AllAt m is → AllAt m js → AllAt m (is ++ js)
both_at m [] js p q = q
both_at m (i ∷ is) js p q = (p.0, both_at m is js p.1 q)

each_at : {X : Type 0} (m : ℕ) (f : X → List Input) (xs : List X) → ((x : X) → AllAt m (f x)) → AllAt m (flat_map f xs)
each_at m f [] p = tt
each_at m f (x ∷ xs) p = both_at m (f x) (flat_map f xs) (p x) (each_at m f xs p)

end_at : (m number : ℕ) (end : End) (b : Bool) → is_unexecuted end ≡ b → AllAt m (inputs_of_end m number end)
end_at m number end true is = subst (λ b. AllAt m (cond b (happens_at m (machine.ProcessEnded number end) ∷ []) (happens_at m (machine.ProcessExecuted number) ∷ happens_at m (machine.ProcessEnded number end) ∷ []))) (sym is) (refl, tt)
end_at m number end false is = subst (λ b. AllAt m (cond b (happens_at m (machine.ProcessEnded number end) ∷ []) (happens_at m (machine.ProcessExecuted number) ∷ happens_at m (machine.ProcessEnded number end) ∷ []))) (sym is) (refl, (refl, tt))

told_at : (m number : ℕ) (told : Option Fate) → AllAt m (inputs_told unexecuted m number told)
told_at m number None = tt
told_at m number (Some fate.Starting) = tt
told_at m number (Some fate.Executed) = (refl, tt)
told_at m number (Some (fate.Ended end)) = end_at m number end (is_unexecuted end) refl
told_at m number (Some fate.Absent) = (refl, tt)

asked_at : (m : ℕ) (request : Option (Result Request Refusal)) → AllAt m (inputs_asked m request)
asked_at m None = tt
asked_at m (Some (Err e)) = tt
asked_at m (Some (Ok request)) = of_asked request.asked
  where
    of_asked : (what : Asked) → AllAt m (inputs_of_asked m what)
    of_asked (asked.Event event) = (refl, tt)
    of_asked (asked.Query query) = tt
    of_asked asked.Actions = tt

offered_at : (m : ℕ) (told : List Tale) (requests : List (Option (Result Request Refusal))) → AllAt m (firsts m told ++ flat_map (inputs_asked m) requests)
offered_at m told requests =
    both_at m (firsts m told) (flat_map (inputs_asked m) requests)
    (both_at m (flat_map (inputs_of_tale unexecuted m) told) (tick_at m ∷ []) (each_at m (inputs_of_tale unexecuted m) told (λ tale. told_at m tale.number tale.told)) (refl, tt))
    (each_at m (inputs_asked m) requests (asked_at m))

-- ---- the clock over the inputs of one moment

stepped : {size m : ℕ} {s t : State} {input : Input} {reply : machine.Reply} {actions : List Action} → input.moment ≡ m → Step size s input reply actions t
    → (t ≡ s) ⊎ (t.clock ≡ max s.clock m)
stepped at (machine.refused r) = inl refl
stepped at (machine.crowded_out takes heavy) = inl refl
stepped at (machine.idle none) = inl refl
stepped {s = s} at (machine.taken takes has) = inr (ap (λ n. max s.clock n) at)

one : {size m : ℕ} {s t : State} {input : Input} {answer : Answer} → input.moment ≡ m → Answered size s input answer t → (t ≡ s) ⊎ (t.clock ≡ max s.clock m)
one at (accepted step told) = stepped at step
one at (refused of_store away step) = inl refl
one at (turned_away away) = inl refl

-- once it stands at the moment it stays there
stays : {size m : ℕ} {s t : State} {inputs : List Input} {answers : List Answer} → AllAt m inputs → AreAnswered size s inputs answers t → s.clock ≡ m → t.clock ≡ m
stays at all_answered is = is
stays {m = m} {s = s} at (and_next {t = v} first more) is = stays at.1 more (by (one at.0 first))
  where
    by : (v ≡ s) ⊎ (v.clock ≡ max s.clock m) → v.clock ≡ m
    by (inl same) = ap (λ x. x.clock) same ∙ is
    by (inr to) = omega (arith, to, is)

moved : {size m : ℕ} {s t : State} {inputs : List Input} {answers : List Answer} → AllAt m inputs → s.clock < m → AreAnswered size s inputs answers t → (t ≡ s) ⊎ (t.clock ≡ m)
moved at low all_answered = inl refl
moved {m = m} {s = s} {t = t} at low (and_next {t = v} first more) =
    by (one at.0 first) (λ e. moved at.1 (subst (λ (x : State). x.clock < m) (sym e) low) more)
  where
    same : v ≡ s → (t ≡ v) ⊎ (t.clock ≡ m) → (t ≡ s) ⊎ (t.clock ≡ m)
    same e (inl f) = inl (f ∙ e)
    same e (inr to) = inr to

    by : (v ≡ s) ⊎ (v.clock ≡ max s.clock m) → (v ≡ s → (t ≡ v) ⊎ (t.clock ≡ m)) → (t ≡ s) ⊎ (t.clock ≡ m)
    by (inl e) rest = same e (rest e)
    by (inr to) rest = inr (stays at.1 more (omega (arith, to, low)))

unchanged : (m : ℕ) (s t : State) → s.clock < m → has_changed s t ≡ false → (t ≡ s) ⊎ (t.clock ≡ m) → t ≡ s
unchanged m s t low still (inl same) = same
unchanged m s t low still (inr to) = let rises : nat_lt s.clock t.clock ≡ true = grind (arith, nat_tests) in absurd (true≢false (sym rises ∙ still))

answered : (place : Place) (m : ℕ) (s t : State) (inputs : List Input) (answers : List Answer) → AllAt m inputs → s.clock < m → has_changed s t ≡ false
    → Answers place s inputs answers t → t ≡ s
answered place m s t inputs answers at low still (each are) = unchanged m s t low still (moved at low are)
answered place m s t inputs answers at low still (fell back) = back.state
answered place m s t inputs answers at low still (reopen lost are same) = same

pub nothing_changed : (place : Place) (h w : Bool) (result : Result Unit Refusal) (moment : ℕ) (pieces : List Piece) (a b : Now) → Turned place h w result moment pieces a b
    → a.state.clock < moment → has_changed a.state b.state ≡ false → b.state ≡ a.state
nothing_changed place h w result moment pieces a b turned low still =
    answered place moment a.state b.state _ turned.answers (offered_at moment turned.told turned.requests) low still turned.answered
