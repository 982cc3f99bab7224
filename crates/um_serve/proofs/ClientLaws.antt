-- One client over rounds.
use Rattle.std.proofs.Common.{◌≡◌, ◌≢◌, ◌<◌, ◌≤◌, ◌++◌, ◌∷◌, ◌∙◌, ℕ, zero, suc, List, [], Bool, true, false, Option, Some, None, Ok, IsTrue, refl, ap, sym, subst, append_assoc, append-nil, slice_get, arith, inl, inr, true≢false, if◌then◌else◌}
use Rattle.std.proofs.lemmas.Bool.{cases_lt, eq-eqb, ne_eqb}
use Rattle.std.proofs.lemmas.List.Concat.{flat_map-append}
use Rattle.um_backlog.specs.Backlog.{Waits, given_up, is_given_up, writes, drops, HandsWhere}
use Rattle.um_gate.specs.Events.{Event, wrote}
use Rattle.um_manager.specs.Places.{Place}
use Rattle.um_manager.specs.declared.pieces.Piece.{Piece}
use Rattle.um_manager.specs.declared.pieces.Piece.TheVariants.{Nothing, Bytes, Closed}
use Rattle.um_model.specs.Sessions.{Session}
use Rattle.um_serve.specs.Clients.{output_in, taken_in, taken_of}
use Rattle.um_serve.specs.Rounds.{after_piece, Forgets, SaysTo, SaysBelow}

taken_join : (k : ℕ) (xs ys : List Event) → taken_of k (xs ++ ys) ≡ taken_of k xs ++ taken_of k ys
taken_join k xs ys = flat_map-append (taken_in k) xs ys

-- ---- a client's part of the output for it alone, or of more

pub record Story (old new : Waits) (taken out : List ℕ) : Type 0 where
  pub rest : List ℕ
  pub all : taken ++ rest ≡ old.bytes ++ out
  pub waits : new.is_over ≡ false → new.bytes ≡ rest
  pub over : old.is_over ≡ true → (taken ≡ []) × (new.is_over ≡ true)

pub story_none : (w : Waits) → Story w w [] []
story_none w = record { rest = w.bytes; all = sym (append-nil w.bytes); waits = λ e. refl; over = λ e. (refl, e) }

-- where the client was given up in between
story_over : (u v w : Waits) (xs ys out more : List ℕ) → v.is_over ≡ true → Story u v xs out → Story v w ys more → Story u w (xs ++ ys) (out ++ more)
story_over u v w xs ys out more over p q =
    let none = q.over over in
    record {
      rest = p.rest ++ more;
      all = ap (λ l. (xs ++ l) ++ (p.rest ++ more)) none.0 ∙ ap (λ l. l ++ (p.rest ++ more)) (append-nil xs) ∙ sym (append_assoc xs p.rest more) ∙ ap (λ l. l ++ more) p.all
          ∙ append_assoc u.bytes out more;
      waits = λ e. absurd (true≢false (sym none.1 ∙ e));
      over = λ e. (ap (λ l. l ++ ys) (p.over e).0 ∙ none.0, none.1);
    }

-- where it wasn't
story_on : (u v w : Waits) (xs ys out more : List ℕ) → v.is_over ≡ false → Story u v xs out → Story v w ys more → Story u w (xs ++ ys) (out ++ more)
story_on u v w xs ys out more on p q = record {
  rest = q.rest;
  all = append_assoc xs ys q.rest ∙ ap (λ l. xs ++ l) (q.all ∙ ap (λ l. l ++ more) (p.waits on)) ∙ sym (append_assoc xs p.rest more) ∙ ap (λ l. l ++ more) p.all
      ∙ append_assoc u.bytes out more;
  waits = q.waits;
  over = λ e. absurd (true≢false (sym (p.over e).1 ∙ on));
}

pub story_either : (b : Bool) (u v w : Waits) (xs ys out more : List ℕ) → v.is_over ≡ b → Story u v xs out → Story v w ys more → Story u w (xs ++ ys) (out ++ more)
story_either true u v w xs ys out more is p q = story_over u v w xs ys out more is p q
story_either false u v w xs ys out more is p q = story_on u v w xs ys out more is p q

-- ---- the gate's events of one client

wrote_own : (k : ℕ) (offered taken : List ℕ) → taken_in k (wrote k offered taken) ≡ taken
wrote_own k offered taken = ap (λ (b : Bool). if b then taken else []) (eq-eqb k k refl)

wrote_other : (k n : ℕ) (offered taken : List ℕ) → k ≢ n → taken_in k (wrote n offered taken) ≡ []
wrote_other k n offered taken other = ap (λ (b : Bool). if b then taken else []) (ne_eqb n k (λ e. other (sym e)))

pub nothing_taken : (taken left : List ℕ) → taken ++ left ≡ [] → taken ≡ []
nothing_taken [] left e = refl
nothing_taken (b ∷ bs) left e = cc

drops_nothing : (k n : ℕ) (b : Bool) → taken_of k (drops n b) ≡ []
drops_nothing k n true = refl
drops_nothing k n false = refl

writes_own : (k : ℕ) (all taken left : List ℕ) → taken ++ left ≡ all → taken_of k (writes k all taken) ≡ taken
writes_own k [] taken left e = sym (nothing_taken taken left e)
writes_own k (b ∷ bs) taken left e = append-nil (taken_in k (wrote k (b ∷ bs) taken)) ∙ wrote_own k (b ∷ bs) taken

writes_other : (k n : ℕ) (all taken : List ℕ) → k ≢ n → taken_of k (writes n all taken) ≡ []
writes_other k n [] taken other = refl
writes_other k n (b ∷ bs) taken other = append-nil (taken_in k (wrote n (b ∷ bs) taken)) ∙ wrote_other k n (b ∷ bs) taken other

left_waits : (is_last b : Bool) (left : List ℕ) (new : Waits) → new ≡ (if b then given_up else record { bytes = left; is_last = is_last; is_over = false })
    → new.is_over ≡ false → new.bytes ≡ left
left_waits is_last true left new is stays = absurd (true≢false (sym (ap (λ w. w.is_over) is) ∙ stays))
left_waits is_last false left new is stays = ap (λ w. w.bytes) is

-- its own part
own_where : (b : Bool) (k : ℕ) (old : Waits) (bytes : List ℕ) (is_last : Bool) (said : List Event) (new : Waits) → old.is_over ≡ b
    → HandsWhere b k old bytes is_last said new → Story old new (taken_of k said) bytes
own_where true k old bytes is_last said new is hands = record {
  rest = old.bytes ++ bytes;
  all = ap (λ es. taken_of k es ++ (old.bytes ++ bytes)) hands.0;
  waits = λ e. absurd (true≢false (sym is ∙ ap (λ w. w.is_over) (sym hands.1) ∙ e));
  over = λ e. (ap (taken_of k) hands.0, ap (λ w. w.is_over) hands.1 ∙ is);
}
own_where false k old bytes is_last said new is (inl out) =
    let took : taken_of k said ≡ out.taken =
    ap (taken_of k) out.events_are ∙ taken_join k (writes k (old.bytes ++ bytes) out.taken) (drops k (is_given_up is_last out.left))
    ∙ ap (λ l. taken_of k (writes k (old.bytes ++ bytes) out.taken) ++ l) (drops_nothing k k (is_given_up is_last out.left))
    ∙ append-nil (taken_of k (writes k (old.bytes ++ bytes) out.taken)) ∙ writes_own k (old.bytes ++ bytes) out.taken out.left out.all in
    record {
      rest = out.left;
      all = ap (λ l. l ++ out.left) took ∙ out.all;
      waits = left_waits is_last (is_given_up is_last out.left) out.left new out.new_is;
      over = λ e. absurd (true≢false (sym e ∙ is));
    }
own_where false k old bytes is_last said new is (inr lost) = record {
  rest = old.bytes ++ bytes;
  all = ap (λ es. taken_of k es ++ (old.bytes ++ bytes)) lost.events_are;
  waits = λ e. absurd (true≢false (sym (ap (λ w. w.is_over) lost.new_is) ∙ e));
  over = λ e. absurd (true≢false (sym e ∙ is));
}

-- that of another client
other_where : (b : Bool) (k n : ℕ) (old : Waits) (bytes : List ℕ) (is_last : Bool) (said : List Event) (new : Waits) → k ≢ n
    → HandsWhere b n old bytes is_last said new → taken_of k said ≡ []
other_where true k n old bytes is_last said new other hands = ap (taken_of k) hands.0
other_where false k n old bytes is_last said new other (inl out) =
    ap (taken_of k) out.events_are ∙ taken_join k (writes n (old.bytes ++ bytes) out.taken) (drops n (is_given_up is_last out.left))
    ∙ ap (λ l. taken_of k (writes n (old.bytes ++ bytes) out.taken) ++ l) (drops_nothing k n (is_given_up is_last out.left))
    ∙ append-nil (taken_of k (writes n (old.bytes ++ bytes) out.taken)) ∙ writes_other k n (old.bytes ++ bytes) out.taken other
other_where false k n old bytes is_last said new other (inr lost) = ap (taken_of k) lost.events_are

other_to : (k n : ℕ) (t : Option Session) (old new : Option Waits) (said : List Event) → k ≢ n → SaysTo n t old said new → taken_of k said ≡ []
other_to k n None old new said other says = absurd says
other_to k n (Some t) None None said other says = ap (taken_of k) says
other_to k n (Some t) None (Some v) said other says = absurd says
other_to k n (Some t) (Some w) None said other says = absurd says
other_to k n (Some t) (Some w) (Some v) said other says = other_where w.is_over k n w t.output t.failed said v other says

own_to : (k : ℕ) (t : Option Session) (w : Waits) (new : Option Waits) (said : List Event) → SaysTo k t (Some w) said new
    → (v : Waits) × (new ≡ Some v) × Story w v (taken_of k said) (output_in t)
own_to k None w new said says = absurd says
own_to k (Some t) w None said says = absurd says
own_to k (Some t) w (Some v) said says = (v, refl, own_where w.is_over k w t.output t.failed said v refl says)

-- ---- the writes of a round

above : (n k : ℕ) (ts : List Session) (old : List Waits) (said : List Event) (new : List Waits) → n ≤ k → SaysBelow n ts old said new → taken_of k said ≡ []
unfolding SaysBelow
above zero k ts old said new ge says = ap (taken_of k) says
above (suc n) k ts old said new ge says =
    ap (taken_of k) says.4 ∙ taken_join k says.0 says.1 ∙ ap (λ l. l ++ taken_of k says.1) (above n k ts old says.0 new (omega (arith, ge)) says.2)
    ∙ other_to k n (slice_get ts n) (slice_get old n) (slice_get new n) says.1 (λ e. omega (arith, ge, e)) says.3

pub own_below : (n k : ℕ) (ts : List Session) (old : List Waits) (said : List Event) (new : List Waits) (w : Waits) → k < n → slice_get old k ≡ Some w → SaysBelow n ts old said new
    → (v : Waits) × (slice_get new k ≡ Some v) × Story w v (taken_of k said) (output_in (slice_get ts k))
unfolding SaysBelow
own_below zero k ts old said new w lt at says = absurd (omega (arith, lt))
own_below (suc n) k ts old said new w lt at says =
    let before = taken_of k says.0 in
    let here = taken_of k says.1 in
    let joined : taken_of k said ≡ before ++ here = ap (taken_of k) says.4 ∙ taken_join k says.0 says.1 in
    elim (cases_lt k n) [
      | inl below ↦
          (let r = own_below n k ts old says.0 new w below at says.2 in
          let none = other_to k n (slice_get ts n) (slice_get old n) (slice_get new n) says.1 (λ e. omega (arith, below, e)) says.3 in
          (r.0, r.1, subst (λ l. Story w r.0 l (output_in (slice_get ts k))) (sym (joined ∙ ap (λ l. before ++ l) none ∙ append-nil before)) r.2))
      | inr ge ↦
          (let eq : n ≡ k = omega (arith, lt, ge) in
          let to = subst (λ (i : ℕ). SaysTo i (slice_get ts i) (slice_get old i) says.1 (slice_get new i)) eq says.3 in
          let r = own_to k (slice_get ts k) w (slice_get new k) says.1 (subst (λ (o : Option Waits). SaysTo k (slice_get ts k) o says.1 (slice_get new k)) at to) in
          (r.0, r.1, subst (λ l. Story w r.0 l (output_in (slice_get ts k))) (sym (joined ∙ ap (λ l. l ++ here) (above n k ts old says.0 new ge says.2))) r.2))
    ]

-- ---- the reads of a round

kept_at : (p : Option Piece) (w : Option Waits) → p ≢ Some Closed → after_piece p w ≡ w
kept_at None w stays = refl
kept_at (Some Nothing) w stays = refl
kept_at (Some (Bytes bytes)) w stays = refl
kept_at (Some Closed) w stays = absurd (stays refl)

pub kept : (k : ℕ) (pieces : List Piece) (old new : List Waits) → slice_get pieces k ≢ Some Closed → Forgets pieces old new → slice_get new k ≡ slice_get old k
kept k pieces old new stays forgets = forgets k ∙ kept_at (slice_get pieces k) (slice_get old k) stays
