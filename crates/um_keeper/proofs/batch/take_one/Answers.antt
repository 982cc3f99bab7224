use Rattle.std.proofs.Common.{◌≡◌, ◌∙◌, ◌+◌, [], ◌∷◌, ◌++◌, length, Err, inl, refl, sym, ap, subst, arith}
use Rattle.std.proofs.lemmas.Bool.{false≢true}
use Rattle.um_engine.specs.Engine.{standing_in, state_in, size_in}
use Rattle.um_engine.specs.declared.engine.Engine.{Engine}
use Rattle.um_model.specs.Disk.{During}
use Rattle.um_model.specs.InputSpellings.{input_spelling}
use Rattle.um_model.specs.Store.{part_count}
use Rattle.um_state.specs.View.{input_of}
use Rattle.um_keeper.specs.Answering.{Answered, accepted, where_step, record_sectors, state_before_all}
use Rattle.um_keeper.specs.Keeping.{IsBegun}
use Rattle.um_keeper.specs.Underway.{UnderwayIn, IsFreeAt, is_renewing}
use Rattle.um_sector.specs.Unsynced.{sync_count}
use Rattle.um_keeper.specs.declared.ahead.Ahead.{Ahead}
use Rattle.um_keeper.proofs.Batching.{answered_refused, back_append, done_answered}
use Rattle.um_keeper.proofs.Judged.{finish_most, rises_at_most, underway_refused, cause_of, step_on}
use Rattle.um_keeper.proofs.Results.{the_other}
use Rattle.um_keeper.proofs.Spent.{free_at_more}
use Rattle.um_keeper.proofs.Underway.{still_longer, underway_stayed}
use Rattle.um_wire.specs.declared.refusal.Refusal.TheVariants.{Device}
use Rattle.um_keeper.proofs.batch.take_one.Goals as goal

-- ---- one that is known to have no effect

pub returns-then-is_idle-clause-ok : goal.returns-then-is_idle-clause-ok
returns-then-is_idle-clause-ok g c = done_answered c.done.result c.done.ensures.reply c.done.ensures.actions (c.is_idle.ensures.step c.if-is_idle.true)

pub returns-then-is_idle-clause-during : goal.returns-then-is_idle-clause-during
returns-then-is_idle-clause-during g c h s before under = still_longer under (input_of c.args.input.now ∷ [])

pub returns-then-is_idle-clause-under : goal.returns-then-is_idle-clause-under
returns-then-is_idle-clause-under g c h s before under = underway_stayed under (step_on c.requires.held (c.is_idle.ensures.step c.if-is_idle.true) refl)

pub returns-then-is_idle-clause-free : goal.returns-then-is_idle-clause-free
returns-then-is_idle-clause-free g c from free = free_at_more (part_count (length (input_spelling (input_of c.args.input.now)))) free

pub returns-then-is_idle-clause-either : goal.returns-then-is_idle-clause-either
returns-then-is_idle-clause-either g c = inl (c.is_idle.ensures.lacks c.if-is_idle.true)

pub returns-then-is_idle-clause-rises : goal.returns-then-is_idle-clause-rises
returns-then-is_idle-clause-rises g c = inl (refl, refl, omega arith)

-- ---- one that is accepted

pub returns-in-Ok-clause-either : goal.returns-in-Ok-clause-either
returns-in-Ok-clause-either g c = c.in-Ok.ensures.either

pub returns-in-Ok-clause-ok : goal.returns-in-Ok-clause-ok
returns-in-Ok-clause-ok g c = accepted c.in-Ok.ensures.ok c.in-Ok.ensures.accepted

pub returns-in-Ok-clause-back : goal.returns-in-Ok-clause-back
returns-in-Ok-clause-back g c =
    let before = c.args.backs.now.items in
    let after = standing_in c.take_step.new.engine in
    ap (λ l. state_before_all l after) c.keep.ensures.items ∙ back_append before (_ ∷ []) after ∙ ap (state_before_all before) c.in-Ok.ensures.back

pub returns-in-Ok-clause-rises : goal.returns-in-Ok-clause-rises
returns-in-Ok-clause-rises g c = rises_at_most c.args.ahead.now c.take_step.new.ahead c.in-Ok.ensures.rises

pub returns-in-Ok-clause-calls : goal.returns-in-Ok-clause-calls
returns-in-Ok-clause-calls g c = let few = finish_most c.args.ahead.now in omega (arith, c.take_step.ensures.calls, few)

-- ---- one at which the disk failed

pub returns-then-is_fault-clause-fault : goal.returns-then-is_fault-clause-fault
returns-then-is_fault-clause-fault g c = c.take_step.ensures.fault (c.in-Err.is ∙ ap Err (c.is_fault.ensures.0 c.if-is_fault.true))

pub returns-then-is_fault-clause-calls : goal.returns-then-is_fault-clause-calls
returns-then-is_fault-clause-calls g c = let few = finish_most c.args.ahead.now in omega (arith, c.take_step.ensures.calls, few)

-- ---- one that is refused

pub returns-else-is_fault-clause-ok : goal.returns-else-is_fault-clause-ok
returns-else-is_fault-clause-ok g c =
    let first = c.args.engine.now in
    subst (λ (e : Engine). Answered (size_in first) (state_in first) (input_of c.args.input.now) (Err c.in-Err.refusal) (state_in e)) (sym c.in-Err.ensures.state)
    (answered_refused c.in-Err.refusal (λ d. false≢true (sym c.if-is_fault.false ∙ c.is_fault.ensures.1 d)) c.in-Err.ensures.refused)

pub returns-else-is_fault-clause-during : goal.returns-else-is_fault-clause-during
returns-else-is_fault-clause-during g c h s before under =
    let same = the_other (λ d. false≢true (sym c.if-is_fault.false ∙ c.is_fault.ensures.1 d)) c.in-Err.ensures.kept in
    let D = g.D.Disk in
    subst (λ d. During (D.past c.args.disk.now) (D.past d) (IsBegun c.args.ahead.now.log.layout s (before ++ where_step (Err c.in-Err.refusal) (input_of c.args.input.now)))) (sym same.0)
    (still_longer under (where_step (Err c.in-Err.refusal) (input_of c.args.input.now)))

pub returns-else-is_fault-clause-under : goal.returns-else-is_fault-clause-under
returns-else-is_fault-clause-under g c h s before under =
    let D = g.D.Disk in
    let made = c.take_step.new in
    let input = input_of c.args.input.now in
    let l = before ++ where_step (Err c.in-Err.refusal) input in
    let other : ¬ (c.in-Err.refusal ≡ Device) = λ d. false≢true (sym c.if-is_fault.false ∙ c.is_fault.ensures.1 d) in
    let same = the_other other c.in-Err.ensures.kept in
    let cause = cause_of c.args.ahead.now.log.layout c.requires.held.size_is other c.in-Err.ensures.refused in
    subst (λ (e : Engine). UnderwayIn s l (D.past made.disk) made.ahead (state_in e)) (sym c.in-Err.ensures.state)
    (subst (λ (a : Ahead). UnderwayIn s l (D.past made.disk) a (state_in c.args.engine.now)) (sym same.1)
    (subst (λ d. UnderwayIn s l (D.past d) c.args.ahead.now (state_in c.args.engine.now)) (sym same.0) (underway_refused c.in-Err.refusal under cause)))

pub returns-else-is_fault-clause-calls : goal.returns-else-is_fault-clause-calls
returns-else-is_fault-clause-calls g c = let few = finish_most c.args.ahead.now in omega (arith, c.take_step.ensures.calls, few)

pub returns-else-is_fault-clause-free : goal.returns-else-is_fault-clause-free
returns-else-is_fault-clause-free g c from free =
    let same = the_other (λ d. false≢true (sym c.if-is_fault.false ∙ c.is_fault.ensures.1 d)) c.in-Err.ensures.kept in
    let n = record_sectors (input_of c.args.input.now) in
    subst (λ (a : Ahead). IsFreeAt a.log (from + n)) (sym same.1) (free_at_more n free)

pub returns-else-is_fault-clause-fitted : goal.returns-else-is_fault-clause-fitted
returns-else-is_fault-clause-fitted g c fits =
    let same = the_other (λ d. false≢true (sym c.if-is_fault.false ∙ c.is_fault.ensures.1 d)) c.in-Err.ensures.kept in
    let next = ap (λ (a : Ahead). a.log.next) same.1 in
    let calls = ap (λ d. g.D.Disk.calls d) same.0 in
    ((λ h. ap (λ d. sync_count (g.D.Disk.past d)) same.0), omega (arith, next), omega (arith, calls), ap (λ (a : Ahead). a.log.generation) same.1)

pub returns-else-is_fault-clause-rises : goal.returns-else-is_fault-clause-rises
returns-else-is_fault-clause-rises g c =
    let same = the_other (λ d. false≢true (sym c.if-is_fault.false ∙ c.is_fault.ensures.1 d)) c.in-Err.ensures.kept in
    let calls = ap (λ d. g.D.Disk.calls d) same.0 in
    inl (ap (λ (a : Ahead). a.log.generation) same.1, ap (λ (a : Ahead). is_renewing a) same.1, omega (arith, calls))

pub returns-else-is_fault-clause-either : goal.returns-else-is_fault-clause-either
returns-else-is_fault-clause-either g c = inl tt

pub returns-else-is_fault-clause-clean : goal.returns-else-is_fault-clause-clean
returns-else-is_fault-clause-clean g c is =
    let same = the_other (λ d. false≢true (sym c.if-is_fault.false ∙ c.is_fault.ensures.1 d)) c.in-Err.ensures.kept in
    (ap (λ (a : Ahead). a.unsynced) (sym same.1) ∙ is, tt)

pub returns-else-is_fault-clause-unrecorded : goal.returns-else-is_fault-clause-unrecorded
returns-else-is_fault-clause-unrecorded g c none =
    let same = the_other (λ d. false≢true (sym c.if-is_fault.false ∙ c.is_fault.ensures.1 d)) c.in-Err.ensures.kept in
    (same.0, same.1, ap (λ (e : Engine). state_in e) c.in-Err.ensures.state)
