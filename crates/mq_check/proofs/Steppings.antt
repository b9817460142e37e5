-- The steps of a check: a tick, a datagram, and the ticks up to a moment.
use Rattle.mq_check.proofs.Common.{◌≡◌, ℕ, Bool, true, false, not, List, Result, Ok, Err, ap, subst, ◌∙◌, IfOk, None, Family, is_querier, Configuration}
use Rattle.mq_check.proofs.Common.{HandsOver, LinkValue, receipt_of, Outgoing, OutputState, Datagram, all_sent, Checked, Outcome, judged_at, purged_at}
use Rattle.mq_check.proofs.Common.{purged_through, ticked, ticked_through, taken, causes_in, all_changed, purged, told, with_messages, with_s_judged}
use Rattle.mq_check.proofs.Common.{role_after_tick, role_changed, Comes, checked_in, specific_terms, is_set, FindingWriterState, Tells, WantingValue}
use Rattle.mq_check.proofs.Common.{TakesMessage}
use Rattle.mq_link.specs.{declared.answers.Received.Received, Run.HandsOut, Run.answered, Sent.outgoing_of, Tick.Step, Tick.tick_of}
use Rattle.mq_check.specs.{Check.wanted_by, Check.received, Checking.groups_refused, Refused.refused_by}
use Rattle.mq_check.proofs.Tellings.{broken_as, tells_as, then_told, told_broken}
use Rattle.mq_check.proofs.WantedMessages.{after_messages, all_wanted, basis_kept, each_sent}
use Rattle.mq_check.specs.Basis as basis

-- the outlet as it begins to take what a link sends at a moment
abbrev pub begun_at : (now : ℕ) → (by_tick : Bool) → LinkValue → WantingValue → WantingValue
begun_at now by_tick before old = record old { moment = now; by_tick = by_tick; is_returning = not (is_querier before.state.election.role) }

-- the state that a step leaves whose messages were all sent
step_left : (family : Family) (now : ℕ) (before after : LinkValue) (step : Step) (begun new : WantingValue) (messages : List Outgoing) (answers : List Bool)
    → HandsOut before.config step messages answers after.state → HandsOver (TakesMessage family) begun messages answers new
    → after.state ≡ answered (all_sent (outgoing_of before.config step)) step
step_left family now before after step begun new messages answers out handed =
    out.leaves ∙ ap (λ (given : List Bool). answered given step) (each_sent family begun messages answers new handed ∙ ap all_sent out.handed)

-- the queries that a step wants
step_wanted : (family : Family) (now : ℕ) (by_tick : Bool) (before after : LinkValue) (step : Step) (old begun new : WantingValue)
    (messages : List Outgoing) (answers : List Bool) → family ≡ before.config.family → begun ≡ begun_at now by_tick before old
    → HandsOut before.config step messages answers after.state → HandsOver (TakesMessage family) begun messages answers new
    → new.checking ≡ wanted_by before.config now by_tick step (checked_in before old)
step_wanted family now by_tick before after step old begun new messages answers is_family begins out handed =
    let is_returning = not (is_querier before.state.election.role) in
    ap (λ (w : WantingValue). w.checking) (all_wanted family begun messages answers new handed ∙ ap (after_messages family messages) begins)
    ∙ (λ i. with_messages (is_family i) now old.basis.packets by_tick is_returning (out.handed i) old.checking)

pub ticked_is : (family : Family) (within now : ℕ) (before after : LinkValue) (old begun new last : WantingValue) (messages : List Outgoing)
    (answers : List Bool) → family ≡ before.config.family → begun ≡ begun_at now true before old
    → HandsOut before.config (tick_of before.config now before.state) messages answers after.state → HandsOver (TakesMessage family) begun messages answers new
    → last.checking ≡ role_after_tick within now (is_querier before.state.election.role) (is_querier after.state.election.role) new.checking
    → last.basis ≡ basis.role_after_tick now (is_querier before.state.election.role) (is_querier after.state.election.role) new.basis
    → checked_in after last ≡ ticked before.config within now (checked_in before old)
unfolding ticked
ticked_is family within now before after old begun new last messages answers is_family begins out handed role rests =
    let step = tick_of before.config now before.state in
    let left = step_left family now before after step begun new messages answers out handed in
    let wanted = step_wanted family now true before after step old begun new messages answers is_family begins out handed in
    let kept : new.basis ≡ old.basis = basis_kept family begun new messages answers handed ∙ ap (λ (w : WantingValue). w.basis) begins in
    λ i. record {
      link = left i;
      checking = (role ∙ (λ j. role_after_tick within now (is_querier before.state.election.role) (is_querier (left j).election.role) (wanted j))) i;
      basis = (rests ∙ (λ j. basis.role_after_tick now (is_querier before.state.election.role) (is_querier (left j).election.role) (kept j))) i;
    }

pub received_is : (family : Family) (within now : ℕ) (datagram : Datagram) (before after : LinkValue) (old noted begun new last : WantingValue)
    (messages : List Outgoing) (answers : List Bool) → family ≡ before.config.family → noted ≡ record old {
      checking = all_changed now (specific_terms before.config before.state.election.timing old.basis.packets)
          (causes_in before.config.family datagram) old.checking;
    } → begun ≡ begun_at now false before noted
    → HandsOut before.config (receipt_of before.config datagram.envelope datagram.body now before.state).step messages answers after.state →
    HandsOver (TakesMessage family) begun messages answers new
    → last.checking ≡ role_changed within before.config.timing now (is_querier before.state.election.role) (is_querier after.state.election.role) new.checking
    → last.basis ≡ basis.with_other_querier before.config.family after.state.election.role
    (basis.role_changed now (is_querier before.state.election.role) (is_querier after.state.election.role) new.basis)
    → checked_in after last ≡ received before.config within now datagram (checked_in before old)
unfolding received
received_is family within now datagram before after old noted begun new last messages answers is_family notes begins out handed role rests =
    let step = (receipt_of before.config datagram.envelope datagram.body now before.state).step in
    let left = step_left family now before after step begun new messages answers out handed in
    let wanted = step_wanted family now false before after step noted begun new messages answers is_family begins out handed ∙
    ap (λ (w : WantingValue). wanted_by before.config now false step (checked_in before w)) notes in
    let kept : new.basis ≡ old.basis = basis_kept family begun new messages answers handed ∙ ap (λ (w : WantingValue). w.basis) begins ∙
    ap (λ (w : WantingValue). w.basis) notes in
    λ i. record {
      link = left i;
      checking = (role ∙ (λ j. role_changed within before.config.timing now (is_querier before.state.election.role)
          (is_querier (left j).election.role) (wanted j))) i;
      basis = (rests ∙ (λ j. basis.with_other_querier before.config.family (left j).election.role
          (basis.role_changed now (is_querier before.state.election.role) (is_querier (left j).election.role) (kept j)))) i;
    }

-- at a moment that the code names otherwise
pub received_at : (config : Configuration) (within m n : ℕ) (datagram : Datagram) (r s : Checked) → m ≡ n → s ≡ received config within m datagram r →
    s ≡ received config within n datagram r
received_at config within m n datagram r s same is = is ∙ ap (λ (k : ℕ). received config within k datagram r) same

-- the answer of the link was handled
pub taken_is : (family : Family) (within now : ℕ) (datagram : Datagram) (answer : Received) (before after : LinkValue) (old mid new : WantingValue)
    → family ≡ before.config.family → checked_in after mid ≡ received before.config within now datagram (checked_in before old)
    → answer ≡ (receipt_of before.config datagram.envelope datagram.body now before.state).answer
    → new ≡ record mid { checking = groups_refused (refused_by family answer datagram) mid.checking }
    → checked_in after new ≡ taken before.config within now datagram (checked_in before old)
unfolding taken
taken_is family within now datagram answer before after old mid new is_family receives answers refuses =
    ap (checked_in after) refuses
    ∙ (λ i. record (receives i) { checking = groups_refused (refused_by (is_family i) (answers i) datagram) (receives i).checking })

-- an outcome that is named otherwise
pub comes_as : {T E : Type 0} (family : Family) (o p : Outcome) (before after : LinkValue) (new : WantingValue) (old_told new_told : FindingWriterState)
    (a b : OutputState) (r : Result T E) → o ≡ p
    → Comes family o before after new old_told new_told a b r → Comes family p before after new old_told new_told a b r
comes_as {T} {E} family o p before after new old_told new_told a b r same comes =
    subst (λ (q : Outcome). Comes {T = T} {E = E} family q before after new old_told new_told a b r) same comes

-- the ticks up to a moment, and what is over then; or a write failed before
purged_there : {T E : Type 0} (config : Configuration) (within within' moment : ℕ) (r : Checked) (after : LinkValue) (queries judged new : WantingValue)
    (outcome : Result T E) → within' ≡ within → checked_in after queries ≡ (ticked_through config within moment r).checked
    → judged ≡ record queries { checking = with_s_judged within' None (is_set after.state.groups) queries.checking }
    → IfOk outcome (λ _. new.checking ≡ purged moment judged.checking) → new.basis ≡ judged.basis
    → IfOk outcome (λ _. checked_in after new ≡ (purged_through config within moment r).checked)
purged_there config within within' moment r after queries judged new (Ok x) same is judges purges kept =
    (λ i. record { link = after.state; checking = purges i; basis = kept i }) ∙ ap (λ (w : WantingValue). purged_at moment (checked_in after w)) judges
    ∙ (λ i. purged_at moment (judged_at (same i) None (is i)))
purged_there config within within' moment r after queries judged new (Err e) same is judges purges kept = tt

pub purges_at : {T E E' : Type 0} (family : Family) (within within' m end : ℕ) (before after : LinkValue) (old queries judged new : WantingValue)
    (first mid last : FindingWriterState) (x y z : OutputState) (outcome : Result T E) → within' ≡ within → m ≡ end
    → Comes {T = Unit} {E = E'} family (ticked_through before.config within m (checked_in before old)) before after queries first mid x y (Ok tt)
    → judged ≡ record queries { checking = with_s_judged within' None (is_set after.state.groups) queries.checking }
    → IfOk outcome (λ _. new.checking ≡ purged m judged.checking) → new.basis ≡ judged.basis →
    Tells family (told within' m judged.checking) mid last y z outcome
    → Comes family (purged_through before.config within end (checked_in before old)) before after new first last x z outcome
purges_at {T} {E} family within within' m end before after old queries judged new first mid last x y z outcome same is_end comes judges purges kept
    tells =
    let found : told within' m judged.checking
    ≡ told within m (judged_at within None (ticked_through before.config within m (checked_in before old)).checked).checking =
    ap (λ (w : WantingValue). told within' m w.checking) judges ∙ (λ i. told (same i) m (judged_at (same i) None (comes.checked i)).checking) in
    let there : Comes {T = T} {E = E} family (purged_through before.config within m (checked_in before old)) before after new first last x z outcome = record {
      same_config = comes.same_config;
      checked = purged_there before.config within within' m (checked_in before old) after queries judged new outcome same comes.checked judges purges kept;
      tells = then_told family _ _ first mid last x y z tt outcome comes.tells (tells_as family _ _ mid last y z outcome found tells);
    } in
    comes_as family _ _ before after new first last x z outcome (ap (λ (k : ℕ). purged_through before.config within k (checked_in before old)) is_end) there

pub purges_broken : {S T E E' : Type 0} (family : Family) (within m end : ℕ) (before after : LinkValue) (old new : WantingValue)
    (first last : FindingWriterState) (x y : OutputState) (e : E') (e' : E) → m ≡ end
    → Comes {T = S} family (ticked_through before.config within m (checked_in before old)) before after new first last x y (Err e)
    → Comes {T = T} family (purged_through before.config within end (checked_in before old)) before after new first last x y (Err e')
purges_broken {S} {T} family within m end before after old new first last x y e e' is_end comes =
    let there : Comes {T = T} family (purged_through before.config within m (checked_in before old)) before after new first last x y (Err e') = record {
      same_config = comes.same_config;
      checked = tt;
      tells = broken_as {S = S} family _ first last x y e e' (told_broken {T = S} family _ _ first last x y e comes.tells);
    } in
    comes_as family _ _ before after new first last x y (Err e') (ap (λ (k : ℕ). purged_through before.config within k (checked_in before old)) is_end) there
