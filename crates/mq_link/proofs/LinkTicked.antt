-- A router after a tick.
use Rattle.mq_link.proofs.Common.{◌≡◌, ℕ, Bool, max, ◌++◌, sym, ap, ◌∙◌, subst, Family, AreInRange, ticked, general_messages, Sends, Sender, HasTicked, Setting}
use Rattle.mq_link.proofs.Common.{HasStep, RouterValue, link_of, state_of, TakesQuery, begun, Outgoing, AreSound, LinkState, groups_expired, queries_due}
use Rattle.mq_link.proofs.Common.{groups_after_round, tick_at, tick_of}
use Rattle.mq_link.proofs.{AllFits.fits-tick_of, HandedOut.is_handed, HandedOut.with_answers, LinkStored.well_formed_at, Receipts.sound_in}
use Rattle.mq_link.proofs.{Ticked.IsWellFormed-tick_at}

-- the state after the work of a moment, and the queries that the sender has taken
pub record HasDone {F O K E : Type 0} (takes : O → Outgoing → Bool → O → Type 0) (family : Family) (moment : ℕ) (before after : RouterValue)
    (old new : Sender F O K E) : Type 0 where
  pub status_is : after.at ≡ record before.at { election = ticked before.at.config.timing moment before.at.election; now = moment }
  pub groups_are : after.groups ≡ groups_after_round (ticked before.at.config.timing moment before.at.election).timing moment
      (groups_expired moment before.groups)
  pub counters_are : after.counters ≡ before.counters
  pub sent : Sends (TakesQuery takes family) (begun before.at.config (ticked before.at.config.timing moment before.at.election).timing old)
      (general_messages before.at.config.timing moment before.at.election ++
      queries_due family (ticked before.at.config.timing moment before.at.election).timing moment (groups_expired moment before.groups)) new

module _ {F O K E : Type 0} (takes : O → Outgoing → Bool → O → Type 0) (family : Family) (now moment : ℕ) (before after : RouterValue)
    (old new : Sender F O K E) (is_family : before.at.config.family ≡ family) (is_moment : moment ≡ max before.at.now now)
    (done : HasDone takes family moment before after old new) where
  -- it is the tick of that moment
  pub does_tick : (let step = tick_of before.at.config now (state_of before) in
      HasStep (TakesQuery takes family) step before after (begun before.at.config step.timing old) new)
  does_tick =
      let config = before.at.config in
      let in_force = (ticked config.timing moment before.at.election).timing in
      subst (λ m. let step = tick_at config m (state_of before) in
      HasStep (TakesQuery takes family) step before after (begun config step.timing old) new) is_moment (record {
        leaves = record {
          config = ap (λ (s : Setting). s.config) done.status_is;
          state_is = λ i. record {
            groups = done.groups_are i;
            election = (done.status_is i).election;
            last = (done.status_is i).now;
            counters =
                done.counters_are i;
          };
        };
        sent = subst (λ f. Sends (TakesQuery takes family) (begun config in_force old)
            (general_messages config.timing moment before.at.election ++ queries_due f in_force moment (groups_expired moment before.groups)) new)
            (sym is_family) done.sent;
      })

  -- the groups are sound still
  pub sound_after_tick : AreInRange before.at.config.timing → AreInRange before.at.election.timing → AreSound before.at before.groups →
      AreSound after.at after.groups
  sound_after_tick own in_force sound =
      let at = tick_at before.at.config moment (state_of before) in
      let left : Setting = record before.at { election = at.state.election; now = moment } in
      let there : AreSound left at.state.groups =
      sound_in before.at.config at.state (IsWellFormed-tick_at before.at.config moment (state_of before) own (well_formed_at before sound in_force)) in
      subst (λ (s : Setting). AreSound s after.groups) (sym done.status_is) (subst (AreSound left) (sym done.groups_are) there)

-- the state once the outlet's answers are counted
abbrev pub with_answers_in : (sent unsent : ℕ) → LinkState → LinkState
with_answers_in sent unsent s = record s { counters = with_answers s.counters sent unsent }

-- with the answers counted, it is a tick of the link
pub has_ticked : {F O K E : Type 0} (takes : O → Outgoing → Bool → O → Type 0) (family : Family) (now : ℕ) (before between after : RouterValue)
    (old new : Sender F O K E)
    → before.at.config.family ≡ family
    → (let step = tick_of before.at.config now (state_of before) in
    HasStep (TakesQuery takes family) step before between (begun before.at.config step.timing old) new)
    → after ≡ record between { counters = with_answers between.counters new.sent new.unsent }
    → HasTicked takes now (link_of before) (link_of after) old.outlet.now new.outlet.now
has_ticked takes family now before between after old new is_family did counted =
    let step = tick_of before.at.config now (state_of before) in
    let state_is : state_of after ≡ with_answers_in new.sent new.unsent step.state = ap state_of counted ∙
    ap (with_answers_in new.sent new.unsent) did.leaves.state_is in
    let handed = is_handed takes family before.at.config step (state_of after) old new is_family (fits-tick_of before.at.config now (state_of before))
    did.sent state_is in
    record { messages = handed.messages; answers = handed.answers; ticks = handed.hands_out; handed = handed.handed }
