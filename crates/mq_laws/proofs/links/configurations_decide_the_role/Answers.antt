use Rattle.mq_laws.proofs.Common.{◌≡◌, ℕ, ◌+◌, ◌≤◌, Bool, true, false, cond, not, refl, ◌∙◌, arith, ltb, query_interval, Other, Querier, Role, is_querier}
use Rattle.mq_laws.proofs.Common.{next_moment, Timing}
use Rattle.mq_sched.specs.Election.{ElectionState, outranks, reconfigured, role_reconfigured, timing_reconfigured}
use Rattle.mq_laws.proofs.links.configurations_decide_the_role.Goals as goal

pub returns-clause-querier : goal.returns-clause-querier
returns-clause-querier c config asked state due startup_queries is = rw is refl

-- the other querier stays exactly if its address is lower
other_after : (before configured : Timing) (own now address deadline : ℕ) (timing : Timing)
    → is_querier (reconfigured before configured own now (record { role = Other address deadline; timing = timing })).role ≡ not (ltb address own)
other_after before configured own now address deadline timing = by_test (ltb address own)
  where
    by_test : (b : Bool) → (let left : ElectionState = record { role = Other address deadline; timing = timing_reconfigured before configured timing } in
        let taken : ElectionState = record { role = Querier now 0; timing = configured } in
        let election : ElectionState = cond (not b) taken left in
        is_querier election.role ≡ not b)
    by_test true = refl
    by_test false = refl

pub returns-clause-other : goal.returns-clause-other
returns-clause-other c config asked state address deadline is =
    (λ i. is_querier (reconfigured config.timing asked.timing asked.own state.last (record { role = is i; timing = state.election.timing })).role)
    ∙ other_after config.timing asked.timing asked.own state.last address deadline state.election.timing

-- a general query is due at once, or an interval later at most
due_after : (before configured : Timing) (own now : ℕ) (e : ElectionState) → (let election = reconfigured before configured own now e in
    is_querier election.role ≡ true → next_moment election.role ≤ now + query_interval election.timing)
due_after before configured own now e = by_rank (outranks own e.role)
  where
    by_rank : (b : Bool) → (let timing = timing_reconfigured before configured e.timing in
        let election : ElectionState = cond b (record { role = Querier now 0; timing = configured })
        (record { role = role_reconfigured timing now e.role; timing = timing }) in
        is_querier election.role ≡ true → next_moment election.role ≤ now + query_interval election.timing)
    by_rank true is = omega arith
    by_rank false is = by_role e.role is
      where
        by_role : (role : Role) → (let timing = timing_reconfigured before configured e.timing in let after = role_reconfigured timing now role in
            is_querier after ≡ true → next_moment after ≤ now + query_interval timing)
        by_role (Querier due startup_queries) is = omega arith
        by_role (Other address deadline) is = cc

pub returns-clause-due : goal.returns-clause-due
returns-clause-due c config asked state is = due_after config.timing asked.timing asked.own state.last state.election is
