-- The status of a router, which stays proper.
use Rattle.mq_link.proofs.Common.{◌≡◌, ℕ, ◌≤◌, ◌^◌, Option, IfSome, refl, sym, ◌∙◌, subst, AreInRange, Announced, IsCarried, ElectionState, election_at, heard}
use Rattle.mq_link.proofs.Common.{ticked, Family, Configuration, IsFaultless, IsWithinRoom, KeepsIntervals}
use Rattle.mq_sched.specs.StoredElection.{RouterElection}
use Rattle.mq_sched.specs.Election.{reconfigured}
use Rattle.mq_link.specs.Configuring.{config_after}
use Rattle.mq_link.specs.Status.{IsStatus}
use Rattle.mq_link.proofs.{Faultless.timing_in_range, Intervals.kept-election_at, Intervals.kept-heard, Intervals.kept-ticked}
use Rattle.mq_link.proofs.{Reconfigured.kept-reconfigured, Reconfigured.reconfigured_timing, Ticked.heard_timing, Ticked.ticked_timing}

pub status_at_start : (family : Family) (config : Configuration) (election : RouterElection) (start : ℕ) → IsFaultless config → IsWithinRoom config →
    config.family ≡ family → start ≤ 2 ^ 53
    → election.own ≡ config.own → election.configured ≡ config.timing → election.state ≡ election_at config.timing start → IsStatus family config election start
status_at_start family config election start faultless within is_family in_range own configured state = record {
  faultless = faultless;
  within = within;
  family_is = is_family;
  own = own;
  configured = configured;
  intervals = subst (λ e. KeepsIntervals config.timing e.timing) (sym state) (kept-election_at config.timing start);
  timing = subst (λ e. AreInRange e.timing) (sym state) (timing_in_range config faultless);
  in_range = in_range;
}

-- a next moment and election of the same router
status_next : (family : Family) (config : Configuration) (election next : RouterElection) (left : ElectionState) (was now : ℕ) →
    IsStatus family config election was → now ≤ 2 ^ 53
    → next ≡ record election { state = left } → KeepsIntervals config.timing left.timing → AreInRange left.timing → IsStatus family config next now
status_next family config election next left was now h in_range is intervals timing = subst (λ e. IsStatus family config e now) (sym is) (record {
  faultless = h.faultless;
  within = h.within;
  family_is = h.family_is;
  own = h.own;
  configured = h.configured;
  intervals = intervals;
  timing = timing;
  in_range = in_range;
})

pub status_ticked : (family : Family) (config : Configuration) (election next : RouterElection) (was now : ℕ) → IsStatus family config election was →
    now ≤ 2 ^ 53
    → next ≡ record election { state = ticked election.configured now election.state } → IsStatus family config next now
status_ticked family config election next was now h in_range is =
    status_next family config election next (ticked config.timing now election.state) was now h in_range
    (is ∙ (λ i. record election { state = ticked (h.configured i) now election.state }))
    (kept-ticked config.timing now election.state h.intervals)
    (ticked_timing config.timing now election.state (timing_in_range config h.faultless) h.timing)

pub status_heard : (family : Family) (config : Configuration) (election next : RouterElection) (now source : ℕ) (announced : Option Announced) →
    IsStatus family config election now → IfSome announced IsCarried
    → next ≡ record election { state = heard election.configured election.own now source announced election.state } → IsStatus family config next now
status_heard family config election next now source announced h carried is =
    status_next family config election next (heard config.timing config.own now source announced election.state) now now h h.in_range
    (is ∙ (λ i. record election { state = heard (h.configured i) (h.own i) now source announced election.state }))
    (kept-heard config.timing config.own now source announced election.state h.intervals)
    (heard_timing config.timing config.own now source announced election.state (timing_in_range config h.faultless) carried h.timing)

-- the same router with another configuration
pub status_configured : (family : Family) (config asked : Configuration) (election next : RouterElection) (now : ℕ) → IsStatus family config election now
    → IsFaultless asked → asked.family ≡ family → IsWithinRoom (config_after config asked)
    → next ≡ record {
      own = asked.own;
      configured = asked.timing;
      state = reconfigured election.configured asked.timing asked.own now election.state;
    } → IsStatus family (config_after config asked) next now
status_configured family config asked election next now h faultless is_family within is =
    subst (λ e. IsStatus family (config_after config asked) e now) (sym is) (record {
      faultless = faultless;
      within = within;
      family_is = is_family;
      own = refl;
      configured = refl;
      intervals = kept-reconfigured election.configured asked.timing asked.own now election.state;
      timing = reconfigured_timing election.configured asked.timing asked.own now election.state (timing_in_range asked faultless) h.timing;
      in_range = h.in_range;
    })
