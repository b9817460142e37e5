-- A check in which a querier sends one of two queries for the group 5, and leaves the other out, or sends both. A host
-- leaves the group, and another host blocks a source. Afterwards another router has the role for four minutes. The seen
-- queries are in other packets than those of the expected ones.
use Rattle.std.specs.Prelude.{◌≡◌, ℕ, ◌+◌, false, true, List, [], ◌∷◌, ◌++◌, Some}
use Rattle.mq_table.specs.declared.timing.Timing.{Timing}
use Rattle.mq_check.specs.declared.asked.Asked.TheVariants.{AllGroups, Group, Source}
use Rattle.mq_check.specs.declared.check_terms.CheckFlags.{CheckFlags}
use Rattle.mq_check.specs.declared.terms.Terms.{Terms}
use Rattle.mq_check.specs.Standing.{plain}
use Rattle.mq_laws.specs.Pairing.{Ask, Expected, Sent, LeftOut}
use Rattle.mq_laws.specs.Events.{CheckEvent, Comes, Wants, Sees, SeesGeneral, LosesRole, HasRoleAgain, Changes, HasRoom}
use Rattle.mq_laws.specs.OnTime.{AreInOrder, IsOnTime}
use Rattle.mq_laws.specs.WantedAndSeen.{all_wanted_in}

abbrev pub example_timing : Timing
example_timing = record { robustness = 2; query_seconds = 125; response_interval = 10000; last_member_interval = 1000; last_member_query_count = 0 }

-- a strict check from the querier's beginning
abbrev pub began : CheckFlags
began = record { began = true; strict = true; above_7 = false }

abbrev pub group_terms : (packet : ℕ) → Terms ℕ
group_terms packet = record {
  version = 3;
  response = Some 1000;
  querier = Some (record { suppress = false; robustness = 2; interval = 125 });
  to = 5;
  packet = packet;
}

abbrev pub general_terms : (packet : ℕ) → Terms ℕ
general_terms packet = record {
  version = 3;
  response = Some 10000;
  querier = Some (record { suppress = false; robustness = 2; interval = 125 });
  to = 1;
  packet = packet;
}

-- The events if each query comes so much later than it is expected. `second` has those of the second query for the group.
abbrev pub example_events : (delay : ℕ) → (second : List CheckEvent) → List CheckEvent
example_events delay second =
    Comes 500 ∷ SeesGeneral (general_terms 1) (general_terms 0)
    ∷ Comes 1000 ∷ Changes (λ group. group_terms 2) (Group 5 ∷ []) ∷ Wants false (group_terms 2) (Group 5 ∷ [])
    ∷ Comes (1000 + delay) ∷ Sees (group_terms 3) (λ asked. plain) (Group 5 ∷ [])
    ∷ Comes 1200 ∷ Changes (λ group. group_terms 4) (Source 5 7 ∷ [])
    ∷ Comes 2000 ∷ Wants true (group_terms 4) (Group 5 ∷ []) ∷ second
    ++ Comes 20000 ∷ LosesRole
    ∷ Comes 260000 ∷ Wants false (general_terms 6) (AllGroups ∷ []) ∷ HasRoleAgain
    ∷ Comes (260000 + delay) ∷ SeesGeneral (general_terms 7) (general_terms 0)
    ∷ []

-- without the second query, and with it
abbrev pub one_left_out : (delay : ℕ) → List CheckEvent
one_left_out delay = example_events delay []

abbrev pub all_answered : (delay : ℕ) → List CheckEvent
all_answered delay = example_events delay (Comes (2000 + delay) ∷ Sees (group_terms 5) (λ asked. plain) (Group 5 ∷ []) ∷ [])

-- The expected queries. A tick sends the second one again, so it has the packet of the first.
abbrev pub first_ask : Ask
first_ask = record { moment = 1000; asked = Group 5; terms = group_terms 2 }

abbrev pub second_ask : Ask
second_ask = record { moment = 2000; asked = Group 5; terms = group_terms 2 }

abbrev pub last_ask : Ask
last_ask = record { moment = 260000; asked = AllGroups; terms = general_terms 6 }

abbrev pub example_expected : List Expected
example_expected = Sent first_ask ∷ LeftOut second_ask ∷ Sent last_ask ∷ []

-- Events of a check with these expected queries: in order, with general queries on time, and with room.
pub record IsExample (events : List CheckEvent) : Type 0 where
  pub in_order : AreInOrder 0 events 262000
  pub on_time : IsOnTime 100 example_timing 262000 events
  pub room : HasRoom 100 example_timing began 262000 events []
  pub wanted : all_wanted_in 100 example_timing began events ≡ first_ask ∷ second_ask ∷ last_ask ∷ []
