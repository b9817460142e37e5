-- The expected queries of a check, and the seen queries that must be expected.
use Rattle.std.specs.Prelude.{ℕ, ◌+◌, Bool, true, false, List, [], ◌∷◌, ◌++◌, map as list_map, nat_lt, if◌then◌else◌}
use Rattle.mq_table.specs.declared.timing.Timing.{Timing}
use Rattle.mq_check.specs.declared.asked.Asked.{Asked}
use Rattle.mq_check.specs.declared.check_terms.CheckFlags.{CheckFlags}
use Rattle.mq_check.specs.declared.asked.Asked.TheVariants.{AllGroups}
use Rattle.mq_check.specs.declared.terms.Terms.{Terms}
use Rattle.mq_check.specs.Checking.{CheckingValue, checking_at_start, subject_wanted}
use Rattle.mq_check.specs.Queries.{is_same}
use Rattle.mq_check.specs.Schedules.{terms_wanted}
use Rattle.mq_laws.specs.Events.{CheckEvent, Comes, Wants, Sees, SeesGeneral, LosesRole, HasRoleAgain, SeesFault, Changes, Judges, check_by, moment_behind, Refuses}
use Rattle.mq_laws.specs.Pairing.{Ask}

-- The expected queries by one query of the link, one for each thing that it asks about. A query that a tick sends again
-- has the packet that started its schedule, as far as the check has kept it.
abbrev pub asks_wanted : (now : ℕ) → (is_again : Bool) → Terms ℕ → List (Asked ℕ) → CheckingValue → List Ask
asks_wanted now is_again terms [] c = []
asks_wanted now is_again terms (a ∷ asked) c =
    record { moment = now; asked = a; terms = terms_wanted is_again terms a c.schedules }
    ∷ asks_wanted now is_again terms asked (subject_wanted now is_again terms c a)

abbrev pub asks_by : (now : ℕ) → CheckEvent → CheckingValue → List Ask
asks_by now (Comes moment) c = []
asks_by now (Wants is_again terms asked) c = asks_wanted now is_again terms asked c
asks_by now (Sees terms standing asked) c = []
asks_by now (SeesGeneral terms wanted) c = []
asks_by now LosesRole c = []
asks_by now HasRoleAgain c = []
asks_by now (SeesFault number fault) c = []
asks_by now (Changes terms asked) c = []
asks_by now (Judges moment is_set) c = []
asks_by now (Refuses groups) c = []

-- the expected queries by several events, if `c` is the check before them
abbrev pub wanted_in : (within : ℕ) → Timing → (now : ℕ) → List CheckEvent → CheckingValue → List Ask
wanted_in within timing now [] c = []
wanted_in within timing now (e ∷ es) c = asks_by now e c ++ wanted_in within timing (moment_behind now e) es (check_by within timing now e c)

abbrev pub all_wanted_in : (within : ℕ) → Timing → (flags : CheckFlags) → List CheckEvent → List Ask
all_wanted_in within timing flags events = wanted_in within timing 0 events (checking_at_start within timing flags)

-- the seen queries, one for each thing that they ask about
abbrev pub asks_at : (moment : ℕ) → Terms ℕ → List (Asked ℕ) → List Ask
asks_at moment terms asked = list_map (λ a. record { moment = moment; asked = a; terms = terms }) asked

-- General queries that are expected at their moment, like those after the router becomes querier again. `due` has the
-- moments of those for which none was seen yet. `early` has those that were seen before, while another router was
-- querier.
pub record Returns : Type 0 where
  pub due : List ℕ
  pub early : List ℕ

abbrev pub none_returned : Returns
none_returned = record { due = []; early = [] }

-- The returns after one more general query is expected, or was seen. A seen query waits if none is expected.
abbrev pub return_wanted : (now : ℕ) → (due early : List ℕ) → Returns
return_wanted now due [] = record { due = due ++ now ∷ []; early = [] }
return_wanted now due (e ∷ early) = record { due = due; early = early }

abbrev pub return_seen : (now : ℕ) → (due early : List ℕ) → Returns
return_seen now [] early = record { due = []; early = early ++ now ∷ [] }
return_seen now (d ∷ due) early = record { due = due; early = early }

-- the returns after all that a query asks about is expected, or was seen
abbrev pub all_wanted : (now : ℕ) → List (Asked ℕ) → Returns → Returns
all_wanted now [] r = r
all_wanted now (a ∷ asked) r = all_wanted now asked (if is_same AllGroups a then return_wanted now r.due r.early else r)

abbrev pub all_seen : (now : ℕ) → List (Asked ℕ) → Returns → Returns
all_seen now [] r = r
all_seen now (a ∷ asked) r = all_seen now asked (if is_same AllGroups a then return_seen now r.due r.early else r)

-- a general query that was seen; while the router is querier it doesn't wait
abbrev pub general_returned : (is_querier : Bool) → (now : ℕ) → (due early : List ℕ) → Returns
general_returned true now [] early = record { due = []; early = early }
general_returned true now (d ∷ due) early = record { due = due; early = early }
general_returned false now due early = return_seen now due early

-- the expected moments that are still due at `now`
abbrev pub still_due : (within now : ℕ) → List ℕ → List ℕ
still_due within now [] = []
still_due within now (d ∷ due) = if nat_lt (d + within) now then still_due within now due else d ∷ due

-- a general query that was seen, if it must be expected: while another router is querier, or while one is due
abbrev pub general_ask : (is_querier : Bool) → (due : List ℕ) → (moment : ℕ) → Terms ℕ → List Ask
general_ask true [] moment terms = []
general_ask true (d ∷ due) moment terms = record { moment = moment; asked = AllGroups; terms = terms } ∷ []
general_ask false due moment terms = record { moment = moment; asked = AllGroups; terms = terms } ∷ []

-- The seen queries that must be expected at their moment. They are queries for groups and for sources, and those
-- general queries. (Any other general query must come in its time.)
abbrev pub seen_in : (within : ℕ) → (is_querier : Bool) → Returns → (now : ℕ) → List CheckEvent → List Ask
seen_in within is_querier r now [] = []
seen_in within is_querier r now (Comes moment ∷ es) = seen_in within is_querier (record r { due = still_due within moment r.due }) moment es
seen_in within is_querier r now (Wants is_again terms asked ∷ es) = seen_in within is_querier (all_wanted now asked r) now es
seen_in within is_querier r now (Sees terms standing asked ∷ es) = asks_at now terms asked ++ seen_in within is_querier (all_seen now asked r) now es
seen_in within is_querier r now (SeesGeneral terms wanted ∷ es) =
    general_ask is_querier r.due now terms ++ seen_in within is_querier (general_returned is_querier now r.due r.early) now es
seen_in within is_querier r now (LosesRole ∷ es) = seen_in within false r now es
seen_in within is_querier r now (HasRoleAgain ∷ es) = seen_in within true r now es
seen_in within is_querier r now (SeesFault number fault ∷ es) = seen_in within is_querier r now es
seen_in within is_querier r now (Changes terms asked ∷ es) = seen_in within is_querier r now es
seen_in within is_querier r now (Judges moment is_set ∷ es) = seen_in within is_querier r now es
seen_in within is_querier r now (Refuses groups ∷ es) = seen_in within is_querier r now es

abbrev pub all_seen_in : (within : ℕ) → List CheckEvent → List Ask
all_seen_in within events = seen_in within true none_returned 0 events
