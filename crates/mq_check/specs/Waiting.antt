-- Pending entries, whose partners may still come, and their findings.
use Rattle.std.specs.Prelude.{ℕ, ◌+◌, ◌&&◌, ◌||◌, nat_lt, nat_le, Bool, true, false, if◌then◌else◌, List, [], ◌∷◌, ◌++◌, length, drop, map as list_map, Option, None, Some, is_some, take_while, flat_map}
use Rattle.std.specs.List.{prefix_len}
use Rattle.mq_check.specs.declared.asked.Asked.{Asked}
use Rattle.mq_check.specs.declared.entry.Entry.{Entry}
use Rattle.mq_check.specs.declared.entry.Entry.TheVariants.{Wanted, Seen, Interval, Silence, Packet}
use Rattle.mq_check.specs.declared.finding.Finding.{Finding}
use Rattle.mq_check.specs.declared.terms.Terms.{Terms}
use Rattle.mq_check.specs.declared.waiting.Side.{Side}
use Rattle.mq_check.specs.declared.waiting.Side.TheVariants.{OfWanted, OfSeen}
use Rattle.mq_check.specs.Entries.{moment_of, is_over, is_free_wanted, is_free_seen, first_terms, first_joined, excused_if, entry_judged, is_s_open}
use Rattle.mq_check.specs.Refused.{judged}

-- the most pending entries
abbrev pub room : ℕ
room = 65536

-- the pending entries in ascending order of their moments, and whether an entry had no room
pub record WaitingValue : Type 0 where
  pub entries : List (Entry ℕ)
  pub is_full : Bool

abbrev pub nothing : WaitingValue
nothing = record { entries = []; is_full = false }

-- the list without its entries
abbrev pub emptied : WaitingValue → WaitingValue
emptied w = record w { entries = [] }

-- the list with an entry appended if there is room
unfoldable pub with_entry : Entry ℕ → WaitingValue → WaitingValue
with_entry entry w =
    if nat_lt (length w.entries) room
    then record w { entries = w.entries ++ entry ∷ [] }
    else record w { is_full = true }

-- An entry of this side with this subject has no partner. A free one isn't before `from` either.
abbrev pub is_open : Side → Asked ℕ → Entry ℕ → Bool
is_open OfWanted asked entry = is_free_wanted asked entry
is_open OfSeen asked entry = is_free_seen asked entry

abbrev pub is_free : Side → Asked ℕ → (from : ℕ) → Entry ℕ → Bool
is_free side asked from entry = is_open side asked entry && nat_le from (moment_of entry)

-- the list after the first of these entries has found a partner with these terms
unfoldable pub with_partner : Side → Asked ℕ → (from : ℕ) → Terms ℕ → WaitingValue → WaitingValue
with_partner side asked from other w = record w { entries = first_joined (is_free side asked from) other w.entries }

-- the list has a free entry
abbrev pub has_free : Side → Asked ℕ → (from : ℕ) → WaitingValue → Bool
has_free side asked from w = is_some (first_terms (is_free side asked from) w.entries)

-- The partner of a wanted query may come after the end of a capture. The end is at most the tolerance after its moment,
-- or the next query of a schedule on its subject is still due. `sent` has the queries of schedules.
abbrev pub may_still_come : (within end : ℕ) → (sent : WaitingValue) → Entry ℕ → Bool
may_still_come within end sent (Wanted moment asked terms need is_found) =
    nat_le end (moment + within) || has_free OfSeen asked 0 sent
may_still_come within end sent (Seen moment asked terms partner verdict) = false
may_still_come within end sent (Interval moment packet after wanted) = false
may_still_come within end sent (Silence moment after wanted) = false
may_still_come within end sent (Packet moment number fault) = false

-- the list at the end of a capture
abbrev pub excused_at : (within end : ℕ) → (sent : WaitingValue) → Entry ℕ → Entry ℕ
excused_at within end sent entry = excused_if (may_still_come within end sent entry) entry

unfoldable pub all_excused : (within end : ℕ) → (sent : WaitingValue) → WaitingValue → WaitingValue
all_excused within end sent w = record w { entries = list_map (excused_at within end sent) w.entries }

-- A Report may still come that changes S of a query at a moment. At the end of a capture none comes.
abbrev pub is_recent : (beside : ℕ) → (now : Option ℕ) → (moment : ℕ) → Bool
is_recent beside None moment = false
is_recent beside (Some now) moment = nat_le now (moment + beside)

abbrev pub may_change_s : (beside : ℕ) → (now : Option ℕ) → Entry ℕ → Bool
may_change_s beside now entry = is_s_open entry && is_recent beside now (moment_of entry)

-- The list after S of the seen queries is judged that no Report can change any more, in order.
abbrev pub all_judged : (beside : ℕ) → (now : Option ℕ) → (is_set : (limit : ℕ) → Asked ℕ → Bool) → List (Entry ℕ) → List (Entry ℕ)
all_judged beside now is_set [] = []
all_judged beside now is_set (entry ∷ entries) =
    if may_change_s beside now entry
    then entry ∷ entries
    else entry_judged is_set entry ∷ all_judged beside now is_set entries

unfoldable pub all_s_judged : (beside : ℕ) → (now : Option ℕ) → (is_set : (limit : ℕ) → Asked ℕ → Bool) → WaitingValue → WaitingValue
all_s_judged beside now is_set w = record w { entries = all_judged beside now is_set w.entries }

-- The findings of the entries that have expired at a moment, and the list after their removal. An entry expires after
-- the time `keep`. If an entry had no room, nothing more is found. The groups of `refused` aren't judged.
unfoldable pub told : (keep within now : ℕ) → (changed : Option ℕ) → (refused : List ℕ) → WaitingValue → List (Finding ℕ)
told keep within now changed refused w =
    if w.is_full then [] else flat_map (judged within changed refused) (take_while (is_over keep now) w.entries)

unfoldable pub purged : (keep now : ℕ) → WaitingValue → WaitingValue
purged keep now w =
    if w.is_full then w else record w { entries = drop (prefix_len (is_over keep now) w.entries) w.entries }
