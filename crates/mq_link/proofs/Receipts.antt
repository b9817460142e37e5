-- A datagram leaves a state that a link may be in.
use Rattle.mq_link.proofs.Common.{◌≡◌, ℕ, zero, suc, ◌+◌, ◌*◌, ◌/◌, ◌%◌, ◌^◌, ◌≤◌, ◌<◌, Bool, true, false, cond, refl, not, List, [], ◌∷◌, ◌++◌, length, Option}
use Rattle.mq_link.proofs.Common.{None, Some, IfSome, Result, Ok, Err, arith, eqb, ltb, ltb-true, mul-le-mul_right, slice_index, option_map, Message}
use Rattle.mq_link.proofs.Common.{QueryMessage, OldReport, LeaveMessage, ReportMessage, WireFault, Family, Igmp, Mld, group_end, query_of, older_query}
use Rattle.mq_link.proofs.Common.{current_query, type_named, type_of, message_of, fault_of, AreInRange, DropReason, BadGroup, is_admitted, Configuration}
use Rattle.mq_link.proofs.Common.{Counters, Groups, LinkState, IsWellFormed, Step, OlderJoin, OlderLeave, announced_by, IsCarriedIn, Envelope, message_in}
use Rattle.mq_link.proofs.Common.{unless_faulty, read_of, drop_reason, envelope_tests, setting_of, taken_in, counting_read, taken_or_dropped, receipt_after}
use Rattle.mq_link.proofs.Common.{first_named, AreSound, Setting, Statement, stated_alone}
use Rattle.std.specs.FinMap as map
use Rattle.mq_wire.specs.Codes.{value8}
use Rattle.mq_link.proofs.{Ticked.IsCarriedBy, Ticked.IsWellFormed-query_heard, Recorded.stated_leaves, Recorded.all_judged_leave, StatedAlone.alone_by}

-- this fact for the message of bytes
abbrev pub IsCarriedWhere : Result (Message ℕ) WireFault → Type 0
IsCarriedWhere (Ok message) = IsCarriedIn message
IsCarriedWhere (Err fault) = Unit {0}

power_at_most : (x : ℕ) → x < 8 → 2 ^ (x + 3) ≤ 1024
power_at_most zero h = omega arith
power_at_most (suc zero) h = omega arith
power_at_most (suc (suc zero)) h = omega arith
power_at_most (suc (suc (suc zero))) h = omega arith
power_at_most (suc (suc (suc (suc zero)))) h = omega arith
power_at_most (suc (suc (suc (suc (suc zero))))) h = omega arith
power_at_most (suc (suc (suc (suc (suc (suc zero)))))) h = omega arith
power_at_most (suc (suc (suc (suc (suc (suc (suc zero))))))) h = omega arith
power_at_most (suc (suc (suc (suc (suc (suc (suc (suc x)))))))) h = absurd (omega arith)

value_at_most : (code : ℕ) → value8 code ≤ 31744
value_at_most code = by_test (ltb code 128) refl
  where
    by_test : (b : Bool) → ltb code 128 ≡ b → cond b code ((16 + code % 16) * 2 ^ (code / 16 % 8 + 3)) ≤ 31744
    by_test true h = omega (arith, ltb-true code 128 h)
    by_test false h =
        let m : 16 + code % 16 ≤ 31 = omega arith in
        let e : code / 16 % 8 < 8 = omega arith in
        let p = power_at_most (code / 16 % 8) e in
        let product = mul-le-mul_right (2 ^ (code / 16 % 8 + 3)) m in
        omega arith

carried_query : (family : Family) (bytes : List ℕ) → IsCarriedBy (announced_by (query_of family bytes).version)
carried_query family bytes = by_length (eqb (length bytes) (group_end family))
  where
    by_length : (b : Bool) → IsCarriedBy (announced_by (cond b (older_query family bytes) (current_query family bytes)).version)
    by_length true = tt
    by_length false = record { robustness = omega arith; query_seconds = value_at_most (slice_index bytes (group_end family + 1)) }

-- the cases of a message's type
igmp_carried : (bytes : List ℕ) (code : ℕ) → IfSome (option_map (λ kind. message_of Igmp kind bytes) (type_named Igmp code)) IsCarriedIn
igmp_carried bytes code = by_tests (eqb code 0x11) (eqb code 0x12) (eqb code 0x16) (eqb code 0x17) (eqb code 0x22) refl refl refl refl refl
  where
    by_tests : (a b c d e : Bool) → eqb code 0x11 ≡ a → eqb code 0x12 ≡ b → eqb code 0x16 ≡ c → eqb code 0x17 ≡ d → eqb code 0x22 ≡ e →
        IfSome (option_map (λ kind. message_of Igmp kind bytes) (type_named Igmp code)) IsCarriedIn
    by_tests true b c d e p q r s t = rw p (carried_query Igmp bytes)
    by_tests false true c d e p q r s t = rw (p, q) tt
    by_tests false false true d e p q r s t = rw (p, q, r) tt
    by_tests false false false true e p q r s t = rw (p, q, r, s) tt
    by_tests false false false false true p q r s t = rw (p, q, r, s, t) tt
    by_tests false false false false false p q r s t = rw (p, q, r, s, t) tt

mld_carried : (bytes : List ℕ) (code : ℕ) → IfSome (option_map (λ kind. message_of Mld kind bytes) (type_named Mld code)) IsCarriedIn
mld_carried bytes code = by_tests (eqb code 130) (eqb code 131) (eqb code 132) (eqb code 143) refl refl refl refl
  where
    by_tests : (a b c d : Bool) → eqb code 130 ≡ a → eqb code 131 ≡ b → eqb code 132 ≡ c → eqb code 143 ≡ d →
        IfSome (option_map (λ kind. message_of Mld kind bytes) (type_named Mld code)) IsCarriedIn
    by_tests true b c d p q r s = rw p (carried_query Mld bytes)
    by_tests false true c d p q r s = rw (p, q) tt
    by_tests false false true d p q r s = rw (p, q, r) tt
    by_tests false false false true p q r s = rw (p, q, r, s) tt
    by_tests false false false false p q r s = rw (p, q, r, s) tt

carried_in : (family : Family) (bytes : List ℕ) → IfSome (message_in family bytes) IsCarriedIn
carried_in Igmp bytes = igmp_carried bytes (type_of bytes)
carried_in Mld bytes = mld_carried bytes (type_of bytes)

carried_unless : (fault : Option WireFault) (message : Option (Message ℕ)) → IfSome message IsCarriedIn → IsCarriedWhere (unless_faulty fault message)
carried_unless (Some fault) message h = tt
carried_unless None None h = tt
carried_unless None (Some message) h = h

pub carried_where_read : (family : Family) (pseudo bytes : List ℕ) → IsCarriedWhere (read_of family pseudo bytes)
unfolding read_of
carried_where_read family pseudo bytes = carried_unless (fault_of family pseudo bytes) (message_in family bytes) (carried_in family bytes)

-- a state that is well-formed, and its groups in the setting that its election and last moment are
pub sound_in : (config : Configuration) (state : LinkState) → IsWellFormed config state → AreSound (setting_of config state) state.groups
sound_in config state h = record { all = h.groups; within = h.within; silent = h.silent }

well_formed_with : (config : Configuration) (state : LinkState) (groups : Groups) (counters : Counters) → IsWellFormed config state →
    AreSound (setting_of config state) groups →
    IsWellFormed config (record { groups = groups; election = state.election; last = state.last; counters = counters })
well_formed_with config state groups counters h sound = record { groups = sound.all; within = sound.within; timing = h.timing; silent = sound.silent }

-- the counters have no part in it
pub recounted : (config : Configuration) (state : LinkState) (counters : Counters) → IsWellFormed config state →
    IsWellFormed config (record { groups = state.groups; election = state.election; last = state.last; counters = counters })
recounted config state counters h = record { groups = h.groups; within = h.within; timing = h.timing; silent = h.silent }

pub positive_in : (config : Configuration) (state : LinkState) → IsWellFormed config state → 0 < state.election.timing.robustness
positive_in config state h = omega (arith, h.timing.robustness.at_least)

not_first : (c : Bool) (reason : DropReason) (rest : Option DropReason) → cond c (Some reason) rest ≡ None → rest ≡ None
not_first true reason rest h = cc
not_first false reason rest h = h

-- an older message that is taken is for a group that is admitted
admitted_if_kept : (tests : List (DropReason × Bool)) (b : Bool) (reason : DropReason) → first_named (tests ++ (reason, not b) ∷ []) ≡ None → b ≡ true
admitted_if_kept [] true reason h = refl
admitted_if_kept [] false reason h = cc
admitted_if_kept (t ∷ tests) b reason h = admitted_if_kept tests b reason (not_first t.1 t.0 (first_named (tests ++ (reason, not b) ∷ [])) h)

alone_leaves : (at : Setting) (group : ℕ) (st : Statement) (groups : Groups) → 0 < at.election.timing.robustness
    → is_admitted at.config.family group ≡ true → AreSound at groups → AreSound at (stated_alone at group st groups).groups
alone_leaves at group st groups positive admitted h =
    alone_by (λ o. AreSound at o.groups) at group st groups (stated_leaves at group st groups positive admitted h) h

taken_leaves : (config : Configuration) (envelope : Envelope) (message : Message ℕ) (step : Step) → AreInRange config.timing → IsCarriedIn message →
    drop_reason config envelope (Ok message) ≡ None → IsWellFormed config step.state → IsWellFormed config (taken_in config envelope message step).step.state
unfolding taken_in
taken_leaves config envelope (QueryMessage query) step own carried kept h =
    IsWellFormed-query_heard config step.state.last envelope.source query step.state own carried h
taken_leaves config envelope (OldReport version group) step own carried kept h =
    well_formed_with config step.state _ _ h
    (alone_leaves (setting_of config step.state) group (OlderJoin version) step.state.groups (positive_in config step.state h)
    (admitted_if_kept (envelope_tests config.family envelope) (is_admitted config.family group) BadGroup kept) (sound_in config step.state h))
taken_leaves config envelope (LeaveMessage group) step own carried kept h =
    well_formed_with config step.state _ _ h
    (alone_leaves (setting_of config step.state) group OlderLeave step.state.groups (positive_in config step.state h)
    (admitted_if_kept (envelope_tests config.family envelope) (is_admitted config.family group) BadGroup kept) (sound_in config step.state h))
taken_leaves config envelope (ReportMessage records) step own carried kept h =
    well_formed_with config step.state _ _ h
    (all_judged_leave (setting_of config step.state) map.empty records step.state.groups (positive_in config step.state h) (sound_in config step.state h))

decided_leaves : (config : Configuration) (envelope : Envelope) (step : Step) (read : Result (Message ℕ) WireFault) (reason : Option DropReason) →
    AreInRange config.timing → IsCarriedWhere read → drop_reason config envelope read ≡ reason → IsWellFormed config step.state →
    IsWellFormed config (taken_or_dropped config envelope step read reason).step.state
decided_leaves config envelope step read (Some reason) own carried is h = recounted config step.state _ h
decided_leaves config envelope step (Err fault) None own carried is h = recounted config step.state _ h
decided_leaves config envelope step (Ok message) None own carried is h =
    taken_leaves config envelope message (counting_read (Ok message) step) own carried is (recounted config step.state _ h)

-- The work after a tick leaves a well-formed state well-formed.
pub IsWellFormed-receipt_after : (config : Configuration) (envelope : Envelope) (read : Result (Message ℕ) WireFault) (step : Step) →
    AreInRange config.timing → IsCarriedWhere read → IsWellFormed config step.state → IsWellFormed config (receipt_after config envelope read step).step.state
IsWellFormed-receipt_after config envelope read step own carried h =
    decided_leaves config envelope step read (drop_reason config envelope read) own carried refl h
