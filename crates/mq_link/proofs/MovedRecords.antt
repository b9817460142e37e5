-- The bound of a record's moves: with those left for later records, at most those left before it and its own.
use Rattle.mq_link.proofs.Common.{◌≡◌, ℕ, ◌+◌, ◌*◌, ◌≤◌, Bool, true, false, cond, ◌&&◌, refl, List, [], ◌∷◌, length, subst, arith, leb, leb-false, sum_by-cons}
use Rattle.mq_link.proofs.Common.{sum_by, RecordView, Kind, Repeated, Refused, IsPaid, moved_by_edit, moves_by, record_moves, own_moves, Setting, RecordOf}
use Rattle.mq_link.proofs.Common.{leaving, stated, Seen, met, Entrance, Stops, GoesOn, entrance, seen_by, seen_after, judged_from, judged}
use Rattle.std.specs.FinMap as map
use Rattle.std.specs.FinSet as set
use Rattle.mq_link.specs.State.{Groups, group_at, sources_of, sources_in}
use Rattle.mq_link.proofs.{KeptGroups.absent_sources, Moved.paid_none, Moved.paid_join, Moved.paid_within, Potential.potential, Potential.potential-empty}
use Rattle.mq_link.proofs.{Potential.potential-le, Potential.potential-falls, RecordCosts.four_times, RecordCosts.stated_left, TakenRecords.again}
use Rattle.mq_link.proofs.{TakenRecords.met_once, TakenRecords.met_more}

pub record_moves_pay : (at : Setting) (seen : Seen) (r : RecordView ℕ) (groups : Groups) →
    record_moves at.config seen r groups + potential (seen_after at.config r groups seen) (judged at seen r groups).groups ≤ potential seen groups + own_moves r
unfolding judged
record_moves_pay at seen r groups = by_entrance (entrance at.config r)
  where
    by_tests : (kind : Kind) (held four : Bool) → map.contains_key groups r.group ≡ held → leb 4 (met seen r.group) ≡ four →
        cond (held && four) 0 (5 * (sources_of (group_at groups r.group) + length r.sources) + moved_by_edit)
        + potential (cond held (again seen r.group) seen)
        (cond (held && four) (leaving groups (Refused Repeated)) (stated at r.group (RecordOf kind (set.from_list r.sources)) groups)).groups
        ≤ potential seen groups + own_moves r
    by_tests kind true true held four =
        let same = potential-le seen (again seen r.group) groups (λ k. (met_more seen r.group k).0) in
        omega (arith, same)
    by_tests kind true false held four =
        let falls = potential-falls seen (again seen r.group) groups (λ k. (met_more seen r.group k).0) r.group (met_once seen r.group)
        (leb-false 4 (met seen r.group) four) held in
        let left = stated_left at (again seen r.group) r.group kind r.sources groups in
        let own = four_times (met (again seen r.group) r.group) (length r.sources) in
        omega (arith, falls, left, own)
    by_tests kind false four absent _ =
        let small = absent_sources groups r.group absent in
        let left = stated_left at seen r.group kind r.sources groups in
        let own = four_times (met seen r.group) (length r.sources) in
        omega (arith, small, left, own)

    by_entrance : (entered : Entrance) → moves_by entered seen r groups + potential (seen_by entered r.group groups seen)
        (judged_from at seen r groups entered).groups ≤ potential seen groups + own_moves r
    by_entrance (Stops verdict) = omega arith
    by_entrance (GoesOn kind) = by_tests kind (map.contains_key groups r.group) (leb 4 (met seen r.group)) refl refl

-- The moves of the records so far leave enough for the rest.
pub record IsMovedSoFar (all : List (RecordView ℕ)) (held : Groups) (from from_put_by : ℕ) (left : List (RecordView ℕ)) (seen : Seen)
    (groups : Groups) (moved put_by : ℕ) : Type 0 where
  pub budget : ℕ
  pub paid : IsPaid budget from_put_by put_by from moved
  pub enough : budget + potential seen groups + sum_by own_moves left ≤ 24 * sources_in held + sum_by own_moves all

pub none_moved : (all : List (RecordView ℕ)) (groups : Groups) (moved put_by : ℕ) → IsMovedSoFar all groups moved put_by all map.empty groups moved put_by
none_moved all groups moved put_by = record { budget = 0; paid = paid_none put_by moved; enough = omega (arith, potential-empty groups) }

pub one_moved : (at : Setting) (all : List (RecordView ℕ)) (held : Groups) (from from_put_by : ℕ) (before rest : List (RecordView ℕ))
    (r : RecordView ℕ) (seen : Seen) (groups : Groups) (moved next put_by next_put_by : ℕ)
    → IsMovedSoFar all held from from_put_by before seen groups moved put_by
    → before ≡ r ∷ rest
    → IsPaid (record_moves at.config seen r groups) put_by next_put_by moved next
    → IsMovedSoFar all held from from_put_by rest (seen_after at.config r groups seen) (judged at seen r groups).groups next next_put_by
one_moved at all held from from_put_by before rest r seen groups moved next put_by next_put_by so_far first paid =
    let h = subst (λ left. IsMovedSoFar all held from from_put_by left seen groups moved put_by) first so_far in
    let enough = h.enough in
    record {
      budget = h.budget + record_moves at.config seen r groups;
      paid = paid_join (h.budget + record_moves at.config seen r groups) h.paid paid (omega arith);
      enough = omega (arith, enough, record_moves_pay at seen r groups, sum_by-cons own_moves r rest);
    }

pub all_moved : (all : List (RecordView ℕ)) (held : Groups) (from from_put_by : ℕ) (left : List (RecordView ℕ)) (seen : Seen) (groups : Groups)
    (moved put_by : ℕ) → IsMovedSoFar all held from from_put_by left seen groups moved put_by → left ≡ [] →
    IsPaid (24 * sources_in held + sum_by own_moves all) from_put_by put_by from moved
all_moved all held from from_put_by left seen groups moved put_by so_far none =
    let h = subst (λ left. IsMovedSoFar all held from from_put_by left seen groups moved put_by) none so_far in
    let enough = h.enough in
    paid_within (24 * sources_in held + sum_by own_moves all) h.paid (omega (arith, enough))

-- The records of a Report bring at most 256 moves for each of their bytes.
pub report_moves_within : (rs : List (RecordView ℕ)) → sum_by own_moves rs + 65 * length rs ≤ 256 * sum_by (λ r. 8 + 4 * length r.sources) rs
report_moves_within [] = omega arith
report_moves_within (r ∷ rs) =
    let rest = report_moves_within rs in
    omega (arith, rest, sum_by-cons own_moves r rs, sum_by-cons (λ (r : RecordView ℕ). 8 + 4 * length r.sources) r rs)
