-- Records one after the other.
use Rattle.mq_wire.proofs.Common.{◌≡◌, ℕ, zero, suc, ◌+◌, ◌*◌, ◌-◌, ◌<◌, ◌≤◌, List, [], ◌∷◌, ◌++◌, length, Some, None, Result, Ok, Err, replicate, slice_index}
use Rattle.mq_wire.proofs.Common.{sum, ap, sym, ◌∙◌, refl, arith, option_map, sub-zero, WireFault, Truncated, first_cut, cut_from, EndsAt, record_spans}
use Rattle.mq_wire.proofs.Common.{record_end, record_at, records_at, spans_of_records, record_source_count, auxiliary_length}
use Rattle.mq_wire.specs.declared.records.RecordView.{RecordView}
use Rattle.mq_wire.proofs.Spans.{cut_behind_whole, ends_on, ends_within, fault_before, first_whole, sum-append, sum-replicate, whole_parts}

pub length_records : (width count place : ℕ) (bytes : List ℕ) → length (records_at width count place bytes) ≡ count
length_records width zero place bytes = refl
length_records width (suc count) place bytes =
    let rest = length_records width count (record_end width place bytes) bytes in omega (arith, rest)

-- the length of a record
record_length : (width place : ℕ) (bytes : List ℕ) → sum (record_spans width place bytes)
    ≡ 4 + width + record_source_count place bytes * width + auxiliary_length place bytes
record_length width place bytes =
    let n = record_source_count place bytes in
    let auxiliary = auxiliary_length place bytes in
    let parts = sum-append (1 ∷ 1 ∷ 2 ∷ width ∷ []) (replicate n width ++ auxiliary ∷ []) in
    let behind = sum-append (replicate n width) (auxiliary ∷ []) in
    let sources = sum-replicate n width in omega (arith, parts, behind, sources)

-- a record that is whole lies in the bytes
record_fits : (width place : ℕ) (bytes : List ℕ) → first_cut (length bytes) place (record_spans width place bytes) ≡ None →
    place + (4 + width + record_source_count place bytes * width + auxiliary_length place bytes) ≤ length bytes
record_fits width place bytes whole =
    let n = record_source_count place bytes in
    let begins = first_whole (length bytes) place 1 (1 ∷ 2 ∷ width ∷ (replicate n width ++ auxiliary_length place bytes ∷ [])) whole in
    let ends = ends_within (length bytes) place (record_spans width place bytes) (omega (arith, begins)) whole in
    let long = record_length width place bytes in omega (arith, ends, long)

-- the first of records, and the others
first_record : (width count place : ℕ) (bytes : List ℕ) → 0 < count → records_at width count place bytes
    ≡ record_at width place bytes ∷ records_at width (count - 1) (record_end width place bytes) bytes
first_record width zero place bytes some = absurd (omega arith)
first_record width (suc count) place bytes some =
    let less : suc count - 1 ≡ count = omega arith in rw less refl

first_spans : (width count place : ℕ) (bytes : List ℕ) → 0 < count → spans_of_records width count place bytes ≡ record_spans width place bytes ++
    spans_of_records width (count - 1) (record_end width place bytes) bytes
first_spans width zero place bytes some = absurd (omega arith)
first_spans width (suc count) place bytes some =
    let less : suc count - 1 ≡ count = omega arith in rw less refl

-- where records are whole, the first is, and the others are
pub first_is_whole : (width count place : ℕ) (bytes : List ℕ) → 0 < count → first_cut (length bytes) place (spans_of_records width count place bytes)
    ≡ None → (first_cut (length bytes) place (record_spans width place bytes) ≡ None) ×
    (first_cut (length bytes) (record_end width place bytes) (spans_of_records width (count - 1) (record_end width place bytes) bytes) ≡ None)
first_is_whole width count place bytes some whole =
    let split = first_spans width count place bytes some in
    whole_parts (length bytes) place (record_spans width place bytes) (spans_of_records width (count - 1) (record_end width place bytes) bytes)
    (ap (first_cut (length bytes) place) (sym split) ∙ whole)

-- The fields of a record in three parts: up to its group, its sources, its auxiliary data. Computed values are known by
-- equations.
pub record_ends : (width place w sources auxiliary n words : ℕ) (bytes : List ℕ) (r : Result ℕ WireFault) → w ≡ width →
    n ≡ record_source_count place bytes → words ≡ auxiliary_length place bytes → EndsAt (length bytes) place (1 ∷ 1 ∷ 2 ∷ w ∷ []) (Ok sources) →
    EndsAt (length bytes) sources (replicate n width) (Ok auxiliary) → EndsAt (length bytes) auxiliary (words ∷ []) r →
    EndsAt (length bytes) place (record_spans width place bytes) r
record_ends width place w sources auxiliary n words bytes r is_w is_n is_words head middle last =
    let head_now : EndsAt (length bytes) place (1 ∷ 1 ∷ 2 ∷ width ∷ []) (Ok sources) = rw is_w at head in
    let middle_now : EndsAt (length bytes) sources (replicate (record_source_count place bytes) width) (Ok auxiliary) = rw is_n at middle in
    let last_now : EndsAt (length bytes) auxiliary (auxiliary_length place bytes ∷ []) r = rw is_words at last in
    let behind = ends_on (length bytes) sources auxiliary (replicate (record_source_count place bytes) width)
    (auxiliary_length place bytes ∷ []) r middle_now last_now in
    ends_on (length bytes) place sources (1 ∷ 1 ∷ 2 ∷ width ∷ [])
    (replicate (record_source_count place bytes) width ++ auxiliary_length place bytes ∷ []) r head_now behind

pub sources_cut : (width place w sources n : ℕ) (bytes : List ℕ) (fault : WireFault) → w ≡ width → n ≡ record_source_count place bytes →
    EndsAt (length bytes) place (1 ∷ 1 ∷ 2 ∷ w ∷ []) (Ok sources) → EndsAt (length bytes) sources (replicate n width) (Err fault) →
    EndsAt (length bytes) place (record_spans width place bytes) (Err fault)
sources_cut width place w sources n bytes fault is_w is_n head middle =
    let head_now : EndsAt (length bytes) place (1 ∷ 1 ∷ 2 ∷ width ∷ []) (Ok sources) = rw is_w at head in
    let middle_now : EndsAt (length bytes) sources (replicate (record_source_count place bytes) width) (Err fault) = rw is_n at middle in
    let behind = fault_before (length bytes) sources (replicate (record_source_count place bytes) width) (auxiliary_length place bytes ∷ []) fault middle_now in
    ends_on (length bytes) place sources (1 ∷ 1 ∷ 2 ∷ width ∷ [])
    (replicate (record_source_count place bytes) width ++ auxiliary_length place bytes ∷ []) (Err fault) head_now behind

-- before the walk over records
pub no_record_yet : (width count place : ℕ) (bytes : List ℕ) → first_cut (length bytes) place (spans_of_records width count place bytes)
    ≡ first_cut (length bytes) place (spans_of_records width (count - 0) place bytes)
no_record_yet width count place bytes =
    ap (λ (n : ℕ). first_cut (length bytes) place (spans_of_records width n place bytes)) (sym (sub-zero count))

-- A walk over records that has come to `end`: all of them are whole where those from there on are.
pub one_more_record : (width count place done end next : ℕ) (bytes : List ℕ) →
    first_cut (length bytes) place (spans_of_records width count place bytes)
    ≡ first_cut (length bytes) end (spans_of_records width (count - done) end bytes) → done < count →
    EndsAt (length bytes) end (record_spans width end bytes) (Ok next) → first_cut (length bytes) place (spans_of_records width count place bytes)
    ≡ first_cut (length bytes) next (spans_of_records width (count - (done + 1)) next bytes)
one_more_record width count place done end next bytes so_far more ends =
    let split = first_spans width (count - done) end bytes (omega arith) in
    let behind = spans_of_records width (count - done - 1) (record_end width end bytes) bytes in
    let fewer : count - done - 1 ≡ count - (done + 1) = omega arith in
    so_far ∙ ap (first_cut (length bytes) end) split
    ∙ cut_behind_whole (length bytes) end (record_spans width end bytes) behind ends.0
    ∙ ap (λ (n : ℕ). first_cut (length bytes) n (spans_of_records width (count - done - 1) n bytes)) (sym ends.1)
    ∙ ap (λ (n : ℕ). first_cut (length bytes) next (spans_of_records width n next bytes)) fewer

pub record_cut : (width count place done end : ℕ) (bytes : List ℕ) (fault : WireFault) →
    first_cut (length bytes) place (spans_of_records width count place bytes)
    ≡ first_cut (length bytes) end (spans_of_records width (count - done) end bytes) → done < count →
    EndsAt (length bytes) end (record_spans width end bytes) (Err fault) → cut_from (length bytes) place (spans_of_records width count place bytes) ≡ Some fault
record_cut width count place done end bytes fault so_far more cut =
    let split = first_spans width (count - done) end bytes (omega arith) in
    let behind = spans_of_records width (count - done - 1) (record_end width end bytes) bytes in
    ap (option_map (λ place. Truncated place)) (so_far ∙ ap (first_cut (length bytes) end) split)
    ∙ fault_before (length bytes) end (record_spans width end bytes) behind fault cut

pub all_records : (width count place done end : ℕ) (bytes : List ℕ) → first_cut (length bytes) place (spans_of_records width count place bytes)
    ≡ first_cut (length bytes) end (spans_of_records width (count - done) end bytes) → count ≤ done →
    first_cut (length bytes) place (spans_of_records width count place bytes) ≡ None
all_records width count place done end bytes so_far no_more =
    let none : count - done ≡ 0 = omega arith in
    so_far ∙ ap (λ (n : ℕ). first_cut (length bytes) end (spans_of_records width n end bytes)) none

-- the computed places of a whole record lie in the bytes
pub record_bounds : (width place w v n words : ℕ) (bytes : List ℕ) → w ≡ width → v ≡ width → n ≡ record_source_count place bytes →
    words ≡ slice_index bytes (place + 1) → first_cut (length bytes) place (record_spans width place bytes) ≡ None →
    place + 4 + w + n * v + 4 * words ≤ length bytes
record_bounds width place w v n words bytes is_w is_v is_n is_words whole =
    let fits = record_fits width place bytes whole in rw (is_w, is_v, is_n, is_words) (omega (arith, fits))

-- the first record, known by its numbers, and the others from its end on
pub first_handed : (width left place next : ℕ) (bytes : List ℕ) (all : List (RecordView ℕ)) (view : RecordView ℕ) → 0 < left →
    records_at width left place bytes ≡ all → view ≡ record_at width place bytes → next ≡ record_end width place bytes →
    all ≡ view ∷ records_at width (left - 1) next bytes
first_handed width left place next bytes all view some are is_view is_next =
    sym are ∙ first_record width left place bytes some
    ∙ ap (λ (v : RecordView ℕ). v ∷ records_at width (left - 1) (record_end width place bytes) bytes) (sym is_view)
    ∙ ap (λ (n : ℕ). view ∷ records_at width (left - 1) n bytes) (sym is_next)

pub others_whole : (width left place next : ℕ) (bytes : List ℕ) → 0 < left → next ≡ record_end width place bytes →
    first_cut (length bytes) place (spans_of_records width left place bytes) ≡ None →
    first_cut (length bytes) next (spans_of_records width (left - 1) next bytes) ≡ None
others_whole width left place next bytes some is_next whole =
    ap (λ (n : ℕ). first_cut (length bytes) n (spans_of_records width (left - 1) n bytes)) is_next
    ∙ (first_is_whole width left place bytes some whole).1

pub one_fewer : {A : Type 0} (before after : List A) (x : A) → before ≡ x ∷ after → length after < length before
one_fewer before after x first = let longer = ap length first in omega (arith, longer)
