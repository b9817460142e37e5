-- The outcome of one record, by its entrance.
use Rattle.mq_link.proofs.Common.{◌≡◌, ℕ, ◌+◌, ◌-◌, ◌*◌, ◌≤◌, Bool, true, false, cond, not, refl, length, Option, None, Some, ap, ◌∙◌, ltb, ltb-false}
use Rattle.mq_link.proofs.Common.{RecordView, Kind, Long, Repeated, is_admitted, is_allowed, Configuration, cost_by, record_cost, search_cost, work_cost}
use Rattle.mq_link.proofs.Common.{Verdict}
use Rattle.mq_link.proofs.Common.{Denied, Ignored, Refused, least_by, least_judged, least_search, least_work, moved_by_edit, moves_by, record_moves, RecordOf}
use Rattle.mq_link.proofs.Common.{Setting, leaving}
use Rattle.mq_link.proofs.Common.{stated, Seen, met, Stops, GoesOn, entrance, entrance_as, kind_named, is_repeated, judged_from, judged, seen_by, seen_after}
use Rattle.std.specs.FinMap as map
use Rattle.std.specs.FinSet as set
use Rattle.mq_link.specs.State.{Groups, group_at, sources_of}

module _ (at : Setting) (seen : Seen) (r : RecordView ℕ) (groups : Groups) where
  pub judged_stopped : (verdict : Verdict) → entrance at.config r ≡ Stops verdict → judged at seen r groups ≡ leaving groups verdict
  unfolding judged
  judged_stopped verdict is = ap (judged_from at seen r groups) is

  pub judged_repeated : (kind : Kind) → entrance at.config r ≡ GoesOn kind → is_repeated groups seen r.group ≡ true →
      judged at seen r groups ≡ leaving groups (Refused Repeated)
  unfolding judged
  judged_repeated kind is repeated =
      ap (judged_from at seen r groups) is
      ∙ ap (λ b. cond b (leaving groups (Refused Repeated)) (stated at r.group (RecordOf kind (set.from_list r.sources)) groups)) repeated

  pub judged_stated : (kind : Kind) → entrance at.config r ≡ GoesOn kind → is_repeated groups seen r.group ≡ false →
      judged at seen r groups ≡ stated at r.group (RecordOf kind (set.from_list r.sources)) groups
  unfolding judged
  judged_stated kind is first =
      ap (judged_from at seen r groups) is
      ∙ ap (λ b. cond b (leaving groups (Refused Repeated)) (stated at r.group (RecordOf kind (set.from_list r.sources)) groups)) first

-- The counters, comparisons and moves of a record, by its entrance.
module _ (at : Setting) (seen : Seen) (r : RecordView ℕ) (groups : Groups) where
  pub record IsCounted (after : Seen) (least most moved : ℕ) : Type 0 where
    pub seen_is : seen_after at.config r groups seen ≡ after
    pub least_is : least_judged at seen r groups ≡ least
    pub most_is : record_cost at.config seen r groups ≡ most
    pub moved_is : record_moves at.config seen r groups ≡ moved

  pub counted_stopped : (verdict : Verdict) → entrance at.config r ≡ Stops verdict → IsCounted seen 0 0 0
  counted_stopped verdict is = record {
    seen_is = ap (λ e. seen_by e r.group groups seen) is;
    least_is = ap (λ e. least_by at e seen r groups) is;
    most_is = ap (λ e. cost_by e seen r groups) is;
    moved_is = ap (λ e. moves_by e seen r groups) is;
  }

  abbrev pub seen_once : Seen
  seen_once = cond (map.contains_key groups r.group) (map.insert seen r.group (met seen r.group + 1)) seen

  pub counted_repeated : (kind : Kind) → entrance at.config r ≡ GoesOn kind → is_repeated groups seen r.group ≡ true →
      IsCounted seen_once (least_search groups) (search_cost groups) 0
  counted_repeated kind is repeated = record {
    seen_is = ap (λ e. seen_by e r.group groups seen) is;
    least_is = ap (λ e. least_by at e seen r groups) is ∙
        ap (λ b. cond b (least_search groups)
        (least_search groups + (length r.sources - 1) + least_work at r.group (RecordOf kind (set.from_list r.sources)) groups)) repeated;
    most_is = ap (λ e. cost_by e seen r groups) is ∙ ap (λ b. cond b (search_cost groups) (work_cost groups r + search_cost groups)) repeated;
    moved_is = ap (λ e. moves_by e seen r groups) is ∙
        ap (λ b. cond b 0 (5 * (sources_of (group_at groups r.group) + length r.sources) + moved_by_edit)) repeated;
  }

  pub counted_stated : (kind : Kind) → entrance at.config r ≡ GoesOn kind → is_repeated groups seen r.group ≡ false
      → IsCounted seen_once (least_search groups + (length r.sources - 1) + least_work at r.group (RecordOf kind (set.from_list r.sources)) groups)
      (work_cost groups r + search_cost groups) (5 * (sources_of (group_at groups r.group) + length r.sources) + moved_by_edit)
  counted_stated kind is first = record {
    seen_is = ap (λ e. seen_by e r.group groups seen) is;
    least_is = ap (λ e. least_by at e seen r groups) is ∙
        ap (λ b. cond b (least_search groups)
        (least_search groups + (length r.sources - 1) + least_work at r.group (RecordOf kind (set.from_list r.sources)) groups)) first;
    most_is = ap (λ e. cost_by e seen r groups) is ∙ ap (λ b. cond b (search_cost groups) (work_cost groups r + search_cost groups)) first;
    moved_is = ap (λ e. moves_by e seen r groups) is ∙ ap (λ b. cond b 0 (5 * (sources_of (group_at groups r.group) + length r.sources) + moved_by_edit)) first;
  }

-- a record that goes on names no more sources than a group may have
pub short_enough : (config : Configuration) (r : RecordView ℕ) (so : Kind) → entrance config r ≡ GoesOn so → length r.sources ≤ config.limits.group_sources
short_enough config r so is = by_kind (kind_named r.kind) is
  where
    by_tests : (a allowed b : Bool) (kind : Kind) →
        cond (not a) (Stops Ignored) (cond (not allowed) (Stops Denied) (cond b (Stops (Refused Long)) (GoesOn kind))) ≡ GoesOn so → b ≡ false
    by_tests true true true kind h = cc
    by_tests true true false kind h = refl
    by_tests true false b kind h = cc
    by_tests false allowed b kind h = cc

    by_kind : (kind : Option Kind) → entrance_as config r kind ≡ GoesOn so → length r.sources ≤ config.limits.group_sources
    by_kind None h = cc
    by_kind (Some kind) h = ltb-false config.limits.group_sources (length r.sources)
        (by_tests (is_admitted config.family r.group) (is_allowed config r.group) (ltb config.limits.group_sources (length r.sources)) kind h)
