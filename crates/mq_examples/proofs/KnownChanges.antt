-- The changed groups, if those before and after are known, for the worked examples.
use Rattle.mq_examples.proofs.Common.{◌≡◌, ℕ, Bool, true, false, not, ◌||◌, refl, List, [], ◌∷◌, None, Result, Ok, sym, ap, ◌∙◌, filter, nat_cmp, find}
use Rattle.mq_examples.proofs.Common.{nat_cmp_total, ReportMessage, RecordView, is_include, Configuration, LinkState, Envelope, read_of, pseudo_of, drop_reason}
use Rattle.mq_examples.proofs.Common.{setting_of, ordered, keys_of, keys-known, Message, WireFault, changed_by_tick}
use Rattle.std.specs.Bool.{beq}
use Rattle.mq_table.{specs.Filter.Filter, specs.Filter.names, specs.Filter.filter_of, specs.Filter.changes_filter, proofs.Filters.changes-at}
use Rattle.mq_link.specs.{Run.Tick, Run.Datagram, Forwarding.changes, Forwarding.changed_by_read}
use Rattle.mq_link.proofs.KeptFilters.{alike_after, unchanged}
use Rattle.mq_examples.{specs.Named.Names, proofs.KnownGroups.Known, proofs.KnownGroups.as_held}
use Rattle.mq_examples.proofs.{KnownReceipts.setting_in, KnownRecords.group_in, KnownRecords.group-known, KnownRecords.judged_known, KnownRecords.judged-known}
use Rattle.mq_examples.proofs.KnownLinks.{KnownGroups, as_groups, KnownLink, as_link, tick_in, tick-known}
use Rattle.std.specs.FinMap as map
use Rattle.std.specs.FinSet as set

-- a filter, of a list of sources
abbrev pub filter_known : Known → Filter
filter_known k = record {
  is_include = is_include k.mode;
  sources = set.from_list (filter (λ s. names k.mode (find nat_cmp s k.sources)) (keys_of (ordered k.sources)));
}

filter-known : (k : Known) → filter_of (as_held k).group ≡ filter_known k
filter-known k = λ i. record {
  is_include = is_include k.mode;
  sources = set.from_list (filter (λ s. names k.mode (map.get-from_entries nat_cmp_total k.sources s i)) (keys-known k.sources i));
}

-- the test for a source that one of two filters alone names
abbrev pub apart_at : Known → Known → ℕ → Bool
apart_at k m s = not (beq (names k.mode (find nat_cmp s k.sources)) (names m.mode (find nat_cmp s m.sources)))

module _ (before after : KnownGroups) (group : ℕ) where
  known : changes (as_groups before) (as_groups after) group ≡ changes_filter (as_held (group_in before group)).group (as_held (group_in after group)).group
  known = λ i. changes_filter (group-known before group i).group (group-known after group i).group

  -- a source that is named by one alone makes a change, and filters of the same list make none
  changed_at : (s : ℕ) → apart_at (group_in before group) (group_in after group) s ≡ true → changes (as_groups before) (as_groups after) group ≡ true
  changed_at s is =
      let k = group_in before group in
      let m = group_in after group in
      known ∙ changes-at (as_held k).group (as_held m).group s ((λ i. not (beq (names k.mode (map.get-from_entries nat_cmp_total k.sources s i))
      (names m.mode (map.get-from_entries nat_cmp_total m.sources s i)))) ∙ is)

  stays : filter_known (group_in before group) ≡ filter_known (group_in after group) → changes (as_groups before) (as_groups after) group ≡ false
  stays same =
      let k = as_held (group_in before group) in
      let m = as_held (group_in after group) in
      known ∙ alike_after k.group m.group k.group (filter-known (group_in after group) ∙ sym same ∙ sym (filter-known (group_in before group))) ∙
      unchanged k.group

-- the lemmas for examples: a tick, and a Report with one record at a moment when a tick changes nothing
tick_is : (config : Configuration) (now : ℕ) (l : KnownLink) (group : ℕ) → changed_by_tick config now (as_link l) group ≡ changes (as_groups l.groups)
    (as_groups (tick_in config now l).link.groups) group
tick_is config now l group = ap (λ s. changes (as_groups l.groups) s.state.groups group) (tick-known config now l)

pub tick_names : (config : Configuration) (now : ℕ) (l : KnownLink) (group s : ℕ) →
    apart_at (group_in l.groups group) (group_in (tick_in config now l).link.groups group) s ≡ true → Names config (Tick now) l group true
tick_names config now l group s is = record { named = tick_is config now l group ∙ changed_at l.groups (tick_in config now l).link.groups group s is }

module _ (config : Configuration) (envelope : Envelope) (bytes : List ℕ) (now : ℕ) (l : KnownLink) (group : ℕ) (r : RecordView ℕ) where
  abbrev pub left : KnownLink
  left = (tick_in config now l).link

  abbrev pub then : KnownGroups
  then = (judged_known (setting_in config left) [] r left.groups).groups

  -- the datagram is such a Report
  pub record Reports : Type 0 where
    pub read : read_of config.family (pseudo_of config.family envelope bytes) bytes ≡ Ok (ReportMessage (r ∷ []))
    pub taken : drop_reason config envelope (Ok (ReportMessage (r ∷ []))) ≡ None
    pub quiet : filter_known (group_in l.groups group) ≡ filter_known (group_in left.groups group)

  named_by : Reports → (answer : Bool) → changes (as_groups left.groups) (as_groups then) group ≡ answer →
      Names config (Datagram envelope bytes now) l group answer
  named_by h answer is =
      let by = λ (state : LinkState) (m : Result (Message ℕ) WireFault). changed_by_read (setting_of config state) m
      (drop_reason config envelope m) state.groups group in
      record {
        named =
            (λ i. (tick_is config now l group ∙ stays l.groups left.groups group h.quiet) i || by (tick-known config now l i).state (h.read i))
            ∙ ap (λ reason. changed_by_read (setting_in config left) (Ok (ReportMessage (r ∷ []))) reason (as_groups left.groups) group) h.taken
            ∙ ap (λ o. changes (as_groups left.groups) o.groups group || false) (judged-known (setting_in config left) [] r left.groups) ∙ or_nothing _
            ∙ is;
      }
    where
      or_nothing : (b : Bool) → (b || false) ≡ b
      or_nothing true = refl
      or_nothing false = refl

  pub record_names : (s : ℕ) → Reports → apart_at (group_in left.groups group) (group_in then group) s ≡ true →
      Names config (Datagram envelope bytes now) l group true
  record_names s h is = named_by h true (changed_at left.groups then group s is)

  pub record_leaves : Reports → filter_known (group_in left.groups group) ≡ filter_known (group_in then group) →
      Names config (Datagram envelope bytes now) l group false
  record_leaves h same = named_by h false (stays left.groups then group same)
