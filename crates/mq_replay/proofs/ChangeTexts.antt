-- The line of a group that was changed, by the row of its sources.
use Rattle.mq_replay.proofs.Common.{◌≡◌, ℕ, ◌<◌, Bool, true, false, cond, ◌||◌, List, [], ◌∷◌, ◌++◌, Option, None, codes, length, take, drop, get_or}
use Rattle.mq_replay.proofs.Common.{append_assoc, append-nil, arith, refl, sym, ap, subst, ◌∙◌, ◌+◌, ◌≤◌, filter, list_map, flat_map, list_any, flat_map-append}
use Rattle.mq_replay.proofs.Common.{take_more, take-append-drop, take_all, IsAscending, Family, Source, Include, GroupState, is_include, number_in, timers_in}
use Rattle.mq_replay.proofs.Common.{ScheduledGroup, Groups, group_at, absent_unheld, GrowsByBeginning, Passes, broken_behind, broken_within, line_of}
use Rattle.mq_replay.proofs.Common.{change_start, Changes, change_events, event_in, is_named, name_by, named_by}
use Rattle.mq_table.{specs.declared.timers.FilterMode.FilterMode, specs.Filter.names, specs.Group.vacant, proofs.Rows.filter_in_row}
use Rattle.mq_replay.specs.{ChangeLines.change_line, ChangeLines.filter_name, ChangeLines.named_sources, ChangeLines.named_text, NamedSources.if_named}
use Rattle.std.specs.FinMap as map

-- those of some items that are named
module _ {X : Type 0} (number : X → ℕ) (named : X → Bool) where
  name_of : (is_include : Bool) (xs : List X) → filter_name is_include (list_map number (filter named xs)) ≡ name_by is_include (list_any named xs)
  name_of true (x ∷ xs) = by_name (named x) (name_of true xs)
    where
      by_name : (b : Bool) → filter_name true (list_map number (filter named xs)) ≡ name_by true (list_any named xs)
          → filter_name true (list_map number (cond b (x ∷ filter named xs) (filter named xs))) ≡ name_by true (b || list_any named xs)
      by_name true rest = refl
      by_name false rest = rest
  name_of _ _ = refl

  texts_of : (text_of : ℕ → List ℕ) (xs : List X) → flat_map text_of (list_map number (filter named xs))
      ≡ flat_map (λ x. if_named (named x) (text_of (number x))) xs
  texts_of text_of [] = refl
  texts_of text_of (x ∷ xs) = by_name (named x) (texts_of text_of xs)
    where
      by_name : (b : Bool) → flat_map text_of (list_map number (filter named xs)) ≡ flat_map (λ x. if_named (named x) (text_of (number x))) xs
          → flat_map text_of (list_map number (cond b (x ∷ filter named xs) (filter named xs))) ≡ if_named b (text_of (number x)) ++
          flat_map (λ x. if_named (named x) (text_of (number x))) xs
      by_name true rest = ap (λ (more : List ℕ). text_of (number x) ++ more) rest
      by_name false rest = rest

module _ {K : Type 0} (number : K → ℕ) (family : Family) (mode : FilterMode) (row : List (Source K)) (up : IsAscending (number_in number) row) where
  abbrev named : Source K → Bool
  named x = is_named mode x.timer

  abbrev stored : GroupState
  stored = record { mode = mode; sources = timers_in number row; v1 = None; v2 = None }

  -- the sources that the filter names
  named_in_row : named_sources stored ≡ list_map (number_in number) (filter named row)
  named_in_row = filter_in_row number (λ s timer. names mode timer) row up

  pub line-row : (moment group : ℕ)
      → (change_start family moment group ++ name_by (is_include mode) (list_any named row)) ++
      (flat_map (λ (x : Source K). named_by family mode (number x.address) x.timer) row ++ codes "\n") ≡ change_line family moment group stored
  line-row moment group =
      let start = change_start family moment group in
      let name = name_by (is_include mode) (list_any named row) in
      let texts = flat_map (λ (x : Source K). named_by family mode (number x.address) x.timer) row in
      let sources = list_map (number_in number) (filter named row) in
      append_assoc start name (texts ++ codes "\n") ∙ ap (λ (t : List ℕ). start ++ t) (sym (append_assoc name texts (codes "\n")))
      ∙ (λ i. start ++ line_of (sym (name_of (number_in number) named (is_include mode) row) i ++
      sym (texts_of (number_in number) named (named_text family (is_include mode)) row) i))
      ∙ ap (λ (ss : List ℕ). start ++ line_of (filter_name (is_include mode) ss ++ flat_map (named_text family (is_include mode)) ss)) (sym named_in_row)

-- the events of groups whose addresses are numbered
pub events-numbered : {K : Type 0} (number : K → ℕ) (json : Bool) (family : Family) (moment : ℕ) (groups : Groups) (addresses : List K)
    → flat_map (λ x. event_in json family moment (Changes (number x) (group_at groups (number x)).group)) addresses
    ≡ change_events json family moment groups (list_map number addresses)
events-numbered number json family moment groups [] = refl
events-numbered number json family moment groups (x ∷ addresses) =
    ap (λ (rest : List ℕ). event_in json family moment (Changes (number x) (group_at groups (number x)).group) ++ rest)
    (events-numbered number json family moment groups addresses)

-- the line and the event of a group that isn't held
pub line-vacant : (family : Family) (moment group : ℕ) → (change_start family moment group ++ codes " none") ++
    codes "\n" ≡ change_line family moment group vacant
line-vacant family moment group = line-row {K = ℕ} (λ n. n) family Include [] (λ i j d before in_list. absurd (omega arith)) moment group

pub event-absent : (json : Bool) (family : Family) (moment address : ℕ) (groups : Groups) → map.contains_key groups address ≡ false →
    event_in json family moment (Changes address vacant) ≡ event_in json family moment (Changes address (group_at groups address).group)
event-absent json family moment address groups absent =
    sym (ap (λ (e : ScheduledGroup). event_in json family moment (Changes address e.group)) (absent_unheld groups address absent))

-- the text of an item was not put whole
pub item_broken : {X : Type 0} (text_of : X → List ℕ) (a b c : Option (List ℕ)) (held mid : List ℕ) (items : List X) (i : ℕ) (item default : X)
    (text : List ℕ) → i < length items → item ≡ get_or items i default → flat_map text_of items ≡ text
    → Passes a b held mid (flat_map text_of (take i items)) → GrowsByBeginning b c (mid ++ text_of item) → GrowsByBeginning a c (held ++ text)
item_broken text_of a b c held mid items i item default text within is same before begun =
    let first = flat_map text_of (take i items) in
    let rest = flat_map text_of (drop (i + 1) items) in
    let more : flat_map text_of (take (i + 1) items) ≡ first ++ text_of item =
    ap (flat_map text_of) (take_more items i default within) ∙ flat_map-append text_of (take i items) (get_or items i default ∷ [])
    ∙ ap (λ (x : _). first ++ flat_map text_of (x ∷ [])) (sym is) ∙ ap (λ (t : List ℕ). first ++ t) (append-nil (text_of item)) in
    let all : flat_map text_of items ≡ (first ++ text_of item) ++ rest =
    sym (ap (flat_map text_of) (take-append-drop (i + 1) items)) ∙ flat_map-append text_of (take (i + 1) items) (drop (i + 1) items) ∙
    ap (λ (t : List ℕ). t ++ rest) more in
    subst (λ (t : List ℕ). GrowsByBeginning a c (held ++ t)) (sym all ∙ same)
    (broken_within a c held (first ++ text_of item) rest (broken_behind a b c held mid first (text_of item) before begun))

-- all were put
pub all_passed : {X : Type 0} (text_of : X → List ℕ) (a b : Option (List ℕ)) (held left : List ℕ) (items : List X) (i : ℕ) (text : List ℕ) →
    length items ≤ i → flat_map text_of items ≡ text → Passes a b held left (flat_map text_of (take i items)) → Passes a b held left text
all_passed text_of a b held left items i text all same passed =
    subst (λ (t : List ℕ). Passes a b held left t) same (subst (λ (xs : List _). Passes a b held left (flat_map text_of xs)) (take_all i items all) passed)
