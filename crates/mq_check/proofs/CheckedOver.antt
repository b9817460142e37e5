-- A check in the code, and what its verdict comes to.
use Rattle.mq_check.proofs.Common.{◌≡◌, ℕ, zero, suc, ◌+◌, ◌-◌, ◌^◌, min, Bool, true, false, if◌then◌else◌, List, ◌++◌, length, Option, Result, Ok, Err, refl}
use Rattle.mq_check.proofs.Common.{ap, sym, subst, ◌∙◌, append_assoc, arith, or-false, InputState, Family, Configuration, GrowsByBeginning, OutputState, Passes}
use Rattle.mq_check.proofs.Common.{CaptureFault, Walked, Report, PlacedPacket, IsRestPut, Basis, CheckTerms, Finding, FindingCounts, Totals, Checked, Outcome}
use Rattle.mq_check.proofs.Common.{behind, looked_ahead, quiet, purged_through, basis_at_end, with_packet, CheckingValue, counted_up, told_at_end, CheckState}
use Rattle.mq_check.proofs.Common.{Comes, checked_in, counted_behind, end_text, ended_behind, finding_lines, last_lines, silence_up_to, reported, with_findings}
use Rattle.mq_check.proofs.Common.{FindingWriterState, Tells, counted_by, counted_kinds, counted_times, reported_by}
use Rattle.mq_walk.specs.PuttingReports.{PutsReport, end_of, rest_at}
use Rattle.mq_walk.proofs.ReportedOver.{IsPassed, IsStepped, Puts, WalksUpToGap, come_to_the_end, report_behind, reported_early, reported_well, rest_joined}
use Rattle.mq_check.specs.Check.{at_the_start, check_of, concluded, ended_at, found_text, kinds_of, totals_of}
use Rattle.mq_check.specs.{Coming.ChecksPacket, Coming.TakesChecked, Telling.no_kinds, Telling.none_counted, Telling.nothing_told}
use Rattle.mq_check.specs.{FindingLines.certain_in, FindingLines.of_kind, FindingLines.possible_in, Repeated.all_reported, Repeated.no_differences}
use Rattle.mq_check.proofs.{Repeating.reported_of_both, Tellings.counted_more, Tellings.lines_of_both, Tellings.none_told, Tellings.then_told}
use Rattle.mq_walk.specs.declared.capture_fault.CaptureFault.TheVariants as answer

-- counts that go up one by one stay at the greatest
counted_to : (n : ℕ) → counted_times n 0 ≡ min n (2 ^ 64 - 1)
counted_to zero = refl
counted_to (suc n) = ap counted_up (counted_to n) ∙ (grind arith)

kinds_to : (found : List (Finding ℕ)) → counted_kinds found no_kinds ≡ kinds_of found
kinds_to found = λ i. record {
  missing = counted_to (length (of_kind 1 found)) i;
  extra = counted_to (length (of_kind 2 found)) i;
  differs = counted_to (length (of_kind 3 found)) i;
  interval = counted_to (length (of_kind 4 found)) i;
  silence = counted_to (length (of_kind 5 found)) i;
  header = counted_to (length (of_kind 6 found)) i;
}

totals_are : (c : CheckingValue) (rests : Basis) (found rest : List (Finding ℕ)) (count : FindingCounts) → count ≡ counted_by found none_counted →
    totals_of c rests (found ++ rest) ≡ counted_behind count c rests rest
totals_are c rests found rest count counts =
    let all = counted_more found rest none_counted ∙ ap (counted_by rest) (sym counts) in
    let findings = sym (counted_to (length (certain_in (found ++ rest)))) ∙ ap (λ (n : FindingCounts). n.certain) all in
    let possible = sym (counted_to (length (possible_in (found ++ rest)))) ∙ ap (λ (n : FindingCounts). n.possible) all in
    let kinds = sym (kinds_to (found ++ rest)) ∙ ap (λ (n : FindingCounts). n.kinds) all in
    λ i. record { general = c.general; specific = c.specific; findings = findings i; possible = possible i; kinds = kinds i; basis = rests }

-- the end of a check behind what was found before
ended_joined : (config : Configuration) (within : ℕ) (told : FindingWriterState) (moment number : ℕ) (found : List (Finding ℕ)) (r : Checked)
    → told.last ≡ with_findings found no_differences → told.count ≡ counted_by (all_reported told.additions found) none_counted
    → ended_at config within told.additions moment number found r
    ≡ report_behind (finding_lines config.family told.additions (all_reported told.additions found)) (ended_behind config within told moment number r)
unfolding ended_at ended_behind
ended_joined config within told moment number found r lasts counts = by_room c.waiting.is_full
  where
    done : Outcome
    done = purged_through config within moment r

    ahead : Outcome
    ahead = looked_ahead config within moment done.checked

    c : CheckingValue
    c = ahead.checked.checking

    rests : Basis
    rests = basis_at_end done.checked

    first : List (Finding ℕ)
    first = all_reported told.additions found

    lines : List ℕ
    lines = finding_lines config.family told.additions first

    more : List (Finding ℕ)
    more = done.found ++ ahead.found

    last : List (Finding ℕ)
    last = told_at_end within config.timing moment (silence_up_to within config.timing moment done.checked.checking.phase) c

    part : List (Finding ℕ)
    part = found ++ done.found ++ ahead.found

    all : List (Finding ℕ)
    all = part ++ last

    rest : List (Finding ℕ)
    rest = reported_by told (more ++ last)

    at : Bool → Report Totals
    at b =
        if b
        then record { text = found_text config told.additions part; answer = Err (answer.Waiting number) }
        else concluded config told.additions c rests all

    behind : Bool → Report Totals
    behind b =
        if b
        then record { text = finding_lines config.family told.additions (reported_by told more); answer = Err (answer.Waiting number) } else record {
          text = end_text config.family told.additions rest (counted_behind told.count c rests rest);
          answer = Ok (counted_behind told.count c rests rest);
        }

    reported_then : (fs : List (Finding ℕ)) → all_reported told.additions (found ++ fs) ≡ first ++ reported_by told fs
    reported_then fs = reported_of_both told.additions.once found fs no_differences ∙ (λ i. first ++ reported told.additions.once (sym lasts i) fs)

    parts : all_reported told.additions part ≡ first ++ reported_by told more
    parts = ap (all_reported told.additions) (append_assoc found done.found ahead.found) ∙ reported_then more

    same : all_reported told.additions all ≡ first ++ rest
    same = ap (all_reported told.additions) (ap (λ (fs : List (Finding ℕ)). fs ++ last) (append_assoc found done.found ahead.found) ∙
        append_assoc found more last) ∙ reported_then (more ++ last)

    totals : totals_of c rests (all_reported told.additions all) ≡ counted_behind told.count c rests rest
    totals = ap (totals_of c rests) same ∙ totals_are c rests first rest told.count counts

    by_room : (b : Bool) → at b ≡ report_behind lines (behind b)
    by_room true = λ i. record {
      text = (ap (finding_lines config.family told.additions) parts ∙ lines_of_both config.family told.additions first (reported_by told more)) i;
      answer = Err (answer.Waiting number);
    }
    by_room false = λ i. record {
      text = (ap (λ (t : Totals). finding_lines config.family told.additions (all_reported told.additions all) ++ last_lines told.additions.json t) totals
          ∙ ap (λ (fs : List (Finding ℕ)). finding_lines config.family told.additions fs ++
          last_lines told.additions.json (counted_behind told.count c rests rest)) same
          ∙ ap (λ (t : List ℕ). t ++ last_lines told.additions.json (counted_behind told.count c rests rest))
          (lines_of_both config.family told.additions first rest)
          ∙ append_assoc lines (finding_lines config.family told.additions rest) (last_lines told.additions.json (counted_behind told.count c rests rest))) i;
      answer = Ok (totals i);
    }

-- the end of a check fails only if too many entries are pending then
pub only_waits : (config : Configuration) (terms : CheckTerms) (moment number : ℕ) (o : Outcome) (e : CaptureFault)
    → ((check_of config terms).ended moment number o).answer ≡ Err e → e ≡ answer.Waiting number
unfolding ended_at
only_waits config terms moment number o e is = by_room ahead.checked.checking.waiting.is_full is
  where
    done : Outcome
    done = purged_through config terms.within moment o.checked

    ahead : Outcome
    ahead = looked_ahead config terms.within moment done.checked

    found : List (Finding ℕ)
    found = o.found ++ done.found ++ ahead.found

    silence : Option ℕ
    silence = silence_up_to terms.within config.timing moment done.checked.checking.phase

    broken : Report Totals
    broken = record { text = found_text config terms.additions found; answer = Err (answer.Waiting number) }

    whole : Report Totals
    whole =
        concluded config terms.additions ahead.checked.checking (basis_at_end done.checked)
        (found ++ told_at_end terms.within config.timing moment silence ahead.checked.checking)

    by_room : (b : Bool) → (if◌then◌else◌ {A = Report Totals} b broken whole).answer ≡ Err e → e ≡ answer.Waiting number
    by_room true is = sym (cc is)
    by_room false is = absurd (cc is)

-- the first lines, in the terms of a verdict
told_lines : (config : Configuration) (terms : CheckTerms) (family : Family) (found : List (Finding ℕ)) (told : FindingWriterState) → family ≡ config.family →
    told.additions ≡ terms.additions → told.last ≡ no_differences
    → finding_lines family told.additions (reported_by told found) ≡ finding_lines config.family terms.additions (all_reported terms.additions found)
told_lines config terms family found told is_family is_cite is_new = λ i. finding_lines (is_family i) (is_cite i) (reported (is_cite i).once (is_new i) found)

-- the written findings are the lines of a verdict
pub lines_passed : {E : Type 0} (config : Configuration) (terms : CheckTerms) (family : Family) (found : List (Finding ℕ)) (told told' : FindingWriterState)
    (a b : OutputState) → family ≡ config.family → told.additions ≡ terms.additions → told.last ≡ no_differences
    → Tells {T = Unit} {E = E} family found told told' a b (Ok tt) →
    Passes a.held b.held told.held told'.held (finding_lines config.family terms.additions (all_reported terms.additions found))
lines_passed config terms family found told told' a b is_family is_cite is_new tells =
    subst (λ (t : List ℕ). Passes a.held b.held told.held told'.held t) (told_lines config terms family found told is_family is_cite is_new) tells.text

pub lines_broken : {E : Type 0} (config : Configuration) (terms : CheckTerms) (family : Family) (found : List (Finding ℕ)) (told told' : FindingWriterState)
    (a b : OutputState) (e : E) → family ≡ config.family → told.additions ≡ terms.additions → told.last ≡ no_differences
    → Tells {T = Unit} family found told told' a b (Err e) →
    GrowsByBeginning a.held b.held (told.held ++ finding_lines config.family terms.additions (all_reported terms.additions found))
lines_broken config terms family found told told' a b e is_family is_cite is_new tells =
    subst (λ (t : List ℕ). GrowsByBeginning a.held b.held (told.held ++ t)) (told_lines config terms family found told is_family is_cite is_new) tells.text

module _ {X : Type 0} (family : Family) (state : X → CheckState) where
  abbrev takes : PlacedPacket → X → X → Result Unit CaptureFault → Type 0
  takes packet x x' r = TakesChecked family packet (state x) (state x') r

  abbrev out : X → OutputState
  out x = (state x).output

  abbrev held : X → List ℕ
  held x = (state x).told.held

  -- the code has this outcome, and its findings stand after the start
  pub record IsCheckedAt (config : Configuration) (terms : CheckTerms) (start : FindingWriterState) (before : OutputState) (o : Outcome) (x : X) : Type 0 where
    pub checked : checked_in (state x).link (state x).queries ≡ o.checked
    pub same_config : (state x).link.config ≡ config
    pub same_terms : (state x).terms ≡ terms
    pub tells : Tells {T = Unit} {E = Unit} family o.found start (state x).told before (out x) (Ok tt)

  module _ (config : Configuration) (terms : CheckTerms) (start : FindingWriterState) (before : OutputState)
      (is_family : family ≡ config.family) (is_new : start ≡ nothing_told terms.additions) where
    passed_at : (o : Outcome) (x : X) → IsCheckedAt config terms start before o x →
        IsPassed (check_of config terms) (IsCheckedAt config terms start before) out held before start.held o x
    passed_at o x at = (
      lines_passed {E = Unit} config terms family o.found start (state x).told before (out x) is_family (ap (λ (t : FindingWriterState). t.additions) is_new)
          (ap (λ (t : FindingWriterState). t.last) is_new) at.tells,
      at.tells.failed ∙ or-false _,
    )

    -- the outcome of a packet
    abbrev one : PlacedPacket → Outcome → Outcome
    one packet o = with_packet config packet.link terms.within packet.moment packet.number packet.goes_back packet.frame o.checked

    comes_as : {E : Type 0} (packet : PlacedPacket) (o : Outcome) (x x' : X) (r : Result Unit E) → IsCheckedAt config terms start before o x
        → ChecksPacket {E = E} family packet (state x) (state x') r
        → Comes {T = Unit} {E = E} family (one packet o) (state x).link (state x').link (state x').queries (state x).told (state x').told (out x) (out x') r
    comes_as {E} packet o x x' r at step =
        subst (λ (p : Outcome). Comes {T = Unit} {E = E} family p (state x).link (state x').link (state x').queries (state x).told (state x').told
        (out x) (out x') r)
        (λ i. with_packet (at.same_config i) packet.link (at.same_terms i).within packet.moment packet.number packet.goes_back packet.frame (at.checked i))
        step.comes

    come_on : (packet : PlacedPacket) (o : Outcome) (x x' : X) → IsCheckedAt config terms start before o x
        → ChecksPacket {E = Unit} family packet (state x) (state x') (Ok tt) → IsCheckedAt config terms start before (behind o.found (one packet o)) x'
    come_on packet o x x' at step =
        let comes = comes_as {E = Unit} packet o x x' (Ok tt) at step in
        record {
          checked = comes.checked;
          same_config = comes.same_config ∙ at.same_config;
          same_terms = step.same_terms ∙ at.same_terms;
          tells = then_told family o.found (one packet o).found start (state x).told (state x').told before (out x) (out x') tt (Ok tt) at.tells comes.tells;
        }

    stepped_at : (packet : PlacedPacket) (o : Outcome) (x x' : X) (it : Result Unit CaptureFault) → IsCheckedAt config terms start before o x →
        takes packet x x' it → IsStepped (check_of config terms) (IsCheckedAt config terms start before) out held before start.held packet o x' it
    stepped_at packet o x x' (Ok u) at step =
        let next = come_on packet o x x' at step.0 in (next, ap (λ (r : Checked). r.checking.waiting.is_full) (sym next.checked) ∙ step.1)
    stepped_at packet o x x' (Err (answer.Waiting number)) at step =
        let next = come_on packet o x x' at step.0 in (next, ap (λ (r : Checked). r.checking.waiting.is_full) (sym next.checked) ∙ step.1, step.2)
    stepped_at packet o x x' (Err answer.Write) at step =
        let comes = comes_as {E = Unit} packet o x x' (Err tt) at step in
        let tells = then_told {E = Unit} family o.found (one packet o).found start (state x).told (state x').told before (out x) (out x') tt
        (Err tt) at.tells comes.tells in (
          lines_broken {E = Unit} config terms family (o.found ++ (one packet o).found) start (state x').told before (out x') tt is_family
              (ap (λ (t : FindingWriterState). t.additions) is_new) (ap (λ (t : FindingWriterState). t.last) is_new) tells,
          tells.failed,
        )
    stepped_at packet o x x' _ at step = absurd step

  -- a check from its start
  module _ {Y : Type 0} (inner : Y → X) (old new : InputState) (y y' : Y) (is_family : family ≡ (state (inner y)).link.config.family)
      (is_new : (state (inner y)).told ≡ nothing_told (state (inner y)).terms.additions)
      (starts : checked_in (state (inner y)).link (state (inner y)).queries
      ≡ at_the_start (state (inner y)).link.config (state (inner y)).terms.within (state (inner y)).terms.flags) where
    abbrev config : Configuration
    config = (state (inner y)).link.config

    abbrev terms : CheckTerms
    terms = (state (inner y)).terms

    abbrev start : FindingWriterState
    start = (state (inner y)).told

    abbrev before : OutputState
    before = out (inner y)

    abbrev Is : Outcome → X → Type 0
    Is o x = IsCheckedAt config terms start before o x

    here : Is (quiet (at_the_start config terms.within terms.flags)) (inner y)
    here = record { checked = starts; same_config = refl; same_terms = refl; tells = none_told family start before tt }

    pub verdict_early : (e : CaptureFault) → WalksUpToGap inner takes old new y y' (Err e)
        → Puts (check_of config terms) Is out held before start.held inner takes old new y' e
    verdict_early e walks =
        reported_early (check_of config terms) Is out held before start.held inner takes (passed_at config terms start before is_family is_new)
        (stepped_at config terms start before is_family is_new) y here old new y' e walks

    module _ (w : Walked) (walks : WalksUpToGap inner takes old new y y' (Ok w)) where
      -- unchanged parts
      pub kept : ((state (inner y')).terms ≡ terms) × ((out (inner y')).failed ≡ before.failed)
      kept =
          let at = come_to_the_end (check_of config terms) Is out held before start.held inner takes
          (passed_at config terms start before is_family is_new) (stepped_at config terms start before is_family is_new) y here old new y' w walks in
          (at.1.same_terms, at.1.tells.failed ∙ or-false _)

      -- the end was put
      pub verdict_well : (after : Option (List ℕ)) (left : List ℕ) (it : Result Totals CaptureFault)
          → IsRestPut (rest_at (λ end. ended_behind (state (inner y')).link.config (state (inner y')).terms.within (state (inner y')).told end (w.packets + 1)
          (checked_in (state (inner y')).link (state (inner y')).queries)) (end_of (state (inner y')).terms.until w.last (w.packets + 1)))
          (out (inner y')).held after (held (inner y')) left it → PutsReport (check_of config terms) old new before.held after start.held left it
      verdict_well after left it put =
          let told = (state (inner y')).told in
          let number = w.packets + 1 in
          let rest = rest_at (λ end. ended_behind (state (inner y')).link.config (state (inner y')).terms.within told end number
          (checked_in (state (inner y')).link (state (inner y')).queries)) (end_of (state (inner y')).terms.until w.last number) in
          reported_well (check_of config terms) Is out held before start.held inner takes (passed_at config terms start before is_family is_new)
          (stepped_at config terms start before is_family is_new) y here old new y' w walks after left it rest (λ o at.
          let cited : told.additions ≡ terms.additions = at.tells.additions ∙ ap (λ (t : FindingWriterState). t.additions) is_new in
          let is_last = ap (λ (t : FindingWriterState). t.last) is_new in
          let lasts : told.last ≡ with_findings o.found no_differences = at.tells.last ∙ ap (with_findings o.found) is_last in
          let counts : told.count ≡ counted_by (all_reported told.additions o.found) none_counted =
          at.tells.count ∙ (λ i. counted_by (reported (sym at.tells.additions i).once (is_last i) o.found) (is_new i).count) in
          rest_joined (check_of config terms) w.last number o (λ end. ended_behind config terms.within told end number o.checked)
          (λ moment. (λ i. ended_at config terms.within (sym cited i) moment number o.found o.checked)
          ∙ ended_joined config terms.within told moment number o.found o.checked lasts counts
          ∙ (λ i. report_behind (found_text config (cited i) o.found) (ended_behind config terms.within told moment number o.checked)))
          ∙ (λ i. report_behind (found_text config terms.additions o.found) (rest_at (λ end. ended_behind (sym at.same_config i) (sym at.same_terms i).within
          told end number (sym at.checked i)) (end_of (sym at.same_terms i).until w.last number)))) put
