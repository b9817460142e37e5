-- Reported findings, in sequence.
use Rattle.mq_check.proofs.Common.{◌≡◌, ℕ, zero, suc, ◌+◌, Bool, true, false, ◌||◌, List, [], ◌∷◌, ◌++◌, length, Result, Ok, Err, IfOk, is_err, append-nil}
use Rattle.mq_check.proofs.Common.{refl, ap, sym, subst, ◌∙◌, arith, or-false, map-append, Family, OutputState, Puts, then_put, put_as, broken_within, Asked}
use Rattle.mq_check.proofs.Common.{Additions, Finding, PossiblyExtra, counted_up, finding_lines, LastDifferences, FindingCounts, is_left_out, reported, unless}
use Rattle.mq_check.proofs.Common.{with_finding, with_findings, FindingWriterState, Tells, counted_by, counted_kinds, counted_one, counted_times, reported_by}
use Rattle.std.proofs.{Common.filter, Common.length-append, lemmas.Grind.flat_map-append, lemmas.List.Elements.filter-append}
use Rattle.mq_text.proofs.Passing.{nothing_passed}
use Rattle.mq_check.specs.declared.{finding.Difference.Difference, totals.KindCounts.KindCounts}
use Rattle.mq_check.specs.declared.finding.Finding.TheVariants.{Missing, Extra, PossiblyMissing, Differs, Interval, Silence, Packet}
use Rattle.mq_check.specs.{Entries.differ_at, FindingLines.finding_line, FindingLines.is_certain, FindingLines.is_kind, FindingLines.is_possible}
use Rattle.mq_check.proofs.Repeating.{last_of_both, reported_of_both}

-- a count that went up so many times, and then so many more
pub times_more : (first more count : ℕ) → counted_times (first + more) count ≡ counted_times more (counted_times first count)
times_more first zero count = let same : first + 0 ≡ first = omega arith in ap (λ (n : ℕ). counted_times n count) same
times_more first (suc n) count =
    let same : first + suc n ≡ suc (first + n) = omega arith in
    ap (λ (k : ℕ). counted_times k count) same ∙ ap counted_up (times_more first n count)

pub none_told : {T E : Type 0} (family : Family) (told : FindingWriterState) (at : OutputState) (x : T) → Tells {E = E} family [] told told at at (Ok x)
none_told family told at x = record { additions = refl; last = refl; count = refl; text = nothing_passed at.held told.held; failed = sym (or-false at.failed) }

-- the lines of two lists of findings
pub lines_of_both : (family : Family) (additions : Additions) (xs ys : List (Finding ℕ)) → finding_lines family additions (xs ++ ys)
    ≡ finding_lines family additions xs ++ finding_lines family additions ys
lines_of_both family additions xs ys = flat_map-append (finding_line family additions) xs ys

-- the reported findings of two lists, after those of the first list
pub reported_after : (told mid : FindingWriterState) (xs ys : List (Finding ℕ)) → mid.additions ≡ told.additions → mid.last ≡ with_findings xs told.last
    → reported_by told (xs ++ ys) ≡ reported_by told xs ++ reported_by mid ys
reported_after told mid xs ys additions last =
    reported_of_both told.additions.once xs ys told.last ∙ (λ i. reported_by told xs ++ reported (sym additions i).once (sym last i) ys)

both_noted : {T E : Type 0} (xs ys : List (Finding ℕ)) (old mid new : LastDifferences) (r : Result T E) → mid ≡ with_findings xs old →
    IfOk r (λ _. new ≡ with_findings ys mid) → IfOk r (λ _. new ≡ with_findings (xs ++ ys) old)
both_noted xs ys old mid new (Ok x) first second = second ∙ ap (with_findings ys) first ∙ sym (last_of_both xs ys old)
both_noted xs ys old mid new (Err e) first second = tt

-- the counts of two lists, one after the other
more_of : (is_counted : Finding ℕ → Bool) (xs ys : List (Finding ℕ)) (count : ℕ) → counted_times (length (filter is_counted (xs ++ ys))) count
    ≡ counted_times (length (filter is_counted ys)) (counted_times (length (filter is_counted xs)) count)
more_of is_counted xs ys count =
    let first = filter is_counted xs in
    let more = filter is_counted ys in
    ap (λ (n : ℕ). counted_times n count) (ap length (filter-append is_counted xs ys) ∙ length-append first more)
    ∙ times_more (length first) (length more) count

kinds_more : (xs ys : List (Finding ℕ)) (k : KindCounts) → counted_kinds (xs ++ ys) k ≡ counted_kinds ys (counted_kinds xs k)
kinds_more xs ys k = λ i. record {
  missing = more_of (is_kind 1) xs ys k.missing i;
  extra = more_of (is_kind 2) xs ys k.extra i;
  differs = more_of (is_kind 3) xs ys k.differs i;
  interval = more_of (is_kind 4) xs ys k.interval i;
  silence = more_of (is_kind 5) xs ys k.silence i;
  header = more_of (is_kind 6) xs ys k.header i;
}

pub counted_more : (xs ys : List (Finding ℕ)) (count : FindingCounts) → counted_by (xs ++ ys) count ≡ counted_by ys (counted_by xs count)
counted_more xs ys count = λ i. record {
  certain = more_of is_certain xs ys count.certain i;
  possible = more_of is_possible xs ys count.possible i;
  kinds = kinds_more xs ys count.kinds i;
}

both_counted : {T E : Type 0} (xs ys all : List (Finding ℕ)) (old mid new : FindingCounts) (r : Result T E) → all ≡ xs ++ ys → mid ≡ counted_by xs old
    → IfOk r (λ _. new ≡ counted_by ys mid) → IfOk r (λ _. new ≡ counted_by all old)
both_counted xs ys all old mid new (Ok x) both first second =
    second ∙ ap (counted_by ys) first ∙ sym (counted_more xs ys old) ∙ ap (λ (fs : List (Finding ℕ)). counted_by fs old) (sym both)
both_counted xs ys all old mid new (Err e) both first second = tt

-- some findings, and then others
pub then_told : {S T E E' : Type 0} (family : Family) (xs ys : List (Finding ℕ)) (old mid new : FindingWriterState) (a b c : OutputState)
    (x : S) (r : Result T E)
    → Tells {E = E'} family xs old mid a b (Ok x) → Tells family ys mid new b c r → Tells family (xs ++ ys) old new a c r
then_told family xs ys old mid new a b c x r first second =
    let both = reported_after old mid xs ys first.additions first.last in
    let lines = ap (finding_lines family old.additions) both ∙ lines_of_both family old.additions (reported_by old xs) (reported_by mid ys) in
    record {
      additions = second.additions ∙ first.additions;
      last = both_noted xs ys old.last mid.last new.last r first.last second.last;
      count = both_counted (reported_by old xs) (reported_by mid ys) (reported_by old (xs ++ ys)) old.count mid.count new.count r both first.count second.count;
      text = put_as a.held c.held old.held new.held _ _ r (sym lines) (then_put a.held b.held c.held old.held mid.held new.held _ _ r first.text
          (subst (λ (additions : Additions). Puts b.held c.held mid.held new.held (finding_lines family additions (reported_by mid ys)) r)
          first.additions second.text));
      failed = second.failed ∙ ap (λ (f : Bool). f || is_err r) (first.failed ∙ or-false a.failed);
    }

-- a write failed, and others were not told
pub told_broken : {T E : Type 0} (family : Family) (xs ys : List (Finding ℕ)) (old new : FindingWriterState) (a b : OutputState) (e : E)
    → Tells {T = T} family xs old new a b (Err e) → Tells {T = T} family (xs ++ ys) old new a b (Err e)
told_broken {T} family xs ys old new a b e first =
    let both = reported_of_both old.additions.once xs ys old.last in
    let lines = ap (finding_lines family old.additions) both ∙ lines_of_both family old.additions (reported_by old xs)
    (reported old.additions.once (with_findings xs old.last) ys) in
    record {
      additions = first.additions;
      last = tt;
      count = tt;
      text = put_as {T = T} a.held b.held old.held new.held _ _ (Err e) (sym lines) (broken_within a.held b.held old.held _ _ first.text);
      failed = first.failed;
    }

-- the report is the same for each fault
pub broken_as : {S T E E' : Type 0} (family : Family) (xs : List (Finding ℕ)) (old new : FindingWriterState) (a b : OutputState) (e : E) (e' : E')
    → Tells {T = S} family xs old new a b (Err e) → Tells {T = T} family xs old new a b (Err e')
broken_as family xs old new a b e e' tells = record { additions = tells.additions; last = tt; count = tt; text = tells.text; failed = tells.failed }

-- one reported finding
noted : {T E : Type 0} (new last : LastDifferences) (r : Result T E) → new ≡ last → IfOk r (λ _. new ≡ last)
noted new last (Ok x) is = is
noted new last (Err e) is = tt

counted_alone : (x : Finding ℕ) (old : FindingCounts) → counted_one x old ≡ counted_by (x ∷ []) old
counted_alone (Missing moment packet asked) old = refl
counted_alone _ old = refl

one_counted : {T E : Type 0} (x : Finding ℕ) (old new : FindingCounts) (r : Result T E) → new ≡ counted_one x old →
    IfOk r (λ _. new ≡ counted_by (x ∷ []) old)
one_counted x old new (Ok y) is = is ∙ counted_alone x old
one_counted x old new (Err e) is = tt

pub one_told : {T E : Type 0} (family : Family) (x : Finding ℕ) (old counted new : FindingWriterState) (a b : OutputState) (r : Result T E) →
    is_left_out old.additions.once old.last x ≡ false → counted ≡ record old { last = with_finding x old.last; count = counted_one x old.count } →
    new.additions ≡ counted.additions → new.last ≡ counted.last → new.count ≡ counted.count
    → Puts a.held b.held counted.held new.held (finding_line family counted.additions x) r →
    b.failed ≡ a.failed || is_err r → Tells family (x ∷ []) old new a b r
one_told family x old counted new a b r is counts additions last count text failed =
    let one : reported_by old (x ∷ []) ≡ x ∷ [] = ap (λ (b : Bool). unless b x []) is in
    let held : counted.held ≡ old.held = ap (λ (t : FindingWriterState). t.held) counts in
    let cited : counted.additions ≡ old.additions = ap (λ (t : FindingWriterState). t.additions) counts in
    record {
      additions = additions ∙ cited;
      last = noted new.last (with_finding x old.last) r (last ∙ ap (λ (t : FindingWriterState). t.last) counts);
      count = subst (λ (fs : List (Finding ℕ)). IfOk r (λ _. new.count ≡ counted_by fs old.count)) (sym one)
          (one_counted x old.count new.count r (count ∙ ap (λ (t : FindingWriterState). t.count) counts));
      text = put_as a.held b.held old.held new.held _ _ r (sym (append-nil (finding_line family old.additions x)) ∙
          ap (finding_lines family old.additions) (sym one))
          (subst (λ (h : List ℕ). Puts a.held b.held h new.held (finding_line family old.additions x) r) held
          (subst (λ (s : Additions). Puts a.held b.held counted.held new.held (finding_line family s x) r) cited text));
      failed = failed;
    }

-- one was left out
pub one_left_out : {T E : Type 0} (family : Family) (x : Finding ℕ) (old new : FindingWriterState) (at : OutputState) (y : T) →
    is_left_out old.additions.once old.last x ≡ true → new ≡ record old { last = with_finding x old.last }
    → Tells {E = E} family (x ∷ []) old new at at (Ok y)
one_left_out {T} {E} family x old new at y is same =
    let none : reported_by old (x ∷ []) ≡ [] = ap (λ (b : Bool). unless b x []) is in
    let left : Tells {T = T} {E = E} family (x ∷ []) old (record old { last = with_finding x old.last }) at at (Ok y) = record {
      additions = refl;
      last = refl;
      count = ap (λ (fs : List (Finding ℕ)). counted_by fs old.count) (sym none);
      text = put_as {T = T} {E = E} at.held at.held old.held old.held [] _ (Ok y) (ap (finding_lines family old.additions) (sym none))
          (nothing_passed at.held old.held);
      failed = sym (or-false at.failed);
    } in
    subst (λ (t : FindingWriterState). Tells {T = T} {E = E} family (x ∷ []) old t at at (Ok y)) (sym same) left

-- the differing fields are reported, and then others; or a write failed and others are not reported
pub fields_told : {S T E E' : Type 0} (family : Family) (moment packet : ℕ) (asked : Asked ℕ) (xs ys : List (Difference ℕ)) (old mid new : FindingWriterState)
    (a b c : OutputState) (x : S) (r : Result T E)
    → Tells {E = E'} family (differ_at moment packet asked xs) old mid a b (Ok x) → Tells family (differ_at moment packet asked ys) mid new b c r →
    Tells family (differ_at moment packet asked (xs ++ ys)) old new a c r
fields_told {S} {T} {E} family moment packet asked xs ys old mid new a b c x r first second =
    subst (λ (fs : List (Finding ℕ)). Tells {T = T} {E = E} family fs old new a c r) (sym (map-append (Differs moment packet asked) xs ys))
    (then_told family _ _ old mid new a b c x r first second)

pub fields_broken : {T E : Type 0} (family : Family) (moment packet : ℕ) (asked : Asked ℕ) (xs ys : List (Difference ℕ)) (old new : FindingWriterState)
    (a b : OutputState) (e : E)
    → Tells {T = T} family (differ_at moment packet asked xs) old new a b (Err e) →
    Tells {T = T} family (differ_at moment packet asked (xs ++ ys)) old new a b (Err e)
fields_broken {T} {E} family moment packet asked xs ys old new a b e first =
    subst (λ (fs : List (Finding ℕ)). Tells {T = T} {E = E} family fs old new a b (Err e)) (sym (map-append (Differs moment packet asked) xs ys))
    (told_broken family _ _ old new a b e first)

-- the same with the fields as they are named otherwise
pub fields_as : {T E : Type 0} (family : Family) (moment packet : ℕ) (asked : Asked ℕ) (xs ys : List (Difference ℕ)) (old new : FindingWriterState)
    (a b : OutputState) (r : Result T E)
    → xs ≡ ys → Tells family (differ_at moment packet asked xs) old new a b r → Tells family (differ_at moment packet asked ys) old new a b r
fields_as {T} {E} family moment packet asked xs ys old new a b r same tells =
    subst (λ (ds : List (Difference ℕ)). Tells {T = T} {E = E} family (differ_at moment packet asked ds) old new a b r) same tells

-- the same with the findings as they are named otherwise
pub tells_as : {T E : Type 0} (family : Family) (xs ys : List (Finding ℕ)) (old new : FindingWriterState) (a b : OutputState) (r : Result T E) → xs ≡ ys →
    Tells family xs old new a b r → Tells family ys old new a b r
tells_as {T} {E} family xs ys old new a b r same tells = subst (λ (fs : List (Finding ℕ)). Tells {T = T} {E = E} family fs old new a b r) same tells
