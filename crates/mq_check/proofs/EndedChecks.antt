-- The end of a check: what is put then.
use Rattle.mq_check.proofs.Common.{◌≡◌, ℕ, Bool, true, false, if◌then◌else◌, List, [], ◌++◌, Option, Result, Ok, Err, append_assoc, append-nil, refl, ap, sym}
use Rattle.mq_check.proofs.Common.{subst, ◌∙◌, Family, Configuration, GrowsByBeginning, OutputState, Passes, broken_behind, broken_within, both_passed}
use Rattle.mq_check.proofs.Common.{CaptureFault, Report, IsRestPut, Basis, Additions, Finding, FindingCounts, Totals, Checked, Outcome, basis_at_end}
use Rattle.mq_check.proofs.Common.{looked_ahead, purged_through, CheckingValue, told_at_end, counted_behind, end_text, ended_behind, finding_lines, last_lines}
use Rattle.mq_check.proofs.Common.{silence_up_to, reported, with_findings, FindingWriterState, Tells, counted_by, reported_by}
use Rattle.mq_check.{specs.Ending.end_behind, proofs.Repeating.reported_of_both}
use Rattle.mq_check.proofs.Tellings.{lines_of_both, reported_after, counted_more, tells_as, then_told, told_broken}
use Rattle.mq_walk.specs.declared.capture_fault.CaptureFault.TheVariants as answer

-- the basis at the end, by what the code reads
pub rests_on_end : (rests before at : Basis) (refused counted : ℕ) (crowded is_crowded : Bool)
    → rests ≡ record before { refused = refused; is_crowded = crowded } → before ≡ at → refused ≡ counted → crowded ≡ is_crowded
    → rests ≡ record at { refused = counted; is_crowded = is_crowded }
rests_on_end rests before at refused counted crowded is_crowded is same counts crowds =
    is ∙ (λ i. record (same i) { refused = counts i; is_crowded = crowds i })

-- the same for a family with another name
pub tells_in : {T E : Type 0} (family other : Family) (found : List (Finding ℕ)) (old new : FindingWriterState) (a b : OutputState) (r : Result T E) →
    family ≡ other → Tells family found old new a b r → Tells other found old new a b r
tells_in {T} {E} family other found old new a b r same tells = subst (λ (f : Family). Tells {T = T} {E = E} f found old new a b r) same tells

-- the same for a verdict with another name
pub rest_as : (v w : Report Totals) (before after : Option (List ℕ)) (held left : List ℕ) (r : Result Totals CaptureFault) → v ≡ w →
    IsRestPut v before after held left r → IsRestPut w before after held left r
rest_as v w before after held left r same put = subst (λ (x : Report Totals). IsRestPut x before after held left r) same put

-- the totals were put behind the findings, or not whole
pub end_passed : {S E : Type 0} (family : Family) (found : List (Finding ℕ)) (old mid : FindingWriterState) (a b : OutputState) (c : Option (List ℕ))
    (left : List ℕ) (x : S) (totals other : Totals)
    → Tells {E = E} family found old mid a b (Ok x) → totals ≡ other → Passes b.held c mid.held left (last_lines mid.additions.json totals) →
    Passes a.held c old.held left (end_text family old.additions (reported_by old found) other)
end_passed family found old mid a b c left x totals other tells same put =
    subst (λ (t : Totals). Passes a.held c old.held left
    (finding_lines family old.additions (reported_by old found) ++ last_lines old.additions.json t)) same
    (both_passed a.held b.held c old.held mid.held left _ _ tells.text
    (subst (λ (additions : Additions). Passes b.held c mid.held left (last_lines additions.json totals)) tells.additions put))

pub end_unpassed : {S E : Type 0} (family : Family) (found : List (Finding ℕ)) (old mid : FindingWriterState) (a b : OutputState) (c : Option (List ℕ)) (x : S)
    (totals other : Totals)
    → Tells {E = E} family found old mid a b (Ok x) → totals ≡ other → GrowsByBeginning b.held c (mid.held ++ last_lines mid.additions.json totals) →
    GrowsByBeginning a.held c (old.held ++ end_text family old.additions (reported_by old found) other)
end_unpassed family found old mid a b c x totals other tells same begun =
    subst (λ (t : Totals). GrowsByBeginning a.held c
    (old.held ++ (finding_lines family old.additions (reported_by old found) ++ last_lines old.additions.json t))) same
    (broken_behind a.held b.held c old.held mid.held _ _ tells.text
    (subst (λ (additions : Additions). GrowsByBeginning b.held c (mid.held ++ last_lines additions.json totals)) tells.additions begun))

-- a finding was not put whole
pub end_broken : {T E : Type 0} (family : Family) (found rest : List (Finding ℕ)) (old new : FindingWriterState) (a b : OutputState) (e : E) (totals : Totals)
    → Tells {T = T} family found old new a b (Err e) →
    GrowsByBeginning a.held b.held (old.held ++ end_text family old.additions (reported_by old (found ++ rest)) totals)
end_broken {T} family found rest old new a b e totals tells =
    let told = told_broken {T = T} family found rest old new a b e tells in
    broken_within a.held b.held old.held _ (last_lines old.additions.json totals) told.text

pub all_broken : {T E : Type 0} (family : Family) (found : List (Finding ℕ)) (old new : FindingWriterState) (a b : OutputState) (e : E) (totals : Totals)
    → Tells {T = T} family found old new a b (Err e) → GrowsByBeginning a.held b.held (old.held ++ end_text family old.additions (reported_by old found) totals)
all_broken family found old new a b e totals tells = broken_within a.held b.held old.held _ (last_lines old.additions.json totals) tells.text

-- the counts
pub totals_counted : (general specific : ℕ) (counted count : FindingCounts) (state other checking : CheckingValue) (rests : Basis)
    (found : List (Finding ℕ)) → state ≡ checking → other ≡ checking → general ≡ state.general → specific ≡ other.specific → counted ≡ counted_by found count
    → record { general = general; specific = specific; findings = counted.certain; possible = counted.possible; kinds = counted.kinds; basis = rests }
    ≡ counted_behind count checking rests found
totals_counted general specific counted count state other checking rests found is is_too is_general is_specific counts =
    λ i. record {
      general = (is_general ∙ ap (λ (c : CheckingValue). c.general) is) i;
      specific = (is_specific ∙ ap (λ (c : CheckingValue). c.specific) is_too) i;
      findings = (counts i).certain;
      possible = (counts i).possible;
      kinds = (counts i).kinds;
      basis = rests;
    }

-- the text of the end, behind what was found up to it
both_texts : (family : Family) (additions : Additions) (found last : List (Finding ℕ)) (totals : Totals) →
    end_text family additions (found ++ last) totals ≡ finding_lines family additions found ++ end_text family additions last totals
both_texts family additions found last totals =
    ap (λ (t : List ℕ). t ++ last_lines additions.json totals) (lines_of_both family additions found last) ∙ append_assoc (finding_lines family additions found)
    (finding_lines family additions last) (last_lines additions.json totals)

begins : (family : Family) (told : FindingWriterState) (number : ℕ) (c : CheckingValue) (rests : Basis) (found last : List (Finding ℕ)) → (more : List ℕ) ×
    ((end_behind family told number c rests found last).text ≡ finding_lines family told.additions (reported_by told found) ++ more)
begins family told number c rests found last =
    let first = reported_by told found in
    let more = reported told.additions.once (with_findings found told.last) last in
    let all = reported_by told (found ++ last) in
    let both : all ≡ first ++ more = reported_of_both told.additions.once found last told.last in
    let totals = counted_behind told.count c rests all in
    let full : Report Totals = record { text = finding_lines family told.additions first; answer = Err (answer.Waiting number) } in
    let whole : Report Totals = record { text = end_text family told.additions all totals; answer = Ok totals } in
    elim c.waiting.is_full as (λ b.
    (more : List ℕ) × ((if◌then◌else◌ {A = Report Totals} b full whole).text ≡ finding_lines family told.additions first ++ more)) [
      | true ↦ ([], sym (append-nil (finding_lines family told.additions first)))
      | false ↦ (
        end_text family told.additions more totals,
        ap (λ (fs : List (Finding ℕ)). end_text family told.additions fs totals) both ∙ both_texts family told.additions first more totals,
      )
    ]

-- a finding up to the end was not put whole
pub ended_broken : {T E : Type 0} (family : Family) (number : ℕ) (c : CheckingValue) (rests : Basis) (found last : List (Finding ℕ))
    (old new : FindingWriterState) (a b : OutputState) (e : E)
    → Tells {T = T} family found old new a b (Err e) → GrowsByBeginning a.held b.held (old.held ++ (end_behind family old number c rests found last).text)
ended_broken family number c rests found last old new a b e tells =
    let start = begins family old number c rests found last in
    subst (λ (t : List ℕ). GrowsByBeginning a.held b.held (old.held ++ t)) (sym start.1) (broken_within a.held b.held old.held _ start.0 tells.text)

-- too much waits
pub ended_full : {E : Type 0} (family : Family) (number : ℕ) (c : CheckingValue) (rests : Basis) (found last : List (Finding ℕ)) (old new : FindingWriterState)
    (a b : OutputState) → c.waiting.is_full ≡ true
    → Tells {T = Unit} {E = E} family found old new a b (Ok tt) →
    IsRestPut (end_behind family old number c rests found last) a.held b.held old.held new.held (Err (answer.Waiting number))
ended_full family number c rests found last old new a b is tells = rw is (refl, tells.text)

-- the findings of the end stand after those before it
ended_open : (family : Family) (told mid : FindingWriterState) (number : ℕ) (c : CheckingValue) (rests : Basis) (found last : List (Finding ℕ)) →
    c.waiting.is_full ≡ false
    → mid.additions ≡ told.additions → mid.last ≡ with_findings found told.last → mid.count ≡ counted_by (reported_by told found) told.count
    → end_behind family told number c rests found last ≡ record {
      text = finding_lines family told.additions (reported_by told found) ++ end_text family told.additions (reported_by mid last)
          (counted_behind mid.count c rests (reported_by mid last));
      answer = Ok (counted_behind mid.count c rests (reported_by mid last));
    }
ended_open family told mid number c rests found last is additions lasts counts =
    let first = reported_by told found in
    let more = reported_by mid last in
    let all = reported_by told (found ++ last) in
    let both : all ≡ first ++ more = reported_after told mid found last additions lasts in
    let counted : counted_by all told.count ≡ counted_by more mid.count =
    ap (λ (fs : List (Finding ℕ)). counted_by fs told.count) both ∙ counted_more first more told.count ∙ ap (counted_by more) (sym counts) in
    let before = counted_behind told.count c rests all in
    let totals : before ≡ counted_behind mid.count c rests more =
    λ i. record {
      general = c.general;
      specific = c.specific;
      findings = (counted i).certain;
      possible = (counted i).possible;
      kinds = (counted i).kinds;
      basis = rests;
    } in
    rw is (λ i. record {
      text = (ap (λ (fs : List (Finding ℕ)). end_text family told.additions fs before) both ∙ both_texts family told.additions first more before
          ∙ ap (λ (t : Totals). finding_lines family told.additions first ++ end_text family told.additions more t) totals) i;
      answer = Ok (totals i);
    })

pub ended_put : {E : Type 0} (family : Family) (number : ℕ) (c : CheckingValue) (rests : Basis) (found last : List (Finding ℕ))
    (old mid new : FindingWriterState) (x y z : OutputState) (totals : Totals) → c.waiting.is_full ≡ false
    → Tells {T = Unit} {E = E} family found old mid x y (Ok tt) → totals ≡ counted_behind mid.count c rests (reported_by mid last)
    → Passes y.held z.held mid.held new.held (end_text family mid.additions (reported_by mid last) (counted_behind mid.count c rests (reported_by mid last)))
    → IsRestPut (end_behind family old number c rests found last) x.held z.held old.held new.held (Ok totals)
ended_put family number c rests found last old mid new x y z totals is tells counts passed =
    let more = reported_by mid last in
    let same = ended_open family old mid number c rests found last is tells.additions tells.last tells.count in
    let cited = subst (λ (additions : Additions). Passes y.held z.held mid.held new.held
    (end_text family additions more (counted_behind mid.count c rests more))) tells.additions passed in (
      ap (λ (v : Report Totals). v.answer) same ∙ ap Ok (sym counts),
      subst (λ (v : Report Totals). Passes x.held z.held old.held new.held v.text) (sym same)
          (both_passed x.held y.held z.held old.held mid.held new.held _ _ tells.text cited),
    )

pub ended_unput : {E : Type 0} (family : Family) (number : ℕ) (c : CheckingValue) (rests : Basis) (found last : List (Finding ℕ))
    (old mid : FindingWriterState) (x y z : OutputState) → c.waiting.is_full ≡ false
    → Tells {T = Unit} {E = E} family found old mid x y (Ok tt) → GrowsByBeginning y.held z.held
    (mid.held ++ end_text family mid.additions (reported_by mid last) (counted_behind mid.count c rests (reported_by mid last)))
    → GrowsByBeginning x.held z.held (old.held ++ (end_behind family old number c rests found last).text)
ended_unput family number c rests found last old mid x y z is tells begun =
    let more = reported_by mid last in
    let same = ended_open family old mid number c rests found last is tells.additions tells.last tells.count in
    let cited = subst (λ (additions : Additions). GrowsByBeginning y.held z.held
    (mid.held ++ end_text family additions more (counted_behind mid.count c rests more))) tells.additions begun in
    subst (λ (v : Report Totals). GrowsByBeginning x.held z.held (old.held ++ v.text)) (sym same)
    (broken_behind x.held y.held z.held old.held mid.held _ _ tells.text cited)

-- the end, from a check at the end and a check that has looked ahead
abbrev end_from : Configuration → (within : ℕ) → FindingWriterState → (moment number : ℕ) → (found : List (Finding ℕ)) → (at left : Checked) → Report Totals
end_from config within told moment number found at left =
    end_behind config.family told number left.checking (basis_at_end at) (found ++ (looked_ahead config within moment at).found)
    (told_at_end within config.timing moment (silence_up_to within config.timing moment at.checking.phase) left.checking)

-- the end in the terms of the code: the check at the end, and the check that has looked ahead
pub ended_as : (config : Configuration) (within : ℕ) (told : FindingWriterState) (moment number : ℕ) (r at left : Checked) →
    at ≡ (purged_through config within moment r).checked → left ≡ (looked_ahead config within moment at).checked
    → ended_behind config within told moment number r ≡ end_from config within told moment number (purged_through config within moment r).found at left
unfolding ended_behind
ended_as config within told moment number r at left is ahead =
    let found = (purged_through config within moment r).found in
    ap (λ (k : Checked). end_from config within told moment number found k (looked_ahead config within moment k).checked) (sym is)
    ∙ ap (λ (k : Checked). end_from config within told moment number found at k) (sym ahead)

-- the findings up to the end, and those of the look-ahead
told_ahead : {S T E E' : Type 0} (config : Configuration) (within end : ℕ) (r at : Checked) (o : Outcome) (family : Family) (old mid new : FindingWriterState)
    (x y z : OutputState) (s : S) (answered : Result T E) → family ≡ config.family → o ≡ looked_ahead config within end at
    → Tells {E = E'} family (purged_through config within end r).found old mid x y (Ok s) → Tells family o.found mid new y z answered
    → Tells config.family ((purged_through config within end r).found ++ (looked_ahead config within end at).found) old new x z answered
told_ahead config within end r at o family old mid new x y z s answered is_family is first second =
    tells_in family config.family _ old new x z answered is_family
    (then_told family _ _ old mid new x y z s answered first (tells_as family _ _ mid new y z answered (ap (λ (p : Outcome). p.found) is) second))

-- a write failed up to the end
pub broken_to_end : {T E : Type 0} (config : Configuration) (within end number : ℕ) (r : Checked) (family : Family) (old new : FindingWriterState)
    (x y : OutputState) (e : E) → family ≡ config.family
    → Tells {T = T} family (purged_through config within end r).found old new x y (Err e) →
    GrowsByBeginning x.held y.held (old.held ++ (ended_behind config within old end number r).text)
broken_to_end {T} {E} config within end number r family old new x y e is_family tells =
    let done = purged_through config within end r in
    let ahead = looked_ahead config within end done.checked in
    let here : Tells {T = T} {E = E} config.family done.found old new x y (Err e) =
    tells_in {T = T} family config.family _ old new x y (Err e) is_family tells in
    subst (λ (v : Report Totals). GrowsByBeginning x.held y.held (old.held ++ v.text))
    (sym (ended_as config within old end number r done.checked ahead.checked refl refl))
    (ended_broken {T = T} config.family number ahead.checked.checking (basis_at_end done.checked) (done.found ++ ahead.found) _ old new x y e
    (told_broken {T = T} config.family done.found ahead.found old new x y e here))

-- a write failed in the look-ahead
pub broken_ahead : {S T E E' : Type 0} (config : Configuration) (within end number : ℕ) (r at : Checked) (o : Outcome) (family : Family)
    (old mid new : FindingWriterState) (x y z : OutputState) (s : S) (e : E) → family ≡ config.family
    → at ≡ (purged_through config within end r).checked → o ≡ looked_ahead config within end at
    → Tells {E = E'} family (purged_through config within end r).found old mid x y (Ok s) → Tells {T = T} family o.found mid new y z (Err e)
    → GrowsByBeginning x.held z.held (old.held ++ (ended_behind config within old end number r).text)
broken_ahead {T = T} config within end number r at o family old mid new x y z s e is_family is same first second =
    let left = (looked_ahead config within end at).checked in
    subst (λ (v : Report Totals). GrowsByBeginning x.held z.held (old.held ++ v.text)) (sym (ended_as config within old end number r at left is refl))
    (ended_broken {T = T} config.family number left.checking (basis_at_end at) _ _ old new x z e
    (told_ahead {T = T} config within end r at o family old mid new x y z s (Err e) is_family same first second))

-- too much waits after the look-ahead
pub full_at_end : {E E' : Type 0} (config : Configuration) (within end number : ℕ) (r at left : Checked) (o : Outcome) (family : Family)
    (old mid new : FindingWriterState) (x y z : OutputState) → family ≡ config.family
    → at ≡ (purged_through config within end r).checked → o ≡ looked_ahead config within end at → left ≡ o.checked → left.checking.waiting.is_full ≡ true
    → Tells {T = Unit} {E = E'} family (purged_through config within end r).found old mid x y (Ok tt) →
    Tells {T = Unit} {E = E} family o.found mid new y z (Ok tt)
    → IsRestPut (ended_behind config within old end number r) x.held z.held old.held new.held (Err (answer.Waiting number))
full_at_end {E} config within end number r at left o family old mid new x y z is_family is same ahead full first second =
    rest_as _ _ x.held z.held old.held new.held (Err (answer.Waiting number))
    (sym (ended_as config within old end number r at left is (ahead ∙ ap (λ (p : Outcome). p.checked) same)))
    (ended_full {E = E} config.family number left.checking (basis_at_end at) _ _ old new x z full
    (told_ahead config within end r at o family old mid new x y z tt (Ok tt) is_family same first second))

-- the end was put whole, or not
pub put_at_end : {E E' : Type 0} (config : Configuration) (within end number : ℕ) (r at left : Checked) (o : Outcome) (rests : Basis)
    (last : List (Finding ℕ)) (family : Family) (old mid near new : FindingWriterState) (x y z w : OutputState) (totals : Totals) → family ≡ config.family
    → at ≡ (purged_through config within end r).checked → o ≡ looked_ahead config within end at → left ≡ o.checked → rests ≡ basis_at_end at
    → last ≡ told_at_end within config.timing end (silence_up_to within config.timing end at.checking.phase) left.checking →
    left.checking.waiting.is_full ≡ false
    → Tells {T = Unit} {E = E'} family (purged_through config within end r).found old mid x y (Ok tt) →
    Tells {T = Unit} {E = E} family o.found mid near y z (Ok tt) → totals ≡ counted_behind near.count left.checking rests (reported_by near last)
    → Passes z.held w.held near.held new.held
    (end_text family near.additions (reported_by near last) (counted_behind near.count left.checking rests (reported_by near last)))
    → IsRestPut (ended_behind config within old end number r) x.held w.held old.held new.held (Ok totals)
put_at_end {E} config within end number r at left o rests last family old mid near new x y z w totals is_family is same ahead basis finds free first
    second counts passed =
    let final = told_at_end within config.timing end (silence_up_to within config.timing end at.checking.phase) left.checking in
    let text : end_text family near.additions (reported_by near last) (counted_behind near.count left.checking rests (reported_by near last))
    ≡ end_text config.family near.additions (reported_by near final) (counted_behind near.count left.checking (basis_at_end at) (reported_by near final)) =
    λ i. end_text (is_family i) near.additions (reported_by near (finds i)) (counted_behind near.count left.checking (basis i) (reported_by near (finds i))) in
    rest_as _ _ x.held w.held old.held new.held (Ok totals)
    (sym (ended_as config within old end number r at left is (ahead ∙ ap (λ (p : Outcome). p.checked) same)))
    (ended_put {E = E} config.family number left.checking (basis_at_end at) _ _ old near new x z w totals free
    (told_ahead config within end r at o family old mid near x y z tt (Ok tt) is_family same first second)
    (counts ∙ (λ i. counted_behind near.count left.checking (basis i) (reported_by near (finds i))))
    (subst (λ (t : List ℕ). Passes z.held w.held near.held new.held t) text passed))

pub unput_at_end : {E E' : Type 0} (config : Configuration) (within end number : ℕ) (r at left : Checked) (o : Outcome) (rests : Basis)
    (last : List (Finding ℕ)) (family : Family) (old mid near : FindingWriterState) (x y z w : OutputState) → family ≡ config.family
    → at ≡ (purged_through config within end r).checked → o ≡ looked_ahead config within end at → left ≡ o.checked → rests ≡ basis_at_end at
    → last ≡ told_at_end within config.timing end (silence_up_to within config.timing end at.checking.phase) left.checking →
    left.checking.waiting.is_full ≡ false
    → Tells {T = Unit} {E = E'} family (purged_through config within end r).found old mid x y (Ok tt) →
    Tells {T = Unit} {E = E} family o.found mid near y z (Ok tt) → GrowsByBeginning z.held w.held
    (near.held ++ end_text family near.additions (reported_by near last) (counted_behind near.count left.checking rests (reported_by near last)))
    → GrowsByBeginning x.held w.held (old.held ++ (ended_behind config within old end number r).text)
unput_at_end {E} config within end number r at left o rests last family old mid near x y z w is_family is same ahead basis finds free first second begun =
    let final = told_at_end within config.timing end (silence_up_to within config.timing end at.checking.phase) left.checking in
    let text : end_text family near.additions (reported_by near last) (counted_behind near.count left.checking rests (reported_by near last))
    ≡ end_text config.family near.additions (reported_by near final) (counted_behind near.count left.checking (basis_at_end at) (reported_by near final)) =
    λ i. end_text (is_family i) near.additions (reported_by near (finds i)) (counted_behind near.count left.checking (basis i) (reported_by near (finds i))) in
    subst (λ (v : Report Totals). GrowsByBeginning x.held w.held (old.held ++ v.text))
    (sym (ended_as config within old end number r at left is (ahead ∙ ap (λ (p : Outcome). p.checked) same)))
    (ended_unput {E = E} config.family number left.checking (basis_at_end at) _ _ old near x z w free
    (told_ahead config within end r at o family old mid near x y z tt (Ok tt) is_family same first second)
    (subst (λ (t : List ℕ). GrowsByBeginning z.held w.held (near.held ++ t)) text begun))
