-- The step of a check at one datagram, and at one packet.
use Rattle.mq_check.proofs.Common.{◌≡◌, ℕ, Bool, List, ◌++◌, Option, None, Some, Result, Ok, Err, refl, ap, subst, ◌∙◌, LinkType, carried_in, Query, Family}
use Rattle.mq_check.proofs.Common.{Configuration, LinkValue, OutputState, Datagram, datagram_of, Finding, Checked, Outcome, behind, judged_at, purged_at}
use Rattle.mq_check.proofs.Common.{taken, with_packet, ticked_through, CheckingValue, query_came, purged, told, with_s_judged, is_set, Groups, Comes}
use Rattle.mq_check.proofs.Common.{checked_in, FindingWriterState, WantingValue}
use Rattle.mq_check.specs.Check.{destination_in, faults_in, noted, seen_at, seen_or_received, with_datagram, with_faults}
use Rattle.mq_check.specs.{Basis.with_frame, Checking.faults_seen, Queries.query_seen}
use Rattle.mq_check.proofs.Tellings.{none_told, then_told, told_broken, broken_as}
use Rattle.mq_check.specs.Basis as basis

-- the entries that wait after the headers of a packet
abbrev pub headers_checked : Configuration → LinkType → (within moment number : ℕ) → (frame : List ℕ) → Datagram → Groups → CheckingValue → CheckingValue
headers_checked config link within moment number frame datagram groups c =
    faults_seen moment number (faults_in config link frame datagram) (purged moment (with_s_judged within (Some moment) (is_set groups) c))

-- a datagram that the link receives
pub datagram_received : (config : Configuration) (link : LinkType) (within moment number : ℕ) (frame : List ℕ) (datagram : Datagram)
    (before after : LinkValue) (queries left new : WantingValue)
    → left.checking ≡ headers_checked config link within moment number frame datagram before.state.groups queries.checking → left.basis ≡ queries.basis →
    checked_in after new ≡ taken config within moment datagram (checked_in before left) → None ≡ query_seen config datagram
    → checked_in after new ≡ (with_datagram config link within moment number frame (Some datagram) (checked_in before queries)).checked
datagram_received config link within moment number frame datagram before after queries left new purges kept is none =
    let to = destination_in config.family link frame datagram.envelope in
    is ∙ (λ i. taken config within moment datagram (record { link = before.state; checking = purges i; basis = kept i }))
    ∙ ap (λ (q : Option (Query ℕ)). seen_or_received config within moment to datagram q
    (with_faults moment number (faults_in config link frame datagram) (purged_at moment (judged_at within (Some moment) (checked_in before queries))))) none

-- a query of the querier that is checked
pub datagram_seen : (config : Configuration) (link : LinkType) (within moment number to : ℕ) (frame : List ℕ) (datagram : Datagram) (query : Query ℕ)
    (before : LinkValue) (queries left new : WantingValue)
    → left.checking ≡ headers_checked config link within moment number frame datagram before.state.groups queries.checking → left.basis ≡ queries.basis →
    new.basis ≡ queries.basis → new.checking ≡ query_came within config before.state moment left.basis.packets to query left.checking
    → to ≡ destination_in config.family link frame datagram.envelope → Some query ≡ query_seen config datagram
    → checked_in before new ≡ (with_datagram config link within moment number frame (Some datagram) (checked_in before queries)).checked
unfolding seen_at
datagram_seen config link within moment number to frame datagram query before queries left new purges left_so kept is goes some =
    let there = destination_in config.family link frame datagram.envelope in
    let r = with_faults moment number (faults_in config link frame datagram) (purged_at moment (judged_at within (Some moment) (checked_in before queries))) in
    let here : checked_in before new ≡ seen_at config within moment there query r =
    λ i. record {
      link = before.state;
      checking = (is ∙ (λ j. query_came within config before.state moment (left_so j).packets (goes j) query (purges j))) i;
      basis = kept i;
    } in
    here ∙ ap (λ (q : Option (Query ℕ)). seen_or_received config within moment there datagram q r) some

-- the same in the terms of the code
pub received_comes : (config config' : Configuration) (link : LinkType) (within moment m number : ℕ) (frame : List ℕ) (datagram : Datagram)
    (before after : LinkValue) (queries left new : WantingValue) → None ≡ query_seen config' datagram → config' ≡ config → m ≡ moment →
    left.checking ≡ headers_checked config' link within m number frame datagram before.state.groups queries.checking → left.basis ≡ queries.basis →
    checked_in after new ≡ taken config within moment datagram (checked_in before left)
    → checked_in after new ≡ (with_datagram config link within moment number frame (Some datagram) (checked_in before queries)).checked
received_comes config config' link within moment m number frame datagram before after queries left new none is_config is_moment purges kept is =
    datagram_received config link within moment number frame datagram before after queries left new
    (purges ∙ (λ i. headers_checked (is_config i) link within (is_moment i) number frame datagram before.state.groups queries.checking)) kept is
    (none ∙ ap (λ (k : Configuration). query_seen k datagram) is_config)

pub seen_comes : (config config' config'' : Configuration) (link : LinkType) (within moment m number to : ℕ) (frame : List ℕ) (datagram : Datagram)
    (query : Query ℕ) (family : Family) (before : LinkValue) (queries left new : WantingValue)
    → Some query ≡ query_seen config' datagram → config' ≡ config → m ≡ moment →
    left.checking ≡ headers_checked config' link within m number frame datagram before.state.groups queries.checking → left.basis ≡ queries.basis → new.basis
    ≡ queries.basis → new.checking ≡ query_came within config'' before.state moment left.basis.packets to query left.checking → config'' ≡ config
    → to ≡ destination_in family link frame datagram.envelope → family ≡ config.family
    → checked_in before new ≡ (with_datagram config link within moment number frame (Some datagram) (checked_in before queries)).checked
seen_comes config config' config'' link within moment m number to frame datagram query family before queries left new some is_config is_moment purges
    left_so kept is same_config goes is_family =
    datagram_seen config link within moment number to frame datagram query before queries left new
    (purges ∙ (λ i. headers_checked (is_config i) link within (is_moment i) number frame datagram before.state.groups queries.checking)) left_so kept
    (is ∙ (λ i. query_came within (same_config i) before.state moment left.basis.packets to query left.checking))
    (goes ∙ ap (λ (f : Family). destination_in f link frame datagram.envelope) is_family)
    (some ∙ ap (λ (k : Configuration). query_seen k datagram) is_config)

-- the headers were looked at behind what was over, by a configuration that the code names otherwise
pub headers_left : (config config' : Configuration) (link : LinkType) (within m number : ℕ) (frame : List ℕ) (datagram : Datagram) (groups : Groups)
    (old judged mid new : CheckingValue) → config ≡ config' → judged ≡ with_s_judged within (Some m) (is_set groups) old → mid ≡ purged m judged →
    new ≡ faults_seen m number (faults_in config link frame datagram) mid → new ≡ headers_checked config' link within m number frame datagram groups old
headers_left config config' link within m number frame datagram groups old judged mid new is_config judges purges looks =
    looks ∙ (λ i. faults_seen m number (faults_in (is_config i) link frame datagram) ((purges ∙ ap (purged m) judges) i))

-- the findings after the judgement of S
pub told_judged : (within m moment : ℕ) (groups : Groups) (queries judged : WantingValue)
    → judged ≡ record queries { checking = with_s_judged within (Some m) (is_set groups) queries.checking } → m ≡ moment
    → told within m judged.checking ≡ told within moment (with_s_judged within (Some moment) (is_set groups) queries.checking)
told_judged within m moment groups queries judged judges same =
    ap (λ (w : WantingValue). told within m w.checking) judges
    ∙ (λ i. told within (same i) (with_s_judged within (Some (same i)) (is_set groups) queries.checking))

-- one thing came, and then another, or a write failed by then
pub both_came : {S T E E' : Type 0} (family : Family) (first second : Outcome) (a b c : LinkValue) (q r : WantingValue) (t u v : FindingWriterState)
    (x y z : OutputState) (s : S) (answer : Result T E)
    → Comes {E = E'} family first a b q t u x y (Ok s) → Comes family second b c r u v y z answer →
    Comes family (behind first.found second) a c r t v x z answer
both_came family first second a b c q r t u v x y z s answer one other =
    record {
      same_config = other.same_config ∙ one.same_config;
      checked = other.checked;
      tells = then_told family first.found second.found t u v x y z s answer one.tells other.tells;
    }

pub first_broken : {T E E' : Type 0} (family : Family) (first : Outcome) (rest : List (Finding ℕ)) (checked : Checked) (a b : LinkValue)
    (q : WantingValue) (t u : FindingWriterState) (x y : OutputState) (e : E) (e' : E')
    → Comes {T = T} family first a b q t u x y (Err e) → Comes {T = T} family (record { checked = checked; found = first.found ++ rest }) a b q t u x y (Err e')
first_broken family first rest checked a b q t u x y e e' one =
    record {
      same_config = one.same_config;
      checked = tt;
      tells = broken_as family _ t u x y e e' (told_broken family first.found rest t u x y e one.tells);
    }

-- a datagram is counted, by a configuration that the code names otherwise
pub counted_in : (config other : Configuration) (datagram : Datagram) (old new : WantingValue) →
    new ≡ record old { basis = basis.with_datagram config datagram old.basis } → config ≡ other
    → new ≡ record old { basis = basis.with_datagram other datagram old.basis }
counted_in config other datagram old new is same = is ∙
    ap (λ (k : Configuration). record old { basis = basis.with_datagram k datagram old.basis }) same

-- a packet, behind the ticks up to its moment
pub packet_came : {S T E E' : Type 0} (family : Family) (config : Configuration) (link : LinkType) (within within' moment number : ℕ) (back : Bool)
    (frame : List ℕ) (datagram : Option Datagram) (at : Checked) (a b c : LinkValue) (q noting r : WantingValue) (t u v : FindingWriterState)
    (x y z : OutputState)
    (s : S) (answer : Result T E) → within' ≡ within → config ≡ a.config → datagram ≡ datagram_of config.family (carried_in link frame)
    → Comes {E = E'} family (ticked_through a.config within moment at) a b q t u x y (Ok s)
    → noting ≡ record q { basis = with_frame config link frame (carried_in link frame) datagram (basis.with_packet back q.basis) }
    → Comes family (with_datagram b.config link within' moment number frame datagram (checked_in b noting)) b c r u v y z answer
    → Comes family (with_packet a.config link within moment number back frame at) a c r t v x z answer
unfolding with_packet
packet_came {S} {T} {E} family config link within within' moment number back frame datagram at a b c q noting r t u v x y z s answer is_within is_config
    carries one notes other =
    let before = ticked_through a.config within moment at in
    let counted : WantingValue = record q { basis = with_frame config link frame (carried_in link frame) datagram (basis.with_packet back q.basis) } in
    let there = carries ∙ ap (λ (k : Configuration). datagram_of k.family (carried_in link frame)) is_config in
    let last = datagram_of a.config.family (carried_in link frame) in
    let same : with_datagram b.config link within' moment number frame datagram (checked_in b counted)
    ≡ with_datagram a.config link within moment number frame last (noted a.config link back frame last before.checked) =
    λ i. with_datagram (one.same_config i) link (is_within i) moment number frame (there i) (noted (is_config i) link back frame (there i) (one.checked i)) in
    let second = subst (λ (w : WantingValue). Comes {T = T} {E = E} family
    (with_datagram b.config link within' moment number frame datagram (checked_in b w)) b c r u v y z answer) notes other in
    let as_it_is = subst (λ (o : Outcome). Comes {T = T} {E = E} family o b c r u v y z answer) same second in
    both_came family before _ a b c q r t u v x y z s answer one
    (record { same_config = as_it_is.same_config; checked = as_it_is.checked; tells = as_it_is.tells })

pub packet_broken : {T E E' : Type 0} (family : Family) (link : LinkType) (within moment number : ℕ) (back : Bool) (frame : List ℕ) (at : Checked)
    (a b : LinkValue) (q : WantingValue) (t u : FindingWriterState) (x y : OutputState) (e : E) (e' : E')
    → Comes {T = T} family (ticked_through a.config within moment at) a b q t u x y (Err e)
    → Comes {T = T} family (with_packet a.config link within moment number back frame at) a b q t u x y (Err e')
unfolding with_packet
packet_broken family link within moment number back frame at a b q t u x y e e' one = first_broken family _ _ _ a b q t u x y e e' one

-- the ticks up to a moment that the code names otherwise
pub ticks_at : {T E : Type 0} (family : Family) (within m n : ℕ) (at : Checked) (a b : LinkValue) (q : WantingValue) (t u : FindingWriterState)
    (x y : OutputState) (answer : Result T E) → m ≡ n
    → Comes family (ticked_through a.config within m at) a b q t u x y answer → Comes family (ticked_through a.config within n at) a b q t u x y answer
ticks_at {T} {E} family within m n at a b q t u x y answer same comes =
    subst (λ (k : ℕ). Comes {T = T} {E = E} family (ticked_through a.config within k at) a b q t u x y answer) same comes

-- a packet without a datagram of the family
pub nothing_came : {E : Type 0} (family : Family) (config : Configuration) (link : LinkType) (within moment number : ℕ) (frame : List ℕ)
    (a : LinkValue) (p : WantingValue) (t : FindingWriterState) (x : OutputState)
    → Comes {T = Unit} {E = E} family (with_datagram config link within moment number frame None (checked_in a p)) a a p t t x x (Ok tt)
nothing_came family config link within moment number frame a p t x = record { same_config = refl; checked = refl; tells = none_told family t x tt }
