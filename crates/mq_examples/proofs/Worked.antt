-- Lemmas by which a worked example follows from the listed groups.
use Rattle.mq_examples.proofs.Common.{◌≡◌, ℕ, List, [], ap, ◌∙◌, RecordView, SentQuery, Configuration, Verdict, Setting, Envelope, read_of, pseudo_of}
use Rattle.mq_examples.proofs.Common.{ListedGroups, ListedLink, as_groups, TicksTo, Comes, Becomes, BecomeAll, CountsTo, counts_of, Received, Refusal}
use Rattle.mq_examples.proofs.Common.{DropReason}
use Rattle.mq_link.specs.declared.answers.MessageKind.{MessageKind}
use Rattle.mq_examples.proofs.{KnownLinks.tick_in, KnownLinks.tick-known, KnownReceipts.KnownReceipt, KnownReceipts.receipt_known, KnownReceipts.receipt-known}
use Rattle.mq_examples.proofs.KnownRecords.{judged_known, judged-known, all_judged_known, all_judged-known}

pub ticks_to : (config : Configuration) (now : ℕ) (before : ListedLink) (queries : List SentQuery) (after : ListedLink)
    → (let s = tick_in config now before in (s.queries ≡ queries) → (s.link.groups ≡ after.groups) → (s.link.election ≡ after.election) →
    (s.link.last ≡ after.last) → TicksTo config now before queries after)
ticks_to config now before queries after q g e l = record {
  leaves = record {
    queries_handed = ap (λ s. s.queries) (tick-known config now before) ∙ q;
    groups = ap (λ s. s.state.groups) (tick-known config now before) ∙ ap as_groups g;
    election = e;
    last = l;
  };
}

-- the computed receipt of a datagram
abbrev pub received : Configuration → Envelope → List ℕ → ℕ → ListedLink → KnownReceipt
received config envelope bytes now before = receipt_known config envelope (read_of config.family (pseudo_of config.family envelope bytes) bytes) now before

pub comes : (config : Configuration) (envelope : Envelope) (bytes : List ℕ) (now : ℕ) (before : ListedLink) (answer : Received)
    (queries : List SentQuery) (after : ListedLink)
    → (let r = received config envelope bytes now before in (r.answer ≡ answer) → (r.step.queries ≡ queries) → (r.step.link.groups ≡ after.groups) →
    (r.step.link.election ≡ after.election) → (r.step.link.last ≡ after.last) → Comes config envelope bytes now before answer queries after)
comes config envelope bytes now before answer queries after a q g e l =
    let is = receipt-known config envelope (read_of config.family (pseudo_of config.family envelope bytes) bytes) now before in
    record {
      answer_is = ap (λ r. r.answer) is ∙ a;
      leaves = record {
        queries_handed = ap (λ r. r.step.queries) is ∙ q;
        groups = ap (λ r. r.step.state.groups) is ∙ ap as_groups g;
        election = ap (λ r. r.step.state.election) is ∙ e;
        last = ap (λ r. r.step.state.last) is ∙ l;
      };
    }

pub becomes : (at : Setting) (r : RecordView ℕ) (before : ListedGroups) (verdict : Verdict) (queries : List SentQuery) (after : ListedGroups)
    → (let o = judged_known at [] r before in (o.verdict ≡ verdict) → (o.groups ≡ after) → (o.queries ≡ queries) → Becomes at r before verdict queries after)
becomes at r before verdict queries after v g q =
    let is = judged-known at [] r before in
    record {
      verdict_is = ap (λ o. o.verdict) is ∙ v;
      groups = ap (λ o. o.groups) is ∙ ap as_groups g;
      queries_sent = ap (λ o. o.queries) is ∙ q;
    }

pub become_all : (at : Setting) (rs : List (RecordView ℕ)) (before : ListedGroups) (verdicts : List Verdict) (queries : List SentQuery) (after : ListedGroups)
    → (let o = all_judged_known at [] rs before in (o.verdicts ≡ verdicts) → (o.groups ≡ after) → (o.queries ≡ queries) →
    BecomeAll at rs before verdicts queries after)
become_all at rs before verdicts queries after v g q =
    let is = all_judged-known at [] rs before in
    record {
      verdicts_are = ap (λ o. o.verdicts) is ∙ v;
      groups = ap (λ o. o.groups) is ∙ ap as_groups g;
      queries_sent = ap (λ o. o.queries) is ∙ q;
    }

pub counts_to : (config : Configuration) (envelope : Envelope) (bytes : List ℕ) (now : ℕ) (before : ListedLink) (reason : DropReason)
    (kind : MessageKind) (name : Refusal) (counts : List ℕ)
    → (let r = received config envelope bytes now before in (counts_of reason kind name r.step.link.counters ≡ counts) →
    CountsTo config envelope bytes now before reason kind name counts)
counts_to config envelope bytes now before reason kind name counts c = record {
  counts_are = ap (λ r. counts_of reason kind name r.step.state.counters)
      (receipt-known config envelope (read_of config.family (pseudo_of config.family envelope bytes) bytes) now before) ∙ c;
}
