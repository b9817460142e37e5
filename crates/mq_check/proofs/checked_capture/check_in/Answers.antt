use Rattle.mq_check.proofs.Common.{ap, sym, ◌∙◌, or-false, both, neither, Configuration, LinkValue, most_bytes, room_of_filled, taken_at}
use Rattle.mq_link.specs.State.{link_at}
use Rattle.mq_walk.proofs.WrittenReports.{nothing_reported}
use Rattle.mq_check.specs.Checking.{checking_at_start}
use Rattle.mq_check.proofs.checked_capture.check_in.Goals as goal

pub returns-in_default-clause-checks : goal.returns-in_default-clause-checks
returns-in_default-clause-checks g c = nothing_reported _ _ _

pub returns-in_default-new_in-clause-checks : goal.returns-in_default-new_in-clause-checks
returns-in_default-new_in-clause-checks g c = nothing_reported _ _ _

pub returns-in_default-clause-failed : goal.returns-in_default-clause-failed
returns-in_default-clause-failed g c = sym (or-false _)

pub returns-in_default-new_in-clause-failed : goal.returns-in_default-new_in-clause-failed
returns-in_default-new_in-clause-failed g c = sym (or-false _)

pub returns-in_default-new-clause-checks : goal.returns-in_default-new-clause-checks
returns-in_default-new-clause-checks g c = nothing_reported _ _ _

pub returns-in_default-new-clause-failed : goal.returns-in_default-new-clause-failed
returns-in_default-new-clause-failed g c = sym (or-false _)

pub check_on-requires-clause-room : goal.check_on-requires-clause-room
check_on-requires-clause-room g c = room_of_filled most_bytes _ _ c.as_mut_slice.ensures.value c.in-Ok.ensures.items

pub returns-in_default-new_in-clause-takes : goal.returns-in_default-new_in-clause-takes
returns-in_default-new_in-clause-takes g c = neither _ (both c.in-Ok.ensures.memory c.in_default-new_in.ensures.memory)

pub returns-in_default-new-clause-takes : goal.returns-in_default-new-clause-takes
returns-in_default-new-clause-takes g c = both (both c.in-Ok.ensures.memory c.in-Ok-new_in.ensures.memory) c.in_default-new.ensures.memory

pub returns-clause-takes : goal.returns-clause-takes
returns-clause-takes g c = taken_at _ c.check_on.ensures.no_memory (both (both c.in-Ok.ensures.memory c.in-Ok-new_in.ensures.memory) c.in-Ok-new.ensures.memory)

pub new-requires-2-clause-link_starts : goal.new-requires-2-clause-link_starts
new-requires-2-clause-link_starts g c =
    let same = ap (λ (l : LinkValue). l.config) c.in-Ok-new_in.ensures.link in
    ap (λ (l : LinkValue). l.state) c.in-Ok-new_in.ensures.link ∙ ap (link_at c.args.config) c.first_moment.ensures ∙
    ap (λ (k : Configuration). link_at k 0) (sym same)

pub new-requires-2-clause-starts : goal.new-requires-2-clause-starts
new-requires-2-clause-starts g c =
    let same = ap (λ (l : LinkValue). l.config) c.in-Ok-new_in.ensures.link in
    c.in-Ok-new.ensures.starts ∙
    (λ i. checking_at_start c.args.terms.within ((c.timing-timing.ensures ∙ ap (λ (k : Configuration). k.timing) (sym same)) i) c.args.terms.flags)

pub check_on-requires-clause-in_range : goal.check_on-requires-clause-in_range
check_on-requires-clause-in_range g c = rw c.new-2.ensures.terms c.requires

pub returns-clause-checks : goal.returns-clause-checks
returns-clause-checks g c =
    let config = ap (λ (l : LinkValue). l.config) c.new-2.ensures.link ∙ ap (λ (l : LinkValue). l.config) c.in-Ok-new_in.ensures.link in
    rw (← config, ← c.new-2.ensures.terms) c.check_on.ensures.checks

pub returns-clause-memory : goal.returns-clause-memory
returns-clause-memory g c = λ is. absurd (c.check_on.ensures.no_memory is)
