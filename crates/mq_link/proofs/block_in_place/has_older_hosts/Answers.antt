use Rattle.mq_link.proofs.Common.{◌||◌, sym, ap, ◌∙◌, Hosts, is_ahead}
use Rattle.mq_link.proofs.block_in_place.has_older_hosts.Goals as goal

pub returns-then-hosts-clause-hosts : goal.returns-then-hosts-clause-hosts
returns-then-hosts-clause-hosts c timers =
    let hosts = c.compat-hosts.ensures.hosts timers in
    let first = sym (ap (λ (h : Hosts). h.v1) hosts) ∙ c.if-hosts.true in
    c.if-hosts.true ∙ sym (ap (λ b. b || is_ahead c.args.now c.args.head.now.v2) first)

pub returns-else-hosts-clause-hosts : goal.returns-else-hosts-clause-hosts
returns-else-hosts-clause-hosts c timers =
    let hosts = c.compat-hosts.ensures.hosts timers in
    let first = sym (ap (λ (h : Hosts). h.v1) hosts) ∙ c.if-hosts.false in
    ap (λ (h : Hosts). h.v2) hosts ∙ sym (ap (λ b. b || is_ahead c.args.now c.args.head.now.v2) first)
