use Rattle.mq_link.proofs.Common.{◌∙◌, ap, sym, true≢false, hosts_of, with_sources}
use Rattle.std.specs.FinMap as map
use Rattle.mq_table.specs.Stored.{state_of}
use Rattle.mq_link.proofs.RefreshedCosts.{kept_unless, restart_as}
use Rattle.mq_link.proofs.statement.record_as.Goals as goal

pub returns-then-restarts-clause-acts : goal.returns-then-restarts-clause-acts
returns-then-restarts-clause-acts c named =
    restart_as c.args.muting.v1_mutes_leave c.args.muting.is_muted (hosts_of (state_of c.args.head.now map.empty) c.args.now) c.args.kind named
    (sym c.restarts.ensures ∙ c.if-restarts.true)
    ∙ ap (with_sources named) (sym c.unless_muted.ensures)

pub returns-then-restarts-clause-restarts : goal.returns-then-restarts-clause-restarts
returns-then-restarts-clause-restarts c is = kept_unless c.args.muting.is_muted c.args.kind c.unless_muted.result c.unless_muted.ensures

pub returns-clause-acts : goal.returns-clause-acts
returns-clause-acts c named = rw (← c.compat-hosts.ensures.hosts map.empty) (c.translate.ensures named)

pub returns-clause-restarts : goal.returns-clause-restarts
returns-clause-restarts c is = absurd (true≢false (sym is ∙ sym c.restarts.ensures ∙ c.if-restarts.false))

pub returns-clause-spent : goal.returns-clause-spent
returns-clause-spent c = rw (sym c.restarts.ensures ∙ c.if-restarts.false) c.compat-hosts.ensures.spent
