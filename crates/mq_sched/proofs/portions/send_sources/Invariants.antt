use Rattle.mq_sched.proofs.Common.{◌≡◌, ◌<◌, ◌++◌, map, drop, Spends, sources_queries, SendsOn, going_with}
use Rattle.arrayvec.specs.ArrayVec.{array_vec_len}
use Rattle.mq_sched.proofs.portions.send_sources.Given as goal

-- the sources left are those collected and those ahead that go
abbrev pub invariant-loop-source : goal.invariant-loop-source
invariant-loop-source g l = record {
  group : l.collected.group ≡ l.fn.group;
  suppress : l.collected.suppress ≡ l.fn.suppress;
  per_query : l.collected.per_query ≡ l.fn.per_query;
  room : array_vec_len l.collected.sources < l.fn.per_query;
  sent : SendsOn g.S.Sink.takes
      l.initial.sink (sources_queries l.fn.per_query (g.K.Key.number l.fn.group) l.fn.suppress (going_with g.K.Key.number l.fn.limit l.fn.suppress l.row))
      l.sink (sources_queries l.fn.per_query (g.K.Key.number l.fn.group) l.fn.suppress (map g.K.Key.number l.collected.sources.items ++
      going_with g.K.Key.number l.fn.limit l.fn.suppress (drop l.source-index l.row)));
  spent : Spends 0 l.source-index l.initial.m l.m;
}
