-- The code after an arm of a `match`. Assumes `Logic`.
use Rattle.mq_arena.proofs.Common.{Ura, Body, Env, Calls, Loops, Wp, after_seq, Logic, Post, any_q, post}

module _ {M : Type 1} {𝓤 : Ura M} (𝓛 : Logic 𝓤) where
  open 𝓛 use {H}

  abbrev pub then_runs : Calls 𝓤 H → Loops 𝓤 H → Env 𝓤 H → Body → Post 𝓤 H → Post 𝓤 H
  then_runs C Λ E b q = any_q (after_seq 𝓤 H (Wp 𝓤 H C Λ E b (post 𝓤 H q)) (post 𝓤 H q))
