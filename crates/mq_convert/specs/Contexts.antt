-- The context of a block, from what was read before it.
use Rattle.std.specs.Prelude.{ℕ, List, []}
use Rattle.mq_convert.specs.declared.context.Context.{Context}
use Rattle.mq_convert.specs.declared.context.Interface.{Interface}
use Rattle.mq_convert.specs.declared.context.Kind.{Kind}
use Rattle.mq_convert.specs.declared.context.Kind.TheVariants.{Start}

-- The kind of the next block, the interfaces of the section so far, and the number of those of earlier sections.
-- `dropped` is the number of dropped packets that the file so far records.
pub record ContextState : Type 0 where
  pub kind : Kind
  pub interfaces : List Interface
  pub earlier : ℕ
  pub dropped : ℕ

abbrev pub context_of : Context → ContextState
context_of context =
    record { kind = context.kind; interfaces = context.interfaces.items; earlier = context.earlier; dropped = context.dropped }

-- the context before the first block of a file
abbrev pub at_start : ContextState
at_start = record { kind = Start; interfaces = []; earlier = 0; dropped = 0 }
