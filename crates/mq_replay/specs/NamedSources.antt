-- The line of a changed group as the code builds it: by the timers of its sources.
use Rattle.std.specs.Prelude.{ℕ, Bool, true, false, List, [], Some, codes}
use Rattle.mq_wire.specs.Family.{Family}
use Rattle.mq_table.specs.declared.timers.FilterMode.{FilterMode}
use Rattle.mq_table.specs.declared.timers.SourceTimer.{SourceTimer}
use Rattle.mq_table.specs.Filter.{names}
use Rattle.mq_table.specs.Group.{is_include}
use Rattle.mq_replay.specs.ChangeLines.{named_text}

-- the filter of a group in this mode names a source with this timer
abbrev pub is_named : FilterMode → SourceTimer → Bool
is_named mode timer = names mode (Some timer)

-- the filter's name, by whether it names a source
abbrev pub name_by : (is_include some : Bool) → List ℕ
name_by true true = codes " include"
name_by true false = codes " none"
name_by false some = codes " exclude"

-- the text of a source, if it is named
abbrev pub if_named : (is_named : Bool) → List ℕ → List ℕ
if_named true text = text
if_named false text = []

abbrev pub named_by : Family → FilterMode → (source : ℕ) → SourceTimer → List ℕ
named_by family mode source timer = if_named (is_named mode timer) (named_text family (is_include mode) source)
