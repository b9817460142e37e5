-- The effect of a record on one source. The tables see the source's timer, and whether the record names it.
use Rattle.std.specs.Prelude.{ℕ, Bool, true, false, not, Option, None, Some}
use Rattle.mq_table.specs.declared.kind.Kind.{Kind}
use Rattle.mq_table.specs.declared.kind.Kind.TheVariants.{IsIn, IsEx, ToIn, ToEx, Allow, Block}
use Rattle.mq_table.specs.declared.kind.NamedEffect.{NamedEffect}
use Rattle.mq_table.specs.declared.kind.NamedEffect.TheVariants.{Restart, Ask}
use Rattle.std.specs.Bool.{beq}
use Rattle.mq_table.specs.Group.{FilterMode, SourceTimer, is_include, is_running, is_stopped}
use Rattle.mq_table.specs.Table.{TableRow, table_row, timer_by}

-- the row of the tables for the record, if every source has this timer and is named or not
abbrev pub table_row_at : ℕ → FilterMode → Kind → Option SourceTimer → (is_named : Bool) → TableRow
table_row_at gmi mode kind timer is_named =
    table_row gmi mode kind (λ _. is_running timer) (λ _. is_stopped timer) (λ _. is_named)

-- the source's timer after the record
abbrev pub timer_after : ℕ → FilterMode → Kind → Option SourceTimer → (is_named : Bool) → Option SourceTimer
timer_after gmi mode kind timer is_named =
    timer_by (table_row_at gmi mode kind timer is_named) gmi mode 0 timer

-- the record's Q(G,S) asks for the source
abbrev pub is_asked_after : ℕ → FilterMode → Kind → Option SourceTimer → (is_named : Bool) → Bool
is_asked_after gmi mode kind timer is_named =
    let l = table_row_at gmi mode kind timer is_named in l.query 0

-- the mode after the record, and whether Q(G) is sent: the same at each source
abbrev pub mode_after : ℕ → FilterMode → Kind → FilterMode
mode_after gmi mode kind = let l = table_row gmi mode kind (λ _. false) (λ _. false) (λ _. false) in l.mode

-- the mode after the record differs, apart from the deadline; no record makes a group INCLUDE
abbrev pub changes_mode : ℕ → FilterMode → Kind → Bool
changes_mode gmi mode kind = not (beq (is_include mode) (is_include (mode_after gmi mode kind)))

abbrev pub asks_group_after : ℕ → FilterMode → Kind → Bool
asks_group_after gmi mode kind = let l = table_row gmi mode kind (λ _. false) (λ _. false) (λ _. false) in l.query_group

-- the effect of a record of this kind on the sources that it names, if it leaves the others alone
abbrev pub named_effect : Kind → Option NamedEffect
named_effect IsIn = Some Restart
named_effect IsEx = None
named_effect ToIn = None
named_effect ToEx = None
named_effect Allow = Some Restart
named_effect Block = Some Ask

-- the group membership interval begins anew for the named sources
abbrev pub sets_anew : Option NamedEffect → Bool
sets_anew None = false
sets_anew (Some Restart) = true
sets_anew (Some Ask) = false

-- the named sources are asked for
abbrev pub asks_for_named : Option NamedEffect → Bool
asks_for_named None = false
asks_for_named (Some Restart) = false
asks_for_named (Some Ask) = true
