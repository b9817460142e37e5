-- Ownership of an object, and of a place for one.
use Rattle.std.specs.Prelude.{Option, None, Some}
use base.Fml.{Fml, ftrue}
use mir.Syntax.{Ty}
use denote.RattleType.{RattleType}
use denote.RawPtr.{Ptr}
use Rattle.std_alloc.specs.Box.Ownership.{box_owns}

-- the absence of a right to give memory back
abbrev pub no_freeing : Ty → Ptr → Fml
no_freeing ty at = ftrue

-- the value at its pointer if an object was written there, and otherwise nothing
abbrev pub placed : (R : RattleType) → Ptr → Option R.Denot → Fml
placed R at None = ftrue
placed R at (Some value) = box_owns no_freeing R at value
