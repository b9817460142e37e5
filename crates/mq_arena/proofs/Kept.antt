-- The kinds of the parameters and of the result of `grow` and `shrink`, at their two lifetimes.
use Rattle.mq_arena.proofs.Common.{List, [], ◌∷◌, refl, w64, yes, field_told, RawPtr, plain}
use borrow.Fn.Kinds.{ParamKind, ResultKind, p_num}
use borrow.Kind.{ShrRefTo.p_shr_to, Value.r_val}
use borrow.Rule.{AtSlots.one_type, Local.mem_whole, Local.whole_mem}
use borrow.Table.{RawPtr.p_ptr, RawPtr.ptr_laws, RawPtr.ptr_copy, Rows.whole}
use denote.Enum.Loose.{loose_lawful}
use denote.Struct.{Field.RawPtr-field, Laws.RawPtr-laws, Laws.RawPtr-plain}
use denote.Enum.Declared as enum
use denote.Enum.Laws as enum_laws
use denote.Struct.Declared as struct
use Rattle.core.specs.contracts.alloc.AllocError as error
use Rattle.core.specs.contracts.result.Result as result
use Rattle.core.proofs.alloc.AllocError.TheLaws as error_laws
use Rattle.core.proofs.result.Result.TheLaws as result_laws
use Rattle.mq_arena.specs.contracts.arenas.Arena as arena

abbrev pub parameters : List (ParamKind 2)
parameters = p_shr_to {n = 2} (plain (λ κs. struct.row arena.the_type)) arena.the_row.written (λ κs. refl) arena.the_type.D
    (one_type 2 arena.the_type.D) 0 tt ∷ p_ptr ∷ p_num w64 ∷ p_num w64 ∷ p_num w64 ∷ []

abbrev pub answer : ResultKind 2
answer = r_val (record {
  ty = enum.row (result.the_type RawPtr error.the_row);
  one = refl;
  val = enum_laws.val (result.the_type RawPtr error.the_row)
      (result_laws.the_laws RawPtr error.the_row ptr_laws error_laws.the_row_laws (field_told RawPtr-field RawPtr-laws) error_laws.the_told);
  tells = enum_laws.tells (result.the_type RawPtr error.the_row)
      (result_laws.the_laws RawPtr error.the_row ptr_laws error_laws.the_row_laws (field_told RawPtr-field RawPtr-laws) error_laws.the_told);
  still = enum_laws.still (result.the_type RawPtr error.the_row)
      (result_laws.the_copy RawPtr error.the_row ptr_laws error_laws.the_row_laws ptr_copy error_laws.the_row_copy) yes;
  row = whole (enum.row (result.the_type RawPtr error.the_row));
  rd = λ x. x;
  mk = λ x. x;
}) (λ M 𝓤 𝓛. record {
  copies = enum_laws.copy (result.the_type RawPtr error.the_row)
      (result_laws.the_copy RawPtr error.the_row ptr_laws error_laws.the_row_laws ptr_copy error_laws.the_row_copy) 𝓛;
  lawful = loose_lawful (result.the_type RawPtr error.the_row) (result_laws.the_loose RawPtr error.the_row ptr_laws error_laws.the_row_laws) tt 𝓛;
  makes = enum_laws.makes (result.the_type RawPtr error.the_row) (result_laws.the_plain RawPtr error.the_row RawPtr-plain error_laws.the_row_plain) 𝓛;
  in_mem = mem_whole 𝓛 (enum.row (result.the_type RawPtr error.the_row));
  of_mem = whole_mem 𝓛 (enum.row (result.the_type RawPtr error.the_row));
})
