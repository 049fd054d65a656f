-- Threads may share what a closure holds, if they may share each part of it.
use mathlib.Core.List.{List, [], ◌∷◌}
use mir.Syntax.{Sym}
use denote.RattleType.{RattleType}
use denote.Struct.Field.{row_field}
use denote.Struct.Tuple.{TupleAt, type_at, parts}
use denote.Param.Send.{AllSync, IsSync}
use denote.Param.SendFields.{FieldsHave, declared_sync, as_row_sync}

fields_sync : (Ts : List RattleType) → AllSync Ts → FieldsHave IsSync (parts Ts)
fields_sync [] s = tt
fields_sync (T ∷ Ts) s = (as_row_sync (row_field T) s.0, fields_sync Ts s.1)

pub captured_sync : (ν : Sym) (Ts : List RattleType) → AllSync Ts → IsSync (TupleAt ν Ts)
captured_sync ν Ts s = declared_sync (type_at ν Ts) (fields_sync Ts s)
