-- What stands first among the bytes of a trace, as the code has it.
use Rattle.std.specs.Prelude.{ℕ, cond, List, eqb, length}
use Rattle.trace.specs.Records.{whole, kind_of, length_of}
use Rattle.trace.specs.declared.records.Front.{Front}

unfoldable pub front_of : List ℕ → Front
front_of bytes = cond (eqb (length bytes) 0) Front.Nothing (cond (whole bytes) (Front.Whole (record { kind = kind_of bytes; length = length_of bytes })) Front.Cut)
