-- `framelisting::text::Text::put_bytes` meets its contract: what is left of the bytes is put from here on.
use Rattle.std.proofs.Common.{drop}
use Rattle.framelisting.proofs.PutPieces.{Rest}
use Rattle.framelisting.proofs.text.Text.put_bytes.Given as goal

abbrev pub invariant-loop-byte : goal.invariant-loop-byte
invariant-loop-byte l = Rest l.initial.self l.bytes l.self (drop l.byte-index l.bytes)
