-- `widebus::calls::write_both` meets its contract: the left refuses it, or the right, or both write it.
use mathlib.Core.Path.{refl}
use Rattle.widebus.specs.Pair.{both_lent}
use Rattle.widebus.proofs.Numbered.{exits, not_taken}
use Rattle.widebus.proofs.OnBoth.{write_left_refuses, write_right_refuses, left_writes, both_written}
use Rattle.widebus.proofs.calls.write_both.Goals as goal

pub returns-in_err-access : goal.returns-in_err-access
returns-in_err-access c = rw (exits c.from_residual.ensures.1) (write_left_refuses c.args.byte _ c.in_err-access.ensures (not_taken c.in_err-access.field-0.0))

pub returns-in_err-access-2 : goal.returns-in_err-access-2
returns-in_err-access-2 c = rw (exits c.from_residual-in_err-access-2.ensures.1) (write_right_refuses c.args.byte _ c.in_ok-access.ensures refl c.in_err-access-2.ensures (not_taken c.in_err-access-2.field-0.0))

pub returns-in_err-write : goal.returns-in_err-write
returns-in_err-write c =
    let a = c.args in
    let all = both_lent a.left_state.now a.left_memory.now a.right_state.now a.right_memory.now in
    absurd (not_taken c.in_err-write.field-0.0 (left_writes a.byte all c.in_ok-access.ensures refl c.in_err-write.ensures))

pub returns : goal.returns
returns c = both_written c.args.byte _ c.in_ok-access.ensures refl c.in_ok-access-2.ensures refl c.in_ok-write.ensures c.write-2.ensures
