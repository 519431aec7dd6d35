-- `host::record::ssd1815b_record` meets its contract: a whole record's end is within the trace.
use mathlib.Core.Path.{sym, ◌∙◌}
use native.Mathlib.Omega.{arith}
use Rattle.trace.proofs.WhatStands.{within_trace}
use Rattle.host.proofs.record.ssd1815b_record.Goals as goal

pub overflow_add-next : goal.overflow_add-next
overflow_add-next c =
    omega (arith, within_trace c.args.bytes.now c.args.at c.in-Whole.header (sym c.front_at.ensures ∙ c.in-Whole.is))

pub overflow_add-next-in-Whole : goal.overflow_add-next-in-Whole
overflow_add-next-in-Whole c =
    omega (arith, within_trace c.args.bytes.now c.args.at c.in-Whole.header (sym c.front_at.ensures ∙ c.in-Whole.is))
