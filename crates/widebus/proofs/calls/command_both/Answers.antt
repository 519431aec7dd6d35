-- `widebus::calls::command_both` meets its contract: what was tried is refused by the left or by the right, or the left refuses, or both take it.
use mathlib.Core.Path.{◌≡◌, refl, sym, ◌∙◌}
use Rattle.constants.specs.Numbers.{taken}
use Rattle.widebus.specs.OnBoth.{command_meets}
use Rattle.widebus.proofs.Numbered.{exits, not_taken}
use Rattle.widebus.proofs.OnBoth.{alike, right_next, left_only, tried_left, tried_right}
use Rattle.widebus.proofs.calls.command_both.Goals as goal
use Rattle.widebus.proofs.calls.command_both.Goals.{then-awaited+in_ok-tried+in_ok-tried-2, else-awaited}

pub returns-in_err-tried : goal.returns-in_err-tried
returns-in_err-tried c = rw (exits c.from_residual.ensures.1) (tried_left c.args.byte _ _ c.requires.0.enough c.in_err-tried.ensures (not_taken c.in_err-tried.field-0.0))

pub returns-in_err-tried-2 : goal.returns-in_err-tried-2
returns-in_err-tried-2 c =
    rw (exits c.from_residual-in_err-tried-2.ensures.1)
    (tried_right c.args.byte _ _ c.requires.0.enough c.in_ok-tried.ensures refl c.requires.1.enough c.in_err-tried-2.ensures (not_taken c.in_err-tried-2.field-0.0))

pub returns-in_err-command : goal.returns-in_err-command
returns-in_err-command c = rw (exits c.from_residual-in_err-command.ensures.1) (left_only c.args.byte _ _ c.in_err-command.ensures (not_taken c.in_err-command.field-0.0))

pub returns : goal.returns
returns c =
    let a = c.args in
    let follows : command_meets a.byte a.left_state.now ≡ taken → command_meets a.byte a.right_state.now ≡ taken = elim c.if-awaited.branch [
      | then-awaited+in_ok-tried+in_ok-tried-2 w ↦ λ _. sym w.in_ok-tried-2.ensures
      | else-awaited w ↦ λ took. sym (alike a.byte a.left_state.now a.right_state.now c.requires.0.enough c.requires.1.enough (sym c.awaited.ensures ∙ w.if-awaited.false ∙ c.awaited-2.ensures)) ∙ took
    ] in
    right_next a.byte _ _ follows c.in_ok-command.ensures refl c.command-2.ensures
