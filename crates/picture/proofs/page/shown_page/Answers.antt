-- `picture::page::shown_page` meets its contract, by the column direction.
use mathlib.Core.Path.{◌≡◌, ◌∙◌}
use Prim.Native.Nat.{◌+◌, ◌-◌, ◌*◌}
use native.Mathlib.Omega.{arith}
use borrow.Author.Rules.{rules}
use borrow.Author.Tests.{eq-eqb, ne_eqb}
use lib.Bits.{bit_xor}
use lib.ListN.{get_or}
use Rattle.constants.specs.Sizes.{width}
use Rattle.picture.specs.Scan.{column_of}
use Rattle.picture.specs.Upright.{upright_byte}
use Rattle.picture.proofs.Lines.{line_same}
use Rattle.picture.proofs.Made.{made_line}
use Rattle.picture.proofs.page.shown_page.Goals as goal

pub returns-then-direction-eq0 : goal.returns-then-direction-eq0
unfolding upright_byte column_of
returns-then-direction-eq0 c =
    let a = c.args in
    made_line _ _ width (λ x. bit_xor (get_or a.memory.now (a.page * width + x) 0) (255 * a.reverse)) (λ x v after l call. search rules) c.from_fn.ensures.items ∙ line_same width _ _ (λ x l. rw (eq-eqb a.direction 0 c.if-direction-eq0.true))

pub returns : goal.returns
unfolding upright_byte column_of
returns c =
    let a = c.args in
    made_line _ _ width (λ x. bit_xor (get_or a.memory.now (a.page * width + (width - 1) - x) 0) (255 * a.reverse)) (λ x v after l call. search rules) c.from_fn-2.ensures.items ∙
    line_same width _ _ (λ x l.
    let e : a.page * width + (width - 1) - x ≡ a.page * width + (width - 1 - x) = omega arith in
    rw (ne_eqb a.direction 0 c.if-direction-eq0.false, e))
