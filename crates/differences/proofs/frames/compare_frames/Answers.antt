-- `differences::frames::compare_frames` meets its contract: what is asked first refuses first.
use mathlib.Core.Path.{◌≡◌, sym, ◌∙◌, ap}
use mathlib.Core.Bool.{true, false}
use mathlib.Core.List.{List}
use Prim.Native.Nat.{ℕ, ◌≤◌, ◌<◌}
use native.Mathlib.Omega.{arith}
use Rattle.std.proofs.lemmas.Grind.{common_steps}
use borrow.Author.Tests.{lt-ltb, le-ltb}
use lib.ListN.{length, take}
use Rattle.constants.specs.Sizes.{frame_size}
use Rattle.differences.specs.Runs.{runs_of}
use Rattle.differences.specs.Entries.{run_entry}
use Rattle.differences.specs.Compare.{outcome, listed, any_above, compare_frames}
use Rattle.differences.specs.Compared.{Compared}
use Rattle.differences.proofs.Given.{none_above}
use Rattle.differences.proofs.PutBack.{put_back}
use Rattle.differences.proofs.Coded.{frames_listed, handed_on}
use Rattle.differences.proofs.frames.compare_frames.Goals as goal

-- each thing that is asked
first_short : (f g list : List ℕ) → length f < frame_size → compare_frames f g list ≡ outcome (Compared.Refused 1) list
unfolding compare_frames
first_short f g list h = rw (lt-ltb (length f) frame_size h)

second_short : (f g list : List ℕ) → frame_size ≤ length f → length g < frame_size → compare_frames f g list ≡ outcome (Compared.Refused 1) list
unfolding compare_frames
second_short f g list h k = rw (le-ltb (length f) frame_size h, lt-ltb (length g) frame_size k)

first_above : (f g list : List ℕ) → frame_size ≤ length f → frame_size ≤ length g → any_above (take frame_size f) ≡ true → compare_frames f g list ≡ outcome (Compared.Refused 12) list
unfolding compare_frames
first_above f g list h k e = rw (le-ltb (length f) frame_size h, le-ltb (length g) frame_size k, e)

second_above : (f g list : List ℕ) → frame_size ≤ length f → frame_size ≤ length g → any_above (take frame_size f) ≡ false → any_above (take frame_size g) ≡ true → compare_frames f g list ≡ outcome (Compared.Refused 12) list
unfolding compare_frames
second_above f g list h k e d = rw (le-ltb (length f) frame_size h, le-ltb (length g) frame_size k, e, d)

all_in_order : (f g list : List ℕ) → frame_size ≤ length f → frame_size ≤ length g → any_above (take frame_size f) ≡ false → any_above (take frame_size g) ≡ false → compare_frames f g list ≡ listed run_entry (runs_of f g) list
unfolding compare_frames
all_in_order f g list h k e d = rw (le-ltb (length f) frame_size h, le-ltb (length g) frame_size k, e, d)

pub returns-in_err-first : goal.returns-in_err-first
returns-in_err-first c =
    let refused = c.in_err-first.ensures in
    rw (handed_on _ _ c.from_residual.ensures, refused.1) (sym (first_short _ _ _ refused.0))

pub returns-in_err-second : goal.returns-in_err-second
returns-in_err-second c =
    let refused = c.in_err-second.ensures in
    rw (handed_on _ _ c.from_residual-in_err-second.ensures, refused.1) (sym (second_short _ _ _ c.in_ok-first.ensures.0 refused.0))

pub returns-then-seen : goal.returns-then-seen
returns-then-seen c =
    let f = c.in_ok-first.ensures in
    sym (first_above _ _ _ f.0 c.in_ok-second.ensures.0 (ap any_above (sym f.1) ∙ sym c.look-seen.ensures.0 ∙ c.if-seen.true))

pub returns-then-seen-2 : goal.returns-then-seen-2
returns-then-seen-2 c =
    let f = c.in_ok-first.ensures in
    let g = c.in_ok-second.ensures in
    sym (put_back.same_frames _ _ _ f.0 g.0 (none_above frame_size _ (ap any_above (sym f.1) ∙ sym c.look-seen.ensures.0 ∙ c.if-seen.false)) (sym f.1 ∙ c.look-seen.ensures.1 c.if-seen-2.true ∙ g.1))

pub returns-then-above : goal.returns-then-above
returns-then-above c =
    let f = c.in_ok-first.ensures in
    let g = c.in_ok-second.ensures in
    let above : any_above c.in_ok-second.second.now ≡ true = grind (arith, common_steps) in
    sym (second_above _ _ _ f.0 g.0 (ap any_above (sym f.1) ∙ sym c.look-seen.ensures.0 ∙ c.if-seen.false) (ap any_above (sym g.1) ∙ above))

pub returns : goal.returns
returns c =
    let f = c.in_ok-first.ensures in
    let g = c.in_ok-second.ensures in
    let none = ap any_above (sym f.1) ∙ sym c.look-seen.ensures.0 ∙ c.if-seen.false in
    let above : any_above c.in_ok-second.second.now ≡ false = grind (arith, common_steps) in
    c.list_all.ensures ∙ frames_listed _ _ _ _ _ f.1 g.1 ∙ sym (all_in_order _ _ _ f.0 g.0 none (ap any_above (sym g.1) ∙ above))
