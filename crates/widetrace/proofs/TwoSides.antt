-- The terminal's events are those of its two sides: the left one's, and the right one's as far as the left one came; where the right one stops earlier, the left one's as far as that.
-- Assumes nothing.
use mathlib.Core.Path.{◌≡◌, refl, sym, ◌∙◌, ap, subst}
use mathlib.Core.Logic.{◌≢◌}
use mathlib.Core.Bool.{Bool, true, false, ◌&&◌}
use mathlib.Core.List.{List, [], ◌∷◌}
use Prim.Native.Nat.{suc, ◌+◌}
use native.Mathlib.Omega.{arith}
use lib.ListN.{take}
use Rattle.constants.specs.Numbers.{taken}
use Rattle.codes.proofs.Tests.{chosen}
use Rattle.bus.specs.Chip.{Chip}
use Rattle.bus.specs.Stretch.{Stretched, stretched, stretch}
use Rattle.trace.specs.Play.{Result, refuses, gives, on_result}
use Rattle.trace.specs.Kinds.{Recorded, replay}
use Rattle.widebus.specs.Pair.{◌beside◌}
use Rattle.widebus.specs.Events.{to_selected, are_both, reads_data, replay_on}
use Rattle.widebus.specs.declared.selection.Selection.{Selection}
use Rattle.widebus.specs.declared.selection.Side.{Side}
use Rattle.widetrace.specs.Terminal.{Terminal, terminal, WideEvent, selects, happens, wide_step}
use Rattle.widetrace.specs.EachChip.{hears}
use Rattle.widetrace.specs.Sides.{OneSide, one_side, side_step}
use Rattle.widetrace.proofs.SideNeverZero.{side_never_zero}

-- both sides' results as the terminal's
abbrev pub joined : Result OneSide → Result OneSide → Result Terminal
joined x y = on_result x refuses (λ l. on_result y refuses (λ r. gives (terminal (l.chip beside r.chip) l.selection)))

by_selection : (selection : Selection) (recorded : Recorded) (x y : Result Chip) (l r : Chip) (reads : Bool) → reads_data recorded ≡ reads → replay recorded l ≡ x → replay recorded r ≡ y
    → wide_step (happens recorded) (terminal (l beside r) selection) ≡ joined (side_step Side.Left (happens recorded) (one_side l selection)) (side_step Side.Right (happens recorded) (one_side r selection))
unfolding wide_step side_step replay_on to_selected
by_selection Selection.Left recorded (refuses n) y l r reads d e f = rw e
by_selection Selection.Left recorded (gives x) y l r reads d e f = rw e
by_selection Selection.Right recorded x (refuses n) l r reads d e f = rw f
by_selection Selection.Right recorded x (gives y) l r reads d e f = rw f
by_selection Selection.Both recorded x y l r true d e f = rw d
by_selection Selection.Both recorded (refuses n) y l r false d e f = rw (d, e)
by_selection Selection.Both recorded (gives x) (refuses n) l r false d e f = rw (d, e, f)
by_selection Selection.Both recorded (gives x) (gives y) l r false d e f = rw (d, e, f)

-- one event
pub one_event : (e : WideEvent) (l r : Chip) (selection : Selection) → wide_step e (terminal (l beside r) selection) ≡ joined (side_step Side.Left e (one_side l selection)) (side_step Side.Right e (one_side r selection))
unfolding wide_step side_step
one_event (selects next) l r selection = refl
one_event (happens recorded) l r selection = by_selection selection recorded (replay recorded l) (replay recorded r) l r (reads_data recorded) refl refl refl

-- what a side gives keeps the selection or takes the event's, whatever its chip
abbrev Chosen : Selection → Result OneSide → Type 0
Chosen next (refuses n) = Unit {0}
Chosen next (gives t) = t.selection ≡ next

-- the selection after an event
abbrev after : WideEvent → Selection → Selection
after (selects next) selection = next
after (happens recorded) selection = selection

side_chosen : (side : Side) (e : WideEvent) (t : OneSide) → Chosen (after e t.selection) (side_step side e t)
unfolding side_step
side_chosen side (selects next) t = refl
side_chosen side (happens recorded) t =
    chosen (Chosen t.selection) (are_both t.selection && reads_data recorded) _ _ (λ e. tt)
    (λ e. chosen (Chosen t.selection) (hears side t.selection) _ _ (λ h. by (replay recorded t.chip)) (λ h. refl))
  where
    by : (x : Result Chip) → Chosen t.selection (on_result x refuses (λ chip. gives (one_side chip t.selection)))
    by (refuses n) = tt
    by (gives chip) = refl

-- both sides have one selection
agreed : (e : WideEvent) (selection : Selection) (x y : OneSide) {a b : Result OneSide} → Chosen (after e selection) a → Chosen (after e selection) b → a ≡ gives x → b ≡ gives y → b ≡ gives (one_side y.chip x.selection)
agreed e selection x y p q d f =
    let same : y.selection ≡ x.selection = subst (Chosen (after e selection)) f q ∙ sym (subst (Chosen (after e selection)) d p) in
    f ∙ ap (λ (chosen : Selection). gives (one_side y.chip chosen)) same

-- a side's stretch
abbrev pub left_of : List WideEvent → Chip → Selection → Stretched OneSide
left_of events l selection = stretch (side_step Side.Left) events (one_side l selection)

abbrev pub right_of : List WideEvent → Chip → Selection → Stretched OneSide
right_of events r selection = stretch (side_step Side.Right) events (one_side r selection)

-- what the right side makes of the events that the left one took
abbrev pub second : List WideEvent → Chip → Chip → Selection → Stretched OneSide
second events l r selection = right_of (take (left_of events l selection).count events) r selection

abbrev terminal_of : List WideEvent → Chip → Chip → Selection → Stretched Terminal
terminal_of events l r selection = stretch wide_step events (terminal (l beside r) selection)

abbrev pub Taken : List WideEvent → Chip → Chip → Selection → Type 0
Taken events l r selection = (second events l r selection).number ≡ taken
    → (terminal_of events l r selection ≡ stretched (terminal ((left_of events l selection).state.chip beside (second events l r selection).state.chip) (left_of events l selection).state.selection) (left_of events l selection).count (left_of events l selection).number)
    × ((second events l r selection).state.selection ≡ (left_of events l selection).state.selection)

-- the right side takes what the left one took
pub both_taken : (events : List WideEvent) (l r : Chip) (selection : Selection) → Taken events l r selection
unfolding stretch
both_taken [] l r selection = λ h. (refl, refl)
both_taken (e ∷ rest) l r selection =
    by (side_step Side.Left e (one_side l selection)) refl (side_step Side.Right e (one_side r selection)) refl (side_chosen Side.Left e (one_side l selection)) (side_chosen Side.Right e (one_side r selection)) (both_taken rest)
  where
    by : (x : Result OneSide) → side_step Side.Left e (one_side l selection) ≡ x → (y : Result OneSide) → side_step Side.Right e (one_side r selection) ≡ y
        → Chosen (after e selection) (side_step Side.Left e (one_side l selection)) → Chosen (after e selection) (side_step Side.Right e (one_side r selection))
        → ((l r : Chip) (selection : Selection) → Taken rest l r selection) → Taken (e ∷ rest) l r selection
    by (refuses n) d y f p q later = rw (one_event e l r selection, d) (λ h. (refl, refl))
    by (gives x) d (refuses n) f p q later =
        let one : 1 + (left_of rest x.chip x.selection).count ≡ suc (left_of rest x.chip x.selection).count = omega arith in
        rw (one_event e l r selection, d, one, f) (λ h. absurd (side_never_zero Side.Right e (one_side r selection) n f h))
    by (gives x) d (gives y) f p q later =
        let one : 1 + (left_of rest x.chip x.selection).count ≡ suc (left_of rest x.chip x.selection).count = omega arith in
        rw (one_event e l r selection, d, one, agreed e selection x y p q d f)
        (λ h.
        let on = later x.chip y.chip x.selection h in
        (rw (on.0, one), on.1))

abbrev pub Stopped : List WideEvent → Chip → Chip → Selection → Type 0
Stopped events l r selection = let t = second events l r selection in t.number ≢ taken
    → terminal_of events l r selection ≡ stretched (terminal ((left_of (take t.count events) l selection).state.chip beside t.state.chip) t.state.selection) t.count t.number

-- the right side stops before the left one does
pub both_stopped : (events : List WideEvent) (l r : Chip) (selection : Selection) → Stopped events l r selection
unfolding stretch
both_stopped [] l r selection = λ h. absurd (h refl)
both_stopped (e ∷ rest) l r selection =
    by (side_step Side.Left e (one_side l selection)) refl (side_step Side.Right e (one_side r selection)) refl (side_chosen Side.Left e (one_side l selection)) (side_chosen Side.Right e (one_side r selection)) (both_stopped rest)
  where
    by : (x : Result OneSide) → side_step Side.Left e (one_side l selection) ≡ x → (y : Result OneSide) → side_step Side.Right e (one_side r selection) ≡ y
        → Chosen (after e selection) (side_step Side.Left e (one_side l selection)) → Chosen (after e selection) (side_step Side.Right e (one_side r selection))
        → ((l r : Chip) (selection : Selection) → Stopped rest l r selection) → Stopped (e ∷ rest) l r selection
    by (refuses n) d y f p q later = rw (one_event e l r selection, d) (λ h. absurd (h refl))
    by (gives x) d (refuses n) f p q later =
        let one : 1 + (left_of rest x.chip x.selection).count ≡ suc (left_of rest x.chip x.selection).count = omega arith in
        rw (one_event e l r selection, d, one, f) (λ h. refl)
    by (gives x) d (gives y) f p q later =
        let one : 1 + (left_of rest x.chip x.selection).count ≡ suc (left_of rest x.chip x.selection).count = omega arith in
        let more : 1 + (second rest x.chip y.chip x.selection).count ≡ suc (second rest x.chip y.chip x.selection).count = omega arith in
        rw (one_event e l r selection, d, one, agreed e selection x y p q d f, more, d) (λ h. rw (later x.chip y.chip x.selection h, more))
