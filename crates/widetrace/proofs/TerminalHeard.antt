-- What one step of the terminal does to the chip on a side: its own step where it is selected, and nothing where it is not.
-- Assumes nothing.
use mathlib.Core.Path.{◌≡◌, refl, sym, subst}
use mathlib.Core.Bool.{Bool, true, false, ◌&&◌}
use mathlib.Core.List.{List, [], ◌∷◌, map}
use Prim.Native.Nat.{ℕ}
use lib.Dec.{eqb}
use Rattle.codes.proofs.Tests.{chosen}
use Rattle.bus.specs.Bytes.{All}
use Rattle.bus.specs.Chip.{Chip}
use Rattle.trace.specs.Play.{Result, refuses, gives, on_result}
use Rattle.trace.specs.Kinds.{Recorded, replay, events_of}
use Rattle.trace.specs.AnyMachine.{Gives}
use Rattle.widebus.specs.Pair.{Pair, ◌beside◌, at}
use Rattle.widebus.specs.Events.{to_selected, are_both, reads_data, replay_on}
use Rattle.widebus.specs.declared.selection.Selection.{Selection}
use Rattle.widebus.specs.declared.selection.Side.{Side}
use Rattle.widetrace.specs.Terminal.{Terminal, terminal, WideEvent, selects, happens, selected_by, wide_events_of, wide_step}
use Rattle.widetrace.specs.EachChip.{hears}

-- the chip on a side after an event, by whether it hears it
abbrev pub Heard : Bool → Side → Recorded → Pair Chip → Pair Chip → Type 0
Heard true side recorded chips later = replay recorded (at side chips) ≡ gives (at side later)
Heard false side recorded chips later = at side later ≡ at side chips

module _ (recorded : Recorded) (chips : Pair Chip) where
  of_left : (side : Side) (x : Result Chip) → replay recorded chips.left ≡ x → Gives (Heard (hears side Selection.Left) side recorded chips) (on_result x refuses (λ l. gives (l beside chips.right)))
  of_left side (refuses number) e = tt
  of_left Side.Left (gives l) e = e
  of_left Side.Right (gives l) e = refl

  of_right : (side : Side) (x : Result Chip) → replay recorded chips.right ≡ x → Gives (Heard (hears side Selection.Right) side recorded chips) (on_result x refuses (λ r. gives (chips.left beside r)))
  of_right side (refuses number) e = tt
  of_right Side.Left (gives r) e = refl
  of_right Side.Right (gives r) e = e

  of_both : (side : Side) (x y : Result Chip) → replay recorded chips.left ≡ x → replay recorded chips.right ≡ y
      → Gives (Heard (hears side Selection.Both) side recorded chips) (on_result x refuses (λ l. on_result y refuses (λ r. gives (l beside r))))
  of_both side (refuses number) y e f = tt
  of_both side (gives l) (refuses number) e f = tt
  of_both Side.Left (gives l) (gives r) e f = e
  of_both Side.Right (gives l) (gives r) e f = f

  to_selected_lem : (side : Side) (selection : Selection) → Gives (Heard (hears side selection) side recorded chips) (to_selected replay selection recorded chips)
  unfolding to_selected
  to_selected_lem side Selection.Left = of_left side (replay recorded chips.left) refl
  to_selected_lem side Selection.Right = of_right side (replay recorded chips.right) refl
  to_selected_lem side Selection.Both = of_both side (replay recorded chips.left) (replay recorded chips.right) refl refl

  pub heard : (side : Side) (selection : Selection) → Gives (Heard (hears side selection) side recorded chips) (replay_on selection recorded chips)
  unfolding replay_on
  heard side selection = chosen (Gives (Heard (hears side selection) side recorded chips)) (are_both selection && reads_data recorded) _ _ (λ e. tt) (λ e. to_selected_lem side selection)

-- what an event of the terminal brings, by what an event of one chip does
abbrev pub WideBrings : (Recorded → Type 0) → WideEvent → Type 0
WideBrings Q (selects selection) = Unit {0}
WideBrings Q (happens recorded) = Q recorded

module _ (R : ℕ → Type 0) (Q : Recorded → Type 0) (brings : (kind : ℕ) (payload : List ℕ) → All R payload → Gives (All Q) (events_of kind payload)) where
  all_happen : (events : List Recorded) → All Q events → All (WideBrings Q) (map happens events)
  all_happen [] h = tt
  all_happen (e ∷ rest) h = (h.0, all_happen rest h.1)

  selecting : (x : Result Selection) → Gives (All (WideBrings Q)) (on_result x refuses (λ selection. gives (selects selection ∷ [])))
  selecting (refuses number) = tt
  selecting (gives selection) = (tt, tt)

  happening : (x : Result (List Recorded)) → Gives (All Q) x → Gives (All (WideBrings Q)) (on_result x refuses (λ events. gives (map happens events)))
  happening (refuses number) h = tt
  happening (gives events) h = all_happen events h

  pub wide_brings : (kind : ℕ) (payload : List ℕ) → All R payload → Gives (All (WideBrings Q)) (wide_events_of kind payload)
  unfolding wide_events_of
  wide_brings kind payload r = chosen (Gives (All (WideBrings Q))) (eqb kind 5) _ _ (λ e. selecting (selected_by payload)) (λ e. happening (events_of kind payload) (brings kind payload r))

-- what a chip's own steps keep, the terminal's steps keep of the chip on a side
module _ (P : Chip → Type 0) (Q : Recorded → Type 0) (keeps : (recorded : Recorded) (c : Chip) → Q recorded → P c → Gives P (replay recorded c)) where
  on_heard : (b : Bool) (side : Side) (recorded : Recorded) (chips later : Pair Chip) → Q recorded → P (at side chips) → Heard b side recorded chips later → P (at side later)
  on_heard true side recorded chips later q p h = subst (Gives P) h (keeps recorded (at side chips) q p)
  on_heard false side recorded chips later q p h = subst P (sym h) p

  pub step_keeps : (side : Side) (event : WideEvent) (t : Terminal) → WideBrings Q event → P (at side t.chips) → Gives (λ (u : Terminal). P (at side u.chips)) (wide_step event t)
  unfolding wide_step
  step_keeps side (selects selection) t q p = p
  step_keeps side (happens recorded) t q p = by (replay_on t.selection recorded t.chips) (heard recorded t.chips side t.selection)
    where
      by : (x : Result (Pair Chip)) → Gives (Heard (hears side t.selection) side recorded t.chips) x → Gives (λ (u : Terminal). P (at side u.chips)) (on_result x refuses (λ chips. gives (terminal chips t.selection)))
      by (refuses number) h = tt
      by (gives later) h = on_heard (hears side t.selection) side recorded t.chips later q p h
