-- What the events of a record are made of: one for each byte, so that fewer bytes are fewer events; or one that neither chip refuses.
-- Assumes nothing.
use mathlib.Core.Path.{◌≡◌, refl, ◌∙◌, subst}
use mathlib.Core.Bool.{Bool, true, false}
use mathlib.Core.List.{List, [], ◌∷◌, map}
use Prim.Native.Nat.{ℕ, zero, suc}
use lib.Dec.{eqb}
use lib.ListN.{length, take, length-map}
use Rattle.codes.proofs.Tests.{chosen}
use Rattle.constants.specs.Numbers.{taken}
use Rattle.bus.specs.Chip.{reset_pulse, step}
use Rattle.bus.specs.Events.{reset_pin}
use Rattle.bus.specs.Stretch.{stretch}
use Rattle.trace.specs.Play.{Result, refuses, gives, on_result}
use Rattle.trace.specs.Kinds.{Recorded, event, recorded_command, recorded_write, read_as, events_of, happened, replay}
use Rattle.trace.proofs.ChipKinds.{Kind, by_kind}
use Rattle.trace.proofs.ChipKinds as kinds
use Rattle.widebus.specs.declared.selection.Selection.{Selection}
use Rattle.widebus.specs.declared.selection.Side.{Side}
use Rattle.widetrace.specs.Terminal.{WideEvent, selects, happens, selected_by, wide_events_of}
use Rattle.widetrace.specs.EachChip.{hears}
use Rattle.widetrace.specs.Sides.{OneSide, side_step}

pub data Made (kind : ℕ) (payload : List ℕ) (events : List WideEvent) : Type 0 where
  bytewise : length events ≡ length payload → ((j : ℕ) → wide_events_of kind (take j payload) ≡ gives (take j events)) → Made kind payload events
  single : ((side : Side) (t : OneSide) → (stretch (side_step side) events t).number ≡ taken) → Made kind payload events

map_take : {A B : Type 0} (f : A → B) (j : ℕ) (l : List A) → map f (take j l) ≡ take j (map f l)
map_take f zero l = refl
map_take f (suc j) [] = refl
map_take f (suc j) (a ∷ rest) = rw (map_take f j rest)

abbrev MadeOf : ℕ → List ℕ → Result (List WideEvent) → Type 0
MadeOf kind payload (refuses number) = Unit {0}
MadeOf kind payload (gives events) = Made kind payload events

module _ (kind : ℕ) (payload : List ℕ) where
  of_bytes : (means : ℕ → Recorded) → ((bytes : List ℕ) → wide_events_of kind bytes ≡ gives (map happens (map means bytes))) → Made kind payload (map happens (map means payload))
  of_bytes means h = bytewise (length-map (map means payload) happens ∙ length-map payload means) (λ j. h (take j payload) ∙ rw (map_take means j payload, map_take happens j (map means payload)))

  of_selection : (x : Result Selection) → MadeOf kind payload (on_result x refuses (λ selection. gives (selects selection ∷ [])))
  unfolding stretch side_step
  of_selection (refuses number) = tt
  of_selection (gives selection) = single (λ side t. refl)

  pulse_taken : (side : Side) (t : OneSide) → (stretch (side_step side) (happens (event reset_pulse) ∷ []) t).number ≡ taken
  unfolding stretch side_step replay happened step reset_pin
  pulse_taken side t = by t.selection (hears side t.selection) refl refl
    where
      by : (selection : Selection) (h : Bool) → t.selection ≡ selection → hears side t.selection ≡ h → (stretch (side_step side) (happens (event reset_pulse) ∷ []) t).number ≡ taken
      by Selection.Left true s e = rw (e, s)
      by Selection.Left false s e = rw (e, s)
      by Selection.Right true s e = rw (e, s)
      by Selection.Right false s e = rw (e, s)
      by Selection.Both true s e = rw (e, s)
      by Selection.Both false s e = rw (e, s)

  of_kind : {x : Result (List Recorded)} → Kind kind payload x → MadeOf kind payload (on_result x refuses (λ events. gives (map happens events)))
  unfolding wide_events_of events_of
  of_kind (kinds.commands k) = of_bytes recorded_command (λ bytes. rw k)
  of_kind (kinds.writes k) = of_bytes recorded_write (λ bytes. rw k)
  of_kind (kinds.reads k) = of_bytes read_as (λ bytes. rw k)
  of_kind (kinds.reset k e) = single pulse_taken
  of_kind (kinds.none u) = tt

  made_of : MadeOf kind payload (wide_events_of kind payload)
  unfolding wide_events_of
  made_of = chosen (MadeOf kind payload) (eqb kind 5) _ _ (λ e. of_selection (selected_by payload)) (λ e. of_kind (by_kind kind payload))

  pub made : (events : List WideEvent) → wide_events_of kind payload ≡ gives events → Made kind payload events
  made events e = subst (MadeOf kind payload) e made_of
