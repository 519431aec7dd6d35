-- Stretches of recorded events on the selected chips, by what each chip's own stretch comes to.
-- Assumes nothing.
use mathlib.Core.Path.{◌≡◌, refl, sym, ◌∙◌, ap}
use mathlib.Core.Logic.{◌≢◌}
use mathlib.Core.Bool.{Bool, true, false, cond}
use mathlib.Core.List.{List, [], ◌∷◌, map}
use Prim.Native.Nat.{ℕ, ◌≤◌}
use native.Mathlib.Omega.{arith}
use borrow.Author.Tests.{eqb-true, eqb-false}
use lib.Dec.{eqb}
use lib.ListN.{length, take, length-map}
use lib.Seq.{take-length}
use Rattle.std.specs.Prelude.{Ok}
use Rattle.constants.specs.Numbers.{taken, both_selected}
use Rattle.constants.specs.Refusals.{Met, number_met}
use Rattle.bus.specs.Chip.{Chip, reset_pulse, step}
use Rattle.bus.specs.Registers.{power_on}
use Rattle.bus.specs.Events.{access, reset_pin}
use Rattle.bus.specs.Result.{refuses, gives, on_result}
use Rattle.bus.specs.Recorded.{Recorded, event, read_as, recorded_command, recorded_write, chip_of, happened, replay}
use Rattle.bus.specs.Stretch.{Stretched, stretched, stretch, stretch_of}
use Rattle.bus.specs.Bytes.{All}
use Rattle.bus.specs.Stretch.{Stretch}
use Rattle.bus.proofs.StretchLaws.{stretches, the_chip_never_zero}
use Rattle.widebus.specs.Pair.{Pair, ◌beside◌, chips_of}
use Rattle.widebus.specs.Events.{to_selected, reads_data, replay_on}
use Rattle.widebus.specs.OnBoth.{access_both}
use Rattle.widebus.specs.WideStretch.{WideStretch, wide_stretch_of}
use Rattle.widebus.specs.declared.both.Both.{Both}
use Rattle.widebus.specs.declared.selection.Selection.{Selection}
use Rattle.widebus.proofs.Writes.{write_taken, write_refused, all_taken}
use Rattle.widebus.proofs.Stretches.{same_steps, left_alone, right_alone, of, second, both_taken, both_stopped}

-- what is no read goes to each selected chip
pub no_read : (selection : Selection) (r : Recorded) (chips : Pair Chip) → reads_data r ≡ false → replay_on selection r chips ≡ to_selected replay selection r chips
unfolding replay_on
no_read Selection.Left r chips e = refl
no_read Selection.Right r chips e = refl
no_read Selection.Both r chips e = rw e

-- with one chip selected, a read does too
every : (P : Recorded → Type 0) → ((r : Recorded) → P r) → (events : List Recorded) → All P events
every P all [] = tt
every P all (r ∷ rest) = (all r, every P all rest)

pub to_left : (events : List Recorded) (chips : Pair Chip) → stretch (replay_on Selection.Left) events chips ≡ stretch (to_selected replay Selection.Left) events chips
unfolding replay_on
to_left events chips = same_steps _ _ events chips (every _ (λ r t. refl) events)

pub to_right : (events : List Recorded) (chips : Pair Chip) → stretch (replay_on Selection.Right) events chips ≡ stretch (to_selected replay Selection.Right) events chips
unfolding replay_on
to_right events chips = same_steps _ _ events chips (every _ (λ r t. refl) events)

-- the left chip's own stretch
pub on_left : {selection : Selection} (registers : Both) (s : Stretch) {w : WideStretch} (events : List Recorded) (lm : List ℕ) {lm' : List ℕ} (rm : List ℕ)
    → selection ≡ Selection.Left → w ≡ record { registers = record { left = s.registers; right = registers.right }; count = s.count; outcome = s.outcome }
    → stretch_of s lm' ≡ stretch replay events (chip_of registers.left lm) → wide_stretch_of w lm' rm ≡ stretch (replay_on selection) events (chips_of registers lm rm)
on_left registers s events lm rm l e own = rw (l, e, to_left, left_alone replay, ← own)

-- the right chip's own stretch
pub on_right : {selection : Selection} (registers : Both) (s : Stretch) {w : WideStretch} (events : List Recorded) (lm rm : List ℕ) {rm' : List ℕ}
    → selection ≡ Selection.Right → w ≡ record { registers = record { left = registers.left; right = s.registers }; count = s.count; outcome = s.outcome }
    → stretch_of s rm' ≡ stretch replay events (chip_of registers.right rm) → wide_stretch_of w lm rm' ≡ stretch (replay_on selection) events (chips_of registers lm rm)
on_right registers s events lm rm l e own = rw (l, e, to_right, right_alone replay, ← own)

-- bytes that stand for no read go to both chips
pub to_both : (means : ℕ → Recorded) → ((b : ℕ) → reads_data (means b) ≡ false) → (bytes : List ℕ) (chips : Pair Chip) → stretch (replay_on Selection.Both) (map means bytes) chips ≡ stretch (to_selected replay Selection.Both) (map means bytes) chips
to_both means none bytes chips = same_steps _ _ (map means bytes) chips (each bytes)
  where
    each : (bytes : List ℕ) → All (λ (r : Recorded). (t : Pair Chip) → replay_on Selection.Both r t ≡ to_selected replay Selection.Both r t) (map means bytes)
    each [] = tt
    each (b ∷ rest) = ((λ t. no_read Selection.Both (means b) t (none b)), each rest)

-- no more bytes are taken than there are
pub takes : (means : ℕ → Recorded) (bytes : List ℕ) (c : Chip) (s : Stretch) {m : List ℕ} → stretch_of s m ≡ stretch replay (map means bytes) c → s.count ≤ length bytes
takes means bytes c s e = omega (arith, ap (λ (s : Stretched Chip). s.count) e, (stretches replay).within (map means bytes) c, length-map bytes means)

-- command bytes for both, by the two chips' own stretches
module _ (registers : Both) (bytes : List ℕ) (f g : Stretch)
    (first : (m : List ℕ) → stretch_of f m ≡ stretch replay (map recorded_command bytes) (chip_of registers.left m))
    (next : (m : List ℕ) → stretch_of g m ≡ stretch replay (map recorded_command (take f.count bytes)) (chip_of registers.right m)) (lm rm : List ℕ) where
  seconds : second replay the_chip_never_zero recorded_command bytes (chip_of registers.left lm) (chip_of registers.right rm) ≡ stretch_of g rm
  seconds = rw (← (first lm), ← (next rm))

  pub commands_taken : {w : WideStretch} → number_met g.outcome ≡ taken → w ≡ record { registers = record { left = f.registers; right = g.registers }; count = f.count; outcome = f.outcome }
      → wide_stretch_of w lm rm ≡ stretch (replay_on Selection.Both) (map recorded_command bytes) (chips_of registers lm rm)
  commands_taken h e =
      rw e (sym (to_both recorded_command (λ b. refl) bytes _ ∙ both_taken replay the_chip_never_zero recorded_command bytes (chip_of registers.left lm) (chip_of registers.right rm) (ap (λ (s : Stretched Chip). s.number) seconds ∙ h) ∙ rw (← (first lm), ← (next rm))))

  pub commands_stopped : (again : Stretch) {w : WideStretch} → number_met g.outcome ≢ taken
      → ((m : List ℕ) → stretch_of again m ≡ stretch replay (map recorded_command (take g.count bytes)) (chip_of registers.left m))
      → w ≡ record { registers = record { left = again.registers; right = g.registers }; count = g.count; outcome = g.outcome }
      → wide_stretch_of w lm rm ≡ stretch (replay_on Selection.Both) (map recorded_command bytes) (chips_of registers lm rm)
  commands_stopped again h a e =
      rw e (sym (to_both recorded_command (λ b. refl) bytes _ ∙ both_stopped replay the_chip_never_zero recorded_command bytes (chip_of registers.left lm) (chip_of registers.right rm) (λ z. h (ap (λ (s : Stretched Chip). s.number) (sym seconds) ∙ z)) ∙ rw (← (first lm), ← (next rm), ← (a lm))))

-- no byte changes nothing and is taken
pub no_bytes : (selection : Selection) (means : ℕ → Recorded) (bytes : List ℕ) (registers : Both) {w : WideStretch} {lm rm : List ℕ} → length bytes ≡ 0 → w ≡ record { registers = registers; count = 0; outcome = Ok tt }
    → wide_stretch_of w lm rm ≡ stretch (replay_on selection) (map means bytes) (chips_of registers lm rm)
unfolding stretch
no_bytes selection means [] registers h e = rw e
no_bytes selection means (b ∷ rest) registers h e = absurd (omega arith)

-- a first event that is refused
pub halts : (selection : Selection) (means : ℕ → Recorded) (bytes : List ℕ) (registers : Both) {met : Met} {w : WideStretch} (lm rm : List ℕ)
    → ((b : ℕ) → replay_on selection (means b) (chips_of registers lm rm) ≡ refuses (number_met met)) → (length bytes ≡ 0 → ⊥) → w ≡ record { registers = registers; count = 0; outcome = met }
    → wide_stretch_of w lm rm ≡ stretch (replay_on selection) (map means bytes) (chips_of registers lm rm)
unfolding stretch
halts selection means [] registers lm rm r h e = absurd (h refl)
halts selection means (b ∷ rest) registers lm rm r h e = rw (e, r b)

-- a read with both selected
pub both_read : (chips : Pair Chip) (b : ℕ) → replay_on Selection.Both (read_as b) chips ≡ refuses both_selected
unfolding replay_on
both_read chips b = refl

-- data bytes written to both: the left chip refuses, or the right one alone
pub writes_refused : (registers : Both) (lm rm : List ℕ) {met : ℕ} → met ≡ access_both registers (length lm) (length rm) → (met ≡ taken → ⊥) → (b : ℕ) → replay_on Selection.Both (recorded_write b) (chips_of registers lm rm) ≡ refuses met
unfolding access_both replay_on to_selected
writes_refused registers lm rm {met} m h b = by (eqb (access registers.left (length lm)) taken) refl (m ∙ refl)
  where
    by : (t : Bool) → eqb (access registers.left (length lm)) taken ≡ t → met ≡ cond t (access registers.right (length rm)) (access registers.left (length lm))
        → on_result (replay (recorded_write b) (chip_of registers.left lm)) refuses (λ l. on_result (replay (recorded_write b) (chip_of registers.right rm)) refuses (λ r. gives (l beside r))) ≡ refuses met
    by true e m = rw (m, write_taken b registers.left lm (eqb-true _ _ e), write_refused b registers.right rm (λ z. h (m ∙ z)))
    by false e m = rw (m, write_refused b registers.left lm (eqb-false _ _ e))

-- both take all
access_taken : (registers : Both) (lm rm : ℕ) → access_both registers lm rm ≡ taken → (access registers.left lm ≡ taken) × (access registers.right rm ≡ taken)
unfolding access_both
access_taken registers lm rm a = by (eqb (access registers.left lm) taken) refl a
  where
    by : (t : Bool) → eqb (access registers.left lm) taken ≡ t → cond t (access registers.right rm) (access registers.left lm) ≡ taken → (access registers.left lm ≡ taken) × (access registers.right rm ≡ taken)
    by true e m = (eqb-true _ _ e, m)
    by false e m = absurd (eqb-false _ _ e m)

pub writes_taken : (registers : Both) (bytes lm rm : List ℕ) (f g : Stretch) {lm' rm' : List ℕ} {w : WideStretch}
    → access_both registers (length lm) (length rm) ≡ taken
    → stretch_of f lm' ≡ stretch replay (map recorded_write bytes) (chip_of registers.left lm) → stretch_of g rm' ≡ stretch replay (map recorded_write bytes) (chip_of registers.right rm)
    → w ≡ record { registers = record { left = f.registers; right = g.registers }; count = f.count; outcome = f.outcome }
    → wide_stretch_of w lm' rm' ≡ stretch (replay_on Selection.Both) (map recorded_write bytes) (chips_of registers lm rm)
writes_taken registers bytes lm rm f g a first next e =
    let accessed = access_taken registers (length lm) (length rm) a in
    let left = chip_of registers.left lm in
    let right = chip_of registers.right rm in
    let all : (of replay the_chip_never_zero recorded_write bytes left).count ≡ length bytes = ((stretches replay).all_taken the_chip_never_zero (map recorded_write bytes) left).0 (all_taken bytes registers.left lm accessed.0) ∙ length-map bytes recorded_write in
    let same : second replay the_chip_never_zero recorded_write bytes left right ≡ of replay the_chip_never_zero recorded_write bytes right = rw (all, take-length bytes) in
    rw e (sym (to_both recorded_write (λ b. refl) bytes _ ∙ both_taken replay the_chip_never_zero recorded_write bytes left right (ap (λ (s : Stretched Chip). s.number) same ∙ all_taken bytes registers.right rm accessed.1) ∙ rw (same, ← first, ← next)))

-- a pulse on the reset pin for both
pub both_reset : (registers : Both) (lm rm : List ℕ) (f g : Stretch) {w : WideStretch}
    → stretch_of f lm ≡ stretch replay (event reset_pulse ∷ []) (chip_of registers.left lm) → stretch_of g rm ≡ stretch replay (event reset_pulse ∷ []) (chip_of registers.right rm)
    → w ≡ record { registers = record { left = f.registers; right = g.registers }; count = f.count; outcome = f.outcome }
    → wide_stretch_of w lm rm ≡ stretch (replay_on Selection.Both) (event reset_pulse ∷ []) (chips_of registers lm rm)
unfolding stretch replay_on to_selected replay happened step reset_pin
both_reset registers lm rm f g first next e =
    let l : stretch_of f lm ≡ stretched (chip_of power_on lm) 1 taken = first in
    let r : stretch_of g rm ≡ stretched (chip_of power_on rm) 1 taken = next in
    rw e
    (ap (λ (s : Stretched Chip). stretched (s.state beside chip_of g.registers rm) s.count s.number) l
    ∙ ap (λ (s : Stretched Chip). stretched (chip_of power_on lm beside s.state) 1 taken) r)
