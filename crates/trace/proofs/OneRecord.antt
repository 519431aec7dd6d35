-- A run of one record, by its kind.
-- Assumes nothing.
use mathlib.Core.Path.{◌≡◌, refl, sym, ◌∙◌, ap}
use mathlib.Core.List.{List, [], ◌∷◌, map, append-nil}
use Prim.Native.Nat.{ℕ, zero, suc, ◌+◌, ◌≤◌, ◌<◌}
use native.Mathlib.Omega.{arith}
use native.Mathlib.Nat.{mod-lt, add-zero}
use lib.ListN.{length}
use Rattle.constants.specs.Numbers.{taken}
use Rattle.constants.specs.Sizes.{header_size}
use Rattle.bus.specs.Chip.{reset_pulse}
use Rattle.bus.specs.Calls.{call}
use Rattle.bus.specs.Bytes.{Bytes}
use Rattle.bus.specs.Image.{Accepted}
use Rattle.bus.proofs.CallsOnChip.{calls_on_chip}
use Rattle.trace.specs.Records.{record_bytes, split_from, split}
use Rattle.trace.specs.Play.{gives}
use Rattle.trace.specs.Kinds.{Recorded, event, events_of, the_chip}
use Rattle.trace.specs.OneByOne.{placed, Script, script, script_from}
use Rattle.trace.specs.ByCalls.{by_calls, run_by_calls}
use Rattle.trace.specs.Run.{ran, stop_of, run}
use Rattle.trace.specs.Given.{recorded_by}
use Rattle.trace.specs.OneRecord.{OneRecord}
use Rattle.trace.proofs.SplitLaws.{split_laws}
use Rattle.trace.proofs.RunLaws.{run_laws}

-- the events of one record written as document 01 says
script_of : (kind : ℕ) (payload : List ℕ) (events : List Recorded) → events_of kind payload ≡ gives events → script_from the_chip (split (record_bytes kind payload)) 0 ≡ script (placed events header_size 0) taken (header_size + length payload) 1
unfolding script_from split split_from
script_of kind payload events e =
    ap (λ bytes. script_from the_chip (split bytes) 0) (sym (append-nil (record_bytes kind payload))) ∙
    ap (λ t. script_from the_chip t 0) (split_laws.written kind payload []) ∙
    rw (e, append-nil (placed events header_size 0), add-zero)

module _ (state memory : List ℕ) (a : Accepted state memory) where
  one_record_lem : (kind : ℕ) (payload : List ℕ) (events : List Recorded) → Bytes (record_bytes kind payload) → events_of kind payload ≡ gives events → run state memory (record_bytes kind payload) ≡ by_calls (placed events header_size 0) (stop_of taken (header_size + length payload) 1) state memory
  unfolding run_by_calls
  one_record_lem kind payload events b e =
      (run_laws state memory).by_calls a (record_bytes kind payload) b ∙
      ap (λ (all : Script Recorded). by_calls all.events (stop_of all.number all.offset all.count) state memory) (script_of kind payload events e)

  written_bytes : (kind : ℕ) (payload : List ℕ) → kind < 256 → Bytes payload → length payload < 65536 → Bytes (record_bytes kind payload)
  written_bytes kind payload k b l = (mod-lt _ (omega arith), (omega arith, (mod-lt _ (omega arith), (omega arith, b))))

  by_kind : (kind : ℕ) (payload : List ℕ) → 1 ≤ kind → kind ≤ 3 → events_of kind payload ≡ gives (map (recorded_by kind) payload)
  unfolding events_of
  by_kind zero payload l m = absurd (omega arith)
  by_kind (suc zero) payload l m = refl
  by_kind (suc (suc zero)) payload l m = refl
  by_kind (suc (suc (suc zero))) payload l m = refl
  by_kind (suc (suc (suc (suc kind)))) payload l m = absurd (omega arith)

  reset_events : events_of 4 [] ≡ gives (event reset_pulse ∷ [])
  unfolding events_of
  reset_events = refl

  reset_run : run state memory (record_bytes 4 []) ≡ ran (stop_of taken header_size 1) (call reset_pulse state memory).state (call reset_pulse state memory).memory
  unfolding by_calls
  reset_run = one_record_lem 4 [] (event reset_pulse ∷ []) (written_bytes 4 [] (omega arith) tt (omega arith)) reset_events ∙ rw (calls_on_chip.the_reset_pin state memory a.long_enough)

pub one_record : (state memory : List ℕ) → OneRecord state memory
one_record state memory = record {
  bytes = λ a kind payload l m b size. one_record_lem state memory a kind payload (map (recorded_by kind) payload) (written_bytes state memory a kind payload (omega arith) b size) (by_kind state memory a kind payload l m);
  reset_pin = reset_run state memory;
}
