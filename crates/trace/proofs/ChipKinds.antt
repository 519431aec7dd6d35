-- What a record of each kind stands for on the chip: the events of its payload, and the record that stands at an offset, played by its kind.
-- Assumes nothing.
use mathlib.Core.Path.{◌≡◌, refl, ◌∙◌, ap, sym}
use mathlib.Core.Bool.{Bool, true, false, cond, ◌&&◌}
use mathlib.Core.List.{List, [], ◌∷◌, map}
use Prim.Native.Nat.{ℕ, ◌+◌, ◌≤◌}
use native.Mathlib.Omega.{arith}
use borrow.Author.Tests.{eqb-true, eqb-false, ne_eqb}
use lib.Dec.{eqb}
use lib.ListN.{length, drop}
use lib.Seq.{slice, length-slice}
use Rattle.codes.proofs.Tests.{chosen}
use Rattle.std.specs.Prelude.{Ok, Err}
use Rattle.constants.specs.Numbers.{kind_unknown}
use Rattle.constants.specs.Refusals.{number_of_refusal}
use Rattle.constants.specs.declared.refusal.Refusal.{Refusal}
use Rattle.constants.specs.Sizes.{header_size}
use Rattle.bus.specs.Chip.{reset_pulse, Chip}
use Rattle.trace.specs.Play.{Result, refuses, gives, stopped, play_events, play_record}
use Rattle.trace.specs.Given.{Unknown, no_kind, loaded, recorded_by}
use Rattle.trace.specs.Kinds.{Recorded, event, recorded_command, recorded_write, read_as, events_of, the_chip}
use Rattle.trace.specs.Records.{Record, record_at, length_of, kind_of, payload_of, whole}
use Rattle.trace.specs.Front.{front_of}
use Rattle.trace.specs.Code.{Named, recorded_in}
use Rattle.trace.specs.declared.kind.Kind as code
use Rattle.trace.specs.declared.records.Header.{Header}
use Rattle.trace.specs.declared.records.Front.{Front}
use Rattle.trace.proofs.WhatStands.{within_trace, the_record, front_whole}
use Rattle.trace.proofs.PayloadBytes.{play_bytes}

pub data Kind (kind : ℕ) (payload : List ℕ) : Result (List Recorded) → Type 0 where
  commands : kind ≡ 1 → Kind kind payload (gives (map recorded_command payload))
  writes : kind ≡ 2 → Kind kind payload (gives (map recorded_write payload))
  reads : kind ≡ 3 → Kind kind payload (gives (map read_as payload))
  reset : kind ≡ 4 → length payload ≡ 0 → Kind kind payload (gives (event reset_pulse ∷ []))
  none : Unknown kind (length payload) → Kind kind payload (refuses kind_unknown)

-- kind 4 where none of 1 to 3 is
fourth : (kind : ℕ) (payload : List ℕ) (k e : Bool) → eqb kind 4 ≡ k → eqb (length payload) 0 ≡ e → (kind ≡ 1 → ⊥) → (kind ≡ 2 → ⊥) → (kind ≡ 3 → ⊥) → Kind kind payload (cond (k && e) (gives (event reset_pulse ∷ [])) (refuses kind_unknown))
fourth kind payload true true k e a b c = reset (eqb-true kind 4 k) (eqb-true (length payload) 0 e)
fourth kind payload true false k e a b c = none (loaded (eqb-true kind 4 k) (eqb-false (length payload) 0 e))
fourth kind payload false t k e a b c = none (no_kind a b c (eqb-false kind 4 k))

pub by_kind : (kind : ℕ) (payload : List ℕ) → Kind kind payload (events_of kind payload)
unfolding events_of
by_kind kind payload =
    chosen (Kind kind payload) (eqb kind 1) _ _ (λ e. commands (eqb-true kind 1 e))
    (λ a. chosen (Kind kind payload) (eqb kind 2) _ _ (λ e. writes (eqb-true kind 2 e))
    (λ b. chosen (Kind kind payload) (eqb kind 3) _ _ (λ e. reads (eqb-true kind 3 e))
    (λ c. fourth kind payload (eqb kind 4) (eqb (length payload) 0) refl refl (eqb-false kind 1 a) (eqb-false kind 2 b) (eqb-false kind 3 c))))

module _ (trace : List ℕ) (at : ℕ) (header : Header) (h : front_of (drop at trace) ≡ Front.Whole header) (s : Chip) where
  abbrev payload : List ℕ
  payload = slice (at + header_size) (at + header_size + header.length) trace

  its_play : play_record the_chip (record_at at (drop at trace)) s ≡ play_record the_chip (record { kind = header.kind; payload = payload; place = at }) s
  its_play = ap (λ (r : Record). play_record the_chip r s) (the_record trace at header h)

  slice_length : length payload ≡ header.length
  slice_length = length-slice (at + header_size) (at + header_size + header.length) trace (within_trace trace at header h) ∙ omega arith

  -- by what is found for its header
  pub found_kind : (kind : code.Kind) → Named header (Ok kind) → play_record the_chip (record_at at (drop at trace)) s ≡ play_events the_chip (recorded_in kind payload) (at + header_size) s
  unfolding play_record
  found_kind kind named = its_play ∙ rw (named.1 payload slice_length)

  pub found_refusal : (refusal : Refusal) → Named header (Err refusal) → play_record the_chip (record_at at (drop at trace)) s ≡ stopped (number_of_refusal refusal) at s
  unfolding play_record
  found_refusal refusal named = its_play ∙ rw (named payload slice_length)

  pub kind_1 : header.kind ≡ 1 → play_record the_chip (record_at at (drop at trace)) s ≡ play_events the_chip (map recorded_command payload) (at + header_size) s
  unfolding play_record events_of
  kind_1 k = its_play ∙ rw k

  pub kind_2 : header.kind ≡ 2 → play_record the_chip (record_at at (drop at trace)) s ≡ play_events the_chip (map recorded_write payload) (at + header_size) s
  unfolding play_record events_of
  kind_2 k = its_play ∙ rw k

  pub kind_3 : header.kind ≡ 3 → play_record the_chip (record_at at (drop at trace)) s ≡ play_events the_chip (map read_as payload) (at + header_size) s
  unfolding play_record events_of
  kind_3 k = its_play ∙ rw k

  pub kind_4 : header.kind ≡ 4 → header.length ≡ 0 → play_record the_chip (record_at at (drop at trace)) s ≡ play_events the_chip (event reset_pulse ∷ []) (at + header_size) s
  unfolding play_record events_of
  kind_4 k empty = its_play ∙ rw (k, slice_length, empty)

  pub kind_4_loaded : header.kind ≡ 4 → (header.length ≡ 0 → ⊥) → play_record the_chip (record_at at (drop at trace)) s ≡ stopped kind_unknown at s
  unfolding play_record events_of
  kind_4_loaded k some = its_play ∙ rw (k, slice_length, ne_eqb _ _ some)

  pub kind_unknown_lem : (header.kind ≡ 1 → ⊥) → (header.kind ≡ 2 → ⊥) → (header.kind ≡ 3 → ⊥) → (header.kind ≡ 4 → ⊥) → play_record the_chip (record_at at (drop at trace)) s ≡ stopped kind_unknown at s
  unfolding play_record events_of
  kind_unknown_lem p q t u = its_play ∙ rw (ne_eqb _ _ p, ne_eqb _ _ q, ne_eqb _ _ t, ne_eqb _ _ u)

-- a kind of 1 to 3 is none that is unknown
is_known : (kind size : ℕ) → 1 ≤ kind → kind ≤ 3 → Unknown kind size → ⊥
is_known kind size p q (no_kind a b c d) = omega arith
is_known kind size p q (loaded k e) = omega arith

-- of these kinds each byte of the payload is an event
bytewise : {kind : ℕ} {payload : List ℕ} {result : Result (List Recorded)} → 1 ≤ kind → kind ≤ 3 → Kind kind payload result → result ≡ gives (map (recorded_by kind) payload)
bytewise {kind} {payload} p q (commands k) = ap (λ (n : ℕ). gives (map (recorded_by n) payload)) (sym k)
bytewise {kind} {payload} p q (writes k) = ap (λ (n : ℕ). gives (map (recorded_by n) payload)) (sym k)
bytewise {kind} {payload} p q (reads k) = ap (λ (n : ℕ). gives (map (recorded_by n) payload)) (sym k)
bytewise p q (reset k e) = absurd (omega arith)
bytewise {kind} {payload} p q (none u) = absurd (is_known kind (length payload) p q u)

pub each_byte : (kind : ℕ) (payload : List ℕ) → 1 ≤ kind → kind ≤ 3 → events_of kind payload ≡ gives (map (recorded_by kind) payload)
each_byte kind payload p q = bytewise p q (by_kind kind payload)

module _ (trace : List ℕ) where
  pub unknown_stops : (at : ℕ) (whole : front_of (drop at trace) ≡ Front.Whole (record { kind = kind_of (drop at trace); length = length_of (drop at trace) })) (c : Chip) → Unknown (kind_of (drop at trace)) (length_of (drop at trace)) → play_record the_chip (record_at at (drop at trace)) c ≡ stopped kind_unknown at c
  unknown_stops at w c (no_kind p q r s) = kind_unknown_lem trace at _ w c p q r s
  unknown_stops at w c (loaded k p) = kind_4_loaded trace at _ w c k p

  -- the bytes of a record that stands at an offset, played one by one
  abbrev its_bytes : ℕ → Chip → Type 0
  its_bytes at c = play_record the_chip (record_at at (drop at trace)) c ≡ play_bytes the_chip (recorded_by (kind_of (drop at trace))) trace (at + header_size) (at + header_size + length_of (drop at trace)) c

  module _ (at : ℕ) (c : Chip) (w : whole (drop at trace) ≡ true) where
    pub front : front_of (drop at trace) ≡ Front.Whole (record { kind = kind_of (drop at trace); length = length_of (drop at trace) })
    front = front_whole (drop at trace) w

    by_bytes : 1 ≤ kind_of (drop at trace) → kind_of (drop at trace) ≤ 3 → {result : Result (List Recorded)} → Kind (kind_of (drop at trace)) (payload_of (drop at trace)) result → its_bytes at c
    by_bytes p q (commands k) = kind_1 trace at _ front c k ∙ ap (λ (n : ℕ). play_bytes the_chip (recorded_by n) trace (at + header_size) (at + header_size + length_of (drop at trace)) c) (sym k)
    by_bytes p q (writes k) = kind_2 trace at _ front c k ∙ ap (λ (n : ℕ). play_bytes the_chip (recorded_by n) trace (at + header_size) (at + header_size + length_of (drop at trace)) c) (sym k)
    by_bytes p q (reads k) = kind_3 trace at _ front c k ∙ ap (λ (n : ℕ). play_bytes the_chip (recorded_by n) trace (at + header_size) (at + header_size + length_of (drop at trace)) c) (sym k)
    by_bytes p q (reset k e) = absurd (omega arith)
    by_bytes p q (none u) = absurd (is_known _ _ p q u)

    pub its_bytes_lem : 1 ≤ kind_of (drop at trace) → kind_of (drop at trace) ≤ 3 → its_bytes at c
    its_bytes_lem p q = by_bytes p q (by_kind (kind_of (drop at trace)) (payload_of (drop at trace)))
