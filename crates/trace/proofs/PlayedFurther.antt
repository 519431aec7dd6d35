-- A trace that begins at a later offset, with records before it, plays as it would from the start, offsets and count moved on; and by what stands there. Over any machine.
-- Assumes nothing.
use mathlib.Core.Path.{◌≡◌, refl}
use mathlib.Core.List.{List, [], ◌∷◌}
use Prim.Native.Nat.{ℕ, ◌+◌}
use native.Mathlib.Omega.{arith}
use lib.ListN.{drop}
use Rattle.constants.specs.Sizes.{header_size}
use Rattle.constants.specs.Numbers.{taken, header_cut}
use Rattle.trace.specs.Records.{Record, Trace, ended, cut, ◌then◌, record_at}
use Rattle.trace.specs.AnyMachine.{further}
use Rattle.trace.specs.SplitLaws.{record_further, trace_further}
use Rattle.trace.specs.Play.{Machine, Ending, stopped, done, on_ending, Played, played, play_events, play_record, play_from}
use Rattle.trace.specs.Front.{front_of}
use Rattle.trace.specs.declared.records.Header.{Header}
use Rattle.trace.specs.declared.records.Front.{Front}
use Rattle.trace.proofs.OneByOne.{by_cases}
use Rattle.trace.proofs.SplitLaws.{rest_cut, rest, rest_nothing, rest_whole}

-- how a record ends, moved on
abbrev pub ending_further : {S : Type 0} → ℕ → Ending S → Ending S
ending_further k (stopped number offset s) = stopped number (k + offset) s
ending_further k (done s) = done s

-- what is done is done wherever it begins
pub is_done : {S : Type 0} (k : ℕ) (ending : Ending S) {t : S} → ending_further k ending ≡ done t → ending ≡ done t
is_done k (stopped number offset s) e = absurd (let z : ◌≡◌ {A = ℕ} 0 1 = cc in omega arith)
is_done k (done s) e = e

module _ {S E : Type 0} (machine : Machine S E) (k : ℕ) where
  pub events_further : (events : List E) (offset : ℕ) (s : S) → play_events machine events (k + offset) s ≡ ending_further k (play_events machine events offset s)
  unfolding play_events
  events_further [] offset s = refl
  events_further (e ∷ rest) offset s =
      let on : k + offset + 1 ≡ k + (offset + 1) = omega arith in
      by_cases (ending_further k) (machine.step e s) (λ number. refl) (λ t. rw on (events_further rest (offset + 1) t))

  pub record_further_lem : (r : Record) (s : S) → play_record machine (record_further k r) s ≡ ending_further k (play_record machine r s)
  unfolding play_record
  record_further_lem r s =
      let on : k + r.place + header_size ≡ k + (r.place + header_size) = omega arith in
      by_cases (ending_further k) (machine.events r.kind r.payload) (λ number. refl) (λ events. rw on (events_further events (r.place + header_size) s))

  ended_further : (c count : ℕ) (ending : Ending S) (go go' : S → Played S) → ((t : S) → go t ≡ further k c (go' t))
      → on_ending (ending_further k ending) (λ n o t. played n o (c + count) t) go ≡ further k c (on_ending ending (λ n o t. played n o count t) go')
  ended_further c count (stopped number offset s) go go' same = refl
  ended_further c count (done s) go go' same = same s

  pub play_further : (c : ℕ) (trace : Trace) (count : ℕ) (s : S) → play_from machine (trace_further k trace) (c + count) s ≡ further k c (play_from machine trace count s)
  unfolding play_from
  play_further c (ended offset) count s = refl
  play_further c (cut offset) count s = refl
  play_further c (r then rest) count s =
      let on : c + count + 1 ≡ c + (count + 1) = omega arith in
      rw (record_further_lem r s)
      (ended_further c count (play_record machine r s) _ (λ t. play_from machine rest (count + 1) t) (λ t. rw on (play_further c rest (count + 1) t)))

module _ (trace : List ℕ) (at : ℕ) where
  module _ {S E : Type 0} (machine : Machine S E) (count : ℕ) (s : S) where
    pub plays_nothing : front_of (drop at trace) ≡ Front.Nothing → play_from machine (rest trace at) count s ≡ played taken at count s
    unfolding play_from
    plays_nothing h = rw (rest_nothing trace at h)

    pub plays_cut : front_of (drop at trace) ≡ Front.Cut → play_from machine (rest trace at) count s ≡ played header_cut at count s
    unfolding play_from
    plays_cut h = rw (rest_cut trace at h)

    module _ (header : Header) (h : front_of (drop at trace) ≡ Front.Whole header) where
      -- the record is done, and the rest is played from what it left
      pub plays_on : (t : S) → play_record machine (record_at at (drop at trace)) s ≡ done t → play_from machine (rest trace at) count s ≡ play_from machine (rest trace (at + header_size + header.length)) (count + 1) t
      unfolding play_from
      plays_on t e = rw (rest_whole trace at header h, e)

      -- the record stops, and the trace with it
      pub plays_stop : (number offset : ℕ) (t : S) → play_record machine (record_at at (drop at trace)) s ≡ stopped number offset t → play_from machine (rest trace at) count s ≡ played number offset count t
      unfolding play_from
      plays_stop number offset t e = rw (rest_whole trace at header h, e)
