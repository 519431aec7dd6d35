-- A trace as far as a limit, played from an offset on: by what stands there.
-- Assumes nothing.
use mathlib.Core.Path.{◌≡◌, refl}
use mathlib.Core.List.{List}
use Prim.Native.Nat.{ℕ, ◌+◌, ◌≤◌, ◌<◌}
use borrow.Author.Tests.{le-leb, lt-leb}
use lib.ListN.{drop}
use Rattle.constants.specs.Sizes.{header_size}
use Rattle.constants.specs.Numbers.{taken, header_cut}
use Rattle.trace.specs.Records.{record_at}
use Rattle.trace.specs.Play.{Machine, stopped, done, played, play_record, play_from}
use Rattle.trace.specs.Front.{front_of}
use Rattle.trace.specs.declared.records.Header.{Header}
use Rattle.trace.specs.declared.records.Front.{Front}
use Rattle.trace.proofs.SplitLaws.{rest, rest_nothing, rest_cut, rest_whole}
use Rattle.widetrace.specs.Sides.{shortened, up_to}

module _ (trace : List ℕ) (at limit : ℕ) {S E : Type 0} (machine : Machine S E) (count : ℕ) (s : S) where
  -- the limit is reached
  pub reached_limit : limit ≤ at → play_from machine (up_to limit (rest trace at)) count s ≡ played taken at count s
  unfolding up_to play_from
  reached_limit l = by (front_of (drop at trace)) refl
    where
      by : (front : Front) → front_of (drop at trace) ≡ front → play_from machine (up_to limit (rest trace at)) count s ≡ played taken at count s
      by Front.Nothing f = rw (rest_nothing trace at f)
      by Front.Cut f = rw (rest_cut trace at f, le-leb limit at l)
      by (Front.Whole header) f = rw (rest_whole trace at header f, le-leb limit at l)

  pub plays_nothing : front_of (drop at trace) ≡ Front.Nothing → play_from machine (up_to limit (rest trace at)) count s ≡ played taken at count s
  unfolding up_to play_from
  plays_nothing f = rw (rest_nothing trace at f)

  module _ (l : at < limit) where
    pub plays_cut : front_of (drop at trace) ≡ Front.Cut → play_from machine (up_to limit (rest trace at)) count s ≡ played header_cut at count s
    unfolding up_to play_from
    plays_cut f = rw (rest_cut trace at f, lt-leb limit at l)

    module _ (header : Header) (f : front_of (drop at trace) ≡ Front.Whole header) where
      pub plays_on : (t : S) → play_record machine (shortened limit (record_at at (drop at trace))) s ≡ done t → play_from machine (up_to limit (rest trace at)) count s ≡ play_from machine (up_to limit (rest trace (at + header_size + header.length))) (count + 1) t
      unfolding up_to play_from
      plays_on t d = rw (rest_whole trace at header f, lt-leb limit at l, d)

      pub plays_stop : (number offset : ℕ) (t : S) → play_record machine (shortened limit (record_at at (drop at trace))) s ≡ stopped number offset t → play_from machine (up_to limit (rest trace at)) count s ≡ played number offset count t
      unfolding up_to play_from
      plays_stop number offset t d = rw (rest_whole trace at header f, lt-leb limit at l, d)
