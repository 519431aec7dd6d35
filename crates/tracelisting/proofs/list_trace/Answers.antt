-- `tracelisting::list_trace` meets its contract: what its calls leave is the listing of the trace.
use mathlib.Core.Path.{◌≡◌, ◌∙◌, ap}
use mathlib.Core.List.{List}
use Prim.Native.Nat.{ℕ}
use native.Mathlib.Omega.{arith}
use borrow.Author.Tests.{lt-ltb}
use Rattle.constants.specs.Refusals.{number_met}
use Rattle.trace.specs.Code.{stop_met}
use Rattle.framelisting.specs.Listing.{Outcome, listed, listed_of, outcome, written}
use Rattle.tracelisting.specs.TraceListing.{listing_of_trace, printed_of}
use Rattle.tracelisting.proofs.ListedByCalls.{whole, finished}
use Rattle.tracelisting.proofs.list_trace.Goals as goal
use Rattle.tracelisting.proofs.list_trace.Goals.{After-list}

pub returns-then-text-lt-LONGEST_LISTING : goal.returns-then-text-lt-LONGEST_LISTING
unfolding printed_of
returns-then-text-lt-LONGEST_LISTING c = rw (lt-ltb _ _ c.if-text-lt-LONGEST_LISTING.true)

-- a listing of a number is one of what the number is equal to
as_numbered : {o : Outcome} (n m offset : ℕ) (frame text : List ℕ) → o ≡ listed n offset frame text → n ≡ m → o ≡ listed m offset frame text
as_numbered n m offset frame text l e = l ∙ ap (λ k. listed k offset frame text) e

-- what the listing leaves
left : (c : After-list) → outcome (listed_of c.list.result) c.list.new.text ≡ written (listing_of_trace c.args.hung c.args.trace.now) c.args.text.now
left c =
    whole c.args.hung c.args.trace.now c.args.text.now c.start.new.state c.start.new.memory (number_met c.start.result) (stop_met c.run-stop.result) c.run-stop.new.state c.run-stop.new.memory c.draw.new.frame c.list.new.text (number_met c.draw.result) (listed_of c.list.result) c.start.ensures c.run-stop.ensures c.draw.ensures (as_numbered _ _ c.run-stop.result.offset c.draw.new.frame c.args.text.now c.list.ensures (omega (arith, c.number_met-number.ensures))) (rw (← c.number_met-number.ensures) (omega (arith, c.number_met-number))) (omega (arith, c.run-stop)) (omega (arith, c.draw)) c.if-text-lt-LONGEST_LISTING.false

pub returns : goal.returns
returns c =
    rw c.unwrap_or.ensures (finished (listing_of_trace c.args.hung c.args.trace.now) c.args.text.now _ c.list.result c.if-text-lt-LONGEST_LISTING.false (left (goal.at.returns c).After-list))
