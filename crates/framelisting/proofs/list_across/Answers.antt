-- `framelisting::list_across` meets its contract: in a buffer that is long enough for any listing the text is put at once; in another it is first measured in an empty one, which changes nothing.
use mathlib.Core.Path.{◌≡◌, sym, ◌∙◌, ap}
use Prim.Native.Nat.{ℕ, ◌≤◌}
use mathlib.Core.List.{List, [], ◌++◌}
use native.Mathlib.Nat.{zero-add}
use native.Mathlib.Omega.{arith}
use lib.ListN.{length, drop}
use lib.Seq.{sets, sets-eq}
use Rattle.framelisting.specs.Put.{Put}
use Rattle.framelisting.specs.Text.{listing_across}
use Rattle.framelisting.specs.Listing.{outcome, written}
use Rattle.framelisting.proofs.PutPieces.{sets_empty}
use Rattle.framelisting.proofs.LentBuffers.{frame_short, text_short, both_long}
use Rattle.framelisting.specs.Listing.{Listed}
use Rattle.framelisting.proofs.list_across.Goals as goal

-- a buffer of which only the first 0 bytes were lent is as it was
unchanged : {piece : List ℕ} {at n : ℕ} {left : List ℕ} (text : List ℕ) → Put [] at piece n left → left ++ text ≡ text
unchanged text f = rw (f.stored, sets_empty)

-- a piece put at the start of a buffer that has room for it
at_start : (text piece : List ℕ) → length piece ≤ length text → sets text 0 piece ≡ piece ++ drop (length piece) text
at_start text piece h = sets-eq piece text 0 (omega (arith, h)) ∙ rw zero-add

pub returns-then-frame-size : goal.returns-then-frame-size
returns-then-frame-size g c = sym (frame_short _ _ _ _ _ c.if-frame-size.true)

pub put_listing-requires : goal.put_listing-requires
put_listing-requires g c =
    record {
      width_in_bounds = c.if-frame-size.false;
      countable = omega (arith, c.requires.at_most c.args.number c.args.offset c.args.frame.now c.ranges.number.fits c.ranges.offset.fits);
    }

pub returns-then-text : goal.returns-then-text
unfolding written
returns-then-text g c =
    let text = c.args.text.now in
    let listing = listing_across g.row.ACROSS c.args.number c.args.offset c.args.frame.now in
    let size : c.put_listing.result ≡ length listing = c.put_listing.ensures.counted ∙ zero-add (length listing) in
    let room : length listing ≤ length text = omega (arith, c.if-text.true, c.requires.at_most c.args.number c.args.offset c.args.frame.now c.ranges.number.fits c.ranges.offset.fits) in
    rw (size, c.put_listing.ensures.stored, at_start text listing room) (sym (both_long _ _ _ _ _ c.if-frame-size.false room))

pub put_listing-length-requires : goal.put_listing-length-requires
put_listing-length-requires g c =
    record {
      width_in_bounds = c.if-frame-size.false;
      countable = omega (arith, c.requires.at_most c.args.number c.args.offset c.args.frame.now c.ranges.number.fits c.ranges.offset.fits);
    }

pub returns-then-text-length : goal.returns-then-text-length
returns-then-text-length g c =
    let same = unchanged c.args.text.now c.put_listing-length.ensures in
    ap (outcome (Listed.Refused 1)) same ∙ sym (text_short _ _ _ _ _ c.if-frame-size.false (omega (arith, rw same at c.if-text-length.true, c.put_listing-length.ensures.counted)))

pub returns : goal.returns
unfolding written
returns g c =
    let text = c.args.text.now in
    let listing = listing_across g.row.ACROSS c.args.number c.args.offset c.args.frame.now in
    let same = unchanged text c.put_listing-length.ensures in
    let size : c.put_listing-length.result ≡ length listing = c.put_listing-length.ensures.counted ∙ zero-add (length listing) in
    let room : length listing ≤ length text = omega (arith, rw same at c.if-text-length.false, size) in
    rw (size, c.put_listing-2.ensures.stored, same, at_start text listing room) (sym (both_long _ _ _ _ _ c.if-frame-size.false room))
