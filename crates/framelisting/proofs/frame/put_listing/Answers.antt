-- `framelisting::frame::put_listing` meets its contract: four pieces one after the other.
use Rattle.std.proofs.Common.{rules}
use Rattle.framelisting.specs.Ascii.{ascii}
use Rattle.framelisting.specs.Text.{frame_text, listing_across}
use Rattle.framelisting.specs.Puts.{Puts}
use Rattle.framelisting.proofs.PutPieces.{as_put, joined}
use Rattle.framelisting.proofs.frame.put_listing.Goals as goal

pub returns : goal.returns
unfolding frame_text ascii
returns c =
    let whole : Puts _ (listing_across c.args.width c.args.number c.args.offset c.args.frame.now) c.put_bytes.new.self = joined c.put_refused.ensures (joined (joined c.put_header.ensures c.put_lines.ensures) c.put_bytes.ensures) in
    let put = as_put whole in
    let same = whole.same in
    search rules
